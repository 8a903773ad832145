use Rattle.std.proofs.Common.{◌≡◌, ◌<◌, ◌≤◌, get_or, length, arith, ap, sym, subst, ◌∙◌}
use Rattle.std.proofs.lemmas.List.{get_or_default}
use Rattle.std.proofs.lemmas.List.Elements.{All-get_or}
use Rattle.queue_core.specs.declared.tally.Count.{Count}
use Rattle.queue_core.proofs.TallyLemmas.{last_less}
use Rattle.queue_core.proofs.tally.lessen.Goals as goal

pub returns-then-index-le1-clause-counts : goal.returns-then-index-le1-clause-counts
returns-then-index-le1-clause-counts c = λ test.
    let items = c.args.counts.now.items in
    let gone = c.swap_remove.result in
    let within : c.in-Some.place < length items = subst (λ list. c.in-Some.place < length list) c.deref.ensures.value c.in-Some.ensures.there.0 in
    let its : (get_or items c.in-Some.place gone).holder ≡ c.args.holder = subst (λ list. (get_or list c.in-Some.place gone).holder ≡ c.args.holder) c.deref.ensures.value (c.in-Some.ensures.there.1 gone) in
    let some : 1 ≤ (get_or items c.in-Some.place gone).copies = All-get_or (λ (count : Count). 1 ≤ count.copies) items c.in-Some.place gone within c.requires.positive in
    let same : (get_or items c.in-Some.place gone).copies ≡ c.index.result.now.copies = ap (λ (count : Count). count.copies) (get_or_default items c.in-Some.place gone c.index.result.now within ∙ sym c.index.ensures) in
    let most = c.if-index-le1.true in
    rw c.swap_remove.ensures.items (last_less test items c.in-Some.place gone c.args.holder within its (omega (arith, some, same, most)))

use Rattle.std.proofs.Common.{◌≡◌, ◌<◌, ◌==◌, ◌∙◌, ℕ, List, [], Some, false, map, refl, sym, ap}
use Rattle.std.proofs.lemmas.Bool.{false≢true}
use Rattle.std.specs.Prelude.{◌↔◌}
use Rattle.std.specs.Ordering.{nat_cmp}
use Rattle.std.specs.BTreeMap.{get}
use Rattle.confirm_core.specs.Openings.{items_of, openings_of, released_among}
use Rattle.confirm_core.proofs.OpeningLemmas.{at-is, apart-flip}
use Rattle.confirm_core.proofs.LedgerLemmas.{kept-released, is_open-released, led-released, all_stored-released, all_stored-none, none-left}
use Rattle.confirm_core.proofs.ledger.Ledger.flushed.Goals as goal

pub loop-copy-preserved : goal.loop-copy-preserved
loop-copy-preserved c =
    let copy = c.in-Some.copy in
    let es = c.loop-copy.self-inside.openings in
    let old = c.loop-copy.invariant.0 in
    let index : ℕ → List ℕ = λ k. openings_of k c.loop-copy.self-inside.by_copy in
    let after : ℕ → List ℕ = λ k. openings_of k c.pop_first.new.self in
    let same : (k : ℕ) → (k == copy) ≡ false → after k ≡ index k = λ k apart. ap items_of (c.in-Some.ensures.updates.2 k (at-is copy k ∙ apart-flip k copy apart)) in
    let os_is : c.deref.result.now ≡ index copy = c.deref.ensures.value ∙ ap items_of (sym c.in-Some.ensures.value) in
    let is : c.release_all.new.openings ≡ map (released_among (index copy) copy) es = c.release_all.ensures ∙ ap (λ os. map (released_among os copy) es) os_is in
    rw is (
      (
        kept-released (λ opening number. opening < c.loop-copy.self-inside.next_opening) (index copy) copy es old.0,
        kept-released (λ opening number. (n : ℕ) → (get nat_cmp c.loop-copy.self-inside.by_number n ≡ Some opening) ↔ (n ≡ number)) (index copy) copy es old.1,
        λ n. old.2 n ∙ sym (is_open-released n (index copy) copy es),
        old.3,
        led-released index after copy es same old.4,
      ),
      all_stored-released (index copy) copy es ∙ c.loop-copy.invariant.1,
    )

pub returns : goal.returns
returns c =
    let es = c.loop-copy.self-inside.openings in
    let index : ℕ → List ℕ = λ k. openings_of k c.loop-copy.self-inside.by_copy in
    let none : (k : ℕ) → index k ≡ [] = (let empty = none-left c.loop-copy.self-inside.by_copy.entries (λ some. false≢true (c.in_default.ensures.variant.1 some)) in λ k. rw empty refl) in
    rw (← c.self.view_is) (all_stored-none index es none c.loop-copy.invariant.0.4 ∙ c.loop-copy.invariant.1)

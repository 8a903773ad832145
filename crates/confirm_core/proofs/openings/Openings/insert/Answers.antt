use Rattle.std.proofs.Common.{◌≡◌, ◌++◌, [], ◌∷◌, true, false, refl, sym, ◌∙◌, arith}
use Rattle.confirm_core.specs.Waits.{waits_for_nothing}
use Rattle.confirm_core.proofs.OpeningLemmas.{insert_entry-push, has-ready-push, count-push-le, count-push-ready, count-le}
use Rattle.confirm_core.proofs.openings.Openings.insert.Goals as goal

pub returns-then-is_ready-clause-ok : goal.returns-then-is_ready-clause-ok
returns-then-is_ready-clause-ok c =
    c.in_ok-insert.ensures.entries ∙ rw c.self.view_is (insert_entry-push c.args.opening c.args.publication c.args.self.now c.requires)

pub returns-else-is_ready-clause-ok : goal.returns-else-is_ready-clause-ok
returns-else-is_ready-clause-ok c =
    c.in_ok-insert.ensures.entries ∙ rw c.self.view_is (insert_entry-push c.args.opening c.args.publication c.args.self.now c.requires)

pub invariant_of-self-then-is_ready : goal.invariant_of-self-then-is_ready
invariant_of-self-then-is_ready c =
    let p = c.args.publication in
    let es = c.self.inside.publications.entries in
    let pushed : c.insert.new.self.entries ≡ es ++ (c.args.opening, p) ∷ [] = c.in_ok-insert.ensures.entries ∙ insert_entry-push c.args.opening p es (rw c.self.view_is c.requires) in
    let ready : waits_for_nothing p ≡ true = sym c.is_ready-is_ready.ensures ∙ c.if-is_ready.true in (
      c.in_ok-insert.ensures.ordered,
      c.add.ensures.rises,
      λ n. c.add.ensures.members n ∙ rw (pushed, has-ready-push n c.args.opening p es, ready, c.number-number.ensures, c.in_ok-reserve.ensures.items, c.self.invariant.2 n) refl,
      rw pushed (omega (arith, count-push-ready c.args.opening p es ready, count-le es, c.len.ensures.len, c.in_ok-reserve.ensures.ok, c.in_ok-reserve.ensures.len, c.add.ensures.len, c.add.ensures.capacity)),
    )

pub invariant_of-self-else-is_ready : goal.invariant_of-self-else-is_ready
invariant_of-self-else-is_ready c =
    let p = c.args.publication in
    let es = c.self.inside.publications.entries in
    let pushed : c.insert.new.self.entries ≡ es ++ (c.args.opening, p) ∷ [] = c.in_ok-insert.ensures.entries ∙ insert_entry-push c.args.opening p es (rw c.self.view_is c.requires) in
    let waiting : waits_for_nothing p ≡ false = sym c.is_ready-is_ready.ensures ∙ c.if-is_ready.false in (
      c.in_ok-insert.ensures.ordered,
      rw c.in_ok-reserve.ensures.items c.self.invariant.1,
      λ n. rw (pushed, has-ready-push n c.args.opening p es, waiting, c.in_ok-reserve.ensures.items, c.self.invariant.2 n) refl,
      rw pushed (omega (arith, count-push-le c.args.opening p es, count-le es, c.len.ensures.len, c.in_ok-reserve.ensures.ok, c.in_ok-reserve.ensures.len)),
    )

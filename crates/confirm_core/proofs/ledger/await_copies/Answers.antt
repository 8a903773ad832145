use Rattle.std.proofs.Common.{◌≡◌, ◌==◌, ◌∙◌, ℕ, true, inl, inr, sym, subst, get_or, take}
use Rattle.std.proofs.lemmas.List.Folds.{list_any_more}
use Rattle.confirm_core.specs.Openings.{has, openings_of}
use Rattle.confirm_core.proofs.LedgerLemmas.{or_split, equal}
use Rattle.confirm_core.proofs.ledger.await_copies.Goals as goal

pub loop-copy-preserved : goal.loop-copy-preserved
loop-copy-preserved c =
    let waits = c.args.waits.now in
    let i = c.loop-copy.copy-index in
    record {
      kept = λ copy other had. c.await_copy.ensures.kept copy other (c.loop-copy.invariant.kept copy other had);
      awaited = λ copy had.
          elim (or_split (has copy (take i waits)) (get_or waits i 0 == copy) (sym (list_any_more (λ other. other == copy) waits i 0 c.loop-copy-test.true) ∙ had)) [
            | inl before ↦ c.await_copy.ensures.kept copy c.args.opening (c.loop-copy.invariant.awaited copy before)
            | inr now ↦ subst (λ (k : ℕ). has c.args.opening (openings_of k c.await_copy.new.by_copy) ≡ true) (equal (get_or waits i 0) copy now) c.in_ok-await_copy.ensures.ok
          ];
    }

use Rattle.std.proofs.Common.{◌≡◌, ◌<◌, ◌==◌, ◌∙◌, ◌&&◌, not, ℕ, Option, None, false, cond, sym, ap}
use Rattle.std.specs.Prelude.{is_some}
use Rattle.std.specs.Ordering.{nat_cmp}
use Rattle.std.specs.BTreeMap.{get}
use Rattle.std.proofs.lemmas.List.Elements.{All-filter}
use Rattle.confirm_core.specs.Waits.{Unconfirmed, is_open}
use Rattle.confirm_core.specs.Openings.{unconfirmed, openings_of}
use Rattle.confirm_core.proofs.OpeningLemmas.{at-is}
use Rattle.confirm_core.proofs.LedgerLemmas.{IsLedTo, unconfirmed-without, without-not_open, is_open-without, found-without, is_some-after, below-after}
use Rattle.confirm_core.proofs.ledger.Ledger.answered.Goals as goal

pub returns-in_default-clause-closed : goal.returns-in_default-clause-closed
returns-in_default-clause-closed c =
    let none : is_open c.args.number (unconfirmed c.self.inside.openings) ≡ false = sym (c.self.invariant.2 c.args.number) ∙ ap is_some (sym c.in_default.ensures.value) in
    rw (← c.self.view_is) (sym (without-not_open c.args.number (unconfirmed c.self.inside.openings) none))

pub returns-clause-closed : goal.returns-clause-closed
returns-clause-closed c = rw (← c.self.view_is, c.remove-2.ensures) (unconfirmed-without c.args.number c.self.inside.openings)

pub invariant_of-self-2 : goal.invariant_of-self-2
invariant_of-self-2 c =
    let number = c.args.number in
    let es = c.self.inside.openings in
    let find : ℕ → Option ℕ = get nat_cmp c.self.inside.by_number in
    let after : ℕ → Option ℕ = get nat_cmp c.remove.new.self in
    let is : (n : ℕ) → after n ≡ cond (number == n) None (find n) = λ n. c.remove.ensures.updates.0 n ∙ ap (λ b. cond b None (find n)) (at-is number n) in
    rw c.remove-2.ensures (
      All-filter _ (λ (e : ℕ × Unconfirmed). e.0 < c.self.inside.next_opening) es c.self.invariant.0,
      found-without find after number es is c.self.invariant.1,
      λ n. is_some-after (find n) (after n) number n (is n) ∙ ap (λ b. not (number == n) && b) (c.self.invariant.2 n) ∙ sym (is_open-without n number (unconfirmed es)) ∙ ap (is_open n) (sym (unconfirmed-without number es)),
      λ n. below-after (λ opening. opening < c.self.inside.next_opening) (find n) (after n) (number == n) (is n) (c.self.invariant.3 n),
      All-filter _ (IsLedTo (λ copy. openings_of copy c.self.inside.by_copy)) es c.self.invariant.4,
    )

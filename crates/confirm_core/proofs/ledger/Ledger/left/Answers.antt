use Rattle.std.proofs.Common.{◌≡◌, ◌<◌, ◌==◌, ◌∙◌, ℕ, List, [], Some, false, map, sym, ap}
use Rattle.std.specs.Prelude.{◌↔◌}
use Rattle.std.specs.Ordering.{nat_cmp}
use Rattle.std.specs.BTreeMap.{get}
use Rattle.confirm_core.specs.Openings.{unconfirmed, items_of, openings_of, released_among}
use Rattle.confirm_core.proofs.OpeningLemmas.{at-is, apart-flip}
use Rattle.confirm_core.proofs.LedgerLemmas.{kept-released, is_open-released, led-released, unconfirmed-released, released-none-yet}
use Rattle.confirm_core.proofs.ledger.Ledger.left.Goals as goal

pub invariant_of-self : goal.invariant_of-self
invariant_of-self c =
    let copy = c.args.copy in
    let es = c.self.inside.openings in
    let index : ℕ → List ℕ = λ k. openings_of k c.self.inside.by_copy in
    let after : ℕ → List ℕ = λ k. openings_of k c.remove.new.self in
    let same : (k : ℕ) → (k == copy) ≡ false → after k ≡ index k = λ k apart. ap items_of (c.remove.ensures.updates.2 k (at-is copy k ∙ apart-flip k copy apart)) in
    let os_is : c.deref.result.now ≡ index copy = c.deref.ensures.value ∙ ap items_of c.in-Some.ensures.value in
    let is : c.release_all.new.openings ≡ map (released_among (index copy) copy) es = c.release_all.ensures ∙ ap (λ os. map (released_among os copy) es) os_is in
    rw is (
      kept-released (λ opening number. opening < c.self.inside.next_opening) (index copy) copy es c.self.invariant.0,
      kept-released (λ opening number. (n : ℕ) → (get nat_cmp c.self.inside.by_number n ≡ Some opening) ↔ (n ≡ number)) (index copy) copy es c.self.invariant.1,
      λ n. c.self.invariant.2 n ∙ sym (is_open-released n (index copy) copy es),
      c.self.invariant.3,
      led-released index after copy es same c.self.invariant.4,
    )

pub returns-in-Some : goal.returns-in-Some
returns-in-Some c =
    let copy = c.args.copy in
    let es = c.self.inside.openings in
    let index : ℕ → List ℕ = λ k. openings_of k c.self.inside.by_copy in
    let os_is : c.deref.result.now ≡ index copy = c.deref.ensures.value ∙ ap items_of c.in-Some.ensures.value in
    let is : c.release_all.new.openings ≡ map (released_among (index copy) copy) es = c.release_all.ensures ∙ ap (λ os. map (released_among os copy) es) os_is in
    rw (← c.self.view_is, is) (unconfirmed-released index copy es c.self.invariant.4)

pub returns-in_default : goal.returns-in_default
returns-in_default c =
    let copy = c.args.copy in
    let es = c.self.inside.openings in
    let index : ℕ → List ℕ = λ k. openings_of k c.self.inside.by_copy in
    let none : [] ≡ index copy = ap items_of c.in_default.ensures.value in
    let is : es ≡ map (released_among (index copy) copy) es = released-none-yet copy es ∙ ap (λ os. map (released_among os copy) es) none in
    rw (← c.self.view_is) (ap unconfirmed is ∙ unconfirmed-released index copy es c.self.invariant.4)

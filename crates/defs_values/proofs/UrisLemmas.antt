-- A list that isn't empty is refused as its items are.
use Rattle.std.proofs.Common.{◌≡◌, List, [], ◌∷◌, length, true, false, ◌==◌, Some, refl, true≢false, arith, eqb-true}
use Rattle.serde_json.specs.View.{items_view}
use Rattle.serde_json.specs.declared.value.Value.{Value}
use Rattle.defs_values.specs.declared.fault.KeyFault.TheVariants as key
use Rattle.defs_values.specs.declared.fault.Refusal.TheVariants.{Shape}
use Rattle.defs_values.specs.Uris.{list_fault, items_fault}

pub filled_list : (vs : List Value) → (length vs == 0) ≡ false → list_fault (items_view vs) ≡ items_fault 0 (items_view vs)
unfolding list_fault
filled_list [] h = absurd (true≢false h)
filled_list (v ∷ vs) h = refl

pub empty_list : (vs : List Value) → (length vs == 0) ≡ true → list_fault (items_view vs) ≡ Some (key.Refused [] Shape)
unfolding list_fault
empty_list [] h = refl
empty_list (v ∷ vs) h = absurd (omega (arith, eqb-true _ _ h))

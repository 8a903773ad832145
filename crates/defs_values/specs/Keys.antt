-- The values of an object's keys: a fault is that of the first key, by its octets, whose value is refused.
use Rattle.std.specs.Prelude.{ℕ, ◌==◌, List, [], ◌∷◌, Option, Some, None, option_map, option_and_then}
use Rattle.std.specs.List.{before_first}
use Rattle.serde_json.specs.Data.{Data}
use Rattle.serde_json.specs.Find.{get}
use Rattle.defs_values.specs.declared.fault.Refusal.{Refusal}
use Rattle.defs_values.specs.declared.fault.Refusal.TheVariants.{Shape}
use Rattle.defs_values.specs.declared.fault.KeyFault.{KeyFault}
use Rattle.defs_values.specs.declared.fault.KeyFault.TheVariants as key
use Rattle.defs_values.specs.Paths.{within}
use Rattle.defs_values.specs.declared.fault.ValueFault.{ValueFault}
use Rattle.defs_values.specs.declared.fault.ValueFault.TheVariants as value

-- what the value at the key means; none where the key is missing or its value has no meaning
abbrev pub value_at : {A : Type 0} → (Data → Option A) → List ℕ → Data → Option A
value_at meaning k d = option_and_then meaning (get k d)

-- the fault of a key that may be missing
unfoldable pub optional_fault : (Data → Option Refusal) → List ℕ → Data → Option KeyFault
optional_fault refusal k d = option_map (key.Refused k) (option_and_then refusal (get k d))

-- a key that has to be there is refused where it is missing
abbrev pub required : (Data → Option Refusal) → Option Data → Option Refusal
required refusal None = Some Shape
required refusal (Some d) = refusal d

unfoldable pub required_fault : (Data → Option Refusal) → List ℕ → Data → Option KeyFault
required_fault refusal k d = option_map (key.Refused k) (required refusal (get k d))

-- the fault of a key whose value is refused at a place within it
unfoldable pub optional_within : (Data → Option KeyFault) → List ℕ → Data → Option KeyFault
optional_within fault k d = option_map (within k) (option_and_then fault (get k d))

abbrev pub inner_fault : (Data → Option KeyFault) → Option Data → Option KeyFault
inner_fault fault None = Some (key.Refused [] Shape)
inner_fault fault (Some d) = fault d

unfoldable pub required_within : (Data → Option KeyFault) → List ℕ → Data → Option KeyFault
required_within fault k d = option_map (within k) (inner_fault fault (get k d))

-- the first of several faults
abbrev pub first_fault : List (Option KeyFault) → Option KeyFault
first_fault [] = None
first_fault (None ∷ faults) = first_fault faults
first_fault (Some fault ∷ faults) = Some fault

-- the key that a path begins with, which has neither `.` nor `[`
unfoldable pub first_key : List ℕ → List ℕ
first_key path = before_first (λ b. b == 46) (before_first (λ b. b == 91) path)

-- a refused key alone
abbrev pub named : KeyFault → ValueFault
named (key.Refused path why) = value.Key (first_key path)
named key.Memory = value.Memory

-- How a ledger keeps its publications: each under the number of its opening, with an index by copy and the ready numbers apart.
use Rattle.std.specs.Prelude.{◌==◌, ℕ, ◌<◌, Bool, not, List, [], ◌∷◌, All, filter, if◌then◌else◌, Option, Some, None}
use Rattle.std.specs.List.{list_any}
use Rattle.std.specs.Map.{values_of}
use Rattle.std.specs.declared.vec.Vec.{Vec}
use Rattle.std.specs.BTreeMap.{BTreeMap, get}
use Rattle.std.specs.Ordering.{nat_cmp}
use Rattle.confirm_core.specs.Waits.{Unconfirmed, waits_for_nothing, without_wait}

-- The number is one of the numbers.
abbrev pub has : ℕ → List ℕ → Bool
has number numbers = list_any (λ other. other == number) numbers

-- The numbers rise.
abbrev pub Ascends : List ℕ → Type 0
Ascends [] = Unit {0}
Ascends (number ∷ numbers) = All (λ later. number < later) numbers × Ascends numbers

-- The publications in the order in which they were opened (RabbitMQ, Confirms: Publisher Confirms).
abbrev pub unconfirmed : List (ℕ × Unconfirmed) → List Unconfirmed
unconfirmed openings = values_of openings

-- The publication waits for some copy (RabbitMQ, Confirms: When Will Published Messages Be Confirmed by the Broker?).
abbrev pub is_waiting : Unconfirmed → Bool
is_waiting publication = not (waits_for_nothing publication)

-- One opening no longer waits for the copy (RabbitMQ, Confirms: When Will Published Messages Be Confirmed by the Broker?).
abbrev pub released_at : ℕ → ℕ → ℕ × Unconfirmed → ℕ × Unconfirmed
released_at opening copy entry = if opening == entry.0 then (entry.0, without_wait copy entry.1) else entry

-- None of these openings waits for the copy any more (RabbitMQ, Confirms: When Will Published Messages Be Confirmed by the Broker?).
abbrev pub released_among : List ℕ → ℕ → ℕ × Unconfirmed → ℕ × Unconfirmed
released_among openings copy entry = if has entry.0 openings then (entry.0, without_wait copy entry.1) else entry

-- The openings without the publication that was answered (RabbitMQ, Confirms: Publisher Confirms).
abbrev pub without_number : ℕ → List (ℕ × Unconfirmed) → List (ℕ × Unconfirmed)
without_number number openings = filter (λ entry. not (entry.1.number == number)) openings

-- The openings that the index has under a copy.
module _ {Z : Type 0} where
  abbrev pub items_of : Option (Vec ℕ Z) → List ℕ
  items_of None = []
  items_of (Some openings) = openings.items

  abbrev pub openings_of : ℕ → BTreeMap ℕ (Vec ℕ Z) → List ℕ
  openings_of copy index = items_of (get nat_cmp index copy)

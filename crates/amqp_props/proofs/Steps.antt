-- Where reading stops: a fault of one property is the fault of all.
use Rattle.std.proofs.Common.{◌≡◌, ℕ, suc, List, ◌∷◌, Result, Ok, Err, Option}
use Rattle.amqp_props.specs.declared.row.PropertyKind.{PropertyKind}
use Rattle.amqp_props.specs.declared.fault.PropsFault.{PropsFault}
use Rattle.amqp_props.specs.declared.fault.PropsFault.TheVariants.{Short, Class, Weight, Flags, Field, Trailing, Memory}
use Rattle.amqp_props.specs.ContentHeader.{Value, property_rows}
use Rattle.amqp_props.specs.HeaderReading.{◌>>=◌, Fails, property_at, properties_at, fixed_at, ended_at, header_at}

-- where a step fails, all fails the same way
pub fails_on : {A B : Type 0} (e : PropsFault) (r : Result A PropsFault) (f : A → Result B PropsFault) → Fails e r → Fails e (r >>= f)
fails_on Memory r f h = tt
fails_on Short (Ok x) f h = absurd cc
fails_on Short (Err d) f h = cc
fails_on (Class n) (Ok x) f h = absurd cc
fails_on (Class n) (Err d) f h = cc
fails_on (Weight n) (Ok x) f h = absurd cc
fails_on (Weight n) (Err d) f h = cc
fails_on (Flags n) (Ok x) f h = absurd cc
fails_on (Flags n) (Err d) f h = cc
fails_on (Field n) (Ok x) f h = absurd cc
fails_on (Field n) (Err d) f h = cc
fails_on (Trailing n) (Ok x) f h = absurd cc
fails_on (Trailing n) (Err d) f h = cc

-- the first of the properties fails
pub first_fails : (e : PropsFault) (flags place : ℕ) (row : ℕ × PropertyKind × List ℕ) (rows : List (ℕ × PropertyKind × List ℕ)) (octets : List ℕ)
    → Fails e (property_at flags place row.0 row.1 octets) → Fails e (properties_at flags place (row ∷ rows) octets)
unfolding properties_at
first_fails e flags place row rows octets h = fails_on e (property_at flags place row.0 row.1 octets) _ h

-- one behind the first fails
pub later_fails : (e : PropsFault) (flags place : ℕ) (row : ℕ × PropertyKind × List ℕ) (rows : List (ℕ × PropertyKind × List ℕ)) (octets rest : List ℕ) (value : Option Value)
    → property_at flags place row.0 row.1 octets ≡ Ok (value, rest) → Fails e (properties_at flags (suc place) rows rest) → Fails e (properties_at flags place (row ∷ rows) octets)
unfolding properties_at
later_fails e flags place row rows octets rest value first h = rw first (fails_on e (properties_at flags (suc place) rows rest) _ h)

-- octets are left over
pub end_fails : (e : PropsFault) (octets : List ℕ) (size flags : ℕ) (rest : List ℕ) (values : List (Option Value)) (after : List ℕ)
    → fixed_at octets ≡ Ok (size, flags, rest) → properties_at flags 0 property_rows rest ≡ Ok (values, after) → Fails e (ended_at after) → Fails e (header_at octets)
unfolding header_at
end_fails e octets size flags rest values after fixed read h = rw (fixed, read) (fails_on e (ended_at after) _ h)

-- How a binding of the downstream exchange becomes one of the upstream exchange (RabbitMQ's "Federated Exchanges": bindings
-- are replicated to the upstream, and go no further than max-hops; `x-bound-from` and its fields are this project's own).
use Rattle.std.specs.Prelude.{ℕ, ℤ, pos, negsuc, ◌-◌, min, nat_le, Bool, false, not, List, [], ◌∷◌, ◌++◌, filter, Option, Some, None, option_map, option_and_then, is_some, unwrap_or, if◌then◌else◌}
use Rattle.std.specs.List.{list_any, list_all, filter_map}
use Rattle.std.specs.Str.{bytes_eq}
use Rattle.field_tables.specs.Fields.{Field, signed_long, array, table, Pairs, first_of}
use Rattle.field_tables.specs.View.{fields_of, pairs_of}
use Rattle.field_tables.specs.Lengths.{is_within}
use Rattle.hop_headers.specs.declared.entry.PlaceName.{PlaceName}
use Rattle.hop_headers.specs.Names.{bound_from_name, exchange_name, hops_name}
use Rattle.hop_headers.specs.Hops.{named_values, text_at, array_at, table_of, place_at, same_place}
use Rattle.hop_headers.specs.Stamps.{named_object}

-- One entry of an `x-bound-from`: a downstream place and exchange, and the hops that are left.
pub record BoundEntry : Type 0 where
  pub place : PlaceName
  pub exchange : List ℕ
  pub hops : ℤ

-- a number of kind I
abbrev pub long_of : Field → Option ℤ
long_of (signed_long n) = Some n
long_of _ = None

abbrev pub hops_at : Pairs → Option ℤ
hops_at ps = option_and_then long_of (first_of hops_name ps)

abbrev pub bound_with : Option PlaceName → Option (List ℕ) → Option ℤ → Option BoundEntry
bound_with (Some place) (Some exchange) (Some hops) = Some record { place = place; exchange = exchange; hops = hops }
bound_with _ _ _ = None

-- The entry that a table is, if it has texts `cluster-name`, `vhost` and `exchange`, and `hops` of kind I.
unfoldable pub bound_at : Pairs → Option BoundEntry
bound_at ps = bound_with (place_at ps) (text_at exchange_name ps) (hops_at ps)

abbrev pub bound_of : Field → Option BoundEntry
bound_of v = option_and_then bound_at (table_of v)

unfoldable pub is_bound : Field → Bool
is_bound v = is_some (bound_of v)

-- An argument is well-formed if it is an array that has an entry, and all its values are entries.
abbrev pub is_chain : List Field → Bool
is_chain [] = false
is_chain vs = list_all is_bound vs

abbrev pub if_chain : List Field → Option (List Field)
if_chain vs = if is_chain vs then Some vs else None

-- The values of the `x-bound-from` among the arguments, the first counting; None where there is none or a malformed one.
unfoldable pub chain : Pairs → Option (List Field)
chain args = option_and_then if_chain (array_at bound_from_name args)

-- Its entries, the last downstream place first; None where it counts as none.
abbrev pub bound_from : Pairs → Option (List BoundEntry)
bound_from args = option_map (filter_map bound_of) (chain args)

-- The values and the entries that the arguments bring; a malformed argument brings none.
abbrev pub kept_chain : Pairs → List Field
kept_chain args = unwrap_or (chain args) []

abbrev pub bound_entries : Pairs → List BoundEntry
bound_entries args = filter_map bound_of (kept_chain args)

-- One hop less; a negative number leaves none.
abbrev pub one_less : ℤ → ℕ
one_less (pos n) = n - 1
one_less (negsuc n) = 0

-- The hops of the new entry: one less than the first entry has, and no more than the link allows.
abbrev pub first_hops : List BoundEntry → Option ℤ
first_hops [] = None
first_hops (e ∷ es) = Some e.hops

abbrev pub hops_left : Option ℤ → ℕ → ℕ
hops_left None most = most
hops_left (Some hops) most = min (one_less hops) most

-- There are none where fewer than 1 is left.
abbrev pub if_left : ℕ → Option ℕ
if_left n = if nat_le 1 n then Some n else None

unfoldable pub new_hops : List BoundEntry → ℕ → Option ℕ
new_hops es most = if_left (hops_left (first_hops es) most)

-- The key came through the place already; a malformed argument names no place.
unfoldable pub has_passed : PlaceName → List BoundEntry → Bool
has_passed upstream es = list_any (λ e. same_place upstream e.place) es

-- The new entry: the downstream place and exchange, and the hops.
unfoldable pub bound_entry : PlaceName → List ℕ → ℕ → Pairs
bound_entry downstream exchange hops = pairs_of (named_object downstream exchange_name exchange ++ (hops_name, signed_long (pos hops)) ∷ [])

abbrev pub is_other : List ℕ → (List ℕ × Field) → Bool
is_other name p = not (bytes_eq p.0 name)

-- The arguments without any `x-bound-from`, and a new one last: the new entry, and behind it the entries that it had.
unfoldable pub bound_on : Pairs → PlaceName → List ℕ → ℕ → Pairs
bound_on args downstream exchange hops = pairs_of (filter (is_other bound_from_name) (named_values args)
    ++ (bound_from_name, array (fields_of (table (bound_entry downstream exchange hops) ∷ kept_chain args))) ∷ [])

-- The octets that an argument table may have, so that each binding command fits one frame.
abbrev pub max_arguments : ℕ
max_arguments = 98304

unfoldable pub is_short : Pairs → Bool
is_short args = is_within args max_arguments

abbrev pub if_short : Pairs → Option Pairs
if_short args = if is_short args then Some args else None

-- The arguments of the upstream binding, or None where the binding goes no further.
unfoldable pub propagated : Pairs → PlaceName → PlaceName → List ℕ → ℕ → Option Pairs
propagated args upstream downstream exchange most = if has_passed upstream (bound_entries args) then None else
    option_and_then (λ hops. if_short (bound_on args downstream exchange hops)) (new_hops (bound_entries args) most)

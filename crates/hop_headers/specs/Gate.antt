-- Which messages a gate passes (RabbitMQ's "Federated Exchanges": a message is forwarded at most max-hops times, and not
-- to where it has already been).
use Rattle.std.specs.Prelude.{◌≢◌, ℕ, ◌<◌, nat_lt, Bool, false, not, ◌&&◌, List, length, All}
use Rattle.std.specs.List.{list_any}
use Rattle.std.specs.Option.{option_map_or}
use Rattle.field_tables.specs.Fields.{Field, Pairs}
use Rattle.hop_headers.specs.declared.entry.PlaceName.{PlaceName}
use Rattle.hop_headers.specs.declared.entry.HopEntry.{HopEntry}
use Rattle.hop_headers.specs.Hops.{same_place, place_of, hop_entries}

-- a place by its cluster name and virtual host
abbrev pub place : List ℕ → List ℕ → PlaceName
place cluster vhost = record { cluster = cluster; vhost = vhost }

abbrev pub is_from : PlaceName → HopEntry → Bool
is_from p e = same_place p e.place

-- the same of a value of the header
unfoldable pub is_at : PlaceName → Field → Bool
is_at p v = option_map_or (same_place p) (place_of v) false

-- Fewer entries than the limit, and none of the place: the gate passes a message with these headers.
pub record GatePasses (limit : ℕ) (cluster vhost : List ℕ) (headers : Pairs) : Type 0 where
  pub fewer : length (hop_entries headers) < limit
  pub elsewhere : All (λ e. e.place ≢ place cluster vhost) (hop_entries headers)

-- The same as a test.
unfoldable pub gate_passes : ℕ → List ℕ → List ℕ → Pairs → Bool
gate_passes limit cluster vhost headers =
    nat_lt (length (hop_entries headers)) limit && not (list_any (is_from (place cluster vhost)) (hop_entries headers))

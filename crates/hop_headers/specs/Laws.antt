-- What follows from the definitions of hops, gates, stamps and propagation.
use Rattle.std.specs.Prelude.{◌≡◌, ◌≢◌, ◌↔◌, ℕ, pos, ◌<ℤ◌, ◌<◌, ◌≤◌, ◌^◌, Bool, true, not, List, [], ◌∷◌, filter, Some, None, IsUtf8, All, length}
use Rattle.field_tables.specs.Fields.{Pairs, first_of}
use Rattle.field_tables.specs.Tables.{IsTable, table_spelling}
use Rattle.hop_headers.specs.declared.entry.PlaceName.{PlaceName}
use Rattle.hop_headers.specs.declared.entry.HopEntry.{HopEntry}
use Rattle.hop_headers.specs.declared.entry.HopObject.TheVariants.{Exchange, Queue}
use Rattle.hop_headers.specs.Names.{received_from_name, bound_from_name}
use Rattle.hop_headers.specs.Hops.{named_values, received_from, hop_entries}
use Rattle.hop_headers.specs.Gate.{GatePasses, gate_passes}
use Rattle.hop_headers.specs.Stamps.{stamped_exchange, stamped_queue, is_own, visits_before, next_visits}
use Rattle.hop_headers.specs.Propagation.{BoundEntry, bound_from, is_other, propagated, max_arguments}

-- The texts by which an entry names a place and an exchange or queue: UTF-8, as the names of the program are.
pub record AreNames (place : PlaceName) (name : List ℕ) : Type 0 where
  pub cluster : IsUtf8 place.cluster
  pub vhost : IsUtf8 place.vhost
  pub object : IsUtf8 name

-- What an exchange link's entry says: its upstream place and exchange, no queue, no visits.
abbrev pub exchange_entry : PlaceName → List ℕ → Bool → HopEntry
exchange_entry place exchange redelivered = record { place = place; object = Exchange exchange; redelivered = redelivered; visits = 0 }

abbrev pub queue_entry : PlaceName → List ℕ → Bool → ℕ → HopEntry
queue_entry place queue redelivered visits = record { place = place; object = Queue queue; redelivered = redelivered; visits = visits }

-- The gate's test is true exactly where there are fewer entries than the limit, and none of the place.
abbrev pub GateDecides : Type 0
GateDecides = (limit : ℕ) (cluster vhost : List ℕ) (headers : Pairs)
    → (gate_passes limit cluster vhost headers ≡ true) ↔ GatePasses limit cluster vhost headers

-- An exchange link puts exactly one entry in front, which names no queue, and keeps the entries that were read.
abbrev pub StampsExchange : Type 0
StampsExchange = (headers : Pairs) (place : PlaceName) (exchange : List ℕ) (redelivered : Bool) → AreNames place exchange
    → received_from (stamped_exchange headers place exchange redelivered) ≡ Some (exchange_entry place exchange redelivered ∷ hop_entries headers)

-- An entry is a queue link's own exactly where it names that place and that queue.
abbrev pub OwnDecides : Type 0
OwnDecides = (place : PlaceName) (queue : List ℕ) (e : HopEntry) → (is_own place queue e ≡ true) ↔ ((e.place ≡ place) × (e.object ≡ Queue queue))

-- A queue link puts its entry in front, and of the entries that were read just those of its own place and queue go.
abbrev pub StampsQueue : Type 0
StampsQueue = (headers : Pairs) (place : PlaceName) (queue : List ℕ) (redelivered : Bool) → AreNames place queue
    → received_from (stamped_queue headers place queue redelivered)
    ≡ Some (queue_entry place queue redelivered (next_visits (visits_before place queue (hop_entries headers)))
    ∷ filter (λ e. not (is_own place queue e)) (hop_entries headers))

-- A stamp leaves the other headers: each name has the value that it had, and all of them stand as before, in their order.
pub record KeepsHeaders (headers stamped : Pairs) : Type 0 where
  pub others : (name : List ℕ) → name ≢ received_from_name → first_of name stamped ≡ first_of name headers
  pub order : filter (is_other received_from_name) (named_values stamped) ≡ filter (is_other received_from_name) (named_values headers)

abbrev pub StampsKeepHeaders : Type 0
StampsKeepHeaders = (headers : Pairs) (place : PlaceName) (name : List ℕ) (redelivered : Bool)
    → KeepsHeaders headers (stamped_exchange headers place name redelivered) × KeepsHeaders headers (stamped_queue headers place name redelivered)

-- What comes of headers that have a spelling has a spelling, as long as a long can count its octets.
abbrev pub StampsSpell : Type 0
StampsSpell = (headers : Pairs) (place : PlaceName) (name : List ℕ) (redelivered : Bool) → IsTable headers
    → (length (table_spelling (stamped_exchange headers place name redelivered)) < 2 ^ 32 → IsTable (stamped_exchange headers place name redelivered))
    × (length (table_spelling (stamped_queue headers place name redelivered)) < 2 ^ 32 → IsTable (stamped_queue headers place name redelivered))

-- The new entry of a propagated binding, with these hops.
abbrev pub downstream_entry : PlaceName → List ℕ → ℕ → BoundEntry
downstream_entry downstream exchange hops = record { place = downstream; exchange = exchange; hops = pos hops }

-- A binding goes on: it has one entry more, which has fewer hops than the first had, and didn't come through the place.
pub record GoesOn (upstream downstream : PlaceName) (exchange : List ℕ) (most : ℕ) (first : BoundEntry) (rest : List BoundEntry) (new : Pairs) : Type 0 where
  pub hops : ℕ
  pub entries : bound_from new ≡ Some (downstream_entry downstream exchange hops ∷ first ∷ rest)
  pub some_left : 1 ≤ hops
  pub within : hops ≤ most
  pub fewer : pos hops <ℤ first.hops
  pub elsewhere : All (λ e. e.place ≢ upstream) (first ∷ rest)

abbrev pub PropagatesOn : Type 0
PropagatesOn = (args new : Pairs) (upstream downstream : PlaceName) (exchange : List ℕ) (most : ℕ) (first : BoundEntry) (rest : List BoundEntry) → AreNames downstream exchange
    → bound_from args ≡ Some (first ∷ rest) → propagated args upstream downstream exchange most ≡ Some new → GoesOn upstream downstream exchange most first rest new

-- A binding that has no such argument, or a malformed one, begins a chain with all the hops of the link.
abbrev pub PropagatesFirst : Type 0
PropagatesFirst = (args new : Pairs) (upstream downstream : PlaceName) (exchange : List ℕ) (most : ℕ) → AreNames downstream exchange
    → bound_from args ≡ None → propagated args upstream downstream exchange most ≡ Some new → bound_from new ≡ Some (downstream_entry downstream exchange most ∷ [])

-- The other arguments stay, and the table is short enough.
pub record KeepsArguments (args new : Pairs) : Type 0 where
  pub others : (name : List ℕ) → name ≢ bound_from_name → first_of name new ≡ first_of name args
  pub short : length (table_spelling new) ≤ max_arguments

abbrev pub PropagationKeepsArguments : Type 0
PropagationKeepsArguments = (args new : Pairs) (upstream downstream : PlaceName) (exchange : List ℕ) (most : ℕ)
    → propagated args upstream downstream exchange most ≡ Some new → KeepsArguments args new

-- What comes of arguments that have a spelling has a spelling.
abbrev pub PropagationSpells : Type 0
PropagationSpells = (args new : Pairs) (upstream downstream : PlaceName) (exchange : List ℕ) (most : ℕ) → most < 2 ^ 31
    → IsTable args → propagated args upstream downstream exchange most ≡ Some new → IsTable new

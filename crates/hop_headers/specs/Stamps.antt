-- What a link writes into `x-received-from` when it sends a message on (RabbitMQ's "Federated Exchanges" and "Federated
-- Queues"; the fields are this project's own).
use Rattle.std.specs.Prelude.{ℕ, pos, ◌+◌, min, Bool, false, not, ◌&&◌, List, [], ◌∷◌, ◌++◌, filter, Option, Some, None, if◌then◌else◌}
use Rattle.std.specs.Option.{option_map_or}
use Rattle.std.specs.Str.{bytes_eq}
use Rattle.field_tables.specs.Fields.{Field, boolean, signed_long, long_string, array, table, Pairs}
use Rattle.field_tables.specs.View.{fields_of, pairs_of}
use Rattle.hop_headers.specs.declared.entry.PlaceName.{PlaceName}
use Rattle.hop_headers.specs.declared.entry.HopEntry.{HopEntry}
use Rattle.hop_headers.specs.declared.entry.HopObject.{HopObject}
use Rattle.hop_headers.specs.declared.entry.HopObject.TheVariants.{Exchange, Queue, Neither}
use Rattle.hop_headers.specs.Names.{received_from_name, cluster_name, vhost_name, exchange_name, queue_name, redelivered_name, visit_count_name}
use Rattle.hop_headers.specs.Hops.{named_values, same_place, entry_of, kept_hops, hop_entries}

-- The name of the exchange or queue that an entry names.
abbrev pub object_name : HopObject → List ℕ
object_name (Exchange exchange) = exchange
object_name (Queue queue) = queue
object_name Neither = []

-- Which objects they name.
abbrev pub IsExchange : HopObject → Type 0
IsExchange (Exchange exchange) = Unit {0}
IsExchange _ = ⊥

abbrev pub IsQueue : HopObject → Type 0
IsQueue (Queue queue) = Unit {0}
IsQueue _ = ⊥

-- The headers with a value under a name: the first of that name takes it where it stands, else it comes last.
abbrev pub set_first : List ℕ → Field → List (List ℕ × Field) → List (List ℕ × Field)
set_first name v [] = (name, v) ∷ []
set_first name v (p ∷ ps) = if bytes_eq p.0 name then (name, v) ∷ ps else p ∷ set_first name v ps

unfoldable pub with_header : List ℕ → Field → Pairs → Pairs
with_header name v headers = pairs_of (set_first name v (named_values headers))

-- the headers with these hops
abbrev pub with_hops : List Field → Pairs → Pairs
with_hops hops headers = with_header received_from_name (array (fields_of hops)) headers

-- The values by which an entry names its place, and its exchange or queue under that key.
abbrev pub named_object : PlaceName → List ℕ → List ℕ → List (List ℕ × Field)
named_object place key name = (cluster_name, long_string place.cluster) ∷ (vhost_name, long_string place.vhost) ∷ (key, long_string name) ∷ []

-- The entry of an exchange link: its upstream place and exchange.
unfoldable pub exchange_hop : PlaceName → List ℕ → Bool → Pairs
exchange_hop place exchange redelivered = pairs_of (named_object place exchange_name exchange ++ (redelivered_name, boolean redelivered) ∷ [])

-- An exchange link puts its entry in front; a header that counts as none is replaced.
unfoldable pub stamped_exchange : Pairs → PlaceName → List ℕ → Bool → Pairs
stamped_exchange headers place exchange redelivered = with_hops (table (exchange_hop place exchange redelivered) ∷ kept_hops headers) headers

-- The entry of a queue link: its upstream place and queue, and how often the message came by it.
unfoldable pub queue_hop : PlaceName → List ℕ → Bool → ℕ → Pairs
queue_hop place queue redelivered visits = pairs_of (named_object place queue_name queue
    ++ (redelivered_name, boolean redelivered) ∷ (visit_count_name, signed_long (pos visits)) ∷ [])

-- An entry of a queue link's own: of its place and its queue.
abbrev pub is_queue : List ℕ → HopObject → Bool
is_queue queue (Queue name) = bytes_eq queue name
is_queue queue _ = false

abbrev pub is_own : PlaceName → List ℕ → HopEntry → Bool
is_own place queue e = same_place place e.place && is_queue queue e.object

unfoldable pub is_own_hop : PlaceName → List ℕ → Field → Bool
is_own_hop place queue v = option_map_or (is_own place queue) (entry_of v) false

-- How often the message came by, where the entry is one of its own.
abbrev pub visits_if_own : PlaceName → List ℕ → HopEntry → Option ℕ
visits_if_own place queue e = if is_own place queue e then Some e.visits else None

-- How often, as the first of its own entries has it; 0 where there is none.
abbrev pub visits_before : PlaceName → List ℕ → List HopEntry → ℕ
visits_before place queue [] = 0
visits_before place queue (e ∷ es) = if is_own place queue e then e.visits else visits_before place queue es

-- one more, as far as kind I has it
abbrev pub next_visits : ℕ → ℕ
next_visits n = min (n + 1) 2147483647

-- A queue link takes its own entries out and puts a new one in front; a header that counts as none is replaced.
unfoldable pub stamped_queue : Pairs → PlaceName → List ℕ → Bool → Pairs
stamped_queue headers place queue redelivered = with_hops
    (table (queue_hop place queue redelivered (next_visits (visits_before place queue (hop_entries headers))))
    ∷ filter (λ v. not (is_own_hop place queue v)) (kept_hops headers)) headers

-- What an `x-received-from` says: the places and objects that a message came through, the last first (RabbitMQ's
-- "Federated Exchanges", which names the header; which values count is this project's own).
use Rattle.std.specs.Prelude.{ℕ, pos, Bool, false, ◌&&◌, List, [], ◌∷◌, Option, Some, None, option_map, option_and_then, is_some, unwrap_or, if◌then◌else◌}
use Rattle.std.specs.List.{list_all, filter_map}
use Rattle.std.specs.Str.{bytes_eq, is_utf8}
use Rattle.field_tables.specs.Fields.{Field, boolean, signed_long, long_string, array, table, Fields, no_fields, field, Pairs, no_pairs, pair, first_of}
use Rattle.hop_headers.specs.declared.entry.PlaceName.{PlaceName}
use Rattle.hop_headers.specs.declared.entry.HopEntry.{HopEntry}
use Rattle.hop_headers.specs.declared.entry.HopObject.{HopObject}
use Rattle.hop_headers.specs.declared.entry.HopObject.TheVariants.{Exchange, Queue, Neither}
use Rattle.hop_headers.specs.Names.{received_from_name, cluster_name, vhost_name, exchange_name, queue_name, redelivered_name, visit_count_name}

-- The values of an array as a list, and the names and values of a table.
abbrev pub values_of : Fields → List Field
values_of no_fields = []
values_of (field v vs) = v ∷ values_of vs

abbrev pub named_values : Pairs → List (List ℕ × Field)
named_values no_pairs = []
named_values (pair name v ps) = (name, v) ∷ named_values ps

-- A text is a long string (kind S) that is UTF-8.
abbrev pub if_utf8 : List ℕ → Option (List ℕ)
if_utf8 bytes = if is_utf8 bytes then Some bytes else None

abbrev pub text_of : Field → Option (List ℕ)
text_of (long_string bytes) = if_utf8 bytes
text_of _ = None

-- the values of an array (kind A), and the names and values of a table (kind F)
abbrev pub array_of : Field → Option (List Field)
array_of (array vs) = Some (values_of vs)
array_of _ = None

abbrev pub table_of : Field → Option Pairs
table_of (table ps) = Some ps
table_of _ = None

-- The text and the array of a name; of equal names the first counts.
unfoldable pub text_at : List ℕ → Pairs → Option (List ℕ)
text_at name ps = option_and_then text_of (first_of name ps)

unfoldable pub array_at : List ℕ → Pairs → Option (List Field)
array_at name ps = option_and_then array_of (first_of name ps)

-- The place that a table names by its texts `cluster-name` and `vhost`, if it has both.
abbrev pub place_with : Option (List ℕ) → Option (List ℕ) → Option PlaceName
place_with (Some cluster) (Some vhost) = Some record { cluster = cluster; vhost = vhost }
place_with _ _ = None

unfoldable pub place_at : Pairs → Option PlaceName
place_at ps = place_with (text_at cluster_name ps) (text_at vhost_name ps)

abbrev pub place_of : Field → Option PlaceName
place_of v = option_and_then place_at (table_of v)

unfoldable pub names_place : Field → Bool
names_place v = is_some (place_of v)

-- Two places are one: the same cluster and the same virtual host.
abbrev pub same_place : PlaceName → PlaceName → Bool
same_place a b = bytes_eq a.cluster b.cluster && bytes_eq a.vhost b.vhost

-- The object of an entry: its text `queue` if it has one, else its text `exchange`.
abbrev pub object_with : Option (List ℕ) → Option (List ℕ) → HopObject
object_with (Some queue) _ = Queue queue
object_with None (Some exchange) = Exchange exchange
object_with None None = Neither

unfoldable pub object_at : Pairs → HopObject
object_at ps = object_with (text_at queue_name ps) (text_at exchange_name ps)

-- A truth value (kind t); every other value, and none, is no.
abbrev pub is_yes : Option Field → Bool
is_yes (Some (boolean b)) = b
is_yes _ = false

-- A count above 0 of kind I; every other value, and none, is 0.
abbrev pub count_of : Option Field → ℕ
count_of (Some (signed_long (pos n))) = n
count_of _ = 0

-- The entry that a table is, if it names a place.
abbrev pub entry_with : Pairs → PlaceName → HopEntry
entry_with ps place = record {
  place = place;
  object = object_at ps;
  redelivered = is_yes (first_of redelivered_name ps);
  visits = count_of (first_of visit_count_name ps);
}

unfoldable pub entry_at : Pairs → Option HopEntry
entry_at ps = option_map (entry_with ps) (place_at ps)

abbrev pub entry_of : Field → Option HopEntry
entry_of v = option_and_then entry_at (table_of v)

-- The values of a header that is an array of tables, each of which names a place; None is a header that counts as none.
abbrev pub if_hops : List Field → Option (List Field)
if_hops vs = if list_all names_place vs then Some vs else None

-- The values of the `x-received-from` among the headers; of equal names the first counts.
unfoldable pub hops : Pairs → Option (List Field)
hops headers = option_and_then if_hops (array_at received_from_name headers)

-- The entries of the header, None where there is no such header or one that counts as none.
abbrev pub received_from : Pairs → Option (List HopEntry)
received_from headers = option_map (filter_map entry_of) (hops headers)

-- The values and the entries that a header brings; one that counts as none brings none.
abbrev pub kept_hops : Pairs → List Field
kept_hops headers = unwrap_or (hops headers) []

abbrev pub hop_entries : Pairs → List HopEntry
hop_entries headers = filter_map entry_of (kept_hops headers)

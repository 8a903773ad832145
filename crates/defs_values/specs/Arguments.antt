-- The arguments of bindings as field tables (AMQP 0-9-1, 4.2.5.5 "Field Tables"; RabbitMQ's AMQP 0-9-1 Errata, "Field types"):
-- a text is a long string, a whole number a signed long-long, and an object a table in the order of its keys' octets.
use Rattle.std.specs.Prelude.{ℕ, ◌+◌, ◌-◌, ◌==◌, ℤ, pos, List, [], ◌∷◌, length, nat_lt, codes, Option, Some, None, option_map, option_and_then, unwrap_or, if◌then◌else◌}
use Rattle.std.specs.Option.{option_or}
use Rattle.serde_json.specs.Data.{Data, null, boolean, number, string, array, object, Items, no_items, item, Members, no_members, member}
use Rattle.serde_json.specs.Find.{get, as_number, as_i64, as_object}
use Rattle.field_tables.specs.Fields as fields
use Rattle.field_tables.specs.Fields.{Field, Pairs, no_pairs}
use Rattle.field_tables.specs.View.{fields_of, pairs_of}
use Rattle.field_tables.specs.Tables.{max_depth, table_spelling}
use Rattle.defs_values.specs.declared.fault.Refusal.{Refusal}
use Rattle.defs_values.specs.declared.fault.Refusal.TheVariants.{Limit}
use Rattle.defs_values.specs.declared.fault.KeyFault.{KeyFault}
use Rattle.defs_values.specs.declared.fault.KeyFault.TheVariants as key
use Rattle.defs_values.specs.Paths.{within, index_step, key_step}
use Rattle.defs_values.specs.Values.{misfit, refused_unless}

-- ---- what they mean

-- a whole number of 64 bits with its sign
abbrev pub signed_of : Data → ℤ
signed_of d = unwrap_or (option_and_then as_i64 (as_number d)) (pos 0)

abbrev mutual
  pub field_of : Data → Field
  field_of null = fields.void
  field_of (boolean b) = fields.boolean b
  field_of (number n) = fields.signed_longlong (signed_of (number n))
  field_of (string s) = fields.long_string s
  field_of (array ds) = fields.array (fields_of (items_fields ds))
  field_of (object ms) = fields.table (pairs_of (members_pairs ms))

  pub items_fields : Items → List Field
  items_fields no_items = []
  items_fields (item d ds) = field_of d ∷ items_fields ds

  pub members_pairs : Members → List (List ℕ × Field)
  members_pairs no_members = []
  members_pairs (member k d ms) = (k, field_of d) ∷ members_pairs ms

-- the table of the arguments; without them it is empty
abbrev pub table_from : Option Members → Pairs
table_from None = no_pairs
table_from (Some ms) = pairs_of (members_pairs ms)

unfoldable pub arguments_of : Data → Pairs
arguments_of d = table_from (option_and_then as_object (get (codes "arguments") d))

-- ---- which are refused

-- a floating-point number, or a whole one of over 64 bits
abbrev pub number_refusal : Data → Option Refusal
number_refusal d = refused_unless (option_and_then as_i64 (as_number d)) d

-- so many more levels are allowed: where there is none, a value is over the limit, if it isn't refused otherwise
abbrev pub leaf_fault : ℕ → Option Refusal → Option KeyFault
leaf_fault levels why =
    option_map (key.Refused []) (if levels == 0 then Some (unwrap_or why Limit) else why)

-- a name is a short string (AMQP 0-9-1, 4.2.5.3)
abbrev pub key_fault : List ℕ → Option KeyFault
key_fault k = if nat_lt 255 (length k) then Some (key.Refused [] Limit) else None

abbrev mutual
  pub field_fault : ℕ → Data → Option KeyFault
  field_fault levels null = leaf_fault levels None
  field_fault levels (boolean b) = leaf_fault levels None
  field_fault levels (number n) = leaf_fault levels (number_refusal (number n))
  field_fault levels (string s) = leaf_fault levels None
  field_fault levels (array ds) = if levels == 0 then leaf_fault 0 None else items_fault (levels - 1) 0 ds
  field_fault levels (object ms) = if levels == 0 then leaf_fault 0 None else members_fault (levels - 1) ms

  -- the first in the order of the list
  pub items_fault : ℕ → ℕ → Items → Option KeyFault
  items_fault levels index no_items = None
  items_fault levels index (item d ds) =
      option_or (option_map (within (index_step index)) (field_fault levels d)) (items_fault levels (index + 1) ds)

  -- the first in the order of the keys' octets
  pub members_fault : ℕ → Members → Option KeyFault
  members_fault levels no_members = None
  members_fault levels (member k d ms) =
      option_or (option_map (within (key_step k)) (option_or (field_fault levels d) (key_fault k))) (members_fault levels ms)

-- how many octets a value takes behind each other: its field type, and its content
abbrev mutual
  pub octets_of : Data → ℕ
  octets_of null = 1
  octets_of (boolean b) = 2
  octets_of (number n) = 9
  octets_of (string s) = 5 + length s
  octets_of (array ds) = 5 + items_octets ds
  octets_of (object ms) = 5 + members_octets ms

  pub items_octets : Items → ℕ
  items_octets no_items = 0
  items_octets (item d ds) = octets_of d + items_octets ds

  pub members_octets : Members → ℕ
  members_octets no_members = 0
  members_octets (member k d ms) = (1 + length k + octets_of d) + members_octets ms

-- the greatest number of octets that a table may take
abbrev pub most_octets : ℕ
most_octets = 32768

unfoldable pub size_fault : Pairs → Option KeyFault
size_fault pairs = if nat_lt most_octets (length (table_spelling pairs)) then Some (key.Refused [] Limit) else None

abbrev pub table_fault : Data → Option Members → Option KeyFault
table_fault d None = Some (key.Refused [] (misfit d))
table_fault d (Some ms) = option_or (members_fault max_depth ms) (size_fault (pairs_of (members_pairs ms)))

abbrev pub arguments_fault_of : Option Data → Option KeyFault
arguments_fault_of None = None
arguments_fault_of (Some d) = option_map (within (codes "arguments")) (table_fault d (as_object d))

unfoldable pub arguments_fault : Data → Option KeyFault
arguments_fault d = arguments_fault_of (get (codes "arguments") d)

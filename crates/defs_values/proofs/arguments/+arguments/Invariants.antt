use Rattle.std.proofs.Common.{◌≡◌, ◌+◌, ◌*◌, ◌++◌, drop}
use Rattle.serde_json.specs.View.{items_view, members_view}
use Rattle.field_tables.specs.View.{fields_view, pairs_view}
use Rattle.defs_values.specs.Arguments.{items_fields, members_pairs, items_fault, members_fault}
use Rattle.defs_values.proofs.arguments.+arguments.Given as goal

abbrev pub decreases-read_field : goal.decreases-read_field
decreases-read_field l = 3 * l.levels

abbrev pub decreases-read_pair : goal.decreases-read_pair
decreases-read_pair l = 3 * l.levels + 1

abbrev pub decreases-read_items : goal.decreases-read_items
decreases-read_items l = 3 * l.levels + 1

abbrev pub decreases-read_members : goal.decreases-read_members
decreases-read_members l = 3 * l.levels + 2

-- The fields so far and those of what is left are all fields, and what is left is refused as all is.
abbrev pub invariant-read_items-loop-index : goal.invariant-read_items-loop-index
invariant-read_items-loop-index l = record {
  read : fields_view l.fields.items ++ items_fields (items_view (drop l.index l.items.items)) ≡ items_fields (items_view l.items.items);
  refused : items_fault l.levels l.index (items_view (drop l.index l.items.items)) ≡ items_fault l.levels 0 (items_view l.items.items);
}

abbrev pub invariant-read_members-loop-key : goal.invariant-read_members-loop-key
invariant-read_members-loop-key l = record {
  read : pairs_view l.pairs.items ++ members_pairs (members_view l.key-iterator) ≡ members_pairs (members_view l.fn.map.entries);
  refused : members_fault l.levels (members_view l.key-iterator) ≡ members_fault l.levels (members_view l.fn.map.entries);
}

-- The count so far and that of what is left are the count of all.
use Rattle.std.proofs.Common.{◌≡◌, ◌+◌}
use Rattle.serde_json.specs.View.{members_view}
use Rattle.defs_values.specs.Inert.{inert_members}
use Rattle.defs_values.proofs.inert.inert_members.Given as goal

abbrev pub invariant-loop-key : goal.invariant-loop-key
invariant-loop-key l =
    l.count + inert_members l.set (members_view l.key-iterator) ≡ inert_members l.set (members_view l.fn.map.entries)

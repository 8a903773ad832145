-- What is read so far and what is left are what all items mean, and what is left is refused as all is.
use Rattle.std.proofs.Common.{◌≡◌, ◌+◌, ◌++◌, [], drop}
use Rattle.serde_json.specs.View.{items_view}
use Rattle.defs_lists.specs.PolicyItems.{policies_of, policies_inert, policies_fault}
use Rattle.defs_lists.proofs.policies.read_policies.Given as goal

abbrev pub invariant-loop-index : goal.invariant-loop-index
invariant-loop-index l = record {
  kept : l.kept.items ++ policies_of (items_view (drop l.index l.items)) ≡ policies_of (items_view l.items);
  inert : l.inert + policies_inert (items_view (drop l.index l.items)) ≡ policies_inert (items_view l.items);
  refused : policies_fault l.vhosts l.names l.index (items_view (drop l.index l.items))
      ≡ policies_fault l.vhosts [] 0 (items_view l.items);
}

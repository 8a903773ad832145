-- The name found so far or the one in what is left is that of all, and what is left is refused as all is.
use Rattle.std.proofs.Common.{◌≡◌, drop, false}
use Rattle.std.specs.Prelude.{is_some}
use Rattle.std.specs.Option.{option_or}
use Rattle.serde_json.specs.View.{items_view}
use Rattle.defs_lists.specs.Clusters.{cluster_in, clusters_fault}
use Rattle.defs_lists.proofs.clusters.read_cluster.Given as goal

abbrev pub invariant-loop-index : goal.invariant-loop-index
invariant-loop-index l = record {
  read : option_or l.found (cluster_in (items_view (drop l.index l.items))) ≡ cluster_in (items_view l.items);
  refused : clusters_fault (is_some l.found) l.index (items_view (drop l.index l.items))
      ≡ clusters_fault false 0 (items_view l.items);
}

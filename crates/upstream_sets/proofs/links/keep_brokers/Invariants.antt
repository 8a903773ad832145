-- What is left joins the links so far as all join those before.
use Rattle.std.proofs.Common.{◌≡◌, drop}
use Rattle.std.specs.Prelude.{flat_map}
use Rattle.std.specs.List.{enumerate_from}
use Rattle.fed_defs.specs.Links.{with_links, broker_links}
use Rattle.upstream_sets.proofs.links.keep_brokers.Given as goal

abbrev pub invariant-loop-index : goal.invariant-loop-index
invariant-loop-index l =
    with_links l.kept (flat_map (broker_links l.config) (enumerate_from l.index (drop l.index l.broker-items)))
    ≡ with_links l.fn.kept (flat_map (broker_links l.config) (enumerate_from 0 l.broker-items))

-- What is left joins the links so far as all join those before.
use Rattle.std.proofs.Common.{◌≡◌, drop}
use Rattle.std.specs.Prelude.{flat_map}
use Rattle.fed_defs.specs.Links.{with_links, owned_links}
use Rattle.upstream_sets.proofs.links.keep_broker.Given as goal

abbrev pub invariant-loop-vhost : goal.invariant-loop-vhost
invariant-loop-vhost l =
    with_links l.kept (flat_map (owned_links l.config l.index l.broker) (drop l.vhost-index l.vhost-items))
    ≡ with_links l.fn.kept (flat_map (owned_links l.config l.index l.broker) l.vhost-items)

-- What is left joins the links so far as all join those before.
use Rattle.std.proofs.Common.{◌≡◌, drop}
use Rattle.std.specs.Prelude.{flat_map}
use Rattle.fed_defs.specs.Links.{with_links, shovel_links}
use Rattle.upstream_sets.proofs.links.keep_shovels.Given as goal

abbrev pub invariant-loop-parameter : goal.invariant-loop-parameter
invariant-loop-parameter l =
    with_links l.kept (flat_map (shovel_links l.scope.config.now l.scope.owner.now) (drop l.parameter-index l.parameters))
    ≡ with_links l.fn.kept (flat_map (shovel_links l.scope.config.now l.scope.owner.now) l.parameters)

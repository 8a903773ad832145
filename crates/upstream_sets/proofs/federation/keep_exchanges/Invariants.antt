-- What is left joins the links so far as all join those before.
use Rattle.std.proofs.Common.{◌≡◌, drop}
use Rattle.std.specs.Prelude.{flat_map}
use Rattle.fed_defs.specs.Links.{with_links, exchange_links}
use Rattle.upstream_sets.proofs.federation.keep_exchanges.Given as goal

abbrev pub invariant-loop-exchange : goal.invariant-loop-exchange
invariant-loop-exchange l =
    with_links l.kept (flat_map (exchange_links l.scope.config.now l.scope.owner.now l.scope.vhost.now) (drop l.exchange-index l.exchanges))
    ≡ with_links l.fn.kept (flat_map (exchange_links l.scope.config.now l.scope.owner.now l.scope.vhost.now) l.exchanges)

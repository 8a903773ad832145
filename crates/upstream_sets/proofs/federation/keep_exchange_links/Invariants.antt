-- What is left joins the links so far as all join those before.
use Rattle.std.proofs.Common.{◌≡◌, map, drop}
use Rattle.fed_defs.specs.Links.{with_links, exchange_link}
use Rattle.upstream_sets.proofs.federation.keep_exchange_links.Given as goal

abbrev pub invariant-loop-choice : goal.invariant-loop-choice
invariant-loop-choice l =
    with_links l.kept (map (exchange_link l.scope.owner.now l.exchange) (drop l.choice-index l.choices))
    ≡ with_links l.fn.kept (map (exchange_link l.scope.owner.now l.exchange) l.choices)

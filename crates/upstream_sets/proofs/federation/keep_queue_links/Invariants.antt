-- What is left joins the links so far as all join those before.
use Rattle.std.proofs.Common.{◌≡◌, map, drop}
use Rattle.fed_defs.specs.Links.{with_links, queue_link}
use Rattle.upstream_sets.proofs.federation.keep_queue_links.Given as goal

abbrev pub invariant-loop-choice : goal.invariant-loop-choice
invariant-loop-choice l =
    with_links l.kept (map (queue_link l.scope.owner.now l.queue) (drop l.choice-index l.choices))
    ≡ with_links l.fn.kept (map (queue_link l.scope.owner.now l.queue) l.choices)

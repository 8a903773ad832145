-- What is left joins the links so far as all join those before.
use Rattle.std.proofs.Common.{◌≡◌, drop}
use Rattle.std.specs.Prelude.{flat_map}
use Rattle.fed_defs.specs.Links.{with_links, queue_links}
use Rattle.upstream_sets.proofs.federation.keep_queues.Given as goal

abbrev pub invariant-loop-queue : goal.invariant-loop-queue
invariant-loop-queue l =
    with_links l.kept (flat_map (queue_links l.scope.config.now l.scope.owner.now l.scope.vhost.now) (drop l.queue-index l.queues))
    ≡ with_links l.fn.kept (flat_map (queue_links l.scope.config.now l.scope.owner.now l.scope.vhost.now) l.queues)

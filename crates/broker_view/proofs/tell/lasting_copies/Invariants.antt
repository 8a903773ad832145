-- What was found, and what is found among the queues that are left.
use Rattle.std.proofs.Common.{◌≡◌, ◌+◌, ◌++◌, drop}
use Rattle.broker_view.specs.Told.{lasting_from}
use Rattle.broker_view.proofs.tell.lasting_copies.Given as goal

abbrev pub invariant-loop-place : goal.invariant-loop-place
invariant-loop-place l = l.copies.items ++ lasting_from l.vhost (l.first + l.place) (drop l.place l.queues) ≡ lasting_from l.vhost l.first l.queues

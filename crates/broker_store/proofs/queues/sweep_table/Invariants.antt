-- The queues so far are swept, and what their copies don't need is freed.
use Rattle.std.proofs.Common.{◌≡◌, ◌++◌, take, drop}
use Rattle.std.specs.Prelude.{map}
use Rattle.broker_store.specs.Mail.{swept}
use Rattle.broker_store.specs.Messages.{Remains}
use Rattle.broker_store.specs.Queues.{named, with_mail}
use Rattle.broker_store.proofs.queues.sweep_table.Given as goal

abbrev pub invariant-loop-place : goal.invariant-loop-place
invariant-loop-place l =
    (l.table.entries ≡ map (λ e. (e.0, with_mail (swept l.sweep) e.1)) (take l.place l.initial.table.entries) ++ drop l.place l.initial.table.entries)
    × Remains l.initial.messages l.messages (named l.table.entries)

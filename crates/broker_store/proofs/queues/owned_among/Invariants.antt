-- The names so far and those of what is left are the names of all.
use Rattle.std.proofs.Common.{◌≡◌, ◌++◌}
use Rattle.broker_store.specs.Queues.{owned_names, named}
use Rattle.broker_store.proofs.queues.owned_among.Given as goal

abbrev pub invariant-loop-name : goal.invariant-loop-name
invariant-loop-name l = l.names.items ++ owned_names l.connection (named l.name-iterator) ≡ owned_names l.connection (named l.fn.table.entries)

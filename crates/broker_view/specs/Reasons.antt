-- Why an event of a client doesn't happen, by what the virtual host answers it (AMQP 0-9-1, 1.2 "Problem reporting": reply codes).
use Rattle.std.specs.Prelude.{Result, Ok, Err}
use Rattle.fed_journal.specs.declared.reason.Reason.{Reason}
use Rattle.fed_journal.specs.declared.reason.Reason.TheVariants as why
use Rattle.mini_broker.specs.declared.fault.ClientFault.{ClientFault}
use Rattle.mini_broker.specs.declared.fault.ClientFault.TheVariants.{Refused, NoConsumer, Busy, Empty, Memory}

-- the reason that the fault is; want of memory is RESOURCE_ERROR (506)
abbrev pub reason_of : ClientFault → Reason
reason_of (Refused code) = why.Refused code
reason_of NoConsumer = why.NoConsumer
reason_of Busy = why.Busy
reason_of Empty = why.Empty
reason_of Memory = why.Refused 506

-- an answer with its fault as a reason
abbrev pub with_reason : {A : Type 0} → Result A ClientFault → Result A Reason
with_reason (Ok value) = Ok value
with_reason (Err fault) = Err (reason_of fault)

-- What an event may carry.
use Rattle.field_tables.specs.Tables.{IsTable}
use Rattle.fed_journal.specs.declared.event.Event.{Event}
use Rattle.fed_journal.specs.declared.event.Event.TheVariants.{Bind, Unbind, Publish}
use Rattle.fed_journal.specs.Sizes.{IsMessage}

-- the arguments of a binding and a message have a spelling on the wire (AMQP 0-9-1, 4.2.5.5 "Field Tables", 4.2.6.1 "The Content Header")
abbrev pub IsWritable : Event → Type 0
IsWritable (Bind place client binding) = IsTable binding.args
IsWritable (Unbind place client binding) = IsTable binding.args
IsWritable (Publish place client message) = IsMessage message
IsWritable _ = Unit {0}

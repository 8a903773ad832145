-- Whose an exclusive queue is (AMQP 0-9-1, queue.declare: exclusive).
use Rattle.std.specs.Prelude.{ℕ, ◌==◌, Bool, false, not, if◌then◌else◌, Option, Some, None}
use Rattle.amqp_props.specs.declared.link.QueueOptions.{QueueOptions}
use Rattle.client_rules.specs.declared.client.Client.{Client}

-- the connection that declares an exclusive queue has it to itself (AMQP 0-9-1, queue.declare: exclusive)
abbrev pub owner_of : Client → QueueOptions → Option ℕ
owner_of who options = if options.exclusive then Some who.connection else None

-- another connection has it to itself (AMQP 0-9-1, queue.declare: exclusive)
abbrev pub is_anothers : Client → Option ℕ → Bool
is_anothers who None = false
is_anothers who (Some connection) = not (connection == who.connection)

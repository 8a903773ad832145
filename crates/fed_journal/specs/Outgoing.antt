-- What a link publishes.
use Rattle.std.specs.Prelude.{[]}
use Rattle.fed_journal.specs.declared.link.LinkSpec.{LinkSpec}
use Rattle.amqp_props.specs.declared.message.Message.{Message}

-- a shovel into a queue publishes through the default exchange, with the queue's name as routing key (RabbitMQ, Shovel: dest-queue)
abbrev pub outgoing : LinkSpec → Message → Message
outgoing spec m = record { exchange = []; key = spec.target_queue; props = m.props; body = m.body }

-- What a message's properties say of it.
use Rattle.std.specs.Prelude.{ℕ, Bool, false, ◌==◌, Option, Some, None, if◌then◌else◌}
use Rattle.field_tables.specs.Fields.{Pairs}
use Rattle.amqp_props.specs.declared.message.Message.{Message}
use Rattle.amqp_props.specs.declared.properties.Properties.{Properties}

abbrev pub is_mode : ℕ → Option ℕ → Bool
is_mode n None = false
is_mode n (Some mode) = mode == n

-- delivery mode 2 (AMQP 0-9-1, class basic: delivery-mode)
abbrev pub is_persistent : Message → Bool
is_persistent m = is_mode 2 m.props.delivery_mode

-- the properties of a message that a publisher gives a delivery mode, if it is persistent, and headers alone
abbrev pub properties : Bool → Option Pairs → Properties
properties persistent headers = record {
  content_type = None;
  content_encoding = None;
  headers = headers;
  delivery_mode = if persistent then Some 2 else None;
  priority = None;
  correlation_id = None;
  reply_to = None;
  expiration = None;
  message_id = None;
  timestamp = None;
  type_name = None;
  user_id = None;
  app_id = None;
  reserved = None;
}

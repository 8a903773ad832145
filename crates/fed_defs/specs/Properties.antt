-- The properties of a message (AMQP 0-9-1, 1.8.1, class basic).
use Rattle.std.specs.Prelude.{None}
use Rattle.amqp_props.specs.declared.properties.Properties.{Properties}

-- none of them
abbrev pub no_props : Properties
no_props = record {
  content_type = None;
  content_encoding = None;
  headers = None;
  delivery_mode = None;
  priority = None;
  correlation_id = None;
  reply_to = None;
  expiration = None;
  message_id = None;
  timestamp = None;
  type_name = None;
  user_id = None;
  app_id = None;
  reserved = None;
}

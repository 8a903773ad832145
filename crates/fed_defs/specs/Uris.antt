-- What an AMQP URI says (RabbitMQ's "AMQP URI Specification").
use Rattle.std.specs.Prelude.{◌≡◌, ℕ, List, None, option_map, string_bytes}
use Rattle.percent_encoding.specs.Percent.{percent_decode}
use Rattle.amqp_uri.specs.Uri.{uri_fault, user_part, pass_part, host_part, port_part, port_of, vhost_part}
use Rattle.amqp_uri.specs.declared.uri.AmqpUri.{AmqpUri}

-- the URI is what the text says
pub record IsReadFrom (text : List ℕ) (uri : AmqpUri) : Type 0 where
  pub is_uri : uri_fault text ≡ None
  pub user : string_bytes uri.user ≡ percent_decode (user_part text)
  pub pass : string_bytes uri.pass ≡ percent_decode (pass_part text)
  pub host : string_bytes uri.host ≡ host_part text
  pub port : uri.port ≡ port_of (port_part text)
  pub vhost : option_map string_bytes uri.vhost ≡ option_map percent_decode (vhost_part text)

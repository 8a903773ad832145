-- The methods that a value of the program stands for.
-- AMQP 0-9-1, the class and method reference, with RabbitMQ's extensions: each method's class and id, and its arguments.
use Rattle.std.specs.Prelude.{[], ◌∷◌, string_bytes}
use Rattle.field_tables.specs.View.{table_view}
use Rattle.amqp_methods.specs.Arguments.{octet, short, long, longlong, short_string, long_string, table, bits, reserved_short, reserved_short_string, reserved_long_string, reserved_bit}
use Rattle.amqp_methods.specs.Methods.{Call, call}
use Rattle.amqp_methods.specs.declared.method.Method.{Method}
use Rattle.amqp_methods.specs.declared.method.Method.TheVariants as methods

unfoldable pub call_of : Method → Call
call_of (methods.ConnectionStart version_major version_minor server_properties mechanisms locales) = call 10 10 (octet version_major ∷ octet version_minor ∷ table (table_view server_properties) ∷ long_string mechanisms.items ∷ long_string locales.items ∷ [])
call_of (methods.ConnectionStartOk client_properties mechanism response locale) = call 10 11 (table (table_view client_properties) ∷ short_string (string_bytes mechanism) ∷ long_string response.items ∷ short_string (string_bytes locale) ∷ [])
call_of (methods.ConnectionSecure challenge) = call 10 20 (long_string challenge.items ∷ [])
call_of (methods.ConnectionSecureOk response) = call 10 21 (long_string response.items ∷ [])
call_of (methods.ConnectionTune channel_max frame_max heartbeat) = call 10 30 (short channel_max ∷ long frame_max ∷ short heartbeat ∷ [])
call_of (methods.ConnectionTuneOk channel_max frame_max heartbeat) = call 10 31 (short channel_max ∷ long frame_max ∷ short heartbeat ∷ [])
call_of (methods.ConnectionOpen virtual_host) = call 10 40 (short_string (string_bytes virtual_host) ∷ reserved_short_string ∷ reserved_bit ∷ [])
call_of methods.ConnectionOpenOk = call 10 41 (reserved_short_string ∷ [])
call_of (methods.ConnectionClose reply_code reply_text class_id method_id) = call 10 50 (short reply_code ∷ short_string (string_bytes reply_text) ∷ short class_id ∷ short method_id ∷ [])
call_of methods.ConnectionCloseOk = call 10 51 []
call_of (methods.ConnectionBlocked reason) = call 10 60 (short_string (string_bytes reason) ∷ [])
call_of methods.ConnectionUnblocked = call 10 61 []
call_of methods.ChannelOpen = call 20 10 (reserved_short_string ∷ [])
call_of methods.ChannelOpenOk = call 20 11 (reserved_long_string ∷ [])
call_of (methods.ChannelFlow active) = call 20 20 (bits (active ∷ []) ∷ [])
call_of (methods.ChannelFlowOk active) = call 20 21 (bits (active ∷ []) ∷ [])
call_of (methods.ChannelClose reply_code reply_text class_id method_id) = call 20 40 (short reply_code ∷ short_string (string_bytes reply_text) ∷ short class_id ∷ short method_id ∷ [])
call_of methods.ChannelCloseOk = call 20 41 []
call_of (methods.ExchangeDeclare exchange kind passive durable auto_delete internal no_wait arguments) = call 40 10 (reserved_short ∷ short_string (string_bytes exchange) ∷ short_string (string_bytes kind) ∷ bits (passive ∷ durable ∷ auto_delete ∷ internal ∷ no_wait ∷ []) ∷ table (table_view arguments) ∷ [])
call_of methods.ExchangeDeclareOk = call 40 11 []
call_of (methods.ExchangeDelete exchange if_unused no_wait) = call 40 20 (reserved_short ∷ short_string (string_bytes exchange) ∷ bits (if_unused ∷ no_wait ∷ []) ∷ [])
call_of methods.ExchangeDeleteOk = call 40 21 []
call_of (methods.ExchangeBind destination source routing_key no_wait arguments) = call 40 30 (reserved_short ∷ short_string (string_bytes destination) ∷ short_string (string_bytes source) ∷ short_string (string_bytes routing_key) ∷ bits (no_wait ∷ []) ∷ table (table_view arguments) ∷ [])
call_of methods.ExchangeBindOk = call 40 31 []
call_of (methods.ExchangeUnbind destination source routing_key no_wait arguments) = call 40 40 (reserved_short ∷ short_string (string_bytes destination) ∷ short_string (string_bytes source) ∷ short_string (string_bytes routing_key) ∷ bits (no_wait ∷ []) ∷ table (table_view arguments) ∷ [])
call_of methods.ExchangeUnbindOk = call 40 51 []
call_of (methods.QueueDeclare queue passive durable exclusive auto_delete no_wait arguments) = call 50 10 (reserved_short ∷ short_string (string_bytes queue) ∷ bits (passive ∷ durable ∷ exclusive ∷ auto_delete ∷ no_wait ∷ []) ∷ table (table_view arguments) ∷ [])
call_of (methods.QueueDeclareOk queue message_count consumer_count) = call 50 11 (short_string (string_bytes queue) ∷ long message_count ∷ long consumer_count ∷ [])
call_of (methods.QueueBind queue exchange routing_key no_wait arguments) = call 50 20 (reserved_short ∷ short_string (string_bytes queue) ∷ short_string (string_bytes exchange) ∷ short_string (string_bytes routing_key) ∷ bits (no_wait ∷ []) ∷ table (table_view arguments) ∷ [])
call_of methods.QueueBindOk = call 50 21 []
call_of (methods.QueuePurge queue no_wait) = call 50 30 (reserved_short ∷ short_string (string_bytes queue) ∷ bits (no_wait ∷ []) ∷ [])
call_of (methods.QueuePurgeOk message_count) = call 50 31 (long message_count ∷ [])
call_of (methods.QueueDelete queue if_unused if_empty no_wait) = call 50 40 (reserved_short ∷ short_string (string_bytes queue) ∷ bits (if_unused ∷ if_empty ∷ no_wait ∷ []) ∷ [])
call_of (methods.QueueDeleteOk message_count) = call 50 41 (long message_count ∷ [])
call_of (methods.QueueUnbind queue exchange routing_key arguments) = call 50 50 (reserved_short ∷ short_string (string_bytes queue) ∷ short_string (string_bytes exchange) ∷ short_string (string_bytes routing_key) ∷ table (table_view arguments) ∷ [])
call_of methods.QueueUnbindOk = call 50 51 []
call_of (methods.BasicQos prefetch_size prefetch_count global) = call 60 10 (long prefetch_size ∷ short prefetch_count ∷ bits (global ∷ []) ∷ [])
call_of methods.BasicQosOk = call 60 11 []
call_of (methods.BasicConsume queue consumer_tag no_local no_ack exclusive no_wait arguments) = call 60 20 (reserved_short ∷ short_string (string_bytes queue) ∷ short_string (string_bytes consumer_tag) ∷ bits (no_local ∷ no_ack ∷ exclusive ∷ no_wait ∷ []) ∷ table (table_view arguments) ∷ [])
call_of (methods.BasicConsumeOk consumer_tag) = call 60 21 (short_string (string_bytes consumer_tag) ∷ [])
call_of (methods.BasicCancel consumer_tag no_wait) = call 60 30 (short_string (string_bytes consumer_tag) ∷ bits (no_wait ∷ []) ∷ [])
call_of (methods.BasicCancelOk consumer_tag) = call 60 31 (short_string (string_bytes consumer_tag) ∷ [])
call_of (methods.BasicPublish exchange routing_key mandatory immediate) = call 60 40 (reserved_short ∷ short_string (string_bytes exchange) ∷ short_string (string_bytes routing_key) ∷ bits (mandatory ∷ immediate ∷ []) ∷ [])
call_of (methods.BasicReturn reply_code reply_text exchange routing_key) = call 60 50 (short reply_code ∷ short_string (string_bytes reply_text) ∷ short_string (string_bytes exchange) ∷ short_string (string_bytes routing_key) ∷ [])
call_of (methods.BasicDeliver consumer_tag delivery_tag redelivered exchange routing_key) = call 60 60 (short_string (string_bytes consumer_tag) ∷ longlong delivery_tag ∷ bits (redelivered ∷ []) ∷ short_string (string_bytes exchange) ∷ short_string (string_bytes routing_key) ∷ [])
call_of (methods.BasicGet queue no_ack) = call 60 70 (reserved_short ∷ short_string (string_bytes queue) ∷ bits (no_ack ∷ []) ∷ [])
call_of (methods.BasicGetOk delivery_tag redelivered exchange routing_key message_count) = call 60 71 (longlong delivery_tag ∷ bits (redelivered ∷ []) ∷ short_string (string_bytes exchange) ∷ short_string (string_bytes routing_key) ∷ long message_count ∷ [])
call_of methods.BasicGetEmpty = call 60 72 (reserved_short_string ∷ [])
call_of (methods.BasicAck delivery_tag multiple) = call 60 80 (longlong delivery_tag ∷ bits (multiple ∷ []) ∷ [])
call_of (methods.BasicReject delivery_tag requeue) = call 60 90 (longlong delivery_tag ∷ bits (requeue ∷ []) ∷ [])
call_of (methods.BasicRecoverAsync requeue) = call 60 100 (bits (requeue ∷ []) ∷ [])
call_of (methods.BasicRecover requeue) = call 60 110 (bits (requeue ∷ []) ∷ [])
call_of methods.BasicRecoverOk = call 60 111 []
call_of (methods.BasicNack delivery_tag multiple requeue) = call 60 120 (longlong delivery_tag ∷ bits (multiple ∷ requeue ∷ []) ∷ [])
call_of (methods.ConfirmSelect no_wait) = call 85 10 (bits (no_wait ∷ []) ∷ [])
call_of methods.ConfirmSelectOk = call 85 11 []
call_of methods.TxSelect = call 90 10 []
call_of methods.TxSelectOk = call 90 11 []
call_of methods.TxCommit = call 90 20 []
call_of methods.TxCommitOk = call 90 21 []
call_of methods.TxRollback = call 90 30 []
call_of methods.TxRollbackOk = call 90 31 []

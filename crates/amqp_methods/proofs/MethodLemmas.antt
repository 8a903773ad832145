-- A value of the program stands for a method of the table.
use Rattle.std.proofs.Common.{◌≡◌, refl, Some}
use Rattle.std.specs.Prelude.{map}
use Rattle.amqp_methods.specs.Arguments.{kind_of}
use Rattle.amqp_methods.specs.Rows.{kinds_of}
use Rattle.amqp_methods.specs.Methods.{IsCall, FitArguments}
use Rattle.amqp_methods.specs.View.{call_of}
use Rattle.amqp_methods.specs.declared.method.Method.{Method}
use Rattle.amqp_methods.specs.declared.method.Method.TheVariants as methods

pub call_row : (m : Method) → kinds_of (call_of m).class (call_of m).id ≡ Some (map kind_of (call_of m).arguments)
unfolding call_of kinds_of
call_row (methods.ConnectionStart version_major version_minor server_properties mechanisms locales) = refl
call_row (methods.ConnectionStartOk client_properties mechanism response locale) = refl
call_row (methods.ConnectionSecure challenge) = refl
call_row (methods.ConnectionSecureOk response) = refl
call_row (methods.ConnectionTune channel_max frame_max heartbeat) = refl
call_row (methods.ConnectionTuneOk channel_max frame_max heartbeat) = refl
call_row (methods.ConnectionOpen virtual_host) = refl
call_row methods.ConnectionOpenOk = refl
call_row (methods.ConnectionClose reply_code reply_text class_id method_id) = refl
call_row methods.ConnectionCloseOk = refl
call_row (methods.ConnectionBlocked reason) = refl
call_row methods.ConnectionUnblocked = refl
call_row methods.ChannelOpen = refl
call_row methods.ChannelOpenOk = refl
call_row (methods.ChannelFlow active) = refl
call_row (methods.ChannelFlowOk active) = refl
call_row (methods.ChannelClose reply_code reply_text class_id method_id) = refl
call_row methods.ChannelCloseOk = refl
call_row (methods.ExchangeDeclare exchange kind passive durable auto_delete internal no_wait arguments) = refl
call_row methods.ExchangeDeclareOk = refl
call_row (methods.ExchangeDelete exchange if_unused no_wait) = refl
call_row methods.ExchangeDeleteOk = refl
call_row (methods.ExchangeBind destination source routing_key no_wait arguments) = refl
call_row methods.ExchangeBindOk = refl
call_row (methods.ExchangeUnbind destination source routing_key no_wait arguments) = refl
call_row methods.ExchangeUnbindOk = refl
call_row (methods.QueueDeclare queue passive durable exclusive auto_delete no_wait arguments) = refl
call_row (methods.QueueDeclareOk queue message_count consumer_count) = refl
call_row (methods.QueueBind queue exchange routing_key no_wait arguments) = refl
call_row methods.QueueBindOk = refl
call_row (methods.QueuePurge queue no_wait) = refl
call_row (methods.QueuePurgeOk message_count) = refl
call_row (methods.QueueDelete queue if_unused if_empty no_wait) = refl
call_row (methods.QueueDeleteOk message_count) = refl
call_row (methods.QueueUnbind queue exchange routing_key arguments) = refl
call_row methods.QueueUnbindOk = refl
call_row (methods.BasicQos prefetch_size prefetch_count global) = refl
call_row methods.BasicQosOk = refl
call_row (methods.BasicConsume queue consumer_tag no_local no_ack exclusive no_wait arguments) = refl
call_row (methods.BasicConsumeOk consumer_tag) = refl
call_row (methods.BasicCancel consumer_tag no_wait) = refl
call_row (methods.BasicCancelOk consumer_tag) = refl
call_row (methods.BasicPublish exchange routing_key mandatory immediate) = refl
call_row (methods.BasicReturn reply_code reply_text exchange routing_key) = refl
call_row (methods.BasicDeliver consumer_tag delivery_tag redelivered exchange routing_key) = refl
call_row (methods.BasicGet queue no_ack) = refl
call_row (methods.BasicGetOk delivery_tag redelivered exchange routing_key message_count) = refl
call_row methods.BasicGetEmpty = refl
call_row (methods.BasicAck delivery_tag multiple) = refl
call_row (methods.BasicReject delivery_tag requeue) = refl
call_row (methods.BasicRecoverAsync requeue) = refl
call_row (methods.BasicRecover requeue) = refl
call_row methods.BasicRecoverOk = refl
call_row (methods.BasicNack delivery_tag multiple requeue) = refl
call_row (methods.ConfirmSelect no_wait) = refl
call_row methods.ConfirmSelectOk = refl
call_row methods.TxSelect = refl
call_row methods.TxSelectOk = refl
call_row methods.TxCommit = refl
call_row methods.TxCommitOk = refl
call_row methods.TxRollback = refl
call_row methods.TxRollbackOk = refl

pub call_is : (m : Method) → FitArguments (call_of m) → IsCall (call_of m)
call_is m fit = record { row = call_row m; arguments = fit }

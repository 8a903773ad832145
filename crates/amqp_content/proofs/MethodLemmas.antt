-- Which methods carry content, case by case.
use Rattle.std.proofs.Common.{◌≡◌, ℕ, Bool, false, String, Global, refl}
use Rattle.amqp_methods.specs.View.{call_of}
use Rattle.amqp_methods.specs.declared.method.Method.{Method}
use Rattle.amqp_methods.specs.declared.method.Method.TheVariants as methods
use Rattle.amqp_content.specs.Steps.{has_content}

abbrev Text : Type 0
Text = String Global

-- a method that is none of the four carries none
pub other_carries_none : (m : Method)
    → ((a b : Text) (c d : Bool) → m ≡ methods.BasicPublish a b c d → ⊥)
    → ((a : ℕ) (b c d : Text) → m ≡ methods.BasicReturn a b c d → ⊥)
    → ((a : Text) (b : ℕ) (c : Bool) (d e : Text) → m ≡ methods.BasicDeliver a b c d e → ⊥)
    → ((a : ℕ) (b : Bool) (c d : Text) (e : ℕ) → m ≡ methods.BasicGetOk a b c d e → ⊥)
    → false ≡ has_content (call_of m)
unfolding call_of
other_carries_none (methods.ConnectionStart a b c d e) not_publish not_return not_deliver not_get_ok = refl
other_carries_none (methods.ConnectionStartOk a b c d) not_publish not_return not_deliver not_get_ok = refl
other_carries_none (methods.ConnectionSecure a) not_publish not_return not_deliver not_get_ok = refl
other_carries_none (methods.ConnectionSecureOk a) not_publish not_return not_deliver not_get_ok = refl
other_carries_none (methods.ConnectionTune a b c) not_publish not_return not_deliver not_get_ok = refl
other_carries_none (methods.ConnectionTuneOk a b c) not_publish not_return not_deliver not_get_ok = refl
other_carries_none (methods.ConnectionOpen a) not_publish not_return not_deliver not_get_ok = refl
other_carries_none methods.ConnectionOpenOk not_publish not_return not_deliver not_get_ok = refl
other_carries_none (methods.ConnectionClose a b c d) not_publish not_return not_deliver not_get_ok = refl
other_carries_none methods.ConnectionCloseOk not_publish not_return not_deliver not_get_ok = refl
other_carries_none (methods.ConnectionBlocked a) not_publish not_return not_deliver not_get_ok = refl
other_carries_none methods.ConnectionUnblocked not_publish not_return not_deliver not_get_ok = refl
other_carries_none methods.ChannelOpen not_publish not_return not_deliver not_get_ok = refl
other_carries_none methods.ChannelOpenOk not_publish not_return not_deliver not_get_ok = refl
other_carries_none (methods.ChannelFlow a) not_publish not_return not_deliver not_get_ok = refl
other_carries_none (methods.ChannelFlowOk a) not_publish not_return not_deliver not_get_ok = refl
other_carries_none (methods.ChannelClose a b c d) not_publish not_return not_deliver not_get_ok = refl
other_carries_none methods.ChannelCloseOk not_publish not_return not_deliver not_get_ok = refl
other_carries_none (methods.ExchangeDeclare a b c d e f g h) not_publish not_return not_deliver not_get_ok = refl
other_carries_none methods.ExchangeDeclareOk not_publish not_return not_deliver not_get_ok = refl
other_carries_none (methods.ExchangeDelete a b c) not_publish not_return not_deliver not_get_ok = refl
other_carries_none methods.ExchangeDeleteOk not_publish not_return not_deliver not_get_ok = refl
other_carries_none (methods.ExchangeBind a b c d e) not_publish not_return not_deliver not_get_ok = refl
other_carries_none methods.ExchangeBindOk not_publish not_return not_deliver not_get_ok = refl
other_carries_none (methods.ExchangeUnbind a b c d e) not_publish not_return not_deliver not_get_ok = refl
other_carries_none methods.ExchangeUnbindOk not_publish not_return not_deliver not_get_ok = refl
other_carries_none (methods.QueueDeclare a b c d e f g) not_publish not_return not_deliver not_get_ok = refl
other_carries_none (methods.QueueDeclareOk a b c) not_publish not_return not_deliver not_get_ok = refl
other_carries_none (methods.QueueBind a b c d e) not_publish not_return not_deliver not_get_ok = refl
other_carries_none methods.QueueBindOk not_publish not_return not_deliver not_get_ok = refl
other_carries_none (methods.QueuePurge a b) not_publish not_return not_deliver not_get_ok = refl
other_carries_none (methods.QueuePurgeOk a) not_publish not_return not_deliver not_get_ok = refl
other_carries_none (methods.QueueDelete a b c d) not_publish not_return not_deliver not_get_ok = refl
other_carries_none (methods.QueueDeleteOk a) not_publish not_return not_deliver not_get_ok = refl
other_carries_none (methods.QueueUnbind a b c d) not_publish not_return not_deliver not_get_ok = refl
other_carries_none methods.QueueUnbindOk not_publish not_return not_deliver not_get_ok = refl
other_carries_none (methods.BasicQos a b c) not_publish not_return not_deliver not_get_ok = refl
other_carries_none methods.BasicQosOk not_publish not_return not_deliver not_get_ok = refl
other_carries_none (methods.BasicConsume a b c d e f g) not_publish not_return not_deliver not_get_ok = refl
other_carries_none (methods.BasicConsumeOk a) not_publish not_return not_deliver not_get_ok = refl
other_carries_none (methods.BasicCancel a b) not_publish not_return not_deliver not_get_ok = refl
other_carries_none (methods.BasicCancelOk a) not_publish not_return not_deliver not_get_ok = refl
other_carries_none (methods.BasicPublish a b c d) not_publish not_return not_deliver not_get_ok = absurd (not_publish a b c d refl)
other_carries_none (methods.BasicReturn a b c d) not_publish not_return not_deliver not_get_ok = absurd (not_return a b c d refl)
other_carries_none (methods.BasicDeliver a b c d e) not_publish not_return not_deliver not_get_ok = absurd (not_deliver a b c d e refl)
other_carries_none (methods.BasicGet a b) not_publish not_return not_deliver not_get_ok = refl
other_carries_none (methods.BasicGetOk a b c d e) not_publish not_return not_deliver not_get_ok = absurd (not_get_ok a b c d e refl)
other_carries_none methods.BasicGetEmpty not_publish not_return not_deliver not_get_ok = refl
other_carries_none (methods.BasicAck a b) not_publish not_return not_deliver not_get_ok = refl
other_carries_none (methods.BasicReject a b) not_publish not_return not_deliver not_get_ok = refl
other_carries_none (methods.BasicRecoverAsync a) not_publish not_return not_deliver not_get_ok = refl
other_carries_none (methods.BasicRecover a) not_publish not_return not_deliver not_get_ok = refl
other_carries_none methods.BasicRecoverOk not_publish not_return not_deliver not_get_ok = refl
other_carries_none (methods.BasicNack a b c) not_publish not_return not_deliver not_get_ok = refl
other_carries_none (methods.ConfirmSelect a) not_publish not_return not_deliver not_get_ok = refl
other_carries_none methods.ConfirmSelectOk not_publish not_return not_deliver not_get_ok = refl
other_carries_none methods.TxSelect not_publish not_return not_deliver not_get_ok = refl
other_carries_none methods.TxSelectOk not_publish not_return not_deliver not_get_ok = refl
other_carries_none methods.TxCommit not_publish not_return not_deliver not_get_ok = refl
other_carries_none methods.TxCommitOk not_publish not_return not_deliver not_get_ok = refl
other_carries_none methods.TxRollback not_publish not_return not_deliver not_get_ok = refl
other_carries_none methods.TxRollbackOk not_publish not_return not_deliver not_get_ok = refl

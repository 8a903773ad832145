use Rattle.std.proofs.Common.{ℕ, Some, None, Err, cond, sym, ap, ◌∙◌}
use Rattle.std.specs.Option.{option_map, option_copied}
use Rattle.mini_broker.specs.declared.fault.ClientFault.TheVariants.{Refused}
use Rattle.mini_broker.specs.Declare.{declare_answer, declared_again}
use Rattle.broker_store.specs.Queues.{queue_of, bare_queue}
use Rattle.mini_broker.proofs.FoundLemmas.{answered}
use Rattle.mini_broker.proofs.vhost.Vhost.declares_queue.Goals as goal

pub returns-in-Some-2-clause-answer : goal.returns-in-Some-2-clause-answer
unfolding declare_answer
returns-in-Some-2-clause-answer c =
    c.declared_again.ensures.answer
    ∙ ap (λ b. cond b (Err (Refused 403)) (declared_again c.args.who c.args.options (Some c.in-Some.field-0.now))) c.if-is_refused_queue.ensures
    ∙ answered c.args.who c.args.name.now c.args.options (Some c.in-Some.field-0.now) (queue_of c.args.name.now c.args.self.now.queues) (ap (λ r. option_map bare_queue (option_copied r)) (sym c.in-Some.is) ∙ c.find.ensures ∙ ap (λ v. option_map bare_queue (queue_of c.args.name.now v.queues)) c.self.view_is)

pub returns-in-None-clause-answer : goal.returns-in-None-clause-answer
unfolding declare_answer
returns-in-None-clause-answer c =
    ap (λ b. cond b (Err (Refused 403)) (declared_again {M = ℕ} c.args.who c.args.options None)) c.if-is_refused_queue-2.ensures
    ∙ answered {A = ℕ} c.args.who c.args.name.now c.args.options None (queue_of c.args.name.now c.args.self.now.queues) (ap (λ r. option_map bare_queue (option_copied r)) (sym c.in-None.is) ∙ c.find.ensures ∙ ap (λ v. option_map bare_queue (queue_of c.args.name.now v.queues)) c.self.view_is)

pub returns-in-None-2-clause-answer : goal.returns-in-None-2-clause-answer
unfolding declare_answer
returns-in-None-2-clause-answer c =
    ap (λ b. cond b (Err (Refused 403)) (declared_again {M = ℕ} c.args.who c.args.options None)) c.if-is_refused_queue-2.ensures
    ∙ answered {A = ℕ} c.args.who c.args.name.now c.args.options None (queue_of c.args.name.now c.args.self.now.queues) (ap (λ r. option_map bare_queue (option_copied r)) (sym c.in-None-2.is) ∙ c.find.ensures ∙ ap (λ v. option_map bare_queue (queue_of c.args.name.now v.queues)) c.self.view_is)

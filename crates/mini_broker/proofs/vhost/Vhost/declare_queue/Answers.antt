use Rattle.std.proofs.Common.{◌≡◌, sym, ◌∙◌, rules}
use Rattle.mini_broker.specs.Declare.{declare_answer}
use Rattle.mini_broker.proofs.AnswerLemmas.{answered}
use Rattle.mini_broker.proofs.vhost.Vhost.declare_queue.Goals as goal

pub returns-in_err-declares_queue-clause-answer : goal.returns-in_err-declares_queue-clause-answer
returns-in_err-declares_queue-clause-answer c =
    let same : c.from_residual.result ≡ declare_answer c.args.who c.args.name.now c.args.options c.args.self.now = search rules in
    answered _ _ same (λ out. c.declares_queue.ensures.refused (c.declares_queue.ensures.answer ∙ sym same ∙ out))

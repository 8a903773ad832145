use Rattle.std.proofs.Common.{◌≡◌, sym, ◌∙◌, rules}
use Rattle.mini_broker.specs.Declare.{declare_exchange_answer}
use Rattle.mini_broker.proofs.AnswerLemmas.{answered}
use Rattle.mini_broker.proofs.vhost.Vhost.declare_exchange.Goals as goal

pub returns-in_err-declares_exchange-clause-answer : goal.returns-in_err-declares_exchange-clause-answer
returns-in_err-declares_exchange-clause-answer c =
    let same : c.from_residual.result ≡ declare_exchange_answer c.args.name.now c.args.shape c.args.self.now = search rules in
    answered _ _ same (λ out. c.declares_exchange.ensures.refused (c.declares_exchange.ensures.answer ∙ sym same ∙ out))

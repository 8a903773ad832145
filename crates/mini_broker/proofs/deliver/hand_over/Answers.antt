use Rattle.std.proofs.Common.{◌≡◌, Some, ap, ◌∙◌, is_some, subst}
use Rattle.std.specs.Prelude.{IfSome}
use Rattle.broker_store.specs.Mail.{given}
use Rattle.broker_store.specs.Queues.{with_mail, queue_of, changed}
use Rattle.broker_store.proofs.NameLemmas.{stands_changed}
use Rattle.mini_broker.proofs.deliver.hand_over.Goals as goal

pub returns : goal.returns
returns c =
    let handed : c.hand_out.result ≡ Some c.args.copy = c.hand_out.ensures.first ∙ c.requires in
    let is : c.hand_out.new.self ≡ changed c.args.name.now (with_mail (given c.args.copy c.args.holder c.args.no_ack)) c.args.queues.now = subst (λ r. IfSome r (λ number. c.hand_out.new.self ≡ changed c.args.name.now (with_mail (given number c.args.holder c.args.no_ack)) c.args.queues.now)) handed c.hand_out.ensures.given in
    record {
      given = is;
      names = λ name. ap (λ queues. is_some (queue_of name queues)) is ∙ stands_changed name c.args.name.now (with_mail (given c.args.copy c.args.holder c.args.no_ack)) c.args.queues.now;
    }

use Rattle.std.proofs.Common.{◌≡◌, true, subst}
use Rattle.std.specs.Bool.{one_answer}
use Rattle.amqp_props.specs.declared.link.LinkSpec.{LinkSpec}
use Rattle.amqp_props.specs.SameLinks.{same_link, link_yes, link_self}
use Rattle.amqp_props.proofs.link.LinkSpecPartialEq.eq.Goals as goal

pub returns-clause-tested : goal.returns-clause-tested
returns-clause-tested c =
    one_answer c.are_same.result (same_link c.args.self.now c.args.other.now) c.are_same.ensures
    (link_yes c.args.self.now c.args.other.now, λ e. subst (λ (spec : LinkSpec). same_link c.args.self.now spec ≡ true) e (link_self c.args.self.now))

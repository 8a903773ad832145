use Rattle.std.proofs.Common.{subst, sym, ◌∙◌}
use Rattle.field_tables.proofs.Octets.{IsBytes}
use Rattle.amqp_content.proofs.FedLemmas.{fed_spells}
use Rattle.amqp_content.proofs.OnlyLemmas.{beats_apart, only_answer}
use Rattle.amqp_content.proofs.assembler.Assembler.feed.Goals as goal

pub returns-then-is_heartbeat-clause-only : goal.returns-then-is_heartbeat-clause-only
returns-then-is_heartbeat-clause-only c = λ frames command begun is. beats_apart frames c.args.frame command is (sym c.is_heartbeat.ensures ∙ c.if-is_heartbeat.true)

pub returns-then-contains_key-clause-spells : goal.returns-then-contains_key-clause-spells
returns-then-contains_key-clause-spells c = λ frames begun.
    let octets : IsBytes c.args.frame.payload = subst IsBytes c.as_slice.ensures c.octets_fit.ensures in
    fed_spells frames _ _ c.args.frame c.go_on.result octets begun c.go_on.ensures.exact

pub returns-then-contains_key-clause-only : goal.returns-then-contains_key-clause-only
returns-then-contains_key-clause-only c = λ frames command begun is.
    let octets : IsBytes c.args.frame.payload = subst IsBytes c.as_slice.ensures c.octets_fit.ensures in
    only_answer frames _ c.args.frame c.go_on.result command is (fed_spells frames _ _ c.args.frame c.go_on.result octets begun c.go_on.ensures.exact)

pub returns-clause-spells : goal.returns-clause-spells
returns-clause-spells c = λ frames begun.
    let octets : IsBytes c.args.frame.payload = subst IsBytes c.as_slice.ensures c.octets_fit.ensures in
    fed_spells frames _ _ c.args.frame c.begin.result octets begun c.begin.ensures.exact

pub returns-clause-only : goal.returns-clause-only
returns-clause-only c = λ frames command begun is.
    let octets : IsBytes c.args.frame.payload = subst IsBytes c.as_slice.ensures c.octets_fit.ensures in
    only_answer frames _ c.args.frame c.begin.result command is (fed_spells frames _ _ c.args.frame c.begin.result octets begun c.begin.ensures.exact)

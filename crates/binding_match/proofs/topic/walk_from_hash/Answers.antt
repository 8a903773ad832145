use Rattle.std.proofs.Common.{◌∙◌, sym, rules}
use Rattle.std.specs.Option.{option_copied}
use Rattle.binding_match.specs.Topics.{covers}
use Rattle.binding_match.specs.Walks.{words_in}
use Rattle.binding_match.proofs.TopicLemmas.{later, never}
use Rattle.binding_match.proofs.WalkLemmas.{lands}
use Rattle.binding_match.proofs.topic.walk_from_hash.Goals as goal

pub returns-in_default-clause-answer : goal.returns-in_default-clause-answer
returns-in_default-clause-answer c =
    lands (words_in (option_copied c.args.parts)) (words_in (option_copied c.loop-walk.words)) c.walk_to_hash.result c.in_default.not-Fails c.walk_to_hash.ensures.answer c.walk_to_hash.ensures.ahead ∙ c.loop-walk.invariant

pub loop-walk-preserved : goal.loop-walk-preserved
loop-walk-preserved c =
    later (covers (words_in (option_copied c.args.parts))) (words_in (option_copied c.loop-walk.words)) c.split_word.result.0.now (words_in (option_copied c.split_word.result.1)) (search rules) (sym c.in-Fails.ensures.answer) ∙ c.loop-walk.invariant

pub returns-in-None-clause-answer : goal.returns-in-None-clause-answer
returns-in-None-clause-answer c =
    never (covers (words_in (option_copied c.args.parts))) (words_in (option_copied c.loop-walk.words)) (search rules) (sym c.in-Fails.ensures.answer) ∙ c.loop-walk.invariant

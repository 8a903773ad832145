use Rattle.std.proofs.Common.{length}
use Rattle.std.specs.Option.{option_copied}
use Rattle.binding_match.specs.Walks.{words_in}
use Rattle.binding_match.proofs.TopicLemmas.{Along}
use Rattle.binding_match.proofs.topic.walk_to_hash.Given as goal

abbrev pub invariant-loop-parts : goal.invariant-loop-parts
invariant-loop-parts l = Along (words_in (option_copied l.fn.parts)) (words_in (option_copied l.fn.words)) (words_in (option_copied l.parts)) (words_in (option_copied l.words))

abbrev pub decreases-loop-parts : goal.decreases-loop-parts
decreases-loop-parts l = length (words_in (option_copied l.parts))

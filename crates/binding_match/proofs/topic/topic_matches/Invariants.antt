use Rattle.std.proofs.Common.{◌≡◌}
use Rattle.binding_match.specs.Topics.{words, covers}
use Rattle.binding_match.specs.Walks.{answer_of, left_of}
use Rattle.binding_match.proofs.topic.topic_matches.Given as goal

abbrev pub invariant-loop-walk : goal.invariant-loop-walk
invariant-loop-walk l = answer_of l.walk ≡ covers (words l.pattern) (words l.key)

abbrev pub decreases-loop-walk : goal.decreases-loop-walk
decreases-loop-walk l = left_of l.walk

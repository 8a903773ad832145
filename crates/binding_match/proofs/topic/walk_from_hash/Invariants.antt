use Rattle.std.proofs.Common.{◌≡◌, length}
use Rattle.std.specs.Option.{option_copied}
use Rattle.binding_match.specs.Topics.{covers, some_end}
use Rattle.binding_match.specs.Walks.{words_in}
use Rattle.binding_match.proofs.topic.walk_from_hash.Given as goal

abbrev pub invariant-loop-walk : goal.invariant-loop-walk
invariant-loop-walk l = some_end (covers (words_in (option_copied l.parts))) (words_in (option_copied l.words))
    ≡ some_end (covers (words_in (option_copied l.fn.parts))) (words_in (option_copied l.fn.words))

abbrev pub decreases-loop-walk : goal.decreases-loop-walk
decreases-loop-walk l = length (words_in (option_copied l.words))

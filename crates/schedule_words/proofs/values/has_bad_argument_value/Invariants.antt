use Rattle.std.proofs.Common.{◌≡◌, drop}
use Rattle.std.specs.List.{list_any}
use Rattle.schedule_words.specs.Values.{is_bad_argument_value}
use Rattle.schedule_words.proofs.values.has_bad_argument_value.Given as goal

-- the rest decides
abbrev pub invariant-loop-word : goal.invariant-loop-word
invariant-loop-word l = list_any (is_bad_argument_value l.front) (drop l.word-index l.words) ≡ list_any (is_bad_argument_value l.fn.front) l.fn.words

use Rattle.std.proofs.Common.{◌≡◌, map, take}
use Rattle.field_tables.specs.View.{pairs_view}
use Rattle.schedule_words.specs.Values.{argument_of}
use Rattle.schedule_words.proofs.values.arguments_of.Given as goal

-- the names and values so far
abbrev pub invariant-loop-word : goal.invariant-loop-word
invariant-loop-word l = pairs_view l.pairs.items ≡ map (argument_of l.fn.front) (take l.word-index l.words)

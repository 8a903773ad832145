use Rattle.std.proofs.Common.{◌≡◌, drop}
use Rattle.schedule_words.specs.Words.{is_well_escaped}
use Rattle.schedule_words.proofs.words.is_well_escaped.Given as goal

-- the rest decides
abbrev pub invariant-loop-at : goal.invariant-loop-at
invariant-loop-at l = is_well_escaped (drop l.at l.word) ≡ is_well_escaped l.fn.word

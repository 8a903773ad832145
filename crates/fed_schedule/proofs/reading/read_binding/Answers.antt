use Rattle.std.proofs.Common.{arith}
use Rattle.schedule_words.proofs.Lengths.{spaced_drop}
use Rattle.fed_schedule.proofs.reading.read_binding.Goals as goal

pub arguments_in-requires-clause-within : goal.arguments_in-requires-clause-within
arguments_in-requires-clause-within c = rw c.words_from-options.ensures (omega (arith, spaced_drop 7 c.args.words.now, c.requires))

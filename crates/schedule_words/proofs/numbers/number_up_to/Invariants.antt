use Rattle.std.proofs.Common.{◌≡◌, ◌≤◌, ◌+◌, take}
use Rattle.std.specs.Prelude.{fold}
use Rattle.schedule_words.specs.Numbers.{with_digit}
use Rattle.schedule_words.proofs.numbers.number_up_to.Given as goal

-- the number of the digits so far
abbrev pub invariant-loop-digit : goal.invariant-loop-digit
invariant-loop-digit l = record {
  value : l.number ≡ fold (with_digit l.fn.most) 0 (take l.digit-index l.digits);
  within : l.number ≤ l.fn.most + 1;
}

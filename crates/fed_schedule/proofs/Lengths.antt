-- The line that `times` repeats is no longer than the whole.
use Rattle.std.proofs.Common.{ℕ, ◌≤◌, Bool, true, false, cond, List, drop, arith}
use Rattle.schedule_words.specs.Words.{spaced_length}
use Rattle.fed_schedule.specs.Times.{is_times, line_of}
use Rattle.schedule_words.proofs.Lengths.{spaced_drop}

spaced_if : (b : Bool) (ws : List (List ℕ)) → spaced_length (cond b (drop 2 ws) ws) ≤ spaced_length ws
spaced_if true ws = spaced_drop 2 ws
spaced_if false ws = omega arith

-- the line that `times` repeats is no longer
pub spaced_line : (ws : List (List ℕ)) → spaced_length (line_of ws) ≤ spaced_length ws
unfolding line_of
spaced_line ws = spaced_if (is_times ws) ws

-- The words of the command line.
use Rattle.std.specs.Prelude.{ℕ, List, [], ◌∷◌, Bool, false, ◌&&◌, not, if◌then◌else◌, Option, Some, None, ◌==◌, codes}
use Rattle.std.specs.List.{list_any}
use Rattle.fed_journal.specs.Names.{same_text}

abbrev pub is_equals_sign : ℕ → Bool
is_equals_sign b = b == 61

abbrev pub begins_with_dash : List ℕ → Bool
begins_with_dash [] = false
begins_with_dash (b ∷ bs) = b == 45

-- a schedule's file: not empty, no option, and without `=`
abbrev pub is_schedule_word : List ℕ → Bool
is_schedule_word w = not (same_text w []) && not (begins_with_dash w) && not (list_any is_equals_sign w)

-- `run SCHEDULE`
abbrev pub schedule_asked : List (List ℕ) → Option (List ℕ)
schedule_asked (command ∷ schedule ∷ []) = if same_text command (codes "run") && is_schedule_word schedule then Some schedule else None
schedule_asked _ = None

-- Lines that repeat another one: `times N LINE`.
use Rattle.std.specs.Prelude.{ℕ, List, [], Bool, ◌&&◌, ◌||◌, not, if◌then◌else◌, ◌==◌, nat_lt, length, take, drop, is_some, codes}
use Rattle.std.specs.Option.{unwrap_or}
use Rattle.fed_journal.specs.Names.{same_text}
use Rattle.schedule_words.specs.Words.{word_at}
use Rattle.schedule_words.specs.Numbers.{repeat_count_of}

abbrev pub is_times : List (List ℕ) → Bool
is_times ws = same_text (word_at ws 0) (codes "times")

-- the words before the line that is repeated: `times N`; none before a line that stands for itself
unfoldable pub head_of : List (List ℕ) → List (List ℕ)
head_of ws = if is_times ws then take 2 ws else []

-- the words of the line that is repeated, or stands for itself
unfoldable pub line_of : List (List ℕ) → List (List ℕ)
line_of ws = if is_times ws then drop 2 ws else ws

abbrev pub is_head : List (List ℕ) → Bool
is_head head = not (length head == 0)

-- N is none
unfoldable pub is_bad_head : List (List ℕ) → Bool
is_bad_head head = is_head head && not (is_some (repeat_count_of (word_at head 1)))

-- how often the line stands: N times, or once
unfoldable pub count_of : List (List ℕ) → ℕ
count_of head = if is_head head then unwrap_or (repeat_count_of (word_at head 1)) 1 else 1

-- the line stands more than once
abbrev pub is_repeated : List (List ℕ) → Bool
is_repeated head = nat_lt 1 (count_of head)

-- lines that can't be repeated
abbrev pub is_single : List ℕ → Bool
is_single w = same_text w (codes "broker") || same_text w (codes "times")

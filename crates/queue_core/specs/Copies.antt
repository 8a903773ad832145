-- How the rows of a queue are kept: a map from each copy to its hold, the number up to which a flush stored copies, and
-- how many copies each holder holds.
use Rattle.std.specs.Prelude.{◌≡◌, ℕ, ◌+◌, ◌<◌, ◌≤◌, ◌^◌, Bool, true, false, not, nat_le, if◌then◌else◌, List, Option, Some, None, All, map, filter, length, sum_by, count_by}
use Rattle.queue_core.specs.declared.rows.Holder.{Holder}
use Rattle.queue_core.specs.declared.rows.Hold.{Hold}
use Rattle.queue_core.specs.declared.rows.Hold.TheVariants.{Ready, Held}
use Rattle.queue_core.specs.declared.rows.Row.{Row}
use Rattle.queue_core.specs.declared.tally.Count.{Count}
use Rattle.queue_core.specs.Rows.{Ascends, is_ready_hold, first_ready}

-- A flush stored the copies up to a number (RabbitMQ, Persistence Configuration).
abbrev pub is_covered : Option ℕ → ℕ → Bool
is_covered None copy = false
is_covered (Some last) copy = nat_le copy last

-- The row of a copy that is kept with its hold (AMQP 0-9-1, Message Queues).
abbrev pub row_with : Option ℕ → ℕ × Hold → Row
row_with stored e = record { copy = e.0; hold = e.1; stored = is_covered stored e.0 }

-- The rows of the copies that are kept (AMQP 0-9-1, Message Queues).
abbrev pub rows_with : Option ℕ → List (ℕ × Hold) → List Row
rows_with stored entries = map (row_with stored) entries

-- The copies from this number on (AMQP 0-9-1, Content Ordering).
abbrev pub rows_from : ℕ → List Row → List Row
rows_from copy rows = filter (λ row. nat_le copy row.copy) rows

-- What is counted of a queue: its ready copies, and for each holder what it holds; `room` is for how many holders there is room.
pub record Tallied : Type 0 where
  pub ready : ℕ
  pub counts : List Count
  pub room : ℕ

-- How many copies are held in such a state by their counts (RabbitMQ, Queues: Message States).
abbrev pub held_in : (Hold → Bool) → List Count → ℕ
held_in test counts = sum_by (λ count. if test (Held count.holder) then count.copies else 0) counts

-- How many copies are in such a state, ready or held (RabbitMQ, Queues: Message States).
abbrev pub tally_of : (Hold → Bool) → Tallied → ℕ
tally_of test t = (if test Ready then t.ready else 0) + held_in test t.counts

-- All copies (AMQP 0-9-1, Message Queues).
abbrev pub any_hold : Hold → Bool
any_hold hold = true

-- A copy in this state is unacknowledged (RabbitMQ, Queues: Message States).
abbrev pub is_held_hold : Hold → Bool
is_held_hold hold = not (is_ready_hold hold)

-- A holder has a count only while it holds a copy (RabbitMQ, Consumer Prefetch).
abbrev pub ArePositive : List Count → Type 0
ArePositive counts = All (λ count. 1 ≤ count.copies) counts

-- What is kept beside the rows agrees with them (RabbitMQ, Queues: Message States).
pub record AgreesWith (rows : List Row) (head : Option ℕ) (t : Tallied) : Type 0 where
  pub rising : Ascends rows
  pub first : head ≡ first_ready rows
  pub counts : (test : Hold → Bool) → tally_of test t ≡ count_by (λ row. test row.hold) rows
  pub room : length rows ≤ t.room
  pub fits : length rows < 2 ^ 64

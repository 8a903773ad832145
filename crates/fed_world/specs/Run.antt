-- A whole run.
use Rattle.std.specs.Prelude.{◌≡◌, ℕ, List, [], ◌∷◌, map, codes}
use Rattle.fed_journal.specs.declared.entry.Entry.{Entry}
use Rattle.fed_journal.specs.declared.entry.Entry.TheVariants.{Begun}
use Rattle.fed_journal.specs.declared.event.Event.{Event}
use Rattle.fed_journal.specs.Row.{Row}
use Rattle.fed_world.specs.Step.{next, after}

-- a bare broker: its cluster name is its run name, and its definitions are empty
abbrev pub begun : List ℕ → Entry
begun broker = Begun broker broker (codes "{}")

-- the journal of a run of these brokers before its first event
abbrev pub begin : List (List ℕ) → List Entry
begin brokers = map begun brokers

-- an event with the line that it comes from, what it was answered, and the journal after it
pub record Moment : Type 0 where
  pub line : ℕ
  pub event : Event
  pub row : Row
  pub journal : List Entry

abbrev pub moment : List Entry → ℕ → Event → Moment
moment J line event = record { line = line; event = event; row = next J event; journal = after J (next J event) }

-- the moments after the journal J
abbrev pub run : List Entry → List (ℕ × Event) → List Moment
run J [] = []
run J (e ∷ es) = moment J e.0 e.1 ∷ run (after J (next J e.1)) es

-- the journal after the last moment
abbrev pub last_journal : List Entry → List Moment → List Entry
last_journal J [] = J
last_journal J (m ∷ ms) = last_journal m.journal ms

-- some run of bare brokers leads to this journal
pub record IsReached (J : List Entry) : Type 0 where
  pub brokers : List (List ℕ)
  pub events : List (ℕ × Event)
  pub leads : J ≡ last_journal (begin brokers) (run (begin brokers) events)

-- A line that is written is read back.
use Rattle.std.specs.Prelude.{ℕ, ◌≡◌, List, true, Ok}
use Rattle.fed_journal.specs.declared.event.Event.{Event}
use Rattle.fed_journal.specs.declared.place.Place.{Place}
use Rattle.fed_journal.specs.Words.{shovel_link_name}
use Rattle.fed_schedule.specs.declared.statement.Statement.TheVariants as states
use Rattle.schedule_words.specs.Words.{words_of}
use Rattle.fed_schedule.specs.Schedule.{State, judge, with_events, with_line}
use Rattle.schedule_writer.specs.Lines.{has_line, event_line}
use Rattle.schedule_writer.specs.Readable.{IsName, IsPlace, IsLink, CanBeRead, is_new}

-- the line states the event
abbrev pub LinesComeBack : Type 0
LinesComeBack = (r : State) (e : Event) → has_line e ≡ true → CanBeRead e → is_new r.shovels e ≡ true → judge r (words_of (event_line e)) ≡ Ok (states.Event e)

-- as a line of a schedule it adds the event once, and nothing else
abbrev pub LinesAddEvents : Type 0
LinesAddEvents = (n : ℕ) (r : State) (e : Event) → has_line e ≡ true → CanBeRead e → is_new r.shovels e ≡ true → with_line n r (event_line e) ≡ with_events n r 1 e

-- the name that a link has from a shovel's line can be read (RabbitMQ, dynamic shovels)
abbrev pub ShovelLinksComeBack : Type 0
ShovelLinksComeBack = (place : Place) (name : List ℕ) → IsPlace place → IsName name → IsLink (shovel_link_name place name)

-- The sessions of a link.
use Rattle.std.specs.Prelude.{ℕ, List, fold, if◌then◌else◌, Bool, true, false}
use Rattle.fed_journal.specs.declared.entry.Entry.{Entry}
use Rattle.fed_journal.specs.declared.entry.Entry.TheVariants.{Opened}
use Rattle.fed_journal.specs.declared.link.Phase.{Phase}
use Rattle.fed_journal.specs.declared.link.Phase.TheVariants.{Gone, Open}
use Rattle.fed_journal.specs.Names.{same_text}

-- sessions of a link are numbered from 1: a connection of a federation link or a shovel (RabbitMQ, Shovel: how it works)
abbrev pub session_step : List ℕ → ℕ → Entry → ℕ
session_step l was (Opened link session ready) = if same_text link l then session else was
session_step l was _ = was

-- the number of the last session, 0 if there is none
unfoldable pub session : List Entry → List ℕ → ℕ
session J l = fold (session_step l) 0 J

abbrev pub phase_step : List ℕ → Phase → Entry → Phase
phase_step l was (Opened link session ready) = if same_text link l then Open else was
phase_step l was _ = was

-- which ends of the last session live
unfoldable pub phase : List Entry → List ℕ → Phase
phase J l = fold (phase_step l) Gone J

abbrev pub is_open : Phase → Bool
is_open Open = true
is_open Gone = false

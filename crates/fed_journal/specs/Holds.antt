-- Which copies are handed out, and to whom.
use Rattle.std.specs.Prelude.{ℕ, List, Bool, false, Option, Some, None, is_some, count_by, find}
use Rattle.fed_journal.specs.declared.place.Place.{Place}
use Rattle.client_rules.specs.declared.client.Client.{Client}
use Rattle.fed_journal.specs.declared.entry.Entry.{Entry}
use Rattle.fed_journal.specs.Holders.{Holder, is_client}
use Rattle.fed_journal.specs.Copies.{Standing, Held, standing, is_waiting, entered}

abbrev pub holder_in : Standing → Option Holder
holder_in (Held holder) = Some holder
holder_in _ = None

-- a copy is held, unacknowledged, by whom it was last handed to, while it is in its queue (RabbitMQ, Consumer Acknowledgements)
abbrev pub holder : List Entry → ℕ → Option Holder
holder J c = holder_in (standing c J)

abbrev pub is_held : List Entry → ℕ → Bool
is_held J c = is_some (holder J c)

abbrev pub is_client_of : Place → Client → Option Holder → Bool
is_client_of p k None = false
is_client_of p k (Some holder) = is_client p k holder

-- the client holds the copy
abbrev pub is_held_by : List Entry → Place → Client → ℕ → Bool
is_held_by J p k c = is_client_of p k (holder J c)

-- a copy that is in its queue and not held
abbrev pub is_ready : List Entry → ℕ → Bool
is_ready J c = is_waiting (standing c J)

-- what the queue would hand out now: its ready copy of the least number
unfoldable pub first_ready : List Entry → Place → List ℕ → Option ℕ
first_ready J p q = find (is_ready J) (entered J p q)

-- how many copies of the queue are ready
unfoldable pub ready_count : List Entry → Place → List ℕ → ℕ
ready_count J p q = count_by (is_ready J) (entered J p q)

-- What an event appends to the journal, or why it doesn't happen now.
use Rattle.std.specs.Prelude.{ℕ, Bool, true, false, List, [], ◌∷◌, if◌then◌else◌, Option, Some, None, is_some, Result, Ok, Err, slice_get}
use Rattle.fed_journal.specs.declared.place.Place.{Place}
use Rattle.client_rules.specs.declared.client.Client.{Client}
use Rattle.fed_journal.specs.declared.link.LinkSpec.{LinkSpec}
use Rattle.fed_journal.specs.declared.entry.Entry.{Entry}
use Rattle.fed_journal.specs.Configuration.{is_place, queue_options, is_locked}
use Rattle.client_rules.specs.Names.{is_reserved}
use Rattle.fed_journal.specs.Links.{link_of}
use Rattle.fed_journal.specs.Phases.{phase, is_open}
use Rattle.fed_journal.specs.declared.reason.Reason.{Reason}
use Rattle.fed_journal.specs.declared.reason.Reason.TheVariants.{NoPlace, NoLink, NotOpen, Empty, Refused}

-- what the rule of an event answers, a row of the table of rules: the entries that are appended, or the reason why it doesn't happen now
abbrev pub Row : Type 0
Row = Result (List Entry) Reason

-- an event at a place that isn't one of the run
abbrev pub at_place : List Entry → Place → Row → Row
at_place J p row = if is_place J p then row else Err NoPlace

abbrev pub with_spec : (LinkSpec → Row) → Option LinkSpec → Row
with_spec row None = Err NoLink
with_spec row (Some spec) = row spec

-- a client of a schedule is a connection with channel 1 (AMQP 0-9-1, channel.open)
abbrev pub channel_of : ℕ → Client
channel_of client = record { connection = client; channel = 1 }

-- RESOURCE_LOCKED (405) for a queue that another connection has to itself (AMQP 0-9-1, queue.declare: exclusive)
abbrev pub lock_refusal : List Entry → Place → ℕ → List ℕ → Option Reason
lock_refusal J p client q = if is_locked J p q client then Some (Refused 405) else None

-- ACCESS_REFUSED (403) for a queue that belongs to links, then NOT_FOUND (404) for one that isn't there (AMQP 0-9-1, 1.2)
abbrev pub queue_refusal : List Entry → Place → ℕ → List ℕ → Option Reason
queue_refusal J p client q =
    if is_reserved q then Some (Refused 403) else
    if is_some (queue_options J p q) then lock_refusal J p client q else Some (Refused 404)

-- an answer that is given unless there is a refusal
abbrev pub unless_refused : {A : Type 0} → Option Reason → Result A Reason → Result A Reason
unless_refused None row = row
unless_refused (Some reason) row = Err reason

-- the row of a call that makes something, which the entry says, or finds it made
abbrev pub made_row : Entry → Result Bool Reason → Row
made_row entry (Ok true) = Ok (entry ∷ [])
made_row entry (Ok false) = Ok []
made_row entry (Err reason) = Err reason

-- an event of a client with a queue
abbrev pub with_queue : List Entry → Place → ℕ → List ℕ → Row → Row
with_queue J p client q row = unless_refused (queue_refusal J p client q) row

-- an event of a link that no configuration asks for
abbrev pub with_link : List Entry → List ℕ → (LinkSpec → Row) → Row
with_link J l row = with_spec row (link_of J l)

-- an event that needs a live session
abbrev pub while_open : List Entry → List ℕ → Row → Row
while_open J l row = if is_open (phase J l) then row else Err NotOpen

-- the entry for the number, if there is one
abbrev pub one_or_empty : (ℕ → Entry) → Option ℕ → Row
one_or_empty entry None = Err Empty
one_or_empty entry (Some n) = Ok (entry n ∷ [])

abbrev pub oldest : List ℕ → Option ℕ
oldest numbers = slice_get numbers 0

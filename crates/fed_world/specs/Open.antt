-- A link connects to both ends (RabbitMQ, Dynamic Shovels: a shovel declares its queues where they are missing).
use Rattle.std.specs.Prelude.{ℕ, ◌+◌, List, [], ◌∷◌, ◌++◌, Bool, false, ◌&&◌, ◌||◌, not, if◌then◌else◌, Option, Some, None, Ok, Err}
use Rattle.fed_journal.specs.declared.place.Place.{Place}
use Rattle.fed_journal.specs.declared.link.LinkSpec.{LinkSpec}
use Rattle.fed_journal.specs.declared.link.StartState.{StartState}
use Rattle.fed_journal.specs.declared.link.StartState.TheVariants.{Start, NoBroker, NameTooLong}
use Rattle.fed_journal.specs.declared.entry.Entry.{Entry}
use Rattle.fed_journal.specs.declared.entry.Entry.TheVariants.{MadeQueue, Opened}
use Rattle.fed_journal.specs.Configuration.{is_exclusive}
use Rattle.fed_journal.specs.Names.{same_text, same_place}
use Rattle.fed_journal.specs.Phases.{session, phase, is_open}
use Rattle.fed_journal.specs.Holds.{ready_count}
use Rattle.fed_journal.specs.declared.reason.Reason.TheVariants as why
use Rattle.fed_journal.specs.Declare.{stands, lasting}
use Rattle.fed_journal.specs.Row.{Row, with_link}

-- the queue's declaration, where it is missing
abbrev pub made_if : Bool → Place → List ℕ → List Entry
made_if missing p q = if missing then MadeQueue p q lasting None ∷ [] else []

-- the target's queue is missing unless it stands, or is the source's, which is made first
abbrev pub is_target_missing : List Entry → LinkSpec → Place → Place → Bool
is_target_missing J spec source target =
    not (stands J target spec.target_queue || (same_place target source && same_text spec.target_queue spec.source_queue))

abbrev pub opened : List Entry → LinkSpec → Option Place → Option Place → Row
opened J spec (Some source) (Some target) =
    Ok (made_if (not (stands J source spec.source_queue)) source spec.source_queue
    ++ made_if (is_target_missing J spec source target) target spec.target_queue
    ++ Opened spec.name (session J spec.name + 1) (ready_count J source spec.source_queue) ∷ [])
opened J spec (Some source) None = Err why.NoBroker
opened J spec None target = Err why.NoBroker

-- a connection has the source's queue to itself, so no link can read it (AMQP 0-9-1, queue.declare: exclusive)
abbrev pub is_source_locked : List Entry → Option Place → List ℕ → Bool
is_source_locked J None q = false
is_source_locked J (Some source) q = is_exclusive J source q

abbrev pub open_if_startable : List Entry → LinkSpec → StartState → Row
open_if_startable J spec NoBroker = Err why.NoBroker
open_if_startable J spec NameTooLong = Err why.NameTooLong
open_if_startable J spec Start =
    if is_open (phase J spec.name) then Err why.Live else
    if is_source_locked J spec.source spec.source_queue then Err why.NoSource else opened J spec spec.source spec.target

unfoldable pub open_row : List Entry → List ℕ → Row
open_row J l = with_link J l (λ spec. open_if_startable J spec spec.start)

-- What an entry of the journal changes in the confirms that its place owes (RabbitMQ, Publisher Confirms).
use Rattle.std.specs.Prelude.{ℕ, ◌+◌, if◌then◌else◌, List, [], ◌∷◌, map, filter}
use Rattle.std.specs.Option.{option_map}
use Rattle.confirm_core.specs.Waits.{all_stored, released, without}
use Rattle.queue_core.specs.declared.rows.Row.{Row}
use Rattle.queue_core.specs.Rows.{is_ready}
use Rattle.fed_journal.specs.declared.place.Place.{Place}
use Rattle.fed_journal.specs.declared.entry.Publisher.{Publisher}
use Rattle.fed_journal.specs.declared.entry.Publisher.TheVariants.{Client, Link}
use Rattle.fed_journal.specs.declared.entry.Publication.{Publication}
use Rattle.fed_journal.specs.declared.entry.Entry.{Entry}
use Rattle.fed_journal.specs.declared.entry.Entry.TheVariants.{GoneQueue, Published, Flushed, Settled, Delivered, Acked, Rejected, Purged, Confirmed}
use Rattle.fed_journal.specs.Copies.{is_lasting}
use Rattle.fed_journal.specs.Messages.{is_persistent}
use Rattle.fed_journal.specs.Names.{same_text, same_place}
use Rattle.broker_store.specs.declared.account.Account.{Account}
use Rattle.broker_store.specs.Confirms.{all_ledgers, its_ledger, opened, all_left}
use Rattle.broker_store.specs.Queues.{queue_of}
use Rattle.mini_broker.specs.State.{VhostState}
use Rattle.broker_view.specs.View.{rows_in}

-- those of the copies, numbered from n on, whose queue is lasting
abbrev pub lasting_from : VhostState → ℕ → List (List ℕ) → List ℕ
lasting_from v n [] = []
lasting_from v n (q ∷ qs) =
    if is_lasting (option_map (λ s. s.options) (queue_of q v.queues)) then n ∷ lasting_from v (n + 1) qs else lasting_from v (n + 1) qs

-- a persistent message waits until each of its copies in a lasting queue is stored (RabbitMQ, Publisher Confirms: persistent messages)
abbrev pub must_wait : Publication → VhostState → List ℕ
must_wait x v = if is_persistent x.message then lasting_from v x.first x.queues else []

-- a session of a link awaits the confirm of what it published
abbrev pub with_publication : Publisher → Publication → VhostState → List Account → List Account
with_publication (Client client) x v accounts = accounts
with_publication (Link l s c) x v accounts = opened l s x.number (must_wait x v) accounts

abbrev pub ready_copies : List ℕ → VhostState → List ℕ
ready_copies q v = map (λ (row : Row). row.copy) (filter is_ready (rows_in q v.queues))

abbrev pub all_copies : List ℕ → VhostState → List ℕ
all_copies q v = map (λ (row : Row). row.copy) (rows_in q v.queues)

-- a publication begins to wait, a flush stores all that is there, a copy leaves its queue, or a publication is answered; v is the virtual host before the entry
abbrev pub told : Place → Entry → VhostState → List Account → List Account
told p (Published x) v accounts = if same_place x.place p then with_publication x.by x v accounts else accounts
told p (Flushed broker) v accounts = if same_text broker p.broker then all_ledgers all_stored accounts else accounts
told p (Settled l session copy) v accounts = all_ledgers (released copy) accounts
told p (Acked place client copy) v accounts = all_ledgers (released copy) accounts
told p (Rejected place client copy) v accounts = all_ledgers (released copy) accounts
told p (Delivered place client tag queue copy no_ack) v accounts = if no_ack then all_ledgers (released copy) accounts else accounts
told p (Purged place queue) v accounts = if same_place place p then all_left (ready_copies queue v) accounts else accounts
told p (GoneQueue place queue) v accounts = if same_place place p then all_left (all_copies queue v) accounts else accounts
told p (Confirmed l session number) v accounts = its_ledger l session (without number) accounts
told p _ v accounts = accounts

-- The copies of a queue: their rows, and what each carries (AMQP 0-9-1, 3.1.1 "The Message Queue").
use Rattle.std.specs.Prelude.{◌≡◌, ◌==◌, ℕ, Bool, true, false, not, ◌||◌, is_some, if◌then◌else◌, List, [], ◌∷◌, ◌++◌, Option, All, map, filter, find}
use Rattle.std.specs.List.{list_any}
use Rattle.std.specs.Option.{option_and_then, option_map_or}
use Rattle.queue_core.specs.declared.rows.Row.{Row}
use Rattle.queue_core.specs.declared.rows.Holder.{Holder}
use Rattle.queue_core.specs.Rows as rows
use Rattle.broker_store.specs.declared.mailbox.CopyMessage.{CopyMessage}
use Rattle.broker_store.specs.declared.mailbox.Sweep.{Sweep}
use Rattle.broker_store.specs.declared.mailbox.Sweep.TheVariants.{Store, Free, Leave, Release, Hand, Settle, Requeue}

-- the mail of a queue: its rows (who holds each copy, and whether it is stored), and its copies with what they carry, a message or its key (AMQP 0-9-1, 3.1.1)
pub record Mail (M : Type 0) : Type 0 where
  pub rows : List Row
  pub copies : List (CopyMessage M)

module _ {M : Type 0} where
  abbrev pub empty : Mail M
  empty = record { rows = []; copies = [] }

  abbrev pub is_copy : ℕ → CopyMessage M → Bool
  is_copy number copy = copy.number == number

  abbrev pub has_copy : ℕ → List (CopyMessage M) → Bool
  has_copy number copies = list_any (is_copy number) copies

  -- each copy that is in the queue has its message
  abbrev pub HaveMessages : List Row → List (CopyMessage M) → Type 0
  HaveMessages rows copies = All (λ row. has_copy row.copy copies ≡ true) rows

  abbrev pub copy_of : ℕ → List (CopyMessage M) → Option (CopyMessage M)
  copy_of number copies = find (is_copy number) copies

  -- a copy that wasn't handed out yet (AMQP 0-9-1, basic.deliver: redelivered)
  abbrev pub fresh : ℕ → M → CopyMessage M
  fresh number message = record { number = number; again = false; message = message }

  -- a copy enters at the tail (AMQP 0-9-1, 3.1.1)
  abbrev pub entered : ℕ → M → Mail M → Mail M
  entered number message m = record { rows = m.rows ++ rows.entered number ∷ []; copies = m.copies ++ fresh number message ∷ [] }

  -- from now on it counts as handed out before (AMQP 0-9-1, basic.deliver: redelivered)
  abbrev pub as_seen : ℕ → CopyMessage M → CopyMessage M
  as_seen number copy = record copy { again = (copy.number == number) || copy.again }

  -- the copy is handed to the holder (AMQP 0-9-1, basic.deliver)
  abbrev pub handed : ℕ → Holder → Mail M → Mail M
  handed number holder m = record { rows = rows.handed number holder m.rows; copies = map (as_seen number) m.copies }

  -- the copy leaves (AMQP 0-9-1, basic.ack)
  abbrev pub left : ℕ → Mail M → Mail M
  left number m = record { rows = rows.without number m.rows; copies = filter (λ copy. not (copy.number == number)) m.copies }

  -- handed out for good, or to be acknowledged (AMQP 0-9-1, basic.consume and basic.get: no-ack)
  abbrev pub given : ℕ → Holder → Bool → Mail M → Mail M
  given number holder no_ack m = if no_ack then left number m else handed number holder m

  -- the copy is ready again at its place (RabbitMQ, Confirms: Negative Acknowledgement and Requeuing of Deliveries)
  abbrev pub released : ℕ → Mail M → Mail M
  released number m = record m { rows = rows.released number m.rows }

  -- what the client held is ready again (RabbitMQ, Confirms: Automatic Requeueing of Deliveries)
  abbrev pub released_from : ℕ → Mail M → Mail M
  released_from client m = record m { rows = rows.released_client client m.rows }

  -- the copies among these that are held
  abbrev pub held_copies : List Row → List (CopyMessage M) → List (CopyMessage M)
  held_copies left copies = filter (λ copy. is_some (rows.holder_of copy.number left)) copies

  -- what is held stays (AMQP 0-9-1, queue.purge)
  abbrev pub purged : Mail M → Mail M
  purged m = record { rows = filter rows.is_held m.rows; copies = held_copies (filter rows.is_held m.rows) m.copies }

  -- what is in the queue is stored (RabbitMQ, Persistence Configuration)
  abbrev pub stored : Mail M → Mail M
  stored m = record m { rows = rows.all_stored m.rows }

  -- what would be handed out now, with its message (AMQP 0-9-1, basic.get)
  abbrev pub first_copy : Mail M → Option (CopyMessage M)
  first_copy m = option_and_then (λ number. copy_of number m.copies) (rows.first_ready m.rows)

  -- a consumer of the client holds the copy (AMQP 0-9-1, Acknowledgements)
  abbrev pub is_held_at : ℕ → ℕ → Mail M → Bool
  is_held_at client number m = option_map_or (rows.is_of_client client) (rows.holder_of number m.rows) false

  -- what is done to every queue: a flush, the end of a connection, an answer for a copy that the client holds, and a link that takes or settles a copy
  abbrev pub swept : Sweep → Mail M → Mail M
  swept Store m = stored m
  swept (Free client) m = released_from client m
  swept (Leave client number) m = if is_held_at client number m then left number m else m
  swept (Release client number) m = if is_held_at client number m then released number m else m
  swept (Hand number holder) m = handed number holder m
  swept (Settle number) m = left number m
  swept (Requeue number) m = released number m

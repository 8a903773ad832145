-- The queues of a virtual host under their names, in the order of making (AMQP 0-9-1, 3.1.1 "The Message Queue").
use Rattle.std.specs.Prelude.{◌≡◌, ℕ, ◌+◌, ◌<◌, ◌==◌, ◌&&◌, true, false, not, is_some, filter, Bool, String, string_bytes, if◌then◌else◌, List, [], ◌∷◌, Option, All, count_by, length, map}
use Rattle.std.specs.List.{list_any}
use Rattle.std.specs.Option.{option_and_then, option_map_or}
use Rattle.std.specs.Map.{lookup}
use Rattle.std.specs.Str.{bytes_eq}
use Rattle.queue_core.specs.declared.rows.Row.{Row}
use Rattle.queue_core.specs.Rows as rows
use Rattle.broker_store.specs.declared.standing.StandingQueue.{StandingQueue}
use Rattle.broker_store.specs.declared.mailbox.CopyMessage.{CopyMessage}
use Rattle.broker_store.specs.Mail.{Mail, empty, entered, left, first_copy, is_held_at}

-- a queue that was declared, whose copies carry these
abbrev pub Standing : Type 0 → Type 0
Standing M = StandingQueue (Mail M)

-- a queue under its name
abbrev pub Named : Type 0 → Type 0
Named M = List ℕ × Standing M

-- a table under the names that contracts see
abbrev pub named : {Z B : Type 0} → List (String Z × B) → List (List ℕ × B)
named es = map (λ e. (string_bytes e.0, e.1)) es

-- a queue without what its copies carry
abbrev pub bare_queue : {M : Type 0} → Standing M → StandingQueue (List Row)
bare_queue q = record { number = q.number; options = q.options; owner = q.owner; mail = q.mail.rows }

-- a queue of these options without copies
abbrev pub emptied : {A B : Type 0} → Standing A → Standing B
emptied q = record { number = q.number; options = q.options; owner = q.owner; mail = empty }

abbrev pub queue_of : {M : Type 0} → List ℕ → List (Named M) → Option (Standing M)
queue_of name queues = lookup (bytes_eq name) queues

-- the copies of the queue
abbrev pub rows_of : {M : Type 0} → List ℕ → List (Named M) → List Row
rows_of name queues = option_map_or (λ queue. queue.mail.rows) (queue_of name queues) []

-- one queue is changed
abbrev pub changed : {M : Type 0} → List ℕ → (Standing M → Standing M) → List (Named M) → List (Named M)
changed name change [] = []
changed name change (q ∷ queues) = if bytes_eq name q.0 then (q.0, change q.1) ∷ queues else q ∷ changed name change queues

-- every queue is changed
abbrev pub all_changed : {M : Type 0} → (Standing M → Standing M) → List (Named M) → List (Named M)
all_changed change queues = map (λ q. (q.0, change q.1)) queues

-- the copies of a queue are changed
abbrev pub with_mail : {M : Type 0} → (Mail M → Mail M) → Standing M → Standing M
with_mail change queue = record queue { mail = change queue.mail }

-- a copy of this number would be the last of the queue, as copies are numbered in the order in which they enter
abbrev pub IsLast : {M : Type 0} → ℕ → Standing M → Type 0
IsLast number queue = rows.IsAbove queue.mail.rows number × All (λ copy. copy.number < number) queue.mail.copies

-- and of each queue
abbrev pub AreAbove : {M : Type 0} → ℕ → List (Named M) → Type 0
AreAbove number queues = All (λ q. IsLast number q.1) queues

-- what the queue would hand out now (AMQP 0-9-1, basic.get)
abbrev pub ready_in : {M : Type 0} → List ℕ → List (Named M) → Option ℕ
ready_in name queues = option_and_then (λ queue. rows.first_ready queue.mail.rows) (queue_of name queues)

-- the same with its message
abbrev pub first_in : {M : Type 0} → List ℕ → List (Named M) → Option (CopyMessage M)
first_in name queues = option_and_then (λ queue. first_copy queue.mail) (queue_of name queues)

-- how many copies are ready (AMQP 0-9-1, queue.declare-ok: message-count)
abbrev pub ready_count : {M : Type 0} → List ℕ → List (Named M) → ℕ
ready_count name queues = option_map_or (λ queue. count_by rows.is_ready queue.mail.rows) (queue_of name queues) 0

-- how many copies there are, ready or held
abbrev pub copy_count : {M : Type 0} → List ℕ → List (Named M) → ℕ
copy_count name queues = option_map_or (λ queue. length queue.mail.rows) (queue_of name queues) 0

-- a consumer of the client holds the copy (AMQP 0-9-1, Acknowledgements)
abbrev pub is_held_in : {M : Type 0} → ℕ → ℕ → List (Named M) → Bool
is_held_in client number queues = list_any (λ q. is_held_at client number q.1.mail) queues

-- each of the queues gets a copy, numbered in their order (AMQP 0-9-1, 3.1.3)
abbrev pub all_entered : {M : Type 0} → List (List ℕ) → ℕ → M → List (Named M) → List (Named M)
all_entered [] number m queues = queues
all_entered (name ∷ names) number m queues = all_entered names (number + 1) m (changed name (with_mail (entered number m)) queues)

-- what entered leaves again, the last first (AMQP 0-9-1, 3.1.3)
abbrev pub all_left_again : {M : Type 0} → List (List ℕ) → ℕ → List (Named M) → List (Named M)
all_left_again [] number queues = queues
all_left_again (name ∷ names) number queues = changed name (with_mail (left number)) (all_left_again names (number + 1) queues)

-- the connection has the queue to itself (AMQP 0-9-1, queue.declare: exclusive)
abbrev pub is_owned : {M : Type 0} → ℕ → Named M → Bool
is_owned connection q = q.1.options.exclusive && option_map_or (λ owner. owner == connection) q.1.owner false

-- the queues that the connection has to itself, in the order of making (AMQP 0-9-1, queue.declare: exclusive)
abbrev pub owned_names : {M : Type 0} → ℕ → List (Named M) → List (List ℕ)
owned_names connection queues = map (λ q. q.0) (filter (is_owned connection) queues)

-- the queues but that of the name (AMQP 0-9-1, queue.delete)
abbrev pub others : {M : Type 0} → List ℕ → List (Named M) → List (Named M)
others name queues = filter (λ q. not (bytes_eq q.0 name)) queues

-- each of these queues still stands once those before it are gone
abbrev pub StandInTurn : {M : Type 0} → List (List ℕ) → List (Named M) → Type 0
StandInTurn [] queues = Unit {0}
StandInTurn (name ∷ names) queues = (is_some (queue_of name queues) ≡ true) × StandInTurn names (others name queues)

-- queues of the same names
abbrev pub SameNames : {M : Type 0} → List (Named M) → List (Named M) → Type 0
SameNames was now = (name : List ℕ) → is_some (queue_of name now) ≡ is_some (queue_of name was)

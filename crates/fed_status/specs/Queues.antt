-- What the listing says of queues.
use Rattle.std.specs.Prelude.{ℕ, List, [], ◌++◌, Bool, true, false, not, Option, Some, None, filter, filter_map, flat_map, count_by, codes}
use Rattle.std.specs.Fmt.{decimal}
use Rattle.fed_journal.specs.declared.place.Place.{Place}
use Rattle.fed_journal.specs.declared.entry.Entry.{Entry}
use Rattle.fed_journal.specs.declared.entry.Entry.TheVariants.{Begun}
use Rattle.fed_journal.specs.Configuration.{queues_of}
use Rattle.fed_journal.specs.Copies.{entered, is_gone, is_stored}
use Rattle.fed_journal.specs.Holds.{is_held, ready_count}
use Rattle.fed_journal.specs.Words.{word, place_word}

-- each broker has the one virtual host `/` (RabbitMQ, Virtual Hosts)
abbrev pub place_begun : Entry → Option Place
place_begun (Begun broker cluster kept) = Some (record { broker = broker; vhost = codes "/" })
place_begun _ = None

-- the places of the run, in the order of its brokers
unfoldable pub places_of : List Entry → List Place
places_of J = filter_map place_begun J

-- how many copies of the queue are handed out and not acknowledged (RabbitMQ, Queues: metrics, messages_unacknowledged)
unfoldable pub held_count : List Entry → Place → List ℕ → ℕ
held_count J p q = count_by (is_held J) (entered J p q)

-- the copies that are in the queue, by rising number
unfoldable pub queued : List Entry → Place → List ℕ → List ℕ
queued J p q = filter (λ c. not (is_gone J c)) (entered J p q)

abbrev pub mark_if : Bool → List ℕ → List ℕ
mark_if true mark = mark
mark_if false mark = []

-- a copy is its number, then `+` if it is stored and `!` if it is held
unfoldable pub copy_word : List Entry → ℕ → List ℕ
copy_word J c = codes " " ++ decimal c ++ mark_if (is_stored J c) (codes "+") ++ mark_if (is_held J c) (codes "!")

-- a queue's place and name, how many of its copies are ready and held, and each copy
unfoldable pub queue_line : List Entry → Place → List ℕ → List ℕ
queue_line J p q =
    codes "queue " ++ place_word p ++ codes " " ++ word q
    ++ codes " " ++ decimal (ready_count J p q) ++ codes " " ++ decimal (held_count J p q)
    ++ flat_map (copy_word J) (queued J p q) ++ codes "\n"

-- the lines of a place's queues
unfoldable pub queue_lines : List Entry → Place → List ℕ
queue_lines J p = flat_map (queue_line J p) (queues_of J p)

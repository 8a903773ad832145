-- What an entry needs in the journal before it.
use Rattle.std.specs.List.{list_all}
use Rattle.std.specs.Prelude.{◌≡◌, ◌+◌, Bool, List, [], ◌∷◌, ◌++◌, true, false, None, Some, is_some}
use Rattle.std.specs.Str.{bytes_eq}
use Rattle.fed_journal.specs.declared.entry.Entry.{Entry}
use Rattle.fed_journal.specs.declared.entry.Entry.TheVariants.{Begun, MadeQueue, MadeExchange, GoneQueue, Published, Confirmed, Took, Consumed, Delivered, Acked, Rejected, Requeued}
use Rattle.fed_journal.specs.Configuration.{queue_options, exchange_shape}
use Rattle.fed_journal.specs.Routes.{routes}
use Rattle.fed_journal.specs.Copies.{Ready, publication_count, copy_count, standing, is_secured}
use Rattle.fed_journal.specs.Holds.{first_ready, is_held_by}
use Rattle.fed_journal.specs.Consumers as journal
use Rattle.mini_broker.specs.Publish.{first_of}

-- a broker's beginning
abbrev pub is_begun : Entry → Bool
is_begun (Begun broker cluster kept) = true
is_begun _ = false

-- brokers begin before all else, a queue or an exchange is made where none of that name stands, a queue that goes stands,
-- publications and copies have the next numbers, a message reaches the queues that its route gives, what is confirmed is secured,
-- a copy is handed out that is ready, a tag is new, and a client answers for what it holds
abbrev pub Suits : List Entry → Entry → Type 0
Suits J (Begun broker cluster kept) = list_all is_begun J ≡ true
Suits J (MadeQueue place queue options owner) = queue_options J place queue ≡ None
Suits J (MadeExchange place exchange shape) = (exchange_shape J place exchange ≡ None) × (bytes_eq exchange [] ≡ false)
Suits J (GoneQueue place queue) = is_some (queue_options J place queue) ≡ true
Suits J (Published x) = (x.first ≡ first_of (copy_count J + 1) x.queues) × (x.queues ≡ routes J x.place x.message) × (x.number ≡ publication_count J + 1)
Suits J (Confirmed l session number) = is_secured J number ≡ true
Suits J (Took l session copy) = standing copy J ≡ Ready
Suits J (Consumed place client queue tag no_ack prefetch) = journal.consumer J place client tag ≡ None
Suits J (Delivered place client tag queue copy no_ack) = first_ready J place queue ≡ Some copy
Suits J (Acked place client copy) = is_held_by J place client copy ≡ true
Suits J (Rejected place client copy) = is_held_by J place client copy ≡ true
Suits J (Requeued place client copy) = is_held_by J place client copy ≡ true
Suits J _ = Unit {0}

-- one entry after another
abbrev pub EachSuits : List Entry → List Entry → Type 0
EachSuits J [] = Unit {0}
EachSuits J (e ∷ es) = Suits J e × EachSuits (J ++ e ∷ []) es

-- The options of a line, the words after those that its form needs.
use Rattle.std.specs.Prelude.{ℕ, List, Bool, ◌&&◌, not, if◌then◌else◌, ◌==◌, nat_eq, length, drop, Option, None, is_some, codes}
use Rattle.std.specs.Option.{unwrap_or}
use Rattle.std.specs.List.{list_any, starts_with}
use Rattle.fed_journal.specs.Names.{same_text}
use Rattle.schedule_words.specs.Words.{word_at}
use Rattle.schedule_words.specs.Numbers.{prefetch_count_of}

-- the words after an option, if it stands first
unfoldable pub without : List ℕ → List (List ℕ) → List (List ℕ)
without option ws = if same_text (word_at ws 0) option then drop 1 ws else ws

-- nothing, or some of a queue's options in their order (AMQP 0-9-1, queue.declare)
unfoldable pub are_queue_options : List (List ℕ) → Bool
are_queue_options ws = length (without (codes "auto-delete") (without (codes "exclusive") (without (codes "durable") ws))) == 0

-- of these, those that are built: all but `auto-delete`
unfoldable pub are_built_queue_options : List (List ℕ) → Bool
are_built_queue_options ws = length (without (codes "exclusive") (without (codes "durable") ws)) == 0

-- nothing, or some of an exchange's options in their order (AMQP 0-9-1, exchange.declare)
unfoldable pub are_exchange_options : List (List ℕ) → Bool
are_exchange_options ws = length (without (codes "internal") (without (codes "durable") ws)) == 0

abbrev pub is_option : List ℕ → List ℕ → Bool
is_option option w = same_text w option

-- the option is given
unfoldable pub has_option : List ℕ → List (List ℕ) → Bool
has_option option ws = list_any (is_option option) ws

-- the one option
abbrev pub is_alone : List ℕ → List (List ℕ) → Bool
is_alone option ws = length ws == 1 && same_text (word_at ws 0) option

-- an option that gives a prefetch count, good or not
abbrev pub names_prefetch : List ℕ → Bool
names_prefetch w = starts_with nat_eq w (codes "prefetch=")

-- the N of an option `prefetch=N`
unfoldable pub prefetch_of : List ℕ → Option ℕ
prefetch_of w = if names_prefetch w then prefetch_count_of (drop 9 w) else None

abbrev pub is_bad_prefetch : List ℕ → Bool
is_bad_prefetch w = names_prefetch w && not (is_some (prefetch_of w))

-- the words after a prefetch count, if it stands first
unfoldable pub without_prefetch : List (List ℕ) → List (List ℕ)
without_prefetch ws = if names_prefetch (word_at ws 0) then drop 1 ws else ws

-- nothing, or some of a consumer's options in their order (AMQP 0-9-1, basic.consume, basic.qos)
unfoldable pub are_consumer_options : List (List ℕ) → Bool
are_consumer_options ws = length (without_prefetch (without (codes "no-ack") ws)) == 0

-- the prefetch count of a consumer, 0 where its options give none
unfoldable pub consumer_prefetch : List (List ℕ) → ℕ
consumer_prefetch ws = unwrap_or (prefetch_of (word_at (without (codes "no-ack") ws) 0)) 0

-- the words of a message's header fields: those after `persistent`, if it stands first
unfoldable pub header_words : List (List ℕ) → List (List ℕ)
header_words ws = without (codes "persistent") ws

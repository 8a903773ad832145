-- What makes a line's words no values of its form.
use Rattle.std.specs.Prelude.{ℕ, List, [], Bool, false, ◌&&◌, ◌||◌, not, if◌then◌else◌, ◌==◌, nat_lt, length, drop, Option, Some, None, is_some, codes}
use Rattle.std.specs.List.{list_any}
use Rattle.field_tables.specs.Fields.{Pairs}
use Rattle.field_tables.specs.Tables.{table_spelling}
use Rattle.amqp_props.specs.declared.message.Message.{Message}
use Rattle.amqp_props.specs.ContentHeader.{header_spelling}
use Rattle.fed_journal.specs.Names.{same_text}
use Rattle.client_rules.specs.Names.{is_reserved}
use Rattle.fed_schedule.specs.declared.keyword.Keyword.{Keyword}
use Rattle.fed_schedule.specs.declared.keyword.Keyword.TheVariants.{Broker, Declare, Binding, Publish, Flush, Shovel, Client, Link, Show}
use Rattle.fed_schedule.specs.declared.keyword.ClientAction.{ClientAction}
use Rattle.fed_schedule.specs.declared.keyword.ClientAction.TheVariants as client
use Rattle.schedule_words.specs.Words.{word_at, text_of, octets_of}
use Rattle.schedule_words.specs.Numbers.{client_of, copy_of}
use Rattle.schedule_words.specs.Fields.{is_run_name, is_long, place_of, is_bad_place}
use Rattle.schedule_words.specs.Links.{is_bad_link}
use Rattle.schedule_words.specs.Choices.{exchange_kind_of, sort_of}
use Rattle.fed_schedule.specs.Options.{is_alone, is_bad_prefetch, are_consumer_options, are_built_queue_options, are_exchange_options, header_words}
use Rattle.schedule_words.specs.Values.{max_header, is_no_argument, is_bad_argument_number, is_bad_argument_name, is_bad_argument_value, arguments_of}
use Rattle.fed_schedule.specs.Messages.{header_front, props_of, message_of}

-- a broker's line stands after another line
abbrev pub is_late : Bool → Keyword → Bool
is_late begun Broker = begun
is_late begun _ = false

abbrev pub is_bad_client : List ℕ → Bool
is_bad_client w = not (is_some (client_of w))

abbrev pub is_bad_copy : List ℕ → Bool
is_bad_copy w = not (is_some (copy_of w))

-- a prefetch count, or the number of a copy, is none
unfoldable pub has_bad_client_number : ClientAction → List (List ℕ) → Bool
has_bad_client_number client.Consume ws = list_any is_bad_prefetch (drop 5 ws)
has_bad_client_number (client.Settle _) ws = is_bad_copy (word_at ws 3)
has_bad_client_number _ ws = false

-- a number of the line is none
unfoldable pub has_bad_number : Keyword → List (List ℕ) → Bool
has_bad_number Declare ws = is_bad_client (word_at ws 2)
has_bad_number (Binding _) ws = is_bad_client (word_at ws 2) || list_any (is_bad_argument_number []) (drop 7 ws)
has_bad_number Publish ws = is_bad_client (word_at ws 2) || list_any (is_bad_argument_number header_front) (drop 6 ws)
has_bad_number (Client action) ws = is_bad_client (word_at ws 2) || has_bad_client_number action ws
has_bad_number _ ws = false

abbrev pub is_bad_run_name : List ℕ → Bool
is_bad_run_name w = not (is_run_name (text_of w))

abbrev pub is_bad_name : List ℕ → Bool
is_bad_name w = is_long (text_of w)

-- a place and a name of it, or a routing key
unfoldable pub has_bad_place_and_name : List ℕ → List ℕ → Bool
has_bad_place_and_name place name = is_bad_place (place_of place) || is_bad_name name

-- a broker and a queue
unfoldable pub has_bad_end : List ℕ → List ℕ → Bool
has_bad_end broker queue = is_bad_run_name broker || is_bad_name queue

-- a shovel's place and name, and its two ends
abbrev pub has_bad_shovel_names : List (List ℕ) → Bool
has_bad_shovel_names ws =
    has_bad_place_and_name (word_at ws 1) (word_at ws 2)
    || has_bad_end (word_at ws 3) (word_at ws 4) || has_bad_end (word_at ws 5) (word_at ws 6)

-- a consumer's place, queue and tag (AMQP 0-9-1, consumer-tag: a short string)
abbrev pub has_bad_consumer_names : List (List ℕ) → Bool
has_bad_consumer_names ws = has_bad_place_and_name (word_at ws 1) (word_at ws 3) || is_bad_name (word_at ws 4)

-- a client's place, and the names that stand after its number
unfoldable pub has_bad_client_names : ClientAction → List (List ℕ) → Bool
has_bad_client_names client.Consume ws = has_bad_consumer_names ws
has_bad_client_names (client.Settle _) ws = is_bad_place (place_of (word_at ws 1))
has_bad_client_names client.Close ws = is_bad_place (place_of (word_at ws 1))
has_bad_client_names _ ws = has_bad_place_and_name (word_at ws 1) (word_at ws 3)

-- a binding's place, what it leads to, its source, its routing key, and the names of its arguments
unfoldable pub has_bad_binding_names : List (List ℕ) → Bool
has_bad_binding_names ws =
    has_bad_place_and_name (word_at ws 1) (word_at ws 4) || is_bad_name (word_at ws 5) || is_bad_name (word_at ws 6)
    || list_any (is_bad_argument_name []) (drop 7 ws)

-- a message's place, its exchange, its routing key, and the names of its header fields
unfoldable pub has_bad_publish_names : List (List ℕ) → Bool
has_bad_publish_names ws =
    has_bad_place_and_name (word_at ws 1) (word_at ws 3) || is_bad_name (word_at ws 4)
    || list_any (is_bad_argument_name header_front) (drop 6 ws)

-- a name is too long, or no run name where it has to be one
unfoldable pub has_bad_names : Keyword → List (List ℕ) → Bool
has_bad_names Broker ws = is_bad_run_name (word_at ws 1)
has_bad_names Declare ws = has_bad_place_and_name (word_at ws 1) (word_at ws 4)
has_bad_names (Binding _) ws = has_bad_binding_names ws
has_bad_names Publish ws = has_bad_publish_names ws
has_bad_names Flush ws = is_bad_run_name (word_at ws 1)
has_bad_names Shovel ws = has_bad_shovel_names ws
has_bad_names Show ws = false
has_bad_names (Client action) ws = has_bad_client_names action ws
has_bad_names (Link _) ws = is_bad_link (word_at ws 1)

-- the words that are left are not the options of what a client does
unfoldable pub has_bad_client_option : ClientAction → List (List ℕ) → Bool
has_bad_client_option client.Consume ws = not (are_consumer_options (drop 5 ws))
has_bad_client_option client.Get ws = not (length ws == 4) && not (is_alone (codes "no-ack") (drop 4 ws))
has_bad_client_option _ ws = false

-- what is declared is no exchange of a type, or no queue, or words are left over
unfoldable pub has_bad_declare_option : List (List ℕ) → Bool
has_bad_declare_option ws =
    if same_text (word_at ws 3) (codes "exchange") then not (is_some (exchange_kind_of (word_at ws 5))) || not (are_exchange_options (drop 6 ws))
    else not (same_text (word_at ws 3) (codes "queue")) || not (are_built_queue_options (drop 5 ws))

-- a fixed word is none of its choices, words are left over, or an argument has no `=`
unfoldable pub has_bad_option : Keyword → List (List ℕ) → Bool
has_bad_option Declare ws = has_bad_declare_option ws
has_bad_option (Binding _) ws = not (is_some (sort_of (word_at ws 3))) || list_any (is_no_argument []) (drop 7 ws)
has_bad_option Publish ws = list_any (is_no_argument header_front) (header_words (drop 6 ws))
has_bad_option Shovel ws = not (same_text (word_at ws 7) (codes "on-confirm"))
has_bad_option (Client action) ws = has_bad_client_option action ws
has_bad_option _ ws = false

-- a shovel's queue has to have a name, and none that belongs to links (RabbitMQ, dynamic shovels: `src-queue`, `dest-queue`)
unfoldable pub is_bad_queue : List ℕ → Bool
is_bad_queue w = length (text_of w) == 0 || is_reserved (text_of w)

-- the body has at most 16,777,216 octets
unfoldable pub is_bad_body : List ℕ → Bool
is_bad_body w = nat_lt 16777216 (length (octets_of w))

abbrev pub has_bad_queues : List (List ℕ) → Bool
has_bad_queues ws = is_bad_queue (word_at ws 4) || is_bad_queue (word_at ws 6)

-- the most octets of a binding's arguments, with the four of their number
abbrev pub max_arguments : ℕ
max_arguments = 32768

-- a value is none, or the argument table of the binding is too long
unfoldable pub has_bad_arguments : List (List ℕ) → Bool
has_bad_arguments ws = list_any (is_bad_argument_value []) ws || nat_lt max_arguments (length (table_spelling (arguments_of [] ws)))

-- the arguments of a binding, where they are values and not too long
unfoldable pub arguments_within : List (List ℕ) → Option Pairs
arguments_within ws = if has_bad_arguments ws then None else Some (arguments_of [] ws)

-- the body, a value or the content header of the message is none or too long
unfoldable pub has_bad_message : List (List ℕ) → Bool
has_bad_message ws =
    is_bad_body (word_at ws 5) || list_any (is_bad_argument_value header_front) (header_words (drop 6 ws))
    || nat_lt max_header (length (header_spelling (length (octets_of (word_at ws 5))) (props_of ws)))

-- the message of a publication, where it has values and none is too long
unfoldable pub message_within : List (List ℕ) → Option Message
message_within ws = if has_bad_message ws then None else Some (message_of ws)

-- a value isn't one that its place takes
unfoldable pub has_bad_value : Keyword → List (List ℕ) → Bool
has_bad_value (Binding _) ws = has_bad_arguments (drop 7 ws)
has_bad_value Publish ws = has_bad_message ws
has_bad_value Shovel ws = has_bad_queues ws
has_bad_value _ ws = false

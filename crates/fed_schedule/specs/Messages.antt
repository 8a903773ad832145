-- The message of a publication (AMQP 0-9-1, basic.publish and the content that follows it).
use Rattle.std.specs.Prelude.{ℕ, List, Bool, ◌==◌, length, drop, Option, Some, None, if◌then◌else◌, codes}
use Rattle.field_tables.specs.Fields.{Pairs}
use Rattle.amqp_props.specs.declared.message.Message.{Message}
use Rattle.amqp_props.specs.declared.properties.Properties.{Properties}
use Rattle.fed_journal.specs.Names.{same_text}
use Rattle.fed_journal.specs.Messages.{properties}
use Rattle.schedule_words.specs.Words.{word_at, text_of, octets_of}
use Rattle.fed_schedule.specs.Options.{header_words}
use Rattle.schedule_words.specs.Values.{arguments_of}

-- a word of a header field begins so
abbrev pub header_front : List ℕ
header_front = codes "header="

-- a message without header fields has no headers (AMQP 0-9-1, class basic: headers)
unfoldable pub headers_of : List (List ℕ) → Option Pairs
headers_of ws = if length ws == 0 then None else Some (arguments_of header_front ws)

-- `persistent` sets the delivery mode
abbrev pub is_persistent : List (List ℕ) → Bool
is_persistent ws = same_text (word_at ws 6) (codes "persistent")

unfoldable pub props_of : List (List ℕ) → Properties
props_of ws = properties (is_persistent ws) (headers_of (header_words (drop 6 ws)))

-- `publish P C EXCHANGE KEY BODY [persistent] [header=NAME=VALUE]...`
unfoldable pub message_of : List (List ℕ) → Message
message_of ws = record {
  exchange = text_of (word_at ws 3);
  key = text_of (word_at ws 4);
  props = props_of ws;
  body = octets_of (word_at ws 5);
}

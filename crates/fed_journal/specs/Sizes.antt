-- How many octets messages have.
use Rattle.std.specs.Prelude.{ℕ, ◌+◌, ◌≤◌, List, length, sum_by}
use Rattle.amqp_props.specs.ContentHeader.{AreShort, header_spelling}
use Rattle.amqp_props.specs.declared.message.Message.{Message}
use Rattle.fed_journal.specs.declared.entry.Entry.{Entry}
use Rattle.fed_journal.specs.declared.entry.Entry.TheVariants.{Published}
use Rattle.fed_journal.specs.Limits.{most_body}

-- those of its body and those of its content header (AMQP 0-9-1, 4.2.6.1 "The Content Header")
abbrev pub message_bytes : Message → ℕ
message_bytes m = length m.body + length (header_spelling (length m.body) m.props)

-- the body is no longer than one may be, and the properties have a spelling (AMQP 0-9-1, 4.2.6.1)
pub record IsMessage (m : Message) : Type 0 where
  pub short : AreShort m.props
  pub body : length m.body ≤ most_body

abbrev pub entry_bytes : Entry → ℕ
entry_bytes (Published x) = message_bytes x.message
entry_bytes _ = 0

-- summed over the publications of a journal
unfoldable pub byte_count : List Entry → ℕ
byte_count J = sum_by entry_bytes J

abbrev pub IsSized : Entry → Type 0
IsSized (Published x) = IsMessage x.message
IsSized _ = Unit {0}

-- How a command ends, and what it says on the error sink.
use Rattle.std.specs.Prelude.{◌≡◌, ℕ, List, [], ◌++◌, ◌⊎◌, Bool, true, false, Option, codes}
use Rattle.std.specs.Fmt.{decimal}
use Rattle.fed_journal.specs.Words.{word}
use Rattle.fed_schedule.specs.declared.script.LineReason.{LineReason}
use Rattle.fed_schedule.specs.declared.script.LineReason.TheVariants as why
use Rattle.fed_outside.specs.Outside.{Rose, grown, GrownByPrefix, once_more}
use Rattle.fedrun_cli.specs.declared.ending.Ending.{Ending}
use Rattle.fedrun_cli.specs.declared.ending.Ending.TheVariants.{Done, Memory, Usage, Line, Events, ReadFault, WriteFault, FileTooLong, Places, Limit, Report, Absent}
use Rattle.fedrun_cli.specs.declared.ending.RunLimit.{RunLimit}
use Rattle.fedrun_cli.specs.declared.ending.RunLimit.TheVariants.{Links, Entries, Bytes}

-- the exit status
abbrev pub status_of : Ending → ℕ
status_of Done = 0
status_of Memory = 1
status_of Usage = 2
status_of (Line line reason) = 4
status_of (Events line) = 7
status_of ReadFault = 5
status_of WriteFault = 6
status_of FileTooLong = 7
status_of Places = 7
status_of (Limit line limit) = 7
status_of Report = 7
status_of Absent = 8

unfoldable pub line_reason_word : LineReason → List ℕ
line_reason_word why.Text = codes "text"
line_reason_word why.Word = codes "word"
line_reason_word why.Order = codes "order"
line_reason_word why.Count = codes "count"
line_reason_word why.Escape = codes "escape"
line_reason_word why.Number = codes "number"
line_reason_word why.Name = codes "name"
line_reason_word why.Twice = codes "twice"
line_reason_word why.Option = codes "option"
line_reason_word why.Value = codes "value"
line_reason_word why.Times = codes "times"
line_reason_word why.Events = codes "events"

abbrev pub word_line : List ℕ → List ℕ → List ℕ
word_line start name = start ++ word name ++ codes "\n"

abbrev pub fault_line : List ℕ → ℕ → LineReason → List ℕ
fault_line start line reason = start ++ decimal line ++ codes " " ++ line_reason_word reason ++ codes "\n"

abbrev pub events_line : List ℕ → ℕ → List ℕ
events_line start line = start ++ decimal line ++ codes "\n"

unfoldable pub limit_word : RunLimit → List ℕ
limit_word Links = codes "links"
limit_word Entries = codes "entries"
limit_word Bytes = codes "bytes"

abbrev pub limit_line : List ℕ → RunLimit → List ℕ → ℕ → List ℕ
limit_line start limit middle line = start ++ limit_word limit ++ middle ++ decimal line ++ codes "\n"

-- the line of each ending, where FILE is printed as a word
unfoldable pub error_line : Ending → List ℕ → List ℕ
error_line Done file = []
error_line Memory file = codes "fedrun: memory\n"
error_line Usage file = codes "fedrun: usage\n"
error_line (Line line reason) file = fault_line (codes "fedrun: schedule line ") line reason
error_line (Events line) file = events_line (codes "fedrun: limit events line ") line
error_line ReadFault file = word_line (codes "fedrun: read fault ") file
error_line WriteFault file = codes "fedrun: write fault\n"
error_line FileTooLong file = word_line (codes "fedrun: limit file ") file
error_line Places file = codes "fedrun: limit places\n"
error_line (Limit line limit) file = limit_line (codes "fedrun: limit ") limit (codes " line ") line
error_line Report file = codes "fedrun: limit report\n"
error_line Absent file = word_line (codes "fedrun: absent ") file

-- A sink took the whole of the octets, or a prefix of them where its own count rose.
abbrev pub Took : Option (List ℕ) → Option (List ℕ) → ℕ → ℕ → List ℕ → Type 0
Took before now faults_before faults_now octets = (now ≡ grown before octets) ⊎ (GrownByPrefix before now octets × Rose faults_before faults_now)

-- what a sink tells of itself: its octets, and its counts of puts and of faults
pub record SinkView : Type 0 where
  pub told : Option (List ℕ)
  pub puts : Option ℕ
  pub faults : ℕ

-- The sink was given these octets in one put.
abbrev pub PutOnce : SinkView → SinkView → List ℕ → Type 0
PutOnce before now octets = Took before.told now.told before.faults now.faults octets × (now.puts ≡ once_more before.puts)

abbrev pub is_done : Ending → Bool
is_done Done = true
is_done _ = false

-- Nothing is put into the error sink where the command is done, and else the line of its ending, in one put.
abbrev pub Says : Ending → List ℕ → SinkView → SinkView → Type 0
Says ending file before now = (is_done ending ≡ true → now ≡ before) × (is_done ending ≡ false → PutOnce before now (error_line ending file))

-- an ending whose line has to be made in memory first
abbrev pub needs_memory : Ending → Bool
needs_memory Done = false
needs_memory Memory = false
needs_memory Usage = false
needs_memory WriteFault = false
needs_memory _ = true

-- The ending stays, unless its line needs memory and memory is wanting.
abbrev pub Stands : Ending → Ending → Type 0
Stands ending result = (result ≡ ending) ⊎ ((needs_memory ending ≡ true) × (result ≡ Memory))

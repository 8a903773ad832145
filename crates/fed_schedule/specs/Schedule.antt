-- A schedule: the lines of a file, each read after those before it.
use Rattle.std.specs.Prelude.{ℕ, ◌+◌, ◌-◌, List, [], ◌∷◌, ◌++◌, Bool, not, ◌&&◌, ◌||◌, if◌then◌else◌, ◌==◌, nat_lt, length, take, replicate, slice_index, Option, Some, None, Result, Ok, Err, All}
use Rattle.std.specs.List.{list_any, list_all}
use Rattle.fed_journal.specs.declared.event.Event.{Event}
use Rattle.fed_journal.specs.Events.{IsWritable}
use Rattle.fed_journal.specs.Names.{same_text}
use Rattle.fed_schedule.specs.declared.keyword.Keyword.{Keyword}
use Rattle.fed_schedule.specs.declared.shovels.ShovelKey.{ShovelKey}
use Rattle.fed_schedule.specs.declared.script.Script.{Script}
use Rattle.fed_schedule.specs.declared.script.LineReason.{LineReason}
use Rattle.fed_schedule.specs.declared.script.LineReason.TheVariants as why
use Rattle.fed_schedule.specs.declared.script.ScheduleFault.{ScheduleFault}
use Rattle.fed_schedule.specs.declared.script.ScheduleFault.TheVariants.{Line}
use Rattle.fed_schedule.specs.declared.statement.Statement.{Statement}
use Rattle.fed_schedule.specs.declared.statement.Statement.TheVariants as states
use Rattle.schedule_words.specs.Words.{pieces_of, words_of, word_at, is_well_escaped}
use Rattle.fed_schedule.specs.Times.{head_of, line_of, is_head, is_bad_head, count_of, is_single}
use Rattle.fed_schedule.specs.Forms.{with_shovel, keyword_of, are_texts, is_unbuilt, is_empty_word, is_miscounted}
use Rattle.fed_schedule.specs.Reasons.{is_late, has_bad_number, has_bad_names, has_bad_option, has_bad_value}
use Rattle.fed_schedule.specs.Statements.{statement_of}

-- the brokers of a run and its events, each with the number of its line
pub record Reading : Type 0 where
  pub brokers : List (List ℕ)
  pub events : List (ℕ × Event)

-- the script as lists
abbrev pub reading_of : Script → Reading
reading_of s = record { brokers = s.brokers.items; events = s.events.items }

-- what is kept while the lines are read: the same, and the shovels that the events set
pub record State : Type 0 where
  pub brokers : List (List ℕ)
  pub events : List (ℕ × Event)
  pub shovels : List ShovelKey

-- the script that is read so far, and these shovels
abbrev pub state_of : Script → List ShovelKey → State
state_of s ks = record { brokers = s.brokers.items; events = s.events.items; shovels = ks }

-- what each event carries has a spelling on the wire
abbrev pub AreWritable : List (ℕ × Event) → Type 0
AreWritable es = All (λ e. IsWritable e.1) es

-- the same of what a line states
abbrev pub IsWritableStatement : Statement → Type 0
IsWritableStatement (states.Broker name) = Unit {0}
IsWritableStatement (states.Event e) = IsWritable e

-- the lines end with line feeds, which the last may lack
unfoldable pub lines_of : List ℕ → List (List ℕ)
lines_of bytes = pieces_of 10 bytes

-- one carriage return before the end of a line is dropped
unfoldable pub without_return : List ℕ → List ℕ
without_return l = if not (length l == 0) && slice_index l (length l - 1) == 13 then take (length l - 1) l else l

-- empty lines and comments
unfoldable pub is_passed_over : List ℕ → Bool
is_passed_over l = length l == 0 || slice_index l 0 == 35

-- each `%` of the line stands before two hexadecimal digits
abbrev pub are_escaped : List (List ℕ) → List (List ℕ) → Bool
are_escaped head ws = list_all is_well_escaped head && list_all is_well_escaped ws

-- the first reason against a line that can't be repeated
unfoldable pub single_reason : List (List ℕ) → List (List ℕ) → LineReason
single_reason head ws =
    if list_any is_empty_word head || list_any is_empty_word ws then why.Count else
    if not (are_escaped head ws) then why.Escape else
    if is_bad_head head then why.Number else why.Times

-- the first reason of those that are judged once the form is known and before what its words stand for, of a line and what stands before it
unfoldable pub reason_of : State → Keyword → List (List ℕ) → List (List ℕ) → Option LineReason
reason_of r k head ws =
    if is_unbuilt r.shovels k head ws then Some why.Word else
    if is_late (not (length r.events == 0)) k then Some why.Order else
    if list_any is_empty_word head || is_miscounted k ws then Some why.Count else
    if not (are_escaped head ws) then Some why.Escape else
    if is_bad_head head then Some why.Number else None

-- what the words of a form state, or the first reason of those that they give: a number, a name, an option or a value is none
unfoldable pub form_read : Keyword → List (List ℕ) → Result Statement LineReason
form_read k ws =
    if has_bad_number k ws then Err why.Number else
    if has_bad_names k ws then Err why.Name else
    if has_bad_option k ws then Err why.Option else
    if has_bad_value k ws then Err why.Value else Ok (statement_of k ws)

abbrev pub unless_refused : Option LineReason → Result Statement LineReason → Result Statement LineReason
unless_refused None read = read
unless_refused (Some reason) read = Err reason

abbrev pub of_form : State → List (List ℕ) → List (List ℕ) → Option Keyword → Result Statement LineReason
of_form r head ws None = Err why.Word
of_form r head ws (Some k) = unless_refused (reason_of r k head ws) (form_read k ws)

-- what a line states, or the first reason that refuses it and what stands before it; `times` wants a line
unfoldable pub of_line : State → List (List ℕ) → List (List ℕ) → Result Statement LineReason
of_line r head ws =
    if length ws == 0 then Err why.Count else
    if is_head head && is_single (word_at ws 0) then Err (single_reason head ws) else of_form r head ws (keyword_of (word_at ws 0))

-- what the words state after a part of a schedule, or the first reason that refuses them
unfoldable pub judge : State → List (List ℕ) → Result Statement LineReason
judge r ws = if not (are_texts ws) then Err why.Text else of_line r (head_of ws) (line_of ws)

-- the most events of a schedule
abbrev pub max_events : ℕ
max_events = 100000

-- the events, and so many of one line more
unfoldable pub with_events : ℕ → State → ℕ → Event → Result State ScheduleFault
with_events n r count e =
    if nat_lt max_events (length r.events + count) then Err (Line n why.Events)
    else Ok (record { brokers = r.brokers; events = r.events ++ replicate count (n, e); shovels = with_shovel r.shovels e })

-- the brokers, and one more, unless its name is taken. A broker's line has no word that a later reason could refuse.
unfoldable pub with_broker : ℕ → State → List ℕ → Result State ScheduleFault
with_broker n r name =
    if list_any (same_text name) r.brokers then Err (Line n why.Twice)
    else Ok (record { brokers = r.brokers ++ name ∷ []; events = r.events; shovels = r.shovels })

-- a part of a schedule, with one statement more, or so many of an event
abbrev pub with_statement : ℕ → State → ℕ → Result Statement LineReason → Result State ScheduleFault
with_statement n r count (Ok (states.Broker name)) = with_broker n r name
with_statement n r count (Ok (states.Event event)) = with_events n r count event
with_statement n r count (Err reason) = Err (Line n reason)

-- the same of a line's words
abbrev pub with_words : ℕ → State → List (List ℕ) → Result State ScheduleFault
with_words n r ws = with_statement n r (count_of (head_of ws)) (judge r ws)

-- a part of a schedule, with its line n more
unfoldable pub with_line : ℕ → State → List ℕ → Result State ScheduleFault
with_line n r l =
    if is_passed_over (without_return l) then Ok r
    else with_words n r (words_of (without_return l))

-- the lines from line n on, after a part of a schedule: the first that is refused refuses all
unfoldable pub with_lines : ℕ → Result State ScheduleFault → List (List ℕ) → Result State ScheduleFault
with_lines n (Err fault) ls = Err fault
with_lines n (Ok r) [] = Ok r
with_lines n (Ok r) (l ∷ ls) = with_lines (n + 1) (with_line n r l) ls

-- what was read, without what only the reader needs
abbrev pub script_read : Result State ScheduleFault → Result Reading ScheduleFault
script_read (Ok s) = Ok (record { brokers = s.brokers; events = s.events })
script_read (Err fault) = Err fault

-- what the lines say one after the other, from nothing on
unfoldable pub lines_read : List (List ℕ) → Result State ScheduleFault
lines_read ls = with_lines 1 (Ok (record { brokers = []; events = []; shovels = [] })) ls

-- the script that a file's octets spell, or where and why they spell none
unfoldable pub reading : List ℕ → Result Reading ScheduleFault
reading bytes = script_read (lines_read (lines_of bytes))

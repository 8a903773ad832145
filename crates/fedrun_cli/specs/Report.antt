-- What a run prints.
use Rattle.std.specs.Prelude.{◌≡◌, ℕ, ◌+◌, ◌-◌, ◌<◌, if◌then◌else◌, nat_lt, List, [], ◌∷◌, ◌++◌, length, sum_by, flat_map, Option, Some, None, Ok, Err, codes}
use Rattle.std.specs.Fmt.{decimal}
use Rattle.fed_journal.specs.declared.entry.Entry.{Entry}
use Rattle.fed_journal.specs.declared.event.Event.{Event}
use Rattle.fed_journal.specs.declared.event.Event.TheVariants.{Show}
use Rattle.fed_journal.specs.declared.reason.Reason.{Reason}
use Rattle.fed_journal.specs.declared.reason.Reason.TheVariants.{NoPlace, NoLink, NoBroker, NameTooLong, NoSource, Full, Live, NotOpen, Empty, Unsecured, NoConsumer, Busy, NotHeld, Refused}
use Rattle.fed_world.specs.declared.reason.StepFault.{StepFault}
use Rattle.fed_world.specs.Limits.{limit_passed}
use Rattle.fed_journal.specs.Row.{Row}
use Rattle.fed_world.specs.Run.{Moment, run}
use Rattle.fed_status.specs.Listing.{listing}
use Rattle.fed_world.specs.declared.reason.StepFault.TheVariants as faults
use Rattle.fedrun_cli.specs.declared.ending.Ending.{Ending}
use Rattle.fedrun_cli.specs.declared.ending.Ending.TheVariants.{Memory, Limit, Report}
use Rattle.fedrun_cli.specs.declared.ending.RunLimit.{RunLimit}
use Rattle.fedrun_cli.specs.declared.ending.RunLimit.TheVariants.{Links, Entries, Bytes}

-- a reason in a word
unfoldable pub reason_word : Reason → List ℕ
reason_word NoPlace = codes "no-place"
reason_word NoLink = codes "no-link"
reason_word NoBroker = codes "no-broker"
reason_word NameTooLong = codes "name-too-long"
reason_word NoSource = codes "no-source"
reason_word Full = codes "full"
reason_word Live = codes "live"
reason_word NotOpen = codes "not-open"
reason_word Empty = codes "empty"
reason_word Unsecured = codes "unsecured"
reason_word NoConsumer = codes "no-consumer"
reason_word Busy = codes "busy"
reason_word NotHeld = codes "not-held"
reason_word (Refused code) = codes "refused-" ++ decimal code

unfoldable pub not_now_line : ℕ → Reason → List ℕ
not_now_line line reason = decimal line ++ codes " not-now " ++ reason_word reason ++ codes "\n"

-- a listing in the midst of a run
unfoldable pub show_lines : ℕ → List Entry → List ℕ
show_lines line J = codes "show " ++ decimal line ++ codes "\n" ++ listing J

abbrev pub shown : ℕ → List Entry → Event → List ℕ
shown line J Show = show_lines line J
shown line J _ = []

abbrev pub told : ℕ → List Entry → Event → Row → List ℕ
told line J event (Ok entries) = shown line J event
told line J event (Err reason) = not_now_line line reason

-- an event prints why it didn't happen; `show` prints the listing; any other prints nothing
unfoldable pub moment_text : Moment → List ℕ
moment_text m = told m.line m.journal m.event m.row

abbrev pub done_by : Row → ℕ
done_by (Ok entries) = 1
done_by (Err reason) = 0

-- 1 if the event happened
abbrev pub done_at : Moment → ℕ
done_at m = done_by m.row

-- the journal after the last moment
abbrev pub last_journal : List Entry → List Moment → List Entry
last_journal J [] = J
last_journal J (m ∷ ms) = last_journal m.journal ms

-- the line of the first event that would pass a limit, and that limit
abbrev pub limit_or : ℕ → Option StepFault → Option (ℕ × StepFault) → Option (ℕ × StepFault)
limit_or line (Some limit) rest = Some (line, limit)
limit_or line None rest = rest

abbrev pub first_limit : List Moment → List Entry → Option (ℕ × StepFault)
first_limit [] J = None
first_limit (m ∷ ms) J = limit_or m.line (limit_passed J m.row) (first_limit ms m.journal)

-- how many events there were, how many happened and how many didn't, and how many entries the journal has
unfoldable pub summary_line : ℕ → ℕ → ℕ → List ℕ
summary_line events done entries =
    codes "events " ++ decimal events ++ codes " done " ++ decimal done ++ codes " not-now " ++ decimal (events - done)
    ++ codes " entries " ++ decimal entries ++ codes "\n"

-- the listing of the end and the summary
unfoldable pub end_text : List Entry → ℕ → ℕ → List ℕ
end_text J events done = codes "end\n" ++ listing J ++ summary_line events done (length J)

-- the lines of the events, then the end
abbrev pub report_of : List Entry → ℕ → List Moment → List ℕ
report_of J events ms = flat_map moment_text ms ++ end_text (last_journal J ms) events (sum_by done_at ms)

unfoldable pub report : List Entry → List (ℕ × Event) → List ℕ
report J events = report_of J (length events) (run J events)

-- ---- a report that may get too long

-- a piece of an output: its text, or nothing where no output has room for it
abbrev pub IsPiece : Option (List ℕ) → List ℕ → Type 0
IsPiece None text = 67108864 < length text
IsPiece (Some piece) text = piece ≡ text

-- an output with a piece more; none once it is too long
abbrev pub joined : Option (List ℕ) → List ℕ → Option (List ℕ)
joined None piece = None
joined (Some text) piece = if nat_lt 67108864 (length text + length piece) then None else Some (text ++ piece)

-- an output with what these moments print
abbrev pub told_run : Option (List ℕ) → List Moment → Option (List ℕ)
told_run output [] = output
told_run output (m ∷ ms) = told_run (joined output (moment_text m)) ms

-- the output of a run with its end
unfoldable pub ended : List Entry → List (ℕ × Event) → Option (List ℕ)
ended J events =
    joined (told_run (Some []) (run J events)) (end_text (last_journal J (run J events)) (length events) (sum_by done_at (run J events)))

-- ---- how a run without a report ends

abbrev pub fault_named : RunLimit → StepFault
fault_named Links = faults.Links
fault_named Entries = faults.Entries
fault_named Bytes = faults.Bytes

-- where this is the first limit that the run passes
abbrev pub Stops : Option (ℕ × StepFault) → Ending → Type 0
Stops first Memory = Unit {0}
Stops first (Limit line limit) = first ≡ Some (line, fault_named limit)
Stops first _ = ⊥

abbrev pub ReportEnds : List Entry → List (ℕ × Event) → Ending → Type 0
ReportEnds J events Report = (first_limit (run J events) J ≡ None) × (67108864 < length (report J events))
ReportEnds J events ending = Stops (first_limit (run J events) J) ending

-- the same, where the output was joined piece by piece
abbrev pub JoinEnds : List Entry → List (ℕ × Event) → Ending → Type 0
JoinEnds J events Report = (first_limit (run J events) J ≡ None) × (ended J events ≡ None)
JoinEnds J events ending = Stops (first_limit (run J events) J) ending

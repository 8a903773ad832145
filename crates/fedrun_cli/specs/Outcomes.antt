-- Why a run ended as it did: what of the file, the counts of faults and the output shows it.
use Rattle.std.specs.Prelude.{◌≡◌, ℕ, ◌<◌, ◌≤◌, List, length, Option, Some, None, Ok, Err}
use Rattle.fed_schedule.specs.declared.script.ScheduleFault.TheVariants as fault
use Rattle.fed_schedule.specs.declared.script.LineReason.{LineReason}
use Rattle.fed_schedule.specs.declared.script.LineReason.TheVariants as why
use Rattle.fed_schedule.specs.Schedule.{Reading, reading}
use Rattle.fed_outside.specs.Outside.{Rose, grown, GrownByPrefix, once_more}
use Rattle.fed_world.specs.Run.{begin, run}
use Rattle.fed_world.specs.Kept.{IsKept}
use Rattle.fedrun_cli.specs.declared.ending.Ending.{Ending}
use Rattle.fedrun_cli.specs.declared.ending.Ending.TheVariants.{Done, Memory, Usage, Line, Events, ReadFault, WriteFault, FileTooLong, Places, Limit, Report, Absent}
use Rattle.fedrun_cli.specs.declared.ending.RunLimit.{RunLimit}
use Rattle.fed_world.specs.declared.reason.StepFault.{StepFault}
use Rattle.fedrun_cli.specs.Endings.{SinkView}
use Rattle.fedrun_cli.specs.Report.{fault_named, first_limit, report}

-- a shelf's files, where it tells them
abbrev pub Files : Type 0
Files = Option (List ℕ → Option (List ℕ))

-- what a shelf tells of itself: its files, the names that loads asked for, and its count of faults
pub record ShelfView : Type 0 where
  pub files : Files
  pub asked : Option (List (List ℕ))
  pub faults : ℕ

-- Where the shelf tells its files, this one is there, and its content is so.
abbrev pub HasFile : Files → List ℕ → (List ℕ → Type 0) → Type 0
HasFile None name P = Unit {0}
HasFile (Some files) name P = (content : List ℕ) × (files name ≡ Some content) × P content

-- The same of a file that isn't longer than a schedule's file may be.
abbrev pub HasRead : Files → List ℕ → (List ℕ → Type 0) → Type 0
HasRead files name P = HasFile files name (λ content. (length content ≤ 67108864) × P content)

-- Where the shelf tells its files, there is none of this name.
abbrev pub LacksFile : Files → List ℕ → Type 0
LacksFile None name = Unit {0}
LacksFile (Some files) name = files name ≡ None

-- the whole output of the run that a schedule spells
abbrev pub output : Reading → List ℕ
output r = report (begin r.brokers) r.events

-- nothing takes a stored message out of its queue in the run that a schedule spells, and its links remove only what their
-- targets have stored or released
abbrev pub IsKeptRun : Reading → Type 0
IsKeptRun r = IsKept (begin r.brokers) (run (begin r.brokers) r.events)

-- the first limit that the run would pass, if it passes one
abbrev pub limit_in : Reading → Option (ℕ × StepFault)
limit_in r = first_limit (run (begin r.brokers) r.events) (begin r.brokers)

-- The run that a schedule spells is kept, and passes no limit; nor does its output.
abbrev pub IsWhole : Reading → Type 0
IsWhole r = IsKeptRun r × (length r.brokers ≤ 64) × (limit_in r ≡ None) × (length (output r) ≤ 67108864)

-- The content spells a schedule, whose run passes no limit and is kept; its output went out whole.
abbrev pub IsReported : Option (List ℕ) → Option (List ℕ) → List ℕ → Type 0
IsReported before now content = (r : Reading) × (reading content ≡ Ok r) × (now ≡ grown before (output r)) × IsWhole r

-- The content spells a schedule, whose run passes no limit and is kept; a prefix of its output went out.
abbrev pub IsCutShort : Option (List ℕ) → Option (List ℕ) → List ℕ → Type 0
IsCutShort before now content = (r : Reading) × (reading content ≡ Ok r) × GrownByPrefix before now (output r) × IsWhole r

-- The content spells a schedule, whose run's first event past a limit is that of the line, and passes this one.
abbrev pub IsLimited : ℕ → RunLimit → List ℕ → Type 0
IsLimited line limit content =
    (r : Reading) × (reading content ≡ Ok r) × (length r.brokers ≤ 64) × (limit_in r ≡ Some (line, fault_named limit))

-- The content spells a schedule, whose run passes no limit and has too long an output.
abbrev pub HasLongReport : List ℕ → Type 0
HasLongReport content =
    (r : Reading) × (reading content ≡ Ok r) × (length r.brokers ≤ 64) × (limit_in r ≡ None) × (67108864 < length (output r))

-- a reason why a line is refused; too many events are a limit and no such reason
abbrev pub IsReason : LineReason → Type 0
IsReason why.Events = ⊥
IsReason _ = Unit {0}

-- The content's first refused line is this one, for this reason.
abbrev pub IsRefused : ℕ → LineReason → List ℕ → Type 0
IsRefused line reason content = (reading content ≡ Err (fault.Line line reason)) × IsReason reason

-- The line holds or repeats the event past the most that a schedule may have.
abbrev pub HasManyEvents : ℕ → List ℕ → Type 0
HasManyEvents line content = reading content ≡ Err (fault.Line line why.Events)

abbrev pub HasManyPlaces : List ℕ → Type 0
HasManyPlaces content = (r : Reading) × (reading content ≡ Ok r) × (64 < length r.brokers)

-- what a load that gave no content shows
abbrev pub LoadEnds : Files → List ℕ → ℕ → ℕ → Ending → Type 0
LoadEnds files name before now Memory = Unit {0}
LoadEnds files name before now ReadFault = Rose before now
LoadEnds files name before now FileTooLong = HasFile files name (λ content. 67108864 < length content)
LoadEnds files name before now Absent = LacksFile files name
LoadEnds files name before now _ = ⊥

-- what a content without a report shows
abbrev pub ReadEnds : List ℕ → Ending → Type 0
ReadEnds content Memory = Unit {0}
ReadEnds content (Line line reason) = IsRefused line reason content
ReadEnds content (Events line) = HasManyEvents line content
ReadEnds content Places = HasManyPlaces content
ReadEnds content (Limit line limit) = IsLimited line limit content
ReadEnds content Report = HasLongReport content
ReadEnds content _ = ⊥

-- What each ending of a run shows of the shelf and of `out`: `Done` that the output grew by the report in one put, `WriteFault`
-- that the sink's count rose in its one put, and any other that `out` is as it was.
abbrev pub Explains : List ℕ → ShelfView → ShelfView → SinkView → SinkView → Ending → Type 0
Explains name shelf shelf' out out' Done = HasRead shelf.files name (IsReported out.told out'.told) × (out'.puts ≡ once_more out.puts)
Explains name shelf shelf' out out' WriteFault =
    HasRead shelf.files name (IsCutShort out.told out'.told) × Rose out.faults out'.faults × (out'.puts ≡ once_more out.puts)
Explains name shelf shelf' out out' Memory = out' ≡ out
Explains name shelf shelf' out out' ReadFault = Rose shelf.faults shelf'.faults × (out' ≡ out)
Explains name shelf shelf' out out' FileTooLong = HasFile shelf.files name (λ content. 67108864 < length content) × (out' ≡ out)
Explains name shelf shelf' out out' Absent = LacksFile shelf.files name × (out' ≡ out)
Explains name shelf shelf' out out' (Line line reason) = HasRead shelf.files name (IsRefused line reason) × (out' ≡ out)
Explains name shelf shelf' out out' (Events line) = HasRead shelf.files name (HasManyEvents line) × (out' ≡ out)
Explains name shelf shelf' out out' Places = HasRead shelf.files name HasManyPlaces × (out' ≡ out)
Explains name shelf shelf' out out' (Limit line limit) = HasRead shelf.files name (IsLimited line limit) × (out' ≡ out)
Explains name shelf shelf' out out' Report = HasRead shelf.files name HasLongReport × (out' ≡ out)
Explains name shelf shelf' out out' Usage = ⊥

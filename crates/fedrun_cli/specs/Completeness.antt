-- When a run ends well, or for want of memory alone.
use Rattle.std.specs.Prelude.{◌≡◌, ℕ, ◌≤◌, ◌⊎◌, List, length, Option, Some, None, Ok}
use Rattle.fed_schedule.specs.Schedule.{Reading, reading}
use Rattle.fed_outside.specs.Outside.{Rose}
use Rattle.fedrun_cli.specs.Ends.{Outside}
use Rattle.fedrun_cli.specs.Outcomes.{Files, output, limit_in}

-- The content spells a schedule, and neither it nor its run nor its report passes a limit.
pub record IsAccepted (content : List ℕ) : Type 0 where
  pub script : Reading
  pub spelled : reading content ≡ Ok script
  pub size : length content ≤ 67108864
  pub places : length script.brokers ≤ 64
  pub limits : limit_in script ≡ None
  pub report : length (output script) ≤ 67108864

-- The shelf tells its files, and this one is accepted.
abbrev pub HasAccepted : Files → List ℕ → Type 0
HasAccepted None name = ⊥
HasAccepted (Some files) name = (content : List ℕ) × (files name ≡ Some content) × IsAccepted content

-- Where the file is accepted and no count of faults rose, the status is 0, or 1 for want of memory.
abbrev pub IsComplete : List ℕ → Outside → Outside → ℕ → Type 0
IsComplete schedule before now status =
    HasAccepted before.shelf.files schedule
    → (Rose before.shelf.faults now.shelf.faults → ⊥) → (Rose before.out.faults now.out.faults → ⊥)
    → (status ≡ 0) ⊎ (status ≡ 1)

-- so for the schedule that words ask for
abbrev pub AskedIsComplete : Option (List ℕ) → Outside → Outside → ℕ → Type 0
AskedIsComplete None before now status = Unit {0}
AskedIsComplete (Some schedule) before now status = IsComplete schedule before now status

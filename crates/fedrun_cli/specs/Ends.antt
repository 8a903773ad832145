-- How a command ended, all told.
use Rattle.std.specs.Prelude.{◌≡◌, ℕ, List, Option, Some, None, codes}
use Rattle.fed_outside.specs.Outside.{with_name}
use Rattle.fedrun_cli.specs.declared.ending.Ending.{Ending}
use Rattle.fedrun_cli.specs.Endings.{status_of, SinkView, PutOnce, Says}
use Rattle.fedrun_cli.specs.Outcomes.{ShelfView, Explains}

-- what the outside tells of itself: the shelf, `out` and `err`
pub record Outside : Type 0 where
  pub shelf : ShelfView
  pub out : SinkView
  pub err : SinkView

-- A run of this schedule ended with the status: there is an ending of that status, which file, counts and output explain, and
-- its line went to `err`, or a prefix of it where the count of `err` rose. The schedule's file alone was asked for, once.
pub record EndsRun (schedule : List ℕ) (before now : Outside) (status : ℕ) : Type 0 where
  pub ending : Ending
  pub status_is : status ≡ status_of ending
  pub explained : Explains schedule before.shelf now.shelf before.out now.out ending
  pub said : Says ending schedule before.err now.err
  pub asked : now.shelf.asked ≡ with_name before.shelf.asked schedule
  pub files : now.shelf.files ≡ before.shelf.files

-- Words that ask for no command are usage: nothing is loaded or put but the line on `err`.
pub record EndsUsage (before now : Outside) (status : ℕ) : Type 0 where
  pub status_is : status ≡ 2
  pub shelf_stays : now.shelf ≡ before.shelf
  pub out_stays : now.out ≡ before.out
  pub said : PutOnce before.err now.err (codes "fedrun: usage\n")

-- a call ends as the schedule that its words ask for, if they ask for one
abbrev pub EndsAsked : Option (List ℕ) → Outside → Outside → ℕ → Type 0
EndsAsked None before now status = EndsUsage before now status
EndsAsked (Some schedule) before now status = EndsRun schedule before now status

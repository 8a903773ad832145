-- What every journal of a run keeps, so that its numbers fit their types and it stays within the limits.
use Rattle.std.specs.Prelude.{ℕ, ◌≤◌, List, length, All}
use Rattle.fed_journal.specs.declared.entry.Entry.{Entry}
use Rattle.fed_journal.specs.Limits.{most_entries, most_links}
use Rattle.fed_journal.specs.Copies.{IsFitting}
use Rattle.fed_journal.specs.Links.{links_of}
use Rattle.fed_journal.specs.Sizes.{IsSized}
use Rattle.fed_journal.specs.Phases.{session}

-- a sound journal: its numbers fit their types, its messages are within bounds, and it is within the limits of a run
pub record IsSound (J : List Entry) : Type 0 where
  pub within : length J ≤ most_entries
  pub numbered : All IsFitting J
  pub sized : All IsSized J
  pub links : length (links_of J) ≤ most_links
  pub sessions : (l : List ℕ) → session J l ≤ length J

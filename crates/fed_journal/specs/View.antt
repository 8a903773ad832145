-- What contracts see of a journal.
use Rattle.std.specs.Prelude.{ℕ, List}
use Rattle.fed_journal.specs.declared.entry.Entry.{Entry}

-- the entries, oldest first, and how many more have their room
pub record View : Type 0 where
  pub entries : List Entry
  pub room : ℕ

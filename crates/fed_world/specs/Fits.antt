-- What each entry of a row keeps, so that every journal of a run is sound.
use Rattle.std.specs.Prelude.{◌+◌, ◌≤◌, ◌<◌, ◌^◌, List, [], ◌∷◌, ◌++◌, length, Ok, Err}
use Rattle.field_tables.specs.Tables.{IsTable}
use Rattle.fed_journal.specs.declared.entry.Entry.{Entry}
use Rattle.fed_journal.specs.declared.entry.Entry.TheVariants.{Published, Bound, Opened}
use Rattle.fed_journal.specs.Sizes.{IsMessage}
use Rattle.broker_view.specs.Suits.{EachSuits}
use Rattle.fed_journal.specs.Row.{Row}

-- the numbers that the entry brings fit their types, its message is one that can be sent, and its arguments are a field table
abbrev pub FitsEntry : List Entry → Entry → Type 0
FitsEntry J (Published x) = (x.first + length x.queues < 2 ^ 64) × IsMessage x.message
FitsEntry J (Bound p b) = IsTable b.args
FitsEntry J (Opened l s r) = s ≤ length J + 1
FitsEntry J _ = Unit {0}

-- one entry after another
abbrev pub EachFits : List Entry → List Entry → Type 0
EachFits J [] = Unit {0}
EachFits J (e ∷ es) = FitsEntry J e × EachFits (J ++ e ∷ []) es

abbrev pub RowFits : List Entry → Row → Type 0
RowFits J (Ok entries) = EachFits J entries
RowFits J (Err reason) = Unit {0}

-- a row suits the journal: what each of its entries needs is in the journal before it
abbrev pub RowSuits : List Entry → Row → Type 0
RowSuits J (Ok entries) = EachSuits J entries
RowSuits J (Err reason) = Unit {0}

-- A row as the program holds it.
use Rattle.std.specs.Prelude.{Result, Ok, Err, Vec}
use Rattle.std.specs.declared.alloc.Global.{Global}
use Rattle.fed_journal.specs.declared.entry.Entry.{Entry}
use Rattle.fed_journal.specs.declared.reason.Reason.{Reason}
use Rattle.fed_journal.specs.Row.{Row}

-- its entries as a list
abbrev pub row_of : Result (Vec Entry Global) Reason → Row
row_of (Ok entries) = Ok entries.items
row_of (Err reason) = Err reason

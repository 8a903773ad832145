-- The limits of a run.
use Rattle.std.specs.Prelude.{ℕ, ◌+◌, List, ◌++◌, Bool, true, false, if◌then◌else◌, nat_lt, length, count_by, Option, Some, None, Ok, Err}
use Rattle.fed_journal.specs.declared.entry.Entry.{Entry}
use Rattle.fed_journal.specs.declared.entry.Entry.TheVariants.{Begun, ShovelSet}
use Rattle.fed_journal.specs.Names.{same_text}
use Rattle.fed_journal.specs.Limits.{most_entries, most_bytes, most_links}
use Rattle.fed_journal.specs.Links.{links_of}
use Rattle.fed_journal.specs.Sizes.{byte_count}
use Rattle.fed_world.specs.declared.reason.StepFault.{StepFault}
use Rattle.fed_world.specs.declared.reason.StepFault.TheVariants.{Links, Entries, Bytes}
use Rattle.fed_journal.specs.Row.{Row}

-- the limit that the journal would pass with these entries: first that of links in the configuration then, then that of entries, then that of octets of messages
abbrev pub limit_of : List Entry → List Entry → Option StepFault
limit_of J entries =
    if nat_lt most_links (length (links_of (J ++ entries))) then Some Links else
    if nat_lt most_entries (length J + length entries) then Some Entries else
    if nat_lt most_bytes (byte_count J + byte_count entries) then Some Bytes else None

-- an event that doesn't happen passes none
abbrev pub limit_passed : List Entry → Row → Option StepFault
limit_passed J (Ok entries) = limit_of J entries
limit_passed J (Err reason) = None

-- ---- how many links there are

-- a shovel of the broker is set
abbrev pub sets_at : List ℕ → Entry → Bool
sets_at b (ShovelSet place name shovel) = same_text place.broker b
sets_at b _ = false

abbrev pub set_count : List Entry → List ℕ → ℕ
set_count J b = count_by (sets_at b) J

-- the links of the broker that the entry begins
abbrev pub links_begun : List Entry → Entry → ℕ
links_begun J (Begun broker cluster kept) = set_count J broker
links_begun J _ = 0

-- the entry may change how many links there are
abbrev pub changes_links : Entry → Bool
changes_links (Begun broker cluster kept) = true
changes_links (ShovelSet place name shovel) = true
changes_links _ = false

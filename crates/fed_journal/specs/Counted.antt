-- How a journal keeps its counts.
use Rattle.std.specs.Prelude.{◌≡◌, ◌-◌, ◌*◌, ◌^◌, ◌≤◌, length, min, vec_len, vec_capacity}
use Rattle.fed_journal.specs.Limits.{most_entries, most_bytes}
use Rattle.fed_journal.specs.declared.journal.Journal.TheInside.{Inside}
use Rattle.fed_journal.specs.Copies.{publication_count, copy_count}
use Rattle.fed_journal.specs.Sizes.{byte_count}
use Rattle.fed_journal.specs.View.{View}

-- an entry has its room where the vector has it and the journal's limit leaves it
abbrev pub view_of : Inside → View
view_of j = record { entries = j.items.items; room = min (vec_capacity j.items - vec_len j.items) (most_entries - length j.items.items) }

pub record IsCounted (j : Inside) : Type 0 where
  pub publications : j.publications ≡ publication_count j.items.items
  pub copies : j.copies ≡ copy_count j.items.items
  pub within : length j.items.items ≤ most_entries
  pub fewer : j.publications ≤ length j.items.items
  pub bytes : j.bytes ≡ byte_count j.items.items
  pub bytes_within : j.bytes ≤ most_bytes
  pub few : j.copies ≤ 2 ^ 32 * length j.items.items

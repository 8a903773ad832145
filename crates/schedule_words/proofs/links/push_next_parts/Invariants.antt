use Rattle.std.proofs.Common.{◌≡◌, ◌++◌, take}
use Rattle.std.specs.Prelude.{flat_map}
use Rattle.schedule_words.specs.Links.{next_part}
use Rattle.schedule_words.proofs.links.push_next_parts.Given as goal

-- the parts so far are on the page
abbrev pub invariant-loop-part : goal.invariant-loop-part
invariant-loop-part l = l.page ≡ l.fn.page ++ flat_map next_part (take l.part-index l.parts)

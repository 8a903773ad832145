use Rattle.std.proofs.Common.{◌≡◌, drop}
use Rattle.std.specs.List.{list_any}
use Rattle.schedule_words.specs.Links.{is_long_part}
use Rattle.schedule_words.proofs.links.has_long_part.Given as goal

-- the rest decides
abbrev pub invariant-loop-part : goal.invariant-loop-part
invariant-loop-part l = list_any is_long_part (drop l.part-index l.parts) ≡ list_any is_long_part l.fn.parts

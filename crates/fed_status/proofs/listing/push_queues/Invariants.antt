use Rattle.std.proofs.Common.{◌≡◌, ◌++◌, take}
use Rattle.std.specs.Prelude.{flat_map}
use Rattle.fed_status.specs.Queues.{queue_lines}
use Rattle.fed_status.proofs.listing.push_queues.Given as goal

-- the places so far are on the page
abbrev pub invariant-loop-place : goal.invariant-loop-place
invariant-loop-place l = l.page ≡ l.fn.page ++ flat_map (queue_lines l.journal) (take l.place-index l.places)

use Rattle.std.proofs.Common.{◌≡◌, take}
use Rattle.std.specs.Prelude.{filter_map}
use Rattle.fed_status.specs.Queues.{place_begun}
use Rattle.fed_status.proofs.listing.places_of.Given as goal

-- the places that the entries so far began
abbrev pub invariant-loop-entry : goal.invariant-loop-entry
invariant-loop-entry l = l.places.items ≡ filter_map place_begun (take l.entry-index l.journal)

use Rattle.std.proofs.Common.{◌≡◌, ◌++◌, take}
use Rattle.std.specs.Prelude.{flat_map}
use Rattle.fed_status.specs.Links.{link_line}
use Rattle.fed_status.proofs.listing.push_links.Given as goal

-- the links so far are on the page
abbrev pub invariant-loop-spec : goal.invariant-loop-spec
invariant-loop-spec l = l.page ≡ l.fn.page ++ flat_map (link_line l.journal) (take l.spec-index l.links)

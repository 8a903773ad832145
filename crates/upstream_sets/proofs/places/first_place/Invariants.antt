-- The URIs so far name no place.
use Rattle.std.proofs.Common.{◌≡◌, drop}
use Rattle.fed_defs.specs.Places.{first_some, uri_place}
use Rattle.upstream_sets.proofs.places.first_place.Given as goal

abbrev pub invariant-loop-uri : goal.invariant-loop-uri
invariant-loop-uri l =
    first_some (uri_place l.config l.owner) (drop l.uri-index l.uri-items) ≡ first_some (uri_place l.config l.owner) l.uri-items

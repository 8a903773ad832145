-- The ends of a link.
use Rattle.std.specs.Prelude.{◌≡◌, true, List, Option, Some, None}
use Rattle.fed_journal.specs.declared.place.Place.{Place}
use Rattle.fed_journal.specs.declared.link.LinkSpec.{LinkSpec}
use Rattle.fed_journal.specs.declared.entry.Entry.{Entry}
use Rattle.fed_journal.specs.Configuration.{is_place}

-- a place of the run, if the URI names any (RabbitMQ, Shovel: URIs)
abbrev pub IsEnd : List Entry → Option Place → Type 0
IsEnd J None = Unit {0}
IsEnd J (Some p) = is_place J p ≡ true

-- where a link reads, and where it publishes (RabbitMQ, Shovel: source and destination)
pub record HasEnds (J : List Entry) (spec : LinkSpec) : Type 0 where
  pub source : IsEnd J spec.source
  pub target : IsEnd J spec.target

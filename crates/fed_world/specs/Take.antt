-- The source hands its first ready copy to the link (AMQP 0-9-1, basic.deliver).
use Rattle.std.specs.Prelude.{ℕ, List, Bool, ◌&&◌, nat_le, nat_lt, length, if◌then◌else◌, Option, Some, None, Err}
use Rattle.fed_journal.specs.declared.place.Place.{Place}
use Rattle.fed_journal.specs.declared.entry.Entry.{Entry}
use Rattle.fed_journal.specs.declared.entry.Entry.TheVariants.{Took}
use Rattle.fed_journal.specs.declared.link.LinkSpec.{LinkSpec}
use Rattle.fed_journal.specs.Flight.{flight_held}
use Rattle.fed_journal.specs.Phases.{session}
use Rattle.fed_journal.specs.Holds.{first_ready}
use Rattle.fed_journal.specs.declared.reason.Reason.TheVariants.{Full}
use Rattle.fed_journal.specs.Row.{Row, with_link, while_open, one_or_empty}

abbrev pub first_ready_at : List Entry → Option Place → List ℕ → Option ℕ
first_ready_at J None q = None
first_ready_at J (Some p) q = first_ready J p q

-- the session holds as many copies as the link asks for; 0 is no limit (RabbitMQ, Shovel: src-prefetch-count)
abbrev pub is_full : List Entry → LinkSpec → ℕ → Bool
is_full J spec s = nat_lt 0 spec.prefetch && nat_le spec.prefetch (length (flight_held J spec.name s))

unfoldable pub take_row : List Entry → List ℕ → Row
take_row J l = with_link J l (λ spec. while_open J l (
    if is_full J spec (session J l) then Err Full
    else one_or_empty (Took l (session J l)) (first_ready_at J spec.source spec.source_queue)))

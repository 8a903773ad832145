-- An operator sets a shovel's parameter (RabbitMQ, Dynamic Shovels: rabbitmqctl set_parameter shovel).
use Rattle.std.specs.Prelude.{ℕ, List, [], ◌∷◌, if◌then◌else◌, Ok}
use Rattle.fed_journal.specs.declared.place.Place.{Place}
use Rattle.fed_journal.specs.declared.event.Shovel.{Shovel}
use Rattle.fed_journal.specs.declared.entry.Entry.{Entry}
use Rattle.fed_journal.specs.declared.entry.Entry.TheVariants.{ShovelSet}
use Rattle.fed_journal.specs.Links.{is_shovel_set}
use Rattle.fed_journal.specs.Row.{Row, at_place}

-- a shovel is set once: the schedule has no line yet that sets it again, and such an event changes nothing
unfoldable pub set_shovel_row : List Entry → Place → List ℕ → Shovel → Row
set_shovel_row J p name shovel = at_place J p (if is_shovel_set J p name then Ok [] else Ok (ShovelSet p name shovel ∷ []))

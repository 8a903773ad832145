-- The links that a configuration asks for.
use Rattle.std.specs.Prelude.{ℕ, List, [], ◌∷◌, Bool, false, ◌&&◌, ◌||◌, if◌then◌else◌, Option, Some, None, is_none, length, nat_lt, find, flat_map}
use Rattle.std.specs.List.{list_any}
use Rattle.fed_journal.specs.declared.place.Place.{Place}
use Rattle.fed_journal.specs.declared.event.Shovel.{Shovel}
use Rattle.fed_journal.specs.declared.link.LinkSpec.{LinkSpec}
use Rattle.fed_journal.specs.Limits.{default_prefetch}
use Rattle.fed_journal.specs.declared.link.StartState.{StartState}
use Rattle.fed_journal.specs.declared.link.StartState.TheVariants.{Start, NoBroker, NameTooLong}
use Rattle.fed_journal.specs.declared.entry.Entry.{Entry}
use Rattle.fed_journal.specs.declared.entry.Entry.TheVariants.{Begun, ShovelSet}
use Rattle.fed_journal.specs.Names.{same_text, same_place}
use Rattle.fed_journal.specs.Configuration.{is_place}
use Rattle.fed_journal.specs.Words.{shovel_link_name}

-- the place that a URI names: its host's broker and, as it names no virtual host, the owner's (RabbitMQ, Shovel: URIs)
abbrev pub place_at : List ℕ → Place → Place
place_at broker owner = record { broker = broker; vhost = owner.vhost }

abbrev pub place_named : List Entry → Place → Option Place
place_named J p = if is_place J p then Some p else None

-- whether the link can be opened: its URIs name places of the run, and its name has at most 230 octets
abbrev pub start_state : Option Place → Option Place → List ℕ → StartState
start_state source target name = if is_none source || is_none target then NoBroker else if nat_lt 230 (length name) then NameTooLong else Start

-- the link of a shovel's parameter (RabbitMQ, Dynamic Shovels)
unfoldable pub spec_of : List Entry → Place → List ℕ → Shovel → LinkSpec
spec_of J owner name shovel =
    let link = shovel_link_name owner name in
    let source = place_named J (place_at shovel.source owner) in
    let target = place_named J (place_at shovel.target owner) in
    record {
      name = link;
      start = start_state source target link;
      owner = owner;
      source = source;
      target = target;
      source_queue = shovel.source_queue;
      target_queue = shovel.target_queue;
      mode = shovel.mode;
      prefetch = default_prefetch;
    }

abbrev pub links_set_by : List Entry → List ℕ → Entry → List LinkSpec
links_set_by J b (ShovelSet place name shovel) = if same_text place.broker b then spec_of J place name shovel ∷ [] else []
links_set_by J b _ = []

abbrev pub links_of_broker : List Entry → Entry → List LinkSpec
links_of_broker J (Begun broker cluster kept) = flat_map (links_set_by J broker) J
links_of_broker J _ = []

-- the links by the order of their owners' brokers, then of setting
unfoldable pub links_of : List Entry → List LinkSpec
links_of J = flat_map (links_of_broker J) J

abbrev pub is_named : List ℕ → LinkSpec → Bool
is_named l spec = same_text spec.name l

-- the link of that name
unfoldable pub link_of : List Entry → List ℕ → Option LinkSpec
link_of J l = find (is_named l) (links_of J)

abbrev pub sets_shovel : Place → List ℕ → Entry → Bool
sets_shovel p name (ShovelSet place other shovel) = same_place place p && same_text other name
sets_shovel p name _ = false

-- whether the place has a shovel of that name
unfoldable pub is_shovel_set : List Entry → Place → List ℕ → Bool
is_shovel_set J p name = list_any (sets_shovel p name) J

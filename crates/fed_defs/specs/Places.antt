-- Which place of the run a URI names: RabbitMQ's "AMQP URI Specification", sections 2.2 and 2.4. That the host is a broker's
-- name in the run, and what a host or a virtual host that is left out stands for, is a choice.
use Rattle.std.specs.Prelude.{ℕ, Bool, ◌&&◌, ◌==◌, List, [], ◌∷◌, length, position, slice_get, Option, Some, None, option_map, option_and_then, unwrap_or, if◌then◌else◌}
use Rattle.std.specs.List.{list_any}
use Rattle.std.specs.Option.{option_or}
use Rattle.percent_encoding.specs.Percent.{percent_decode}
use Rattle.amqp_uri.specs.Uri.{host_part, vhost_part}
use Rattle.amqp_props.specs.declared.link.Place.{Place}
use Rattle.fed_defs.specs.declared.config.Config.{Config}
use Rattle.fed_defs.specs.declared.config.BrokerConfig.{BrokerConfig}
use Rattle.fed_defs.specs.declared.federation.Owner.{Owner}
use Rattle.fed_defs.specs.Texts.{same_text}

-- the first value that the items give
abbrev pub first_some : {A B : Type 0} → (A → Option B) → List A → Option B
first_some f [] = None
first_some f (x ∷ xs) = option_or (f x) (first_some f xs)

-- the broker that a URI's host names: the owner's where it is left out (section 2.2, "Host")
unfoldable pub broker_index : Config → Owner → List ℕ → Option ℕ
broker_index config owner host =
    if length host == 0 then Some owner.place.broker
    else position (λ broker. same_text broker.name host) config.brokers

-- the virtual host that a URI names: the owner's where it is left out (section 2.4, "Vhost")
unfoldable pub named_vhost : Owner → List ℕ → List ℕ
named_vhost owner uri = unwrap_or (option_map percent_decode (vhost_part uri)) owner.place.vhost

-- the broker has the virtual host
unfoldable pub has_vhost : List ℕ → BrokerConfig → Bool
has_vhost vhost broker = list_any (λ other. same_text other.name vhost) broker.vhosts

-- the place of this broker and virtual host, if it is there
unfoldable pub place_in : ℕ → List ℕ → BrokerConfig → Option Place
place_in index vhost broker =
    if has_vhost vhost broker then Some (record { broker = index; cluster = broker.cluster; vhost = vhost }) else None

-- the place of this broker and virtual host in the run, if it is there
unfoldable pub place_at : Config → ℕ → List ℕ → Option Place
place_at config index vhost = option_and_then (place_in index vhost) (slice_get config.brokers index)

-- the place that a URI names
unfoldable pub uri_place : Config → Owner → List ℕ → Option Place
uri_place config owner uri =
    option_and_then (λ index. place_at config index (named_vhost owner uri)) (broker_index config owner (host_part uri))

-- the place that the first of the URIs names that names one
unfoldable pub first_place : Config → Owner → List (List ℕ) → Option Place
first_place config owner uris = first_some (uri_place config owner) uris

-- a place is a broker and a virtual host of it
unfoldable pub same_place : Place → Place → Bool
same_place one other = (one.broker == other.broker) && same_text one.vhost other.vhost

-- The links that a configuration asks for: RabbitMQ's "Federated Exchanges", "Federated Queues", "Federation Reference" and
-- "Configuring Dynamic Shovels". The names of links, what links start, and that of equal names the first is kept, are choices.
use Rattle.std.specs.Prelude.{ℕ, Bool, true, false, not, ◌&&◌, ◌==◌, nat_lt, List, [], ◌∷◌, ◌++◌, length, map, flat_map, fold, codes, Option, Some, None, unwrap_or, if◌then◌else◌}
use Rattle.std.specs.List.{list_any, enumerate_from}
use Rattle.std.specs.Option.{option_map_or}
use Rattle.amqp_props.specs.declared.link.LinkSpec.{LinkSpec}
use Rattle.amqp_props.specs.declared.link.LinkKind.{LinkKind}
use Rattle.amqp_props.specs.declared.link.LinkKind.TheVariants as link
use Rattle.amqp_props.specs.declared.link.Place.{Place}
use Rattle.amqp_props.specs.declared.link.StartState.{StartState}
use Rattle.amqp_props.specs.declared.link.StartState.TheVariants.{Start, SelfLink, NoBroker, NameTooLong}
use Rattle.amqp_props.specs.declared.link.AckMode.TheVariants.{OnConfirm}
use Rattle.amqp_props.specs.declared.link.DeleteAfter.TheVariants.{Never}
use Rattle.amqp_props.specs.declared.link.ExchangeKind.{ExchangeKind}
use Rattle.amqp_props.specs.declared.link.ExchangeKind.TheVariants.{Direct, Fanout, Headers, Topic}
use Rattle.amqp_props.specs.declared.link.SourceAt.{SourceAt}
use Rattle.amqp_props.specs.declared.link.SourceAt.TheVariants as source
use Rattle.amqp_props.specs.declared.link.TargetAt.{TargetAt}
use Rattle.amqp_props.specs.declared.link.TargetAt.TheVariants as target
use Rattle.policy_core.specs.declared.policy.ObjectKind.{ObjectKind}
use Rattle.policy_core.specs.declared.policy.ObjectKind.TheVariants as object
use Rattle.fed_defs.specs.declared.config.Config.{Config}
use Rattle.fed_defs.specs.declared.config.BrokerConfig.{BrokerConfig}
use Rattle.fed_defs.specs.declared.config.VhostConfig.{VhostConfig}
use Rattle.fed_defs.specs.declared.config.ExchangeDef.{ExchangeDef}
use Rattle.fed_defs.specs.declared.config.QueueDef.{QueueDef}
use Rattle.fed_defs.specs.declared.config.ParameterDef.{ParameterDef}
use Rattle.fed_defs.specs.declared.config.ParameterValue.{ParameterValue}
use Rattle.fed_defs.specs.declared.config.ParameterValue.TheVariants.{Shovel}
use Rattle.fed_defs.specs.declared.federation.Owner.{Owner}
use Rattle.fed_defs.specs.declared.federation.Choice.{Choice}
use Rattle.fed_defs.specs.declared.shovel.ShovelDef.{ShovelDef}
use Rattle.fed_defs.specs.Texts.{same_text, is_reserved}
use Rattle.fed_defs.specs.Words.{word, place_word}
use Rattle.fed_defs.specs.Policies.{policy_in}
use Rattle.fed_defs.specs.Places.{first_place, same_place}
use Rattle.fed_defs.specs.Choices.{policy_choices}
use Rattle.fed_defs.specs.Properties.{no_props}
use Rattle.amqp_props.specs.declared.properties.Properties.{Properties}

-- ---- names

-- the word of the place that owns a link
abbrev pub owner_word : Owner → List ℕ
owner_word owner = place_word owner.broker owner.place.vhost

-- the link of an object to an upstream: `x/PLACE/EXCHANGE/UPSTREAM/UPOBJECT`, and `q/..` for a queue
unfoldable pub federation_name : List ℕ → Owner → List ℕ → List ℕ → List ℕ → List ℕ
federation_name kind owner name upstream upstream_name =
    kind ++ codes "/" ++ owner_word owner ++ codes "/" ++ word name ++ codes "/" ++ word upstream ++ codes "/" ++ word upstream_name

-- the link of a shovel: `s/PLACE/NAME`
unfoldable pub shovel_name : Owner → List ℕ → List ℕ
shovel_name owner name = codes "s/" ++ owner_word owner ++ codes "/" ++ word name

-- ---- what a link starts as

-- the longest name of a link that can start: its queue and its exchanges have names that hold it, of at most 255 octets (AMQP
-- 0-9-1, section 4.2.5.3)
abbrev pub longest_name : ℕ
longest_name = 230

-- a link whose places are there
abbrev pub named_start : List ℕ → StartState
named_start name = if nat_lt longest_name (length name) then NameTooLong else Start

-- a federation link needs another place to take from
unfoldable pub federation_start : Place → Option Place → List ℕ → StartState
federation_start owner None name = NoBroker
federation_start owner (Some source) name = if same_place source owner then SelfLink else named_start name

-- a shovel needs both of its places, which may be one
unfoldable pub shovel_start : Option Place → Option Place → List ℕ → StartState
shovel_start (Some source) (Some target) name = named_start name
shovel_start _ _ name = NoBroker

-- ---- federation

-- a link of federation, with the defaults of the keys that neither its upstream nor a set gives (Federation Reference,
-- "Upstream Parameters"): it never removes itself and changes no properties
unfoldable pub federation_link : LinkKind → List ℕ → Owner → Choice → SourceAt → TargetAt → LinkSpec
federation_link kind name owner choice source_at target_at = record {
  name = name;
  kind = kind;
  start = federation_start owner.place choice.source name;
  owner = owner.place;
  source = choice.source;
  target = Some owner.place;
  source_at = source_at;
  target_at = target_at;
  mode = unwrap_or choice.own.mode OnConfirm;
  prefetch = unwrap_or choice.own.prefetch 1000;
  delay = unwrap_or choice.own.delay 5;
  max_hops = unwrap_or choice.own.max_hops 1;
  delete_after = Never;
  stamp = false;
  props = no_props;
}

-- the upstream object has the name of the federated one, unless the upstream says another (Federation Reference, "exchange")
abbrev pub upstream_exchange : ExchangeDef → Choice → List ℕ
upstream_exchange exchange choice = unwrap_or choice.own.exchange exchange.name

-- the same of a queue (Federation Reference, "queue")
abbrev pub upstream_queue : QueueDef → Choice → List ℕ
upstream_queue queue choice = unwrap_or choice.own.queue queue.name

-- the link of a federated exchange to an upstream ("Federated Exchanges")
unfoldable pub exchange_link : Owner → ExchangeDef → Choice → LinkSpec
exchange_link owner exchange choice =
    federation_link link.Exchange
    (federation_name (codes "x") owner exchange.name choice.upstream (upstream_exchange exchange choice))
    owner choice
    (source.Upstream (upstream_exchange exchange choice) exchange.kind exchange.durable)
    (target.Downstream exchange.name)

-- the link of a federated queue to an upstream ("Federated Queues")
unfoldable pub queue_link : Owner → QueueDef → Choice → LinkSpec
queue_link owner queue choice =
    federation_link link.Queue
    (federation_name (codes "q") owner queue.name choice.upstream (upstream_queue queue choice))
    owner choice
    (source.UpstreamQueue (upstream_queue queue choice) queue.options)
    (target.DownstreamQueue queue.name)

-- the upstreams of an object: those that the policy chooses that applies to it
unfoldable pub object_choices : Config → Owner → VhostConfig → ObjectKind → List ℕ → List Choice
object_choices config owner vhost kind name =
    option_map_or (policy_choices config owner vhost) (policy_in vhost kind name) []

-- the default exchange and internal exchanges can't be federated (Federated Exchanges, "Limitations"), nor what belongs to links
unfoldable pub is_federable : ExchangeDef → Bool
is_federable exchange = not (length exchange.name == 0) && (not exchange.internal && not (is_reserved exchange.name))

-- exclusive queues and what belongs to links are not federated
unfoldable pub is_federable_queue : QueueDef → Bool
is_federable_queue queue = not queue.options.exclusive && not (is_reserved queue.name)

-- the links of an exchange, one for each of its upstreams
unfoldable pub exchange_links : Config → Owner → VhostConfig → ExchangeDef → List LinkSpec
exchange_links config owner vhost exchange =
    if is_federable exchange
    then map (exchange_link owner exchange) (object_choices config owner vhost object.Exchange exchange.name)
    else []

-- the type of a queue, by which policies apply (Parameters and Policies, "apply-to")
abbrev pub queue_kind : QueueDef → ObjectKind
queue_kind queue = if queue.quorum then object.Quorum else object.Classic

-- the links of a queue, one for each of its upstreams
unfoldable pub queue_links : Config → Owner → VhostConfig → QueueDef → List LinkSpec
queue_links config owner vhost queue =
    if is_federable_queue queue
    then map (queue_link owner queue) (object_choices config owner vhost (queue_kind queue) queue.name)
    else []

-- ---- shovels

-- the link of a shovel between these places (Configuring Dynamic Shovels); hops are not counted for it, and stand as 1
unfoldable pub shovel_between : List ℕ → Owner → Option Place → Option Place → ShovelDef → LinkSpec
shovel_between name owner source target shovel = record {
  name = name;
  kind = link.Shovel;
  start = shovel_start source target name;
  owner = owner.place;
  source = source;
  target = target;
  source_at = shovel.source_at;
  target_at = shovel.target_at;
  mode = shovel.mode;
  prefetch = shovel.prefetch;
  delay = shovel.delay;
  max_hops = 1;
  delete_after = shovel.delete_after;
  stamp = shovel.stamp;
  props = shovel.props;
}

-- the link of a shovel between the places that its URIs name (Configuring Dynamic Shovels, "src-uri", "dest-uri")
unfoldable pub shovel_link : Config → Owner → List ℕ → ShovelDef → LinkSpec
shovel_link config owner name shovel =
    shovel_between (shovel_name owner name) owner
    (first_place config owner shovel.sources) (first_place config owner shovel.targets) shovel

-- the links of a parameter's value: that of a shovel
abbrev pub value_links : Config → Owner → List ℕ → ParameterValue → List LinkSpec
value_links config owner name (Shovel shovel) = shovel_link config owner name shovel ∷ []
value_links config owner name _ = []

-- the link of a parameter that is a shovel
unfoldable pub shovel_links : Config → Owner → ParameterDef → List LinkSpec
shovel_links config owner parameter = value_links config owner parameter.name parameter.value

-- ---- the whole

-- the most links that a run may have
abbrev pub most_links : ℕ
most_links = 4096

-- a durable exchange that clients can publish to
abbrev pub predeclared_exchange : List ℕ → ExchangeKind → ExchangeDef
predeclared_exchange name kind = record { name = name; kind = kind; durable = true; internal = false }

-- the exchanges with which every virtual host begins (AMQP 0-9-1, section 3.1.3.1 to 3.1.3.4; RabbitMQ's `amq.headers`)
abbrev pub predeclared : List ExchangeDef
predeclared =
    predeclared_exchange (codes "amq.direct") Direct
    ∷ predeclared_exchange (codes "amq.fanout") Fanout
    ∷ predeclared_exchange (codes "amq.headers") Headers
    ∷ predeclared_exchange (codes "amq.match") Headers
    ∷ predeclared_exchange (codes "amq.topic") Topic
    ∷ []

-- the links of a virtual host: those of its exchanges, of its queues, and its shovels
unfoldable pub vhost_links : Config → Owner → VhostConfig → List LinkSpec
vhost_links config owner vhost =
    flat_map (exchange_links config owner vhost) predeclared
    ++ (flat_map (exchange_links config owner vhost) vhost.exchanges
    ++ (flat_map (queue_links config owner vhost) vhost.queues
    ++ flat_map (shovel_links config owner) vhost.parameters))

-- the virtual host as the owner of links
abbrev pub owner_of : ℕ → BrokerConfig → VhostConfig → Owner
owner_of index broker vhost = record {
  broker = broker.name;
  place = record { broker = index; cluster = broker.cluster; vhost = vhost.name };
}

-- the links that a virtual host owns
unfoldable pub owned_links : Config → ℕ → BrokerConfig → VhostConfig → List LinkSpec
owned_links config index broker vhost = vhost_links config (owner_of index broker vhost) vhost

-- the links of a broker, by its virtual hosts in their order
unfoldable pub broker_links : Config → ℕ × BrokerConfig → List LinkSpec
broker_links config entry = flat_map (owned_links config entry.0 entry.1) entry.1.vhosts

-- all that the brokers ask for, in the order of brokers, virtual hosts and objects
unfoldable pub asked_links : Config → List LinkSpec
asked_links config = flat_map (broker_links config) (enumerate_from 0 config.brokers)

-- the link's name is that of one that is kept; the name is a link's identity
unfoldable pub is_kept : List LinkSpec → LinkSpec → Bool
is_kept kept link = list_any (λ other. same_text other.name link.name) kept

-- a link is kept unless one of its name is
unfoldable pub with_link : List LinkSpec → LinkSpec → List LinkSpec
with_link kept link = if is_kept kept link then kept else kept ++ link ∷ []

-- links are kept one after the other
unfoldable pub with_links : List LinkSpec → List LinkSpec → List LinkSpec
with_links kept links = fold with_link kept links

-- the links of a configuration
unfoldable pub links_of : Config → List LinkSpec
links_of config = with_links [] (asked_links config)

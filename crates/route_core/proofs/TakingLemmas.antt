-- The tests of bindings decide which of them match.
use Rattle.std.proofs.Common.{◌≡◌, List, true, Option, Some, None, refl, ap, ◌∙◌}
use Rattle.std.proofs.lemmas.Bool.{false≢true}
use Rattle.std.proofs.lemmas.Slice.Eq.{bytes_eq-Decides}
use Rattle.amqp_props.specs.declared.link.ExchangeKind.{ExchangeKind}
use Rattle.amqp_props.specs.declared.link.ExchangeKind.TheVariants as kinds
use Rattle.binding_match.specs.Topics.{words}
use Rattle.binding_match.proofs.TopicLemmas.{covers_yes, covers_back}
use Rattle.binding_match.proofs.HeaderLemmas.{headers_yes, headers_back}
use Rattle.hop_headers.proofs.HopLemmas.{gate_yes, gate_back}
use Rattle.route_core.specs.declared.object.Node.{Node}
use Rattle.route_core.specs.declared.object.Node.TheVariants as nodes
use Rattle.route_core.specs.declared.object.Object.{Object}
use Rattle.route_core.specs.declared.binding.Binding.{Binding}
use Rattle.route_core.specs.Walks.{Publish, exchange_node, TakesByType, TakesFrom, Matches}
use Rattle.route_core.specs.Routes.{takes_by_type, takes, matches}

type_yes : (kind : ExchangeKind) (p : Publish) (b : Binding) → takes_by_type kind p b ≡ true → TakesByType kind p b
type_yes kinds.Direct p b h = (bytes_eq-Decides b.key p.key).0 h
type_yes kinds.Fanout p b h = tt
type_yes kinds.Headers p b h = headers_yes b.args p.headers h
type_yes kinds.Topic p b h = covers_yes (words b.key) (words p.key) h

type_back : (kind : ExchangeKind) (p : Publish) (b : Binding) → TakesByType kind p b → takes_by_type kind p b ≡ true
type_back kinds.Direct p b h = (bytes_eq-Decides b.key p.key).1 h
type_back kinds.Fanout p b h = refl
type_back kinds.Headers p b h = headers_back b.args p.headers h
type_back kinds.Topic p b h = covers_back (words b.key) (words p.key) h

from_yes : (node : Node) (p : Publish) (b : Binding) → takes (Some node) p b ≡ true → TakesFrom node p b
from_yes (nodes.Queue number) p b h = false≢true h
from_yes (nodes.Exchange kind) p b h = type_yes kind p b h
from_yes (nodes.Gate limit cluster vhost) p b h = gate_yes limit cluster vhost p.headers h

from_back : (node : Node) (p : Publish) (b : Binding) → TakesFrom node p b → takes (Some node) p b ≡ true
from_back (nodes.Queue number) p b h = absurd h
from_back (nodes.Exchange kind) p b h = type_back kind p b h
from_back (nodes.Gate limit cluster vhost) p b h = gate_back limit cluster vhost p.headers h

at_node : (objects : List Object) (p : Publish) (b : Binding) (o : Option Node) → exchange_node b.source objects ≡ o → takes o p b ≡ true → Matches objects p b
at_node objects p b None e h = absurd (false≢true h)
at_node objects p b (Some node) e h = record { node = node; stands = e; takes = from_yes node p b h }

pub matches_yes : (objects : List Object) (p : Publish) (b : Binding) → matches objects p b ≡ true → Matches objects p b
matches_yes objects p b h = at_node objects p b (exchange_node b.source objects) refl h

pub matches_back : (objects : List Object) (p : Publish) (b : Binding) → Matches objects p b → matches objects p b ≡ true
matches_back objects p b m = ap (λ (o : Option Node). takes o p b) m.stands ∙ from_back m.node p b m.takes

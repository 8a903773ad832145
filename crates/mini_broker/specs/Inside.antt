-- What the parts of a virtual host stand for.
use Rattle.mini_broker.specs.declared.vhost.Vhost.TheInside.{Inside}
use Rattle.mini_broker.specs.State.{VhostState, AreRouted}

abbrev pub state_of : Inside → VhostState
state_of i = record {
  routing = i.router.routing;
  queues = i.queues;
  exchanges = i.exchanges;
  clients = i.clients;
  consumers = i.consumers.items;
  made = i.made;
  begun = i.begun;
}

abbrev pub IsKept : Inside → Type 0
IsKept i = AreRouted i.router.routing i.queues i.exchanges i.made

use Rattle.mini_broker.proofs.CloseLemmas.{freed_names, turn_same}
use Rattle.mini_broker.proofs.vhost.Vhost.close.Goals as goal

pub remove_queues-requires : goal.remove_queues-requires
remove_queues-requires c =
    rw (c.deref.ensures.value, c.disconnect.ensures)
    (turn_same _ c.args.self.now.queues _ (freed_names c.args.connection 0 c.args.self.now.clients c.args.self.now.queues) c.in_ok-names.ensures.standing)

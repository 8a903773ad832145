use Rattle.std.proofs.Common.{◌≡◌, false}
use Rattle.fed_outside.specs.Plan.{judged}
use Rattle.fed_outside.proofs.Peers.{peer_read_on}
use Rattle.fed_outside.proofs.mem_peer.MemPeerPeer.read.Goals as goal

pub returns-clause-after : goal.returns-clause-after
returns-clause-after c =
    let counted : c.count.new.self ≡ judged false c.self.inside.plan = rw c.if-is_fault.false at c.count.ensures.after in
    rw (← c.self.view_is)
    (peer_read_on c.self.inside.at c.copy_front-n.result c.self.inside.room c.self.inside.input.items c.self.inside.written.items
    c.self.inside.plan c.count.new.self counted)

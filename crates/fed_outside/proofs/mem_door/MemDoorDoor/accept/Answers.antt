use Rattle.std.proofs.Common.{arith}
use Rattle.fed_outside.proofs.Peers.{fresh_behind}
use Rattle.fed_outside.proofs.mem_door.MemDoorDoor.accept.Goals as goal

pub invariant_of-self-in-Some : goal.invariant_of-self-in-Some
invariant_of-self-in-Some c = record {
  fresh = fresh_behind _ _ _ c.in-Some.ensures.items c.self.invariant.fresh;
  room = omega (arith, c.in-Some.ensures.len);
  peer_faults = c.self.invariant.peer_faults;
}

use Rattle.std.proofs.Common.{◌≡◌, ◌+◌, ◌-◌, ◌≤◌, ◌++◌, map, take, drop, vec_len, vec_capacity}
use Rattle.std.specs.Prelude.{All, count_by}
use Rattle.std.specs.VecDeque.{deque_len, deque_capacity}
use Rattle.indexmap.specs.IndexMap.{spare}
use Rattle.broker_channels.specs.declared.delivery.Delivery.{Delivery}
use Rattle.broker_channels.specs.Tags.{is_pushed}
use Rattle.broker_channels.specs.Held.{consumers_of, IsCounted}
use Rattle.broker_channels.proofs.channel.take_out.Given as goal

abbrev pub invariant-loop-taken : goal.invariant-loop-taken
invariant-loop-taken l = record {
  copies : l.copies.items ≡ l.initial.copies.items ++ map (λ (delivery : Delivery). delivery.copy) (take l._taken (drop l.start l.initial.deliveries.items));
  stay : l.deliveries.items ≡ take l.start l.initial.deliveries.items ++ drop l._taken (drop l.start l.initial.deliveries.items);
  consumers : consumers_of l.shares.entries ≡ consumers_of l.initial.shares.entries;
  counted : All (IsCounted l.deliveries.items) l.shares.entries;
  pushed : l.pushed ≡ count_by is_pushed l.deliveries.items;
  spare : spare l.shares ≡ spare l.initial.shares;
  len : deque_len l.deliveries + l._taken ≡ deque_len l.initial.deliveries;
  capacity : deque_capacity l.deliveries ≡ deque_capacity l.initial.deliveries;
  room : vec_len l.copies + (l.count - l._taken) ≤ vec_capacity l.copies;
}

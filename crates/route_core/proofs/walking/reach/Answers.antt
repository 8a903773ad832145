use Rattle.std.proofs.Common.{◌<◌, ◌≤◌, length, arith}
use Rattle.route_core.proofs.StopLemmas.{searched_none, searched_step, search_falls, searched_all}
use Rattle.route_core.proofs.walking.reach.Goals as goal

pub loop-next-init : goal.loop-next-init
loop-next-init c = rw (c.in_ok-push.ensures.items, c.new-stops.ensures.items) (searched_none _ _)

pub loop-next-preserved : goal.loop-next-preserved
loop-next-preserved c =
    let lt : c.loop-next.next < length c.loop-next.stops.items = omega arith in
    searched_step _ _ _ _ _ c.loop-next.invariant lt c.in_ok-stops.ensures

pub loop-next-smaller : goal.loop-next-smaller
loop-next-smaller c =
    let lt : c.loop-next.next < length c.loop-next.stops.items = omega arith in
    search_falls _ _ _ _ _ lt c.in_ok-stops.ensures

pub returns : goal.returns
returns c =
    let end : length c.loop-next.stops.items ≤ c.loop-next.next = omega arith in
    searched_all _ _ _ _ c.loop-next.invariant end

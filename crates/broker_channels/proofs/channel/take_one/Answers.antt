use Rattle.std.proofs.Common.{map, sym, subst}
use Rattle.std.specs.Prelude.{All}
use Rattle.std.specs.List.{remove}
use Rattle.broker_channels.specs.declared.delivery.Delivery.{Delivery}
use Rattle.broker_channels.specs.Held.{IsCounted, with_fewer}
use Rattle.broker_channels.proofs.ShareLemmas.{consumers-fewer, counted-fewer}
use Rattle.broker_channels.proofs.channel.take_one.Goals as goal

pub returns-clause-consumers : goal.returns-clause-consumers
returns-clause-consumers c = rw c.count_out.ensures.shares (consumers-fewer _ _)

pub returns-clause-counted : goal.returns-clause-counted
returns-clause-counted c =
    let ds = c.args.deliveries.now.items in
    let es = c.args.shares.now.entries in
    rw (c.count_out.ensures.shares, c.in-Some.ensures.items) (subst (λ (d : Delivery). All (IsCounted (remove ds c.args.place)) (map (with_fewer d.consumer) es)) (sym c.in-Some.ensures.value) (counted-fewer ds c.args.place c.in-Some.delivery es c.requires.within c.requires.counted))

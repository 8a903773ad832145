use Rattle.std.proofs.Common.{ltb, ltb-true, ltb-false, rules}
use Rattle.std.proofs.lemmas.List.Sorted.{IsPartitionPoint-from_clause, IsPartitionedBy-ltb}
use Rattle.broker_channels.specs.declared.delivery.Delivery.{Delivery}
use Rattle.broker_channels.proofs.SpanLemmas.{rises-le}
use Rattle.broker_channels.proofs.tags.first_from.Goals as goal

pub returns-clause-below : goal.returns-clause-below
returns-clause-below c =
    let parted = IsPartitionedBy-ltb (λ (d : Delivery). d.tag) c.args.deliveries.now.items c.args.tag (rises-le c.args.deliveries.now.items c.requires) in
    let point = IsPartitionPoint-from_clause (λ (d : Delivery). ltb d.tag c.args.tag) _ _ c.partition_point.ensures.partitioned parted (λ a r q k. search rules) in
    λ k d l h. ltb-true _ _ (point.0 k d l h)

pub returns-clause-from : goal.returns-clause-from
returns-clause-from c =
    let parted = IsPartitionedBy-ltb (λ (d : Delivery). d.tag) c.args.deliveries.now.items c.args.tag (rises-le c.args.deliveries.now.items c.requires) in
    let point = IsPartitionPoint-from_clause (λ (d : Delivery). ltb d.tag c.args.tag) _ _ c.partition_point.ensures.partitioned parted (λ a r q k. search rules) in
    λ k d l h. ltb-false _ _ (point.1 k d l h)

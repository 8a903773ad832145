-- The shares that are left, and the virtual host that is made.
use Rattle.std.proofs.Common.{◌≡◌, ◌<◌, List, length, get_or, sym, ap, ◌∙◌, subst, arith}
use Rattle.defs_lists.specs.declared.names.Name.{Name}
use Rattle.defs_lists.specs.PlacedItems.{host_config}
use Rattle.defs_file.proofs.AssemblyLemmas.{made_next, host_is}
use Rattle.defs_lists.proofs.PlacedLemmas.{share_front, shares_left}
use Rattle.defs_file.proofs.assembly.assemble.Goals as goal

pub take_front-requires : goal.take_front-requires
take_front-requires c =
    let raw : c.loop-vhost.vhost-index < length c.as_slice-vhost-items.result.now = omega arith in
    let within : c.loop-vhost.vhost-index < length c.args.vhosts.now =
    subst (λ (xs : List Name). c.loop-vhost.vhost-index < length xs) c.as_slice-vhost-items.ensures raw in
    shares_left c.args.vhosts.now c.args.objects.exchanges.items c.loop-vhost.vhost-index c.loop-vhost.exchanges.items within c.loop-vhost.invariant.exchanges

pub take_front-requires-in-loop-vhost : goal.take_front-requires-in-loop-vhost
take_front-requires-in-loop-vhost c =
    let raw : c.loop-vhost.vhost-index < length c.as_slice-vhost-items.result.now = omega arith in
    let within : c.loop-vhost.vhost-index < length c.args.vhosts.now =
    subst (λ (xs : List Name). c.loop-vhost.vhost-index < length xs) c.as_slice-vhost-items.ensures raw in
    shares_left c.args.vhosts.now c.args.objects.queues.items c.loop-vhost.vhost-index c.loop-vhost.queues.items within c.loop-vhost.invariant.queues

pub take_front-requires-in-loop-vhost-2 : goal.take_front-requires-in-loop-vhost-2
take_front-requires-in-loop-vhost-2 c =
    let raw : c.loop-vhost.vhost-index < length c.as_slice-vhost-items.result.now = omega arith in
    let within : c.loop-vhost.vhost-index < length c.args.vhosts.now =
    subst (λ (xs : List Name). c.loop-vhost.vhost-index < length xs) c.as_slice-vhost-items.ensures raw in
    shares_left c.args.vhosts.now c.args.objects.bindings.items c.loop-vhost.vhost-index c.loop-vhost.bindings.items within c.loop-vhost.invariant.bindings

pub take_front-requires-in-loop-vhost-3 : goal.take_front-requires-in-loop-vhost-3
take_front-requires-in-loop-vhost-3 c =
    let raw : c.loop-vhost.vhost-index < length c.as_slice-vhost-items.result.now = omega arith in
    let within : c.loop-vhost.vhost-index < length c.args.vhosts.now =
    subst (λ (xs : List Name). c.loop-vhost.vhost-index < length xs) c.as_slice-vhost-items.ensures raw in
    shares_left c.args.vhosts.now c.args.policies.items c.loop-vhost.vhost-index c.loop-vhost.policies.items within c.loop-vhost.invariant.policies

pub take_front-requires-in-loop-vhost-4 : goal.take_front-requires-in-loop-vhost-4
take_front-requires-in-loop-vhost-4 c =
    let raw : c.loop-vhost.vhost-index < length c.as_slice-vhost-items.result.now = omega arith in
    let within : c.loop-vhost.vhost-index < length c.args.vhosts.now =
    subst (λ (xs : List Name). c.loop-vhost.vhost-index < length xs) c.as_slice-vhost-items.ensures raw in
    shares_left c.args.vhosts.now c.args.parameters.items c.loop-vhost.vhost-index c.loop-vhost.parameters.items within c.loop-vhost.invariant.parameters

pub loop-vhost-preserved : goal.loop-vhost-preserved
loop-vhost-preserved c =
    let raw : c.loop-vhost.vhost-index < length c.as_slice-vhost-items.result.now = omega arith in
    let within : c.loop-vhost.vhost-index < length c.args.vhosts.now =
    subst (λ (xs : List Name). c.loop-vhost.vhost-index < length xs) c.as_slice-vhost-items.ensures raw in
    let exchanges-share = share_front c.args.vhosts.now c.args.objects.exchanges.items c.loop-vhost.vhost-index c.vhost-item.result c.take_front.result c.take_front.new.lists.items within (sym c.loop-vhost.invariant.exchanges ∙ c.take_front.ensures) in
    let queues-share = share_front c.args.vhosts.now c.args.objects.queues.items c.loop-vhost.vhost-index c.vhost-item.result c.take_front-in-loop-vhost.result c.take_front-in-loop-vhost.new.lists.items within (sym c.loop-vhost.invariant.queues ∙ c.take_front-in-loop-vhost.ensures) in
    let bindings-share = share_front c.args.vhosts.now c.args.objects.bindings.items c.loop-vhost.vhost-index c.vhost-item.result c.take_front-in-loop-vhost-2.result c.take_front-in-loop-vhost-2.new.lists.items within (sym c.loop-vhost.invariant.bindings ∙ c.take_front-in-loop-vhost-2.ensures) in
    let policies-share = share_front c.args.vhosts.now c.args.policies.items c.loop-vhost.vhost-index c.vhost-item.result c.take_front-in-loop-vhost-3.result c.take_front-in-loop-vhost-3.new.lists.items within (sym c.loop-vhost.invariant.policies ∙ c.take_front-in-loop-vhost-3.ensures) in
    let parameters-share = share_front c.args.vhosts.now c.args.parameters.items c.loop-vhost.vhost-index c.vhost-item.result c.take_front-in-loop-vhost-4.result c.take_front-in-loop-vhost-4.new.lists.items within (sym c.loop-vhost.invariant.parameters ∙ c.take_front-in-loop-vhost-4.ensures) in
    let item : c.vhost-item.result ≡ get_or c.args.vhosts.now c.loop-vhost.vhost-index c.vhost-item.result =
    subst (λ (xs : List Name). c.vhost-item.result ≡ get_or xs c.loop-vhost.vhost-index c.vhost-item.result) c.as_slice-vhost-items.ensures c.vhost-item.is in
    let v : Name = get_or c.args.vhosts.now c.loop-vhost.vhost-index c.vhost-item.result in
    let made = host_is c.args.objects.exchanges.items c.args.objects.queues.items c.args.objects.bindings.items c.args.policies.items c.args.parameters.items v
    c.in_ok-from_str.field-0 c.take_front.result c.take_front-in-loop-vhost.result c.take_front-in-loop-vhost-2.result
    c.take_front-in-loop-vhost-3.result c.take_front-in-loop-vhost-4.result
    (c.in_ok-from_str.ensures ∙ c.as_str.ensures ∙ ap (λ (n : Name). n.name) item)
    exchanges-share.0 queues-share.0 bindings-share.0 policies-share.0 parameters-share.0 in
    record {
      exchanges = exchanges-share.1;
      queues = queues-share.1;
      bindings = bindings-share.1;
      policies = policies-share.1;
      parameters = parameters-share.1;
      made = rw c.in_ok-push.ensures.items (made_next (host_config c.args.objects.exchanges.items c.args.objects.queues.items c.args.objects.bindings.items c.args.policies.items c.args.parameters.items) c.args.vhosts.now c.loop-vhost.vhost-index c.vhost-item.result c.loop-vhost.list.items _ within made c.loop-vhost.invariant.made);
    }

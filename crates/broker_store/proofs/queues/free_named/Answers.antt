use Rattle.std.proofs.Common.{◌≡◌, ap, sym, subst, ◌∙◌, string_bytes, true}
use Rattle.std.specs.Str.{bytes_eq}
use Rattle.broker_store.specs.Queues.{named}
use Rattle.broker_store.proofs.CountLemmas.{IsFreed, freed_covers}
use Rattle.broker_store.proofs.queues.free_named.Goals as goal

pub free-requires : goal.free-requires
free-requires c =
    let on : bytes_eq (string_bytes c.in-Some.key.now) c.args.name.now ≡ true = ap (λ n. bytes_eq n c.args.name.now) (sym c.as_str.ensures.value) ∙ sym c.eq.ensures ∙ c.if-eq.true in
    freed_covers c.args.name.now c.args.messages.now c.loop-key.messages (named c.args.table.now.entries) (string_bytes c.in-Some.key.now, c.in-Some.queue.now) (named c.next.new.self) on (subst (λ es. IsFreed c.args.name.now c.args.messages.now c.loop-key.messages (named c.args.table.now.entries) (named es)) c.in-Some.ensures.steps c.loop-key.invariant)

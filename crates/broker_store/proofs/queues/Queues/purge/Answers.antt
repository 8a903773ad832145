use Rattle.std.proofs.Common.{ℕ, sym, ap, ◌∙◌, count_by}
use Rattle.std.specs.Option.{option_map_or}
use Rattle.queue_core.specs.Rows.{is_ready}
use Rattle.broker_store.specs.Mail.{purged}
use Rattle.broker_store.specs.Messages.{message_at}
use Rattle.broker_store.specs.Queues.{Standing, named, with_mail, changed, ready_count, queue_of}
use Rattle.broker_store.proofs.QueueLemmas.{changed_absent}
use Rattle.broker_store.proofs.KeyLemmas.{mail_purged, ready_count_with}
use Rattle.broker_store.proofs.CountLemmas.{covers_at, counted_at}
use Rattle.broker_store.proofs.TableLemmas.{changed_seen, found_at, found_none, absent_seen}
use Rattle.broker_store.proofs.queues.Queues.purge.Goals as goal

pub purge-requires : goal.purge-requires
purge-requires c = covers_at c.self.inside.messages c.self.inside.table.entries c.in-Some.place c.index_mut.result.now c.self.invariant c.index_mut.ensures.value

pub returns-in-Some-clause-count : goal.returns-in-Some-clause-count
returns-in-Some-clause-count c =
    c.purge.ensures.count
    ∙ sym (ap (λ found. option_map_or (λ (queue : Standing ℕ). count_by is_ready queue.mail.rows) found 0) (found_at c.args.name.now c.self.inside.table.entries c.in-Some.place c.index_mut.result.now c.in-Some.ensures.value c.index_mut.ensures.value))
    ∙ ready_count_with (message_at c.self.inside.messages) c.args.name.now (named c.self.inside.table.entries)
    ∙ ap (ready_count c.args.name.now) c.self.view_is

pub returns-in-Some-clause-purged : goal.returns-in-Some-clause-purged
returns-in-Some-clause-purged c =
    changed_seen c.self.inside.messages c.purge.new.messages c.self.inside.table.entries c.args.name.now purged purged (mail_purged (message_at c.self.inside.messages)) c.in-Some.place c.index_mut.result.now c.purge.new.self c.in-Some.ensures.index c.index_mut.ensures.value c.purge.ensures.purged c.self.invariant c.purge.ensures.follows
    ∙ ap (changed c.args.name.now (with_mail purged)) c.self.view_is

pub returns-in-None-clause-count : goal.returns-in-None-clause-count
returns-in-None-clause-count c =
    sym (ap (λ found. option_map_or (λ (queue : Standing ℕ). count_by is_ready queue.mail.rows) found 0) (found_none c.args.name.now c.self.inside.table.entries c.in-None.ensures.found))
    ∙ ready_count_with (message_at c.self.inside.messages) c.args.name.now (named c.self.inside.table.entries)
    ∙ ap (ready_count c.args.name.now) c.self.view_is

pub returns-in-None-clause-purged : goal.returns-in-None-clause-purged
returns-in-None-clause-purged c =
    sym (changed_absent c.args.name.now (with_mail purged) c.args.self.now (ap (queue_of c.args.name.now) (sym c.self.view_is) ∙ absent_seen (message_at c.self.inside.messages) c.args.name.now c.self.inside.table.entries c.in-None.ensures.found))

pub invariant_of-self : goal.invariant_of-self
invariant_of-self c = (counted_at c.self.inside.messages c.purge.new.messages c.self.inside.table.entries c.in-Some.place c.index_mut.result.now (record c.index_mut.result.now { mail = c.purge.new.self }) c.self.invariant c.index_mut.ensures.value c.purge.ensures.follows).counted

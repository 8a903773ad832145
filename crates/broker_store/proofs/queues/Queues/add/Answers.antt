use Rattle.std.proofs.Common.{◌≡◌, [], ◌∷◌, ◌++◌, None, sym, ap, ◌∙◌, string_bytes}
use Rattle.std.proofs.lemmas.List.{map-append}
use Rattle.std.specs.String.{string_eq}
use Rattle.indexmap.proofs.CallerLemmas.{insert_entry-new}
use Rattle.broker_store.specs.Messages.{message_at, queues_with, all_uses}
use Rattle.broker_store.specs.Queues.{named, queue_of, emptied}
use Rattle.broker_store.proofs.QueueLemmas.{lookup_named}
use Rattle.broker_store.proofs.KeyLemmas.{pushed_with, emptied_with}
use Rattle.broker_store.proofs.TableLemmas.{uses_pushed, absent_before}
use Rattle.broker_store.proofs.queues.Queues.add.Goals as goal

pub returns-clause-ok : goal.returns-clause-ok
returns-clause-ok c =
    let free : queue_of (string_bytes c.args.name) (named c.self.inside.table.entries) ≡ None = absent_before (message_at c.self.inside.messages) (string_bytes c.args.name) c.self.inside.table.entries (ap (queue_of (string_bytes c.args.name)) c.self.view_is ∙ c.requires.absent) in
    ap (λ es. queues_with (message_at c.self.inside.messages) (named es)) (c.in_ok-insert.ensures.entries ∙ insert_entry-new string_eq c.self.inside.table c.args.name c.args.queue (sym (lookup_named (string_bytes c.args.name) c.self.inside.table.entries) ∙ free))
    ∙ ap (queues_with (message_at c.self.inside.messages)) (map-append (λ e. (string_bytes e.0, e.1)) c.self.inside.table.entries ((c.args.name, c.args.queue) ∷ []))
    ∙ pushed_with (message_at c.self.inside.messages) (string_bytes c.args.name) c.args.queue (named c.self.inside.table.entries)
    ∙ ap (λ q. queues_with (message_at c.self.inside.messages) (named c.self.inside.table.entries) ++ (string_bytes c.args.name, q) ∷ []) (emptied_with (message_at c.self.inside.messages) c.args.queue c.requires.bare)
    ∙ ap (λ qs. qs ++ (string_bytes c.args.name, emptied c.args.queue) ∷ []) c.self.view_is

pub invariant_of-self-2 : goal.invariant_of-self-2
invariant_of-self-2 c =
    let free : queue_of (string_bytes c.args.name) (named c.self.inside.table.entries) ≡ None = absent_before (message_at c.self.inside.messages) (string_bytes c.args.name) c.self.inside.table.entries (ap (queue_of (string_bytes c.args.name)) c.self.view_is ∙ c.requires.absent) in
    let now : named c.insert.new.self.entries ≡ named c.self.inside.table.entries ++ (string_bytes c.args.name, c.args.queue) ∷ [] =
    ap named (c.in_ok-insert.ensures.entries ∙ insert_entry-new string_eq c.self.inside.table c.args.name c.args.queue (sym (lookup_named (string_bytes c.args.name) c.self.inside.table.entries) ∙ free))
    ∙ map-append (λ e. (string_bytes e.0, e.1)) c.self.inside.table.entries ((c.args.name, c.args.queue) ∷ []) in
    λ key. c.self.invariant key ∙ sym (ap (all_uses key) now ∙ uses_pushed key (string_bytes c.args.name) c.args.queue (named c.self.inside.table.entries) c.requires.bare)

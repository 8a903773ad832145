-- The line of each event states it.
use Rattle.std.proofs.Common.{◌≡◌, ℕ, ◌+◌, ◌<◌, ◌≤◌, Bool, true, false, cond, eqb, List, [], ◌∷◌, ◌++◌, length, refl, sym, ap, subst, ◌∙◌, arith}
use Rattle.std.specs.Prelude.{Option, Some, None, Ok, not, codes}
use Rattle.std.specs.Fmt.{decimal}
use Rattle.std.specs.List.{list_any}
use Rattle.std.proofs.lemmas.Bool.{and_right, not_from_true, not-true, le-ltb, ne_eqb, eqb-true, cond_both}
use Rattle.std.proofs.lemmas.List.{length-append}
use Rattle.std.proofs.lemmas.List.Folds.{list_all-append}
use Rattle.fed_journal.specs.declared.event.Event.{Event}
use Rattle.fed_journal.specs.declared.event.Event.TheVariants as event
use Rattle.fed_journal.specs.declared.event.Shovel.{Shovel}
use Rattle.fed_journal.specs.declared.link.AckMode.{AckMode}
use Rattle.fed_journal.specs.declared.link.AckMode.TheVariants.{OnConfirm}
use Rattle.amqp_props.specs.declared.link.ExchangeKind.{ExchangeKind}
use Rattle.amqp_props.specs.declared.link.ExchangeKind.TheVariants.{Direct, Fanout, Headers, Topic}
use Rattle.amqp_props.specs.declared.link.QueueOptions.{QueueOptions}
use Rattle.client_rules.specs.declared.client.ExchangeShape.{ExchangeShape}
use Rattle.field_tables.specs.Fields.{Pairs, no_pairs, pair}
use Rattle.route_core.specs.declared.binding.Binding.{Binding}
use Rattle.route_core.specs.declared.object.Sort.{Sort}
use Rattle.route_core.specs.declared.object.Sort.TheVariants as sorts
use Rattle.fed_journal.specs.declared.place.Place.{Place}
use Rattle.fed_journal.specs.Names.{same_text}
use Rattle.fed_journal.specs.Words.{word, place_word}
use Rattle.fed_schedule.specs.declared.keyword.Keyword.TheVariants as form
use Rattle.fed_schedule.specs.declared.keyword.BindingAction.{BindingAction}
use Rattle.fed_schedule.specs.declared.keyword.BindingAction.TheVariants as binding
use Rattle.fed_schedule.specs.declared.keyword.ClientAction.TheVariants as client
use Rattle.fed_schedule.specs.declared.keyword.Settlement.TheVariants as settles
use Rattle.fed_schedule.specs.declared.keyword.LinkAction.{LinkAction}
use Rattle.fed_schedule.specs.declared.keyword.LinkAction.TheVariants as link
use Rattle.fed_schedule.specs.declared.statement.Statement.TheVariants as states
use Rattle.amqp_props.specs.ContentHeader.{Value, property_rows, values_of, values_spelling, flags_of, payload_of, header_spelling}
use Rattle.std.specs.Int.{w16, w64, to_be_bytes}
use Rattle.amqp_props.specs.Same.{properties_yes}
use Rattle.amqp_props.specs.declared.message.Message.{Message}
use Rattle.fed_journal.specs.Messages.{is_persistent, properties}
use Rattle.schedule_words.specs.Words.{word_at, octets_of}
use Rattle.schedule_words.specs.Choices.{exchange_kind_of, sort_of}
use Rattle.schedule_words.specs.Values.{named_value, is_bad_argument_number, is_bad_argument_name, arguments_of}
use Rattle.schedule_words.proofs.Written.{IsTextWord, is_bare, AreBare, bare_word, decimal_writes, words-back}
use Rattle.fed_schedule.specs.Forms.{keyword_of, action_keyword_of, client_action_of, link_action_of, are_texts, is_unbuilt, is_unbuilt_declare, is_unbuilt_shovel, shovel_key, same_shovel}
use Rattle.fed_schedule.specs.Reasons.{has_bad_number, has_bad_client_number, has_bad_names, has_bad_binding_names, has_bad_client_names, has_bad_option, has_bad_declare_option, has_bad_client_option, has_bad_value, has_bad_arguments, has_bad_publish_names, has_bad_message, is_bad_body}
use Rattle.fed_schedule.specs.Statements.{statement_of, client_event, cancel_event, deliver_event, get_event, purge_event, close_event, settle_event, link_event, shovel_event, shovel_of, queue_options_of, exchange_shape_of, declare_event, binding_at, bound_event, binding_event, publish_event, consume_event}
use Rattle.fed_schedule.specs.Messages.{header_front, headers_of, props_of, message_of}
use Rattle.fed_schedule.specs.Options.{without, header_words, without_prefetch, are_built_queue_options, are_exchange_options, are_consumer_options, has_option, prefetch_of, is_bad_prefetch, consumer_prefetch}
use Rattle.fed_schedule.specs.Times.{count_of}
use Rattle.fed_schedule.specs.Schedule.{State}
use Rattle.schedule_writer.specs.Lines.{client_words, option_words, kind_word, sort_word, queue_words, exchange_words, binding_words, message_words, consumer_words, source_words, target_words, shovel_words, is_empty_table, has_line, event_words}
use Rattle.schedule_writer.specs.Readable.{IsName, IsBroker, IsPlace, IsClient, IsShovelQueue, IsLink, IsCopy, IsBody, CanBeRead, is_new}
use Rattle.schedule_writer.proofs.Joined.{AreWords, AreOnes, ones, ones_escaped, all_texts, all_escaped}
use Rattle.schedule_writer.proofs.Judged.{IsStated, counts, counts_ones, stated, stated_ones}
use Rattle.schedule_writer.proofs.Slots.{name_slot, broker_slot, place_slot, client_slot, copy_slot, prefetch_read, named, ended, queue_good}

abbrev Words : Type 0
Words = List (List ℕ)

-- `show`
show_stated : (r : State) → IsStated r event.Show (codes "show" ∷ [])
unfolding keyword_of action_keyword_of client_action_of link_action_of are_texts is_unbuilt is_unbuilt_shovel has_bad_number has_bad_client_number has_bad_names has_bad_client_names has_bad_option has_bad_client_option has_bad_value statement_of client_event
show_stated r =
    let ws : Words = codes "show" ∷ [] in
    let words : AreWords ws = (bare_word (codes "show") (omega arith) refl refl, tt) in
    stated r form.Show ws event.Show words (record {
      texts = all_texts ws words;
      once = refl;
      some = refl;
      form = refl;
      built = refl;
      timely = refl;
      counted = counts form.Show ws words refl refl;
      escaped = all_escaped ws words;
      numbers = refl;
      names = refl;
      options = refl;
      values = refl;
    }) refl

-- ---- links

link_stated : (r : State) (w : List ℕ) (a : LinkAction) (l : List ℕ) → IsTextWord w → IsLink l → same_text w (codes "times") ≡ false → same_text w (codes "publish") ≡ false → keyword_of w ≡ Some (form.Link a) → IsStated r (link_event a l) (w ∷ l ∷ [])
unfolding are_texts is_unbuilt is_unbuilt_shovel has_bad_number has_bad_client_number has_bad_names has_bad_client_names has_bad_option has_bad_client_option has_bad_value statement_of client_event
link_stated r w a l first is once plain named =
    let ws : Words = w ∷ l ∷ [] in
    let second : IsTextWord l = record { written = is.written; valid = is.valid } in
    let words : AreWords ws = (first, (second, tt)) in
    stated r (form.Link a) ws (link_event a l) words (record {
      texts = rw (plain, once) (all_texts ws words);
      once = once;
      some = refl;
      form = named;
      built = refl;
      timely = refl;
      counted = counts (form.Link a) ws words refl refl;
      escaped = all_escaped ws words;
      numbers = refl;
      names = is.short;
      options = refl;
      values = refl;
    }) (ap (λ (n : List ℕ). states.Event (link_event a n)) is.same)

-- ---- clients

client_are : (w : List ℕ) (p : Place) (c : ℕ) (ws : Words) → IsTextWord w → IsClient p c → AreWords ws → AreWords (client_words w p c ws)
client_are w p c ws first is others = (first, ((place_slot p is.place).is_word, ((client_slot c is.number).is_word, others)))

cancel_stated : (r : State) (p : Place) (c : ℕ) (t : List ℕ) → IsClient p c → IsName t → IsStated r (event.Cancel p c t) (client_words (codes "cancel") p c (word t ∷ []))
unfolding keyword_of action_keyword_of client_action_of link_action_of are_texts is_unbuilt is_unbuilt_shovel has_bad_number has_bad_client_number has_bad_names has_bad_client_names has_bad_option has_bad_client_option has_bad_value statement_of client_event cancel_event
cancel_stated r p c t is called =
    let place = place_slot p is.place in
    let number = client_slot c is.number in
    let name = name_slot t called in
    let k = form.Client client.Cancel in
    let ws : Words = client_words (codes "cancel") p c (word t ∷ []) in
    let words : AreWords ws = client_are (codes "cancel") p c (word t ∷ []) (bare_word (codes "cancel") (omega arith) refl refl) is (name.is_word, tt) in
    stated r k ws (event.Cancel p c t) words (record {
      texts = all_texts ws words;
      once = refl;
      some = refl;
      form = refl;
      built = refl;
      timely = refl;
      counted = counts k ws words refl refl;
      escaped = all_escaped ws words;
      numbers = rw number.good refl;
      names = named p t place name;
      options = refl;
      values = refl;
    }) (rw (place.read, number.read, name.read) refl)

deliver_stated : (r : State) (p : Place) (c : ℕ) (t : List ℕ) → IsClient p c → IsName t → IsStated r (event.Deliver p c t) (client_words (codes "deliver") p c (word t ∷ []))
unfolding keyword_of action_keyword_of client_action_of link_action_of are_texts is_unbuilt is_unbuilt_shovel has_bad_number has_bad_client_number has_bad_names has_bad_client_names has_bad_option has_bad_client_option has_bad_value statement_of client_event deliver_event
deliver_stated r p c t is called =
    let place = place_slot p is.place in
    let number = client_slot c is.number in
    let name = name_slot t called in
    let k = form.Client client.Deliver in
    let ws : Words = client_words (codes "deliver") p c (word t ∷ []) in
    let words : AreWords ws = client_are (codes "deliver") p c (word t ∷ []) (bare_word (codes "deliver") (omega arith) refl refl) is (name.is_word, tt) in
    stated r k ws (event.Deliver p c t) words (record {
      texts = all_texts ws words;
      once = refl;
      some = refl;
      form = refl;
      built = refl;
      timely = refl;
      counted = counts k ws words refl refl;
      escaped = all_escaped ws words;
      numbers = rw number.good refl;
      names = named p t place name;
      options = refl;
      values = refl;
    }) (rw (place.read, number.read, name.read) refl)

purge_stated : (r : State) (p : Place) (c : ℕ) (t : List ℕ) → IsClient p c → IsName t → IsStated r (event.Purge p c t) (client_words (codes "purge") p c (word t ∷ []))
unfolding keyword_of action_keyword_of client_action_of link_action_of are_texts is_unbuilt is_unbuilt_shovel has_bad_number has_bad_client_number has_bad_names has_bad_client_names has_bad_option has_bad_client_option has_bad_value statement_of client_event purge_event
purge_stated r p c t is called =
    let place = place_slot p is.place in
    let number = client_slot c is.number in
    let name = name_slot t called in
    let k = form.Client client.Purge in
    let ws : Words = client_words (codes "purge") p c (word t ∷ []) in
    let words : AreWords ws = client_are (codes "purge") p c (word t ∷ []) (bare_word (codes "purge") (omega arith) refl refl) is (name.is_word, tt) in
    stated r k ws (event.Purge p c t) words (record {
      texts = all_texts ws words;
      once = refl;
      some = refl;
      form = refl;
      built = refl;
      timely = refl;
      counted = counts k ws words refl refl;
      escaped = all_escaped ws words;
      numbers = rw number.good refl;
      names = named p t place name;
      options = refl;
      values = refl;
    }) (rw (place.read, number.read, name.read) refl)

close_stated : (r : State) (p : Place) (c : ℕ) → IsClient p c → IsStated r (event.Close p c) (client_words (codes "close") p c [])
unfolding keyword_of action_keyword_of client_action_of link_action_of are_texts is_unbuilt is_unbuilt_shovel has_bad_number has_bad_client_number has_bad_names has_bad_client_names has_bad_option has_bad_client_option has_bad_value statement_of client_event close_event
close_stated r p c is =
    let place = place_slot p is.place in
    let number = client_slot c is.number in
    let k = form.Client client.Close in
    let ws : Words = client_words (codes "close") p c [] in
    let words : AreWords ws = client_are (codes "close") p c [] (bare_word (codes "close") (omega arith) refl refl) is tt in
    stated r k ws (event.Close p c) words (record {
      texts = all_texts ws words;
      once = refl;
      some = refl;
      form = refl;
      built = refl;
      timely = refl;
      counted = counts k ws words refl refl;
      escaped = all_escaped ws words;
      numbers = rw number.good refl;
      names = place.good;
      options = refl;
      values = refl;
    }) (rw (place.read, number.read) refl)

get_stated : (r : State) (p : Place) (c : ℕ) (t : List ℕ) (no_ack : Bool) → IsClient p c → IsName t → IsStated r (event.Get p c t no_ack) (client_words (codes "get") p c (word t ∷ option_words no_ack (codes "no-ack")))
unfolding keyword_of action_keyword_of client_action_of link_action_of are_texts is_unbuilt is_unbuilt_shovel has_bad_number has_bad_client_number has_bad_names has_bad_client_names has_bad_option has_bad_client_option has_bad_value statement_of client_event get_event
get_stated r p c t true is called =
    let place = place_slot p is.place in
    let number = client_slot c is.number in
    let name = name_slot t called in
    let k = form.Client client.Get in
    let ws : Words = client_words (codes "get") p c (word t ∷ codes "no-ack" ∷ []) in
    let words : AreWords ws = client_are (codes "get") p c (word t ∷ codes "no-ack" ∷ []) (bare_word (codes "get") (omega arith) refl refl) is (name.is_word, (bare_word (codes "no-ack") (omega arith) refl refl, tt)) in
    stated r k ws (event.Get p c t true) words (record {
      texts = all_texts ws words;
      once = refl;
      some = refl;
      form = refl;
      built = refl;
      timely = refl;
      counted = counts k ws words refl refl;
      escaped = all_escaped ws words;
      numbers = rw number.good refl;
      names = named p t place name;
      options = refl;
      values = refl;
    }) (rw (place.read, number.read, name.read) refl)
get_stated r p c t false is called =
    let place = place_slot p is.place in
    let number = client_slot c is.number in
    let name = name_slot t called in
    let k = form.Client client.Get in
    let ws : Words = client_words (codes "get") p c (word t ∷ []) in
    let words : AreWords ws = client_are (codes "get") p c (word t ∷ []) (bare_word (codes "get") (omega arith) refl refl) is (name.is_word, tt) in
    stated r k ws (event.Get p c t false) words (record {
      texts = all_texts ws words;
      once = refl;
      some = refl;
      form = refl;
      built = refl;
      timely = refl;
      counted = counts k ws words refl refl;
      escaped = all_escaped ws words;
      numbers = rw number.good refl;
      names = named p t place name;
      options = refl;
      values = refl;
    }) (rw (place.read, number.read, name.read) refl)

ack_stated : (r : State) (p : Place) (c : ℕ) (copy : ℕ) → IsClient p c → IsCopy copy → IsStated r (event.Ack p c copy) (client_words (codes "ack") p c (decimal copy ∷ []))
unfolding keyword_of action_keyword_of client_action_of link_action_of are_texts is_unbuilt is_unbuilt_shovel has_bad_number has_bad_client_number has_bad_names has_bad_client_names has_bad_option has_bad_client_option has_bad_value statement_of client_event settle_event
ack_stated r p c copy is counted =
    let place = place_slot p is.place in
    let number = client_slot c is.number in
    let held = copy_slot copy counted in
    let k = form.Client (client.Settle settles.Ack) in
    let ws : Words = client_words (codes "ack") p c (decimal copy ∷ []) in
    let words : AreWords ws = client_are (codes "ack") p c (decimal copy ∷ []) (bare_word (codes "ack") (omega arith) refl refl) is (held.is_word, tt) in
    stated r k ws (event.Ack p c copy) words (record {
      texts = all_texts ws words;
      once = refl;
      some = refl;
      form = refl;
      built = refl;
      timely = refl;
      counted = counts k ws words refl refl;
      escaped = all_escaped ws words;
      numbers = rw (number.good, held.good) refl;
      names = place.good;
      options = refl;
      values = refl;
    }) (rw (place.read, number.read, held.read) refl)

reject_stated : (r : State) (p : Place) (c : ℕ) (copy : ℕ) → IsClient p c → IsCopy copy → IsStated r (event.Reject p c copy) (client_words (codes "reject") p c (decimal copy ∷ []))
unfolding keyword_of action_keyword_of client_action_of link_action_of are_texts is_unbuilt is_unbuilt_shovel has_bad_number has_bad_client_number has_bad_names has_bad_client_names has_bad_option has_bad_client_option has_bad_value statement_of client_event settle_event
reject_stated r p c copy is counted =
    let place = place_slot p is.place in
    let number = client_slot c is.number in
    let held = copy_slot copy counted in
    let k = form.Client (client.Settle settles.Reject) in
    let ws : Words = client_words (codes "reject") p c (decimal copy ∷ []) in
    let words : AreWords ws = client_are (codes "reject") p c (decimal copy ∷ []) (bare_word (codes "reject") (omega arith) refl refl) is (held.is_word, tt) in
    stated r k ws (event.Reject p c copy) words (record {
      texts = all_texts ws words;
      once = refl;
      some = refl;
      form = refl;
      built = refl;
      timely = refl;
      counted = counts k ws words refl refl;
      escaped = all_escaped ws words;
      numbers = rw (number.good, held.good) refl;
      names = place.good;
      options = refl;
      values = refl;
    }) (rw (place.read, number.read, held.read) refl)

requeue_stated : (r : State) (p : Place) (c : ℕ) (copy : ℕ) → IsClient p c → IsCopy copy → IsStated r (event.Requeue p c copy) (client_words (codes "requeue") p c (decimal copy ∷ []))
unfolding keyword_of action_keyword_of client_action_of link_action_of are_texts is_unbuilt is_unbuilt_shovel has_bad_number has_bad_client_number has_bad_names has_bad_client_names has_bad_option has_bad_client_option has_bad_value statement_of client_event settle_event
requeue_stated r p c copy is counted =
    let place = place_slot p is.place in
    let number = client_slot c is.number in
    let held = copy_slot copy counted in
    let k = form.Client (client.Settle settles.Requeue) in
    let ws : Words = client_words (codes "requeue") p c (decimal copy ∷ []) in
    let words : AreWords ws = client_are (codes "requeue") p c (decimal copy ∷ []) (bare_word (codes "requeue") (omega arith) refl refl) is (held.is_word, tt) in
    stated r k ws (event.Requeue p c copy) words (record {
      texts = all_texts ws words;
      once = refl;
      some = refl;
      form = refl;
      built = refl;
      timely = refl;
      counted = counts k ws words refl refl;
      escaped = all_escaped ws words;
      numbers = rw (number.good, held.good) refl;
      names = place.good;
      options = refl;
      values = refl;
    }) (rw (place.read, number.read, held.read) refl)

-- ---- brokers and operators

flush_stated : (r : State) (b : List ℕ) → IsBroker b → IsStated r (event.Flush b) (codes "flush" ∷ word b ∷ [])
unfolding keyword_of action_keyword_of client_action_of link_action_of are_texts is_unbuilt is_unbuilt_shovel has_bad_number has_bad_client_number has_bad_names has_bad_client_names has_bad_option has_bad_client_option has_bad_value statement_of client_event
flush_stated r b is =
    let broker = broker_slot b is in
    let ws : Words = codes "flush" ∷ word b ∷ [] in
    let words : AreWords ws = (bare_word (codes "flush") (omega arith) refl refl, (broker.is_word, tt)) in
    stated r form.Flush ws (event.Flush b) words (record {
      texts = all_texts ws words;
      once = refl;
      some = refl;
      form = refl;
      built = refl;
      timely = refl;
      counted = counts form.Flush ws words refl refl;
      escaped = all_escaped ws words;
      numbers = refl;
      names = broker.good;
      options = refl;
      values = refl;
    }) (ap (λ (n : List ℕ). states.Event (event.Flush n)) broker.read)

mode_is : (m : AckMode) → OnConfirm ≡ m
mode_is OnConfirm = refl

shovel_stated : (r : State) (p : Place) (n : List ℕ) (x : Shovel) → IsPlace p → IsName n → IsBroker x.source → IsShovelQueue x.source_queue → IsBroker x.target → IsShovelQueue x.target_queue
    → list_any (same_shovel (shovel_key p n)) r.shovels ≡ false → IsStated r (event.SetShovel p n x) (shovel_words p n x)
unfolding keyword_of action_keyword_of client_action_of link_action_of are_texts is_unbuilt is_unbuilt_shovel has_bad_number has_bad_client_number has_bad_names has_bad_client_names has_bad_option has_bad_client_option has_bad_value statement_of client_event shovel_words source_words target_words shovel_event shovel_of count_of
shovel_stated r p n x is called from from_queue to to_queue new =
    let place = place_slot p is in
    let name = name_slot n called in
    let source = broker_slot x.source from in
    let target = broker_slot x.target to in
    let source_queue = name_slot x.source_queue from_queue.name in
    let target_queue = name_slot x.target_queue to_queue.name in
    let mode = mode_is x.mode in
    let ws : Words = codes "shovel" ∷ place_word p ∷ word n ∷ word x.source ∷ word x.source_queue ∷ word x.target ∷ word x.target_queue ∷ codes "on-confirm" ∷ [] in
    let words : AreWords ws = (
      bare_word (codes "shovel") (omega arith) refl refl,
      (
        place.is_word,
        (
          name.is_word,
          (
            source.is_word,
            (
              source_queue.is_word,
              (
                target.is_word,
                (
                  target_queue.is_word,
                  (bare_word (codes "on-confirm") (omega arith) refl refl, tt),
                ),
              ),
            ),
          ),
        ),
      ),
    ) in
    stated r form.Shovel ws (event.SetShovel p n x) words (record {
      texts = all_texts ws words;
      once = refl;
      some = refl;
      form = refl;
      built = rw (place.read, name.read, new) refl;
      timely = refl;
      counted = counts form.Shovel ws words (refl) refl;
      escaped = all_escaped ws words;
      numbers = refl;
      names = rw (named p n place name, ended x.source x.source_queue source source_queue, ended x.target x.target_queue target target_queue) refl;
      options = refl;
      values = rw (queue_good x.source_queue from_queue, queue_good x.target_queue to_queue) refl;
    })
    (rw (place.read, name.read, source.read, source_queue.read, target.read, target_queue.read)
    (λ i. states.Event (event.SetShovel p n (record { source = x.source; source_queue = x.source_queue; target = x.target; target_queue = x.target_queue; mode = mode i }))))

-- ---- declarations

queue_stated : (r : State) (p : Place) (c : ℕ) (q : List ℕ) (opts : Words) (o : QueueOptions) → IsClient p c → IsName q → AreWords opts → are_built_queue_options opts ≡ true → queue_options_of opts ≡ o
    → IsStated r (event.DeclareQueue p c q o) (client_words (codes "declare") p c (codes "queue" ∷ word q ∷ opts))
unfolding keyword_of action_keyword_of client_action_of link_action_of are_texts is_unbuilt is_unbuilt_shovel has_bad_number has_bad_client_number has_bad_names has_bad_client_names has_bad_option has_bad_client_option has_bad_value statement_of client_event is_unbuilt_declare has_bad_declare_option declare_event
queue_stated r p c q opts o is called are built options =
    let place = place_slot p is.place in
    let number = client_slot c is.number in
    let name = name_slot q called in
    let ws : Words = client_words (codes "declare") p c (codes "queue" ∷ word q ∷ opts) in
    let words : AreWords ws = client_are (codes "declare") p c (codes "queue" ∷ word q ∷ opts) (bare_word (codes "declare") (omega arith) refl refl) is (bare_word (codes "queue") (omega arith) refl refl, (name.is_word, are)) in
    stated r form.Declare ws (event.DeclareQueue p c q o) words (record {
      texts = all_texts ws words;
      once = refl;
      some = ne_eqb (length ws) 0 (omega arith);
      form = refl;
      built = and_right _ _ (not_from_true _ built);
      timely = refl;
      counted = counts form.Declare ws words (le-ltb (length ws) 5 (omega arith)) refl;
      escaped = all_escaped ws words;
      numbers = rw number.good refl;
      names = named p q place name;
      options = rw built refl;
      values = refl;
    })
    (rw (place.read, number.read, name.read, options) refl)

durable_word : IsTextWord (codes "durable")
durable_word = bare_word (codes "durable") (omega arith) refl refl

exclusive_word : IsTextWord (codes "exclusive")
exclusive_word = bare_word (codes "exclusive") (omega arith) refl refl

internal_word : IsTextWord (codes "internal")
internal_word = bare_word (codes "internal") (omega arith) refl refl

no_ack_word : IsTextWord (codes "no-ack")
no_ack_word = bare_word (codes "no-ack") (omega arith) refl refl

abbrev plain_options : Bool → Bool → QueueOptions
plain_options durable exclusive = record { durable = durable; exclusive = exclusive; auto_delete = false }

-- each choice of a queue's options
queue_choice : (r : State) (p : Place) (c : ℕ) (q : List ℕ) (durable exclusive : Bool) → IsClient p c → IsName q
    → IsStated r (event.DeclareQueue p c q (plain_options durable exclusive)) (client_words (codes "declare") p c (queue_words q (plain_options durable exclusive)))
unfolding queue_words are_built_queue_options without queue_options_of has_option
queue_choice r p c q true true is called = queue_stated r p c q (codes "durable" ∷ codes "exclusive" ∷ []) _ is called (durable_word, (exclusive_word, tt)) refl refl
queue_choice r p c q true false is called = queue_stated r p c q (codes "durable" ∷ []) _ is called (durable_word, tt) refl refl
queue_choice r p c q false true is called = queue_stated r p c q (codes "exclusive" ∷ []) _ is called (exclusive_word, tt) refl refl
queue_choice r p c q false false is called = queue_stated r p c q [] _ is called tt refl refl

declared_queue : (r : State) (p : Place) (c : ℕ) (q : List ℕ) (o : QueueOptions) → o.auto_delete ≡ false → IsClient p c → IsName q
    → IsStated r (event.DeclareQueue p c q o) (client_words (codes "declare") p c (queue_words q o))
declared_queue r p c q o kept is called =
    let same : plain_options o.durable o.exclusive ≡ o = λ i. record { durable = o.durable; exclusive = o.exclusive; auto_delete = sym kept i } in
    subst (λ (x : QueueOptions). IsStated r (event.DeclareQueue p c q x) (client_words (codes "declare") p c (queue_words q x))) same (queue_choice r p c q o.durable o.exclusive is called)

kind_read : (k : ExchangeKind) → exchange_kind_of (kind_word k) ≡ Some k
unfolding exchange_kind_of
kind_read Direct = refl
kind_read Fanout = refl
kind_read Headers = refl
kind_read Topic = refl

kind_is : (k : ExchangeKind) → IsTextWord (kind_word k)
kind_is Direct = bare_word (codes "direct") (omega arith) refl refl
kind_is Fanout = bare_word (codes "fanout") (omega arith) refl refl
kind_is Headers = bare_word (codes "headers") (omega arith) refl refl
kind_is Topic = bare_word (codes "topic") (omega arith) refl refl

exchange_stated : (r : State) (p : Place) (c : ℕ) (x : List ℕ) (opts : Words) (k : ExchangeKind) (o : ExchangeShape) → IsClient p c → IsName x → AreWords opts → are_exchange_options opts ≡ true → exchange_shape_of (kind_word k) opts ≡ o
    → IsStated r (event.DeclareExchange p c x o) (client_words (codes "declare") p c (codes "exchange" ∷ word x ∷ kind_word k ∷ opts))
unfolding keyword_of action_keyword_of client_action_of link_action_of are_texts is_unbuilt is_unbuilt_shovel has_bad_number has_bad_client_number has_bad_names has_bad_client_names has_bad_option has_bad_client_option has_bad_value statement_of client_event is_unbuilt_declare has_bad_declare_option declare_event
exchange_stated r p c x opts k o is called are built options =
    let place = place_slot p is.place in
    let number = client_slot c is.number in
    let name = name_slot x called in
    let rest : Words = codes "exchange" ∷ word x ∷ kind_word k ∷ opts in
    let ws : Words = client_words (codes "declare") p c rest in
    let words : AreWords ws = client_are (codes "declare") p c rest (bare_word (codes "declare") (omega arith) refl refl) is (bare_word (codes "exchange") (omega arith) refl refl, (name.is_word, (kind_is k, are))) in
    stated r form.Declare ws (event.DeclareExchange p c x o) words (record {
      texts = all_texts ws words;
      once = refl;
      some = ne_eqb (length ws) 0 (omega arith);
      form = refl;
      built = refl;
      timely = refl;
      counted = counts form.Declare ws words (le-ltb (length ws) 6 (omega arith)) refl;
      escaped = all_escaped ws words;
      numbers = rw number.good refl;
      names = named p x place name;
      options = rw (kind_read k, built) refl;
      values = refl;
    })
    (rw (place.read, number.read, name.read, options) refl)

exchange_choice : (r : State) (p : Place) (c : ℕ) (x : List ℕ) (k : ExchangeKind) (durable internal : Bool) → IsClient p c → IsName x
    → IsStated r (event.DeclareExchange p c x (record { kind = k; durable = durable; internal = internal })) (client_words (codes "declare") p c (exchange_words x (record { kind = k; durable = durable; internal = internal })))
unfolding exchange_words are_exchange_options without exchange_shape_of has_option
exchange_choice r p c x k true true is called = exchange_stated r p c x (codes "durable" ∷ codes "internal" ∷ []) k _ is called (durable_word, (internal_word, tt)) refl (rw (kind_read k) refl)
exchange_choice r p c x k true false is called = exchange_stated r p c x (codes "durable" ∷ []) k _ is called (durable_word, tt) refl (rw (kind_read k) refl)
exchange_choice r p c x k false true is called = exchange_stated r p c x (codes "internal" ∷ []) k _ is called (internal_word, tt) refl (rw (kind_read k) refl)
exchange_choice r p c x k false false is called = exchange_stated r p c x [] k _ is called tt refl (rw (kind_read k) refl)

-- ---- bindings

sort_read : (x : Sort) → sort_of (sort_word x) ≡ Some x
unfolding sort_of
sort_read sorts.Queue = refl
sort_read sorts.Exchange = refl

sort_is : (x : Sort) → IsTextWord (sort_word x)
sort_is sorts.Queue = bare_word (codes "queue") (omega arith) refl refl
sort_is sorts.Exchange = bare_word (codes "exchange") (omega arith) refl refl

no_arguments : has_bad_arguments [] ≡ false
unfolding has_bad_arguments arguments_of
no_arguments = refl

empty_is : (ps : Pairs) → is_empty_table ps ≡ true → no_pairs ≡ ps
empty_is no_pairs e = refl
empty_is (pair name v ps) e = absurd cc

binding_read : (p : Place) (c : ℕ) (w : List ℕ) (b : Binding) → is_empty_table b.args ≡ true → IsName b.dest → IsName b.source → IsName b.key → binding_at (client_words w p c (binding_words b)) ≡ b
unfolding binding_at binding_words arguments_of
binding_read p c w b none to from by =
    let args = empty_is b.args none in
    rw ((name_slot b.source from).read, sort_read b.sort, (name_slot b.dest to).read, (name_slot b.key by).read)
    (λ i. record { source = b.source; sort = b.sort; dest = b.dest; key = b.key; args = args i })

bound_said : (r : State) (w : List ℕ) (a : BindingAction) (p : Place) (c : ℕ) (b : Binding) → is_empty_table b.args ≡ true → IsClient p c → IsName b.dest → IsName b.source → IsName b.key
    → statement_of (form.Binding a) (client_words w p c (binding_words b)) ≡ states.Event (bound_event a p c b)
unfolding statement_of binding_event
bound_said r w binding.Bind p c b none is to from by = rw ((place_slot p is.place).read, (client_slot c is.number).read, binding_read p c w b none to from by) refl
bound_said r w binding.Unbind p c b none is to from by = rw ((place_slot p is.place).read, (client_slot c is.number).read, binding_read p c w b none to from by) refl

binding_stated : (r : State) (w : List ℕ) (a : BindingAction) (p : Place) (c : ℕ) (b : Binding) → IsTextWord w → same_text w (codes "times") ≡ false → same_text w (codes "publish") ≡ false → keyword_of w ≡ Some (form.Binding a)
    → is_empty_table b.args ≡ true → IsClient p c → IsName b.dest → IsName b.source → IsName b.key → IsStated r (bound_event a p c b) (client_words w p c (binding_words b))
unfolding are_texts is_unbuilt is_unbuilt_shovel has_bad_number has_bad_client_number has_bad_names has_bad_client_names has_bad_option has_bad_client_option has_bad_value statement_of client_event has_bad_binding_names binding_words
binding_stated r w a p c b first once plain known none is to from by =
    let place = place_slot p is.place in
    let number = client_slot c is.number in
    let dest = name_slot b.dest to in
    let source = name_slot b.source from in
    let route = name_slot b.key by in
    let rest : Words = sort_word b.sort ∷ word b.dest ∷ word b.source ∷ word b.key ∷ [] in
    let ws : Words = client_words w p c rest in
    let words : AreWords ws = client_are w p c rest first is (sort_is b.sort, (dest.is_word, (source.is_word, (route.is_word, tt)))) in
    stated r (form.Binding a) ws (bound_event a p c b) words (record {
      texts = rw (plain, once) (all_texts ws words);
      once = once;
      some = refl;
      form = known;
      built = refl;
      timely = refl;
      counted = counts (form.Binding a) ws words refl refl;
      escaped = all_escaped ws words;
      numbers = rw number.good refl;
      names = rw (named p b.dest place dest, source.good, route.good) refl;
      options = rw (sort_read b.sort) refl;
      values = no_arguments;
    }) (bound_said r w a p c b none is to from by)

-- ---- consumers

consume_stated : (r : State) (p : Place) (c : ℕ) (q t : List ℕ) (opts : Words) (no_ack : Bool) (n : ℕ) → IsClient p c → IsName q → IsName t → AreWords opts → list_any is_bad_prefetch opts ≡ false → are_consumer_options opts ≡ true
    → same_text (word_at opts 0) (codes "no-ack") ≡ no_ack → consumer_prefetch opts ≡ n
    → IsStated r (event.Consume p c q t no_ack n) (client_words (codes "consume") p c (word q ∷ word t ∷ opts))
unfolding keyword_of action_keyword_of client_action_of link_action_of are_texts is_unbuilt is_unbuilt_shovel has_bad_number has_bad_client_number has_bad_names has_bad_client_names has_bad_option has_bad_client_option has_bad_value statement_of client_event consume_event
consume_stated r p c q t opts no_ack n is called tagged are numbers_good options_good acks limit =
    let place = place_slot p is.place in
    let number = client_slot c is.number in
    let queue = name_slot q called in
    let tag = name_slot t tagged in
    let k = form.Client client.Consume in
    let rest : Words = word q ∷ word t ∷ opts in
    let ws : Words = client_words (codes "consume") p c rest in
    let words : AreWords ws = client_are (codes "consume") p c rest (bare_word (codes "consume") (omega arith) refl refl) is (queue.is_word, (tag.is_word, are)) in
    stated r k ws (event.Consume p c q t no_ack n) words (record {
      texts = all_texts ws words;
      once = refl;
      some = ne_eqb (length ws) 0 (omega arith);
      form = refl;
      built = refl;
      timely = refl;
      counted = counts k ws words (le-ltb (length ws) 5 (omega arith)) refl;
      escaped = all_escaped ws words;
      numbers = rw (number.good, numbers_good) refl;
      names = rw (named p q place queue, tag.good) refl;
      options = rw options_good refl;
      values = refl;
    })
    (rw (place.read, number.read, queue.read, tag.read, acks, limit) refl)

-- the word of a limit
abbrev limit_word : ℕ → List ℕ
limit_word n = codes "prefetch=" ++ decimal n

limit_is : (n : ℕ) → n < 65536 → IsTextWord (limit_word n)
limit_is n small =
    bare_word (limit_word n) (omega arith) (rw (list_all-append is_bare (codes "prefetch=") (decimal n), (decimal_writes 0 n (omega arith)).bare) refl) refl

limit_read : (n : ℕ) → n < 65536 → prefetch_of (limit_word n) ≡ Some n
unfolding prefetch_of
limit_read n small = prefetch_read n small

limited : (r : State) (p : Place) (c : ℕ) (q t : List ℕ) (no_ack : Bool) (n : ℕ) → n < 65536 → IsClient p c → IsName q → IsName t
    → IsStated r (event.Consume p c q t no_ack n) (client_words (codes "consume") p c (word q ∷ word t ∷ (option_words no_ack (codes "no-ack") ++ limit_word n ∷ [])))
unfolding are_consumer_options without without_prefetch consumer_prefetch
limited r p c q t true n small is called tagged =
    consume_stated r p c q t (codes "no-ack" ∷ limit_word n ∷ []) true n is called tagged (no_ack_word, (limit_is n small, tt)) (rw (limit_read n small) refl) refl refl (rw (limit_read n small) refl)
limited r p c q t false n small is called tagged =
    consume_stated r p c q t (limit_word n ∷ []) false n is called tagged (limit_is n small, tt) (rw (limit_read n small) refl) refl refl (rw (limit_read n small) refl)

unlimited : (r : State) (p : Place) (c : ℕ) (q t : List ℕ) (no_ack : Bool) → IsClient p c → IsName q → IsName t
    → IsStated r (event.Consume p c q t no_ack 0) (client_words (codes "consume") p c (word q ∷ word t ∷ (option_words no_ack (codes "no-ack") ++ [])))
unfolding are_consumer_options without without_prefetch consumer_prefetch prefetch_of
unlimited r p c q t true is called tagged = consume_stated r p c q t (codes "no-ack" ∷ []) true 0 is called tagged (no_ack_word, tt) refl refl refl refl
unlimited r p c q t false is called tagged = consume_stated r p c q t [] false 0 is called tagged tt refl refl refl refl

consumed : (r : State) (p : Place) (c : ℕ) (q t : List ℕ) (no_ack : Bool) (n : ℕ) → n < 65536 → IsClient p c → IsName q → IsName t
    → IsStated r (event.Consume p c q t no_ack n) (client_words (codes "consume") p c (consumer_words q t no_ack n))
unfolding consumer_words
consumed r p c q t no_ack n small is called tagged =
    cond_both (eqb n 0) [] (limit_word n ∷ []) (λ (x : Words). IsStated r (event.Consume p c q t no_ack n) (client_words (codes "consume") p c (word q ∷ word t ∷ (option_words no_ack (codes "no-ack") ++ x))))
    (λ e. subst (λ (m : ℕ). IsStated r (event.Consume p c q t no_ack m) (client_words (codes "consume") p c (word q ∷ word t ∷ (option_words no_ack (codes "no-ack") ++ [])))) (sym (eqb-true n 0 e)) (unlimited r p c q t no_ack is called tagged))
    (λ _. limited r p c q t no_ack n small is called tagged)

-- ---- messages

-- the header of a message without headers is short
length_payload : (size flags : ℕ) (v : List ℕ) → length (to_be_bytes w16 60 ++ (to_be_bytes w16 0 ++ (to_be_bytes w64 size ++ (to_be_bytes w16 flags ++ v)))) ≡ 14 + length v
length_payload size flags v =
    let d = length-append (to_be_bytes w16 flags) v in
    let c = length-append (to_be_bytes w64 size) (to_be_bytes w16 flags ++ v) in
    let b = length-append (to_be_bytes w16 0) (to_be_bytes w64 size ++ (to_be_bytes w16 flags ++ v)) in
    let a = length-append (to_be_bytes w16 60) (to_be_bytes w16 0 ++ (to_be_bytes w64 size ++ (to_be_bytes w16 flags ++ v))) in
    omega (arith, a, b, c, d)

abbrev listed : Bool → List (Option Value)
listed keep = values_of (properties keep None)

header_length : (size : ℕ) (keep : Bool) → length (header_spelling size (properties keep None)) ≡ 14 + length (values_spelling (listed keep))
unfolding payload_of
header_length size keep = length_payload size (flags_of property_rows (listed keep)) (values_spelling (listed keep))

short_values : (keep : Bool) → length (values_spelling (listed keep)) ≤ 1
unfolding values_of
short_values true = omega arith
short_values false = omega arith

short_header : (size : ℕ) (keep : Bool) → length (header_spelling size (properties keep None)) ≤ 131064
short_header size keep = omega (arith, header_length size keep, short_values keep)

body_good : (t : List ℕ) → IsBody t → is_bad_body (word t) ≡ false
unfolding is_bad_body
body_good t is = rw (words-back t is.octets).read (le-ltb 16777216 (length t) is.short)

message_read : (p : Place) (c : ℕ) (m : Message) (opts : Words) (keep : Bool) → IsName m.exchange → IsName m.key → IsBody m.body → m.props ≡ properties keep None → props_of (client_words (codes "publish") p c (word m.exchange ∷ word m.key ∷ word m.body ∷ opts)) ≡ properties keep None
    → message_of (client_words (codes "publish") p c (word m.exchange ∷ word m.key ∷ word m.body ∷ opts)) ≡ m
unfolding message_of
message_read p c m opts keep to by body props said =
    let same : properties keep None ≡ m.props = sym props in
    rw ((name_slot m.exchange to).read, (name_slot m.key by).read, (words-back m.body body.octets).read, said)
    (λ i. record { exchange = m.exchange; key = m.key; props = same i; body = m.body })

message_stated : (r : State) (p : Place) (c : ℕ) (m : Message) (opts : Words) (keep : Bool) → IsClient p c → IsName m.exchange → IsName m.key → IsBody m.body → AreWords opts → m.props ≡ properties keep None
    → list_any (is_bad_argument_number header_front) opts ≡ false → list_any (is_bad_argument_name header_front) opts ≡ false → header_words opts ≡ []
    → props_of (client_words (codes "publish") p c (word m.exchange ∷ word m.key ∷ word m.body ∷ opts)) ≡ properties keep None
    → IsStated r (event.Publish p c m) (client_words (codes "publish") p c (word m.exchange ∷ word m.key ∷ word m.body ∷ opts))
unfolding keyword_of action_keyword_of client_action_of link_action_of are_texts is_unbuilt is_unbuilt_shovel has_bad_number has_bad_client_number has_bad_names has_bad_client_names has_bad_option has_bad_client_option has_bad_value statement_of client_event has_bad_publish_names has_bad_message publish_event
message_stated r p c m opts keep is to by body are props numbers_good names_good headers said =
    let place = place_slot p is.place in
    let number = client_slot c is.number in
    let exchange = name_slot m.exchange to in
    let route = name_slot m.key by in
    let content = words-back m.body body.octets in
    let ws : Words = client_words (codes "publish") p c (word m.exchange ∷ word m.key ∷ word m.body ∷ opts) in
    let first = bare_word (codes "publish") (omega arith) refl refl in
    let five : AreWords (codes "publish" ∷ place_word p ∷ decimal c ∷ word m.exchange ∷ word m.key ∷ []) = (first, (place.is_word, (number.is_word, (exchange.is_word, (route.is_word, tt))))) in
    let all : AreOnes ws = (first.written, (place.is_word.written, (number.is_word.written, (exchange.is_word.written, (route.is_word.written, (content.written, ones opts are)))))) in
    stated_ones r form.Publish ws (event.Publish p c m) all (record {
      texts = rw (all_texts (codes "publish" ∷ place_word p ∷ decimal c ∷ word m.exchange ∷ word m.key ∷ []) five, all_texts opts are) refl;
      once = refl;
      some = ne_eqb (length ws) 0 (omega arith);
      form = refl;
      built = refl;
      timely = refl;
      counted = counts_ones form.Publish ws all (le-ltb (length ws) 6 (omega arith)) refl;
      escaped = ones_escaped ws all;
      numbers = rw (number.good, numbers_good) refl;
      names = rw (named p m.exchange place exchange, route.good, names_good) refl;
      options = rw headers refl;
      values = rw (body_good m.body body, headers, said, le-ltb 131064 _ (short_header (length (octets_of (word m.body))) keep)) refl;
    }) (rw (place.read, number.read, message_read p c m opts keep to by body props said) refl)

published : (r : State) (p : Place) (c : ℕ) (m : Message) (keep : Bool) → IsClient p c → IsName m.exchange → IsName m.key → IsBody m.body → m.props ≡ properties keep None
    → IsStated r (event.Publish p c m) (client_words (codes "publish") p c (word m.exchange ∷ word m.key ∷ word m.body ∷ option_words keep (codes "persistent")))
unfolding header_words without props_of headers_of named_value
published r p c m true is to by body props = message_stated r p c m (codes "persistent" ∷ []) true is to by body (bare_word (codes "persistent") (omega arith) refl refl, tt) props refl refl refl refl
published r p c m false is to by body props = message_stated r p c m [] false is to by body tt props refl refl refl refl

-- ---- all events

link_one : (r : State) (w : List ℕ) (a : LinkAction) (l : List ℕ) → IsLink l → 0 < length w → AreBare w → same_text w (codes "-") ≡ false → same_text w (codes "times") ≡ false → same_text w (codes "publish") ≡ false
    → keyword_of w ≡ Some (form.Link a) → IsStated r (link_event a l) (w ∷ l ∷ [])
link_one r w a l is some bare other once plain known = link_stated r w a l (bare_word w some bare other) is once plain known

pub event_stated : (r : State) (e : Event) → has_line e ≡ true → CanBeRead e → is_new r.shovels e ≡ true → IsStated r e (event_words e)
unfolding has_line event_words message_words keyword_of action_keyword_of client_action_of link_action_of
event_stated r (event.DeclareQueue p c q o) line can new = declared_queue r p c q o (not-true o.auto_delete line) can.0 can.1
event_stated r (event.DeclareExchange p c x o) line can new = exchange_choice r p c x o.kind o.durable o.internal can.0 can.1
event_stated r (event.Bind p c b) line can new = binding_stated r (codes "bind") binding.Bind p c b (bare_word (codes "bind") (omega arith) refl refl) refl refl refl line can.0 can.1 can.2 can.3
event_stated r (event.Unbind p c b) line can new = binding_stated r (codes "unbind") binding.Unbind p c b (bare_word (codes "unbind") (omega arith) refl refl) refl refl refl line can.0 can.1 can.2 can.3
event_stated r (event.Publish p c m) line can new = published r p c m (is_persistent m) can.0 can.1 can.2 can.3 (properties_yes m.props (properties (is_persistent m) None) line)
event_stated r (event.Consume p c q t no_ack n) line can new = consumed r p c q t no_ack n can.3 can.0 can.1 can.2
event_stated r (event.Cancel p c t) line can new = cancel_stated r p c t can.0 can.1
event_stated r (event.Deliver p c t) line can new = deliver_stated r p c t can.0 can.1
event_stated r (event.Get p c q no_ack) line can new = get_stated r p c q no_ack can.0 can.1
event_stated r (event.Ack p c copy) line can new = ack_stated r p c copy can.0 can.1
event_stated r (event.Reject p c copy) line can new = reject_stated r p c copy can.0 can.1
event_stated r (event.Requeue p c copy) line can new = requeue_stated r p c copy can.0 can.1
event_stated r (event.Purge p c q) line can new = purge_stated r p c q can.0 can.1
event_stated r (event.Close p c) line can new = close_stated r p c can
event_stated r (event.Flush b) line can new = flush_stated r b can
event_stated r (event.SetShovel p n x) line can new = shovel_stated r p n x can.0 can.1 can.2 can.3 can.4 can.5 (not-true _ new)
event_stated r (event.Open l) line can new = link_one r (codes "open") link.Open l can (omega arith) refl refl refl refl refl
event_stated r (event.Take l) line can new = link_one r (codes "take") link.Take l can (omega arith) refl refl refl refl refl
event_stated r (event.Send l) line can new = link_one r (codes "send") link.Send l can (omega arith) refl refl refl refl refl
event_stated r (event.Accept l) line can new = link_one r (codes "accept") link.Accept l can (omega arith) refl refl refl refl refl
event_stated r (event.Confirm l) line can new = link_one r (codes "confirm") link.Confirm l can (omega arith) refl refl refl refl refl
event_stated r (event.Note l) line can new = link_one r (codes "note") link.Note l can (omega arith) refl refl refl refl refl
event_stated r (event.Settle l) line can new = link_one r (codes "settle") link.Settle l can (omega arith) refl refl refl refl refl
event_stated r event.Show line can new = show_stated r

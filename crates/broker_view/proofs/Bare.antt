-- A bare virtual host is a view of a journal in which brokers only began.
use Rattle.std.proofs.Common.{◌≡◌, ◌+◌, List, [], ◌∷◌, ◌++◌, Bool, true, false, refl, sym, ap, subst, append_assoc, append-nil}
use Rattle.std.specs.List.{list_all}
use Rattle.std.proofs.lemmas.Bool.{false≢true, and_parts, and_from}
use Rattle.std.proofs.lemmas.List.Elements.{All-nil}
use Rattle.fed_journal.specs.declared.place.Place.{Place}
use Rattle.fed_journal.specs.declared.entry.Entry.{Entry}
use Rattle.fed_journal.specs.declared.entry.Entry.TheVariants.{Begun}
use Rattle.fed_journal.specs.Configuration.{queue_options, queue_owner, queues_of, exchange_shape}
use Rattle.fed_journal.specs.Routes.{site}
use Rattle.fed_journal.specs.Holders as holders
use Rattle.fed_journal.specs.Copies.{Standing, Unknown, Held, publication_of, entered, standing, copy_count}
use Rattle.fed_journal.specs.Consumers as journal
use Rattle.amqp_props.specs.declared.message.Message.{Message}
use Rattle.mini_broker.specs.Vhosts.{bare}
use Rattle.broker_store.specs.Queues.{Named, IsLast}
use Rattle.mini_broker.proofs.RoutedLemmas.{bare_routed}
use Rattle.broker_view.specs.Suits.{is_begun}
use Rattle.broker_view.specs.View.{IsNumbered, IsConfigured, HasConsumers, HasCopies, IsCounted, IsView, HasHome, RowStands}
use Rattle.broker_view.proofs.ViewStep.{view-step}

is_held : Standing → Bool
is_held (Held h) = true
is_held _ = false

not-held : (h : holders.Holder) → ◌≡◌ {A = Standing} Unknown (Held h) → ⊥
unfolding is_held
not-held h e = false≢true (ap is_held e)

first-configured : (p : Place) → IsConfigured [] p bare
unfolding queue_options queue_owner queues_of exchange_shape site
first-configured p = record {
  options = λ q. refl;
  owners = λ q. refl;
  names = refl;
  distinct = tt;
  shapes = λ x. refl;
  routing = refl;
  made = refl;
  routed = bare_routed bare.routing [] [] refl refl refl;
}

first-consuming : (p : Place) → HasConsumers [] p bare
unfolding journal.consumer
first-consuming p = record { consumers = λ k t. refl; single = tt; rise = tt; numbered = All-nil (IsNumbered bare) }

first-copies : (p : Place) → HasCopies [] p bare
unfolding entered standing
first-copies p = record {
  homes = λ r q. All-nil (HasHome [] r q);
  held = λ c r k tag e. absurd (not-held (holders.Channel r k tag) e);
  numbers = λ q. refl;
  rows = λ q. All-nil (RowStands [] p bare);
}

first-counted : IsCounted [] bare
unfolding publication_of
first-counted = record { known = λ c h. refl; above = All-nil (λ (q : Named Message). IsLast (copy_count [] + 1) q.1) }

first-view : (p : Place) → IsView [] p bare
first-view p = record { configured = first-configured p; consuming = first-consuming p; copies = first-copies p; counted = first-counted }

all-push : (J : List Entry) (e : Entry) → list_all is_begun J ≡ true → is_begun e ≡ true → list_all is_begun (J ++ e ∷ []) ≡ true
all-push [] e all on = and_from (is_begun e) true on refl
all-push (d ∷ J) e all on =
    let parts : (is_begun d ≡ true) × (list_all is_begun J ≡ true) = and_parts (is_begun d) (list_all is_begun J) all in
    and_from (is_begun d) (list_all is_begun (J ++ e ∷ [])) parts.0 (all-push J e parts.1 on)

begun-view : (K : List Entry) (e : Entry) (p : Place) → is_begun e ≡ true → list_all is_begun K ≡ true → IsView K p bare → IsView (K ++ e ∷ []) p bare
begun-view K (Begun broker cluster kept) p on all view = view-step K p (Begun broker cluster kept) bare view all
begun-view K e p on all view = absurd (false≢true on)

bare-from : (K es : List Entry) (p : Place) → list_all is_begun K ≡ true → list_all is_begun es ≡ true → IsView K p bare → IsView (K ++ es) p bare
bare-from K [] p all begun view = subst (λ J. IsView J p bare) (sym (append-nil K)) view
bare-from K (e ∷ es) p all begun view =
    let parts : (is_begun e ≡ true) × (list_all is_begun es ≡ true) = and_parts (is_begun e) (list_all is_begun es) begun in
    subst (λ J. IsView J p bare) (append_assoc K (e ∷ []) es)
    (bare-from (K ++ e ∷ []) es p (all-push K e all parts.0) parts.1 (begun-view K e p parts.0 all view))

pub bare-view : (J : List Entry) (p : Place) → list_all is_begun J ≡ true → IsView J p bare
bare-view J p begun = bare-from [] J p refl begun (first-view p)

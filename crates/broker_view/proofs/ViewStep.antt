-- A virtual host is a view of its journal after one entry more.
use Rattle.std.proofs.Common.{◌≡◌, ℕ, List, [], ◌∷◌, ◌++◌, true, Option, Some, None, is_some, refl, sym, ap, subst, ◌∙◌}
use Rattle.std.specs.Prelude.{All}
use Rattle.std.specs.Option.{option_map}
use Rattle.std.proofs.lemmas.List.Elements.{All-weaker}
use Rattle.fed_journal.specs.declared.place.Place.{Place}
use Rattle.fed_journal.specs.declared.entry.Publication.{Publication}
use Rattle.fed_journal.specs.declared.entry.Entry.{Entry}
use Rattle.fed_journal.specs.declared.entry.Entry.TheVariants.{Published, Delivered}
use Rattle.fed_journal.specs.Configuration.{queue_options}
use Rattle.fed_journal.specs.Routes.{routes}
use Rattle.amqp_props.specs.declared.message.Message.{Message}
use Rattle.broker_store.specs.Queues.{Standing, queue_of}
use Rattle.mini_broker.specs.Record.{holder_as}
use Rattle.mini_broker.specs.State.{VhostState}
use Rattle.broker_view.specs.View.{AreDistinct, IsConfigured, HasConsumers, IsChannel, IsView}
use Rattle.broker_view.specs.Recorded.{recorded}
use Rattle.broker_view.specs.Suits.{Suits}
use Rattle.broker_view.proofs.Names.{same_place-true}
use Rattle.broker_view.proofs.Configured.{configured-step}
use Rattle.broker_view.proofs.Counted.{counted-step}
use Rattle.broker_view.proofs.Consuming.{consuming-step}
use Rattle.broker_view.proofs.Holding.{holder-step, holder-fresh}
use Rattle.broker_view.proofs.Reached.{routes-stand, routes-distinct}
use Rattle.broker_view.proofs.CopiesStep.{IsRouted, IsFresh, copies-step}

some-map : (o : Option (Standing Message)) → is_some (option_map (λ (s : Standing Message). s.options) o) ≡ is_some o
some-map None = refl
some-map (Some s) = refl

stands : (J : List Entry) (p : Place) (v : VhostState) (q : List ℕ) → IsConfigured J p v → is_some (queue_options J p q) ≡ true → is_some (queue_of q v.queues) ≡ true
stands J p v q h on = sym (some-map (queue_of q v.queues)) ∙ ap is_some (h.options q) ∙ on

routed-at : (J : List Entry) (p : Place) (x : Publication) (v : VhostState) → IsConfigured J p v → x.queues ≡ routes J x.place x.message → x.place ≡ p → AreDistinct x.queues × All (λ name. is_some (queue_of name v.queues) ≡ true) x.queues
routed-at J p x v h same here =
    let names : x.queues ≡ routes J p x.message = same ∙ ap (λ r. routes J r x.message) here in (
      subst AreDistinct (sym names) (routes-distinct J p x.message),
      subst (All (λ name. is_some (queue_of name v.queues) ≡ true)) (sym names)
          (All-weaker (λ q. is_some (queue_options J p q) ≡ true) (λ q. is_some (queue_of q v.queues) ≡ true) (λ q. stands J p v q h) (routes J p x.message) (routes-stand J p v x.message h)),
    )

is-routed : (J : List Entry) (p : Place) (e : Entry) (v : VhostState) → IsConfigured J p v → Suits J e → IsRouted p v e
is-routed J p (Published x) v h suits = λ here. routed-at J p x v h suits.1 (same_place-true x.place p here)
is-routed J p e v h suits = tt

is-fresh : (J : List Entry) (p : Place) (e : Entry) (v : VhostState) → HasConsumers J p v → IsFresh J p v e (recorded p e v)
is-fresh J p (Delivered place client tag queue copy no_ack) v h = λ here.
    subst (λ r. IsChannel (J ++ Delivered r client tag queue copy no_ack ∷ []) p (recorded p (Delivered r client tag queue copy no_ack) v) copy r client tag (holder_as client tag v)) (sym here) (holder-fresh J p client tag queue copy no_ack v h)
is-fresh J p e v h = tt

-- the virtual host that an entry's record leaves is that of the longer journal
pub view-step : (J : List Entry) (p : Place) (e : Entry) (v : VhostState) → IsView J p v → Suits J e → IsView (J ++ e ∷ []) p (recorded p e v)
view-step J p e v view suits = record {
  configured = configured-step J p e v view.configured suits;
  consuming = consuming-step J p e v view.consuming suits;
  copies = copies-step J p e v view.copies view.counted.known suits (is-routed J p e v view.configured suits) (λ c h r other is. holder-step J p e v c h r view.consuming suits other is) (is-fresh J p e v view.consuming);
  counted = counted-step J p e v view.counted suits;
}

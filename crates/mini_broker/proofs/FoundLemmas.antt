-- What a declaration is answered goes by what a queue is apart from its copies' messages.
use Rattle.std.proofs.Common.{◌≡◌, ℕ, false, cond, List, Option, Some, None, Result, Ok, Err, is_some, unwrap_or, refl, ap, ◌∙◌}
use Rattle.std.specs.Prelude.{Bool}
use Rattle.std.specs.Option.{option_map}
use Rattle.std.proofs.lemmas.Bool.{true≢false, false≢true}
use Rattle.amqp_props.specs.declared.link.QueueOptions.{QueueOptions}
use Rattle.queue_core.specs.declared.rows.Row.{Row}
use Rattle.client_rules.specs.declared.client.Client.{Client}
use Rattle.mini_broker.specs.declared.fault.ClientFault.{ClientFault}
use Rattle.mini_broker.specs.declared.fault.ClientFault.TheVariants.{Refused}
use Rattle.broker_store.specs.declared.standing.StandingQueue.{StandingQueue}
use Rattle.mini_broker.specs.Declare.{declared_again}
use Rattle.client_rules.specs.Owners.{is_anothers}
use Rattle.client_rules.specs.Alike.{same_options}
use Rattle.client_rules.specs.Names.{is_refused_queue}
use Rattle.broker_store.specs.Queues.{Standing, bare_queue}

abbrev again : Client → QueueOptions → StandingQueue (List Row) → Result Bool ClientFault
again who options queue = cond (is_anothers who queue.owner) (Err (Refused 405)) (cond (same_options queue.options options) (Ok false) (Err (Refused 406)))

same_again : {A B : Type 0} (who : Client) (options : QueueOptions) (found : Option (Standing A)) (there : Option (Standing B)) → option_map bare_queue found ≡ option_map bare_queue there → declared_again who options found ≡ declared_again who options there
same_again who options None None e = refl
same_again who options None (Some queue) e = absurd (false≢true (ap is_some e))
same_again who options (Some queue) None e = absurd (true≢false (ap is_some e))
same_again who options (Some found) (Some there) e = ap (again who options) (ap (λ r. unwrap_or r (bare_queue found)) e)

same_there : {A B : Type 0} (found : Option (Standing A)) (there : Option (Standing B)) → option_map bare_queue found ≡ option_map bare_queue there → is_some found ≡ is_some there
same_there None None e = refl
same_there None (Some queue) e = ap is_some e
same_there (Some queue) None e = ap is_some e
same_there (Some found) (Some there) e = refl

-- a declaration is answered alike
pub answered : {A B : Type 0} (who : Client) (name : List ℕ) (options : QueueOptions) (found : Option (Standing A)) (there : Option (Standing B)) → option_map bare_queue found ≡ option_map bare_queue there → cond (is_refused_queue name (is_some found)) (Err (Refused 403)) (declared_again who options found) ≡ cond (is_refused_queue name (is_some there)) (Err (Refused 403)) (declared_again who options there)
answered who name options found there e =
    ap (λ b. cond (is_refused_queue name b) (Err (Refused 403)) (declared_again who options found)) (same_there found there e)
    ∙ ap (λ r. cond (is_refused_queue name (is_some there)) (Err (Refused 403)) r) (same_again who options found there e)

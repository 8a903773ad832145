-- What a declaration makes isn't there before, and has a name; a consumer begins under a tag that is free.
use Rattle.std.proofs.Common.{◌≡◌, ℕ, List, [], Bool, true, false, Option, Some, None, is_some, refl, sym, ap, ◌∙◌}
use Rattle.std.specs.Prelude.{if◌then◌else◌, ◌||◌, Result, Ok, Err, unwrap_or}
use Rattle.std.proofs.lemmas.Bool.{true≢false, or_parts}
use Rattle.std.proofs.lemmas.Option.{none-some}
use Rattle.amqp_props.specs.declared.link.QueueOptions.{QueueOptions}
use Rattle.client_rules.specs.declared.client.ExchangeShape.{ExchangeShape}
use Rattle.client_rules.specs.Names.{is_reserved, is_refused_exchange}
use Rattle.client_rules.specs.Alike.{same_options, same_shape}
use Rattle.fed_journal.specs.declared.place.Place.{Place}
use Rattle.fed_journal.specs.declared.entry.Entry.{Entry}
use Rattle.fed_journal.specs.declared.reason.Reason.{Reason}
use Rattle.fed_journal.specs.declared.reason.Reason.TheVariants as why
use Rattle.fed_journal.specs.Names.{same_text}
use Rattle.fed_journal.specs.Configuration.{queue_options, exchange_shape}
use Rattle.fed_journal.specs.Row.{lock_refusal, unless_refused}
use Rattle.fed_journal.specs.Consume.{or_tag_in_use}
use Rattle.fed_journal.specs.Declare.{is_refused, declared_again, queue_declared, is_exchange_refused, exchange_again, exchange_declared}

-- the answer that something is made
abbrev is_made : Result Bool Reason → Bool
is_made (Ok made) = made
is_made (Err reason) = false

old-by : (b : Bool) (code : ℕ) → is_made (if b then Ok false else Err (why.Refused code)) ≡ false
old-by true code = refl
old-by false code = refl

queue-again : (options : QueueOptions) (o : Option QueueOptions) → is_made (declared_again options o) ≡ true → o ≡ None
queue-again options None h = refl
queue-again options (Some was) h = absurd (true≢false (sym h ∙ old-by (same_options was options) 406))

queue-by : (refused : Bool) (lock : Option Reason) (options : QueueOptions) (o : Option QueueOptions) → is_made (if refused then Err (why.Refused 403) else unless_refused lock (declared_again options o)) ≡ true → o ≡ None
queue-by true lock options o h = absurd (true≢false (sym h))
queue-by false None options o h = queue-again options o h
queue-by false (Some reason) options o h = absurd (true≢false (sym h))

-- a queue that is made wasn't there
pub queue-made : (J : List Entry) (p : Place) (client : ℕ) (q : List ℕ) (options : QueueOptions) → queue_declared J p client q options ≡ Ok true → queue_options J p q ≡ None
unfolding queue_declared
queue-made J p client q options h = queue-by (is_refused J p q) (lock_refusal J p client q) options (queue_options J p q) (ap is_made h)

exchange-again : (shape : ExchangeShape) (o : Option ExchangeShape) → is_made (exchange_again shape o) ≡ true → o ≡ None
exchange-again shape None h = refl
exchange-again shape (Some was) h = absurd (true≢false (sym h ∙ old-by (same_shape was shape) 406))

exchange-by : (refused : Bool) (shape : ExchangeShape) (o : Option ExchangeShape) → is_made (if refused then Err (why.Refused 403) else exchange_again shape o) ≡ true → (refused ≡ false) × (o ≡ None)
exchange-by true shape o h = absurd (true≢false (sym h))
exchange-by false shape o h = (refl, exchange-again shape o h)

-- a name that isn't refused isn't empty
named : (J : List Entry) (p : Place) (x : List ℕ) → is_exchange_refused J p x ≡ false → same_text x [] ≡ false
named J p x h = (or_parts (same_text x []) (is_reserved x) (or_parts (same_text x [] || is_reserved x) _ h).0).0

-- an exchange that is made wasn't there, and has a name
pub exchange-made : (J : List Entry) (p : Place) (x : List ℕ) (shape : ExchangeShape) → exchange_declared J p x shape ≡ Ok true → (exchange_shape J p x ≡ None) × (same_text x [] ≡ false)
unfolding exchange_declared
exchange-made J p x shape h =
    let parts : (is_exchange_refused J p x ≡ false) × (exchange_shape J p x ≡ None) = exchange-by (is_exchange_refused J p x) shape (exchange_shape J p x) (ap is_made h) in
    (parts.1, named J p x parts.0)

-- a client that isn't refused a consumer doesn't use the tag
pub tag-free : (o : Option Reason) (used : Bool) → or_tag_in_use o used ≡ None → used ≡ false
tag-free None false h = refl
tag-free None true h = absurd (none-some (why.Refused 530) (sym h))
tag-free (Some reason) used h = absurd (none-some reason (sym h))

-- Queues and exchanges under their names.
use Rattle.std.proofs.Common.{◌≡◌, ℕ, ◌+◌, List, [], ◌∷◌, ◌++◌, Bool, true, false, cond, Option, Some, None, is_some, refl, sym, ap, ◌∙◌, map}
use Rattle.std.specs.Prelude.{filter, ◌==◌}
use Rattle.std.specs.List.{list_any}
use Rattle.std.specs.Map.{lookup}
use Rattle.std.specs.Option.{option_map, option_and_then}
use Rattle.std.specs.Str.{bytes_eq}
use Rattle.std.proofs.lemmas.Bool.{true≢false, or_parts, or_from}
use Rattle.std.proofs.lemmas.Map.Made.{lookup-map_values, is_some-lookup}
use Rattle.amqp_props.specs.declared.link.QueueOptions.{QueueOptions}
use Rattle.amqp_props.specs.declared.message.Message.{Message}
use Rattle.client_rules.specs.declared.client.Client.{Client}
use Rattle.fed_journal.specs.Names.{same_text}
use Rattle.broker_store.specs.Mail.{Mail, entered, released_from}
use Rattle.broker_store.specs.Queues.{Standing, Named, queue_of, changed, all_changed, with_mail, all_entered}
use Rattle.mini_broker.specs.Close.{freed_from}
use Rattle.broker_view.specs.View.{AreDistinct}
use Rattle.broker_view.proofs.Names.{same_text-sym}

-- ---- tables

pub map-push : {X Y : Type 0} (f : X → Y) (xs : List X) (x : X) → map f (xs ++ x ∷ []) ≡ map f xs ++ f x ∷ []
map-push f [] x = refl
map-push f (y ∷ xs) x = ap (λ ys. f y ∷ ys) (map-push f xs x)

-- one more, of another name
pub lookup-other : {V : Type 0} (name : List ℕ) (es : List (List ℕ × V)) (key : List ℕ) (value : V) → bytes_eq name key ≡ false → lookup (bytes_eq name) (es ++ (key, value) ∷ []) ≡ lookup (bytes_eq name) es
lookup-other name [] key value off = ap (λ b. cond b (Some value) None) off
lookup-other name (e ∷ es) key value off = ap (λ r. cond (bytes_eq name e.0) (Some e.1) r) (lookup-other name es key value off)

new-by : {V : Type 0} (b : Bool) (first value : V) (was now : Option V) → cond b (Some first) was ≡ None → (was ≡ None → now ≡ Some value) → cond b (Some first) now ≡ Some value
new-by true first value was now none later = absurd (true≢false (ap is_some none))
new-by false first value was now none later = later none

-- one more, of that name
pub lookup-new : {V : Type 0} (name : List ℕ) (es : List (List ℕ × V)) (key : List ℕ) (value : V) → bytes_eq name key ≡ true → lookup (bytes_eq name) es ≡ None → lookup (bytes_eq name) (es ++ (key, value) ∷ []) ≡ Some value
lookup-new name [] key value on none = ap (λ b. cond b (Some value) None) on
lookup-new name (e ∷ es) key value on none =
    new-by (bytes_eq name e.0) e.1 value (lookup (bytes_eq name) es) (lookup (bytes_eq name) (es ++ (key, value) ∷ [])) none (lookup-new name es key value on)

pub none-from : {A B : Type 0} (f : A → B) (o : Option A) → option_map f o ≡ None → o ≡ None
none-from f None h = refl
none-from f (Some a) h = absurd (true≢false (ap is_some h))

-- ---- distinct names

pub none-push : {X : Type 0} (test : X → Bool) (xs : List X) (x : X) → list_any test xs ≡ false → test x ≡ false → list_any test (xs ++ x ∷ []) ≡ false
none-push test [] x h off = or_from (test x) false off refl
none-push test (y ∷ xs) x h off =
    let parts : (test y ≡ false) × (list_any test xs ≡ false) = or_parts (test y) (list_any test xs) h in
    or_from (test y) (list_any test (xs ++ x ∷ [])) parts.0 (none-push test xs x parts.1 off)

pub none-filter : {X : Type 0} (test keep : X → Bool) (xs : List X) → list_any test xs ≡ false → list_any test (filter keep xs) ≡ false
none-filter test keep [] h = refl
none-filter test keep (x ∷ xs) h =
    let parts : (test x ≡ false) × (list_any test xs ≡ false) = or_parts (test x) (list_any test xs) h in
    elim (keep x) as (λ b. list_any test (cond b (x ∷ filter keep xs) (filter keep xs)) ≡ false) [
      | true ↦ or_from (test x) (list_any test (filter keep xs)) parts.0 (none-filter test keep xs parts.1)
      | false ↦ none-filter test keep xs parts.1
    ]

pub distinct-push : (ns : List (List ℕ)) (n : List ℕ) → AreDistinct ns → list_any (same_text n) ns ≡ false → AreDistinct (ns ++ n ∷ [])
distinct-push [] n h off = (refl, tt)
distinct-push (m ∷ ns) n h off =
    let parts : (same_text n m ≡ false) × (list_any (same_text n) ns ≡ false) = or_parts (same_text n m) (list_any (same_text n) ns) off in
    (none-push (same_text m) ns n h.0 (same_text-sym m n ∙ parts.0), distinct-push ns n h.1 parts.1)

pub distinct-filter : (keep : List ℕ → Bool) (ns : List (List ℕ)) → AreDistinct ns → AreDistinct (filter keep ns)
distinct-filter keep [] h = tt
distinct-filter keep (n ∷ ns) h =
    elim (keep n) as (λ b. AreDistinct (cond b (n ∷ filter keep ns) (filter keep ns))) [
      | true ↦ (none-filter (same_text n) keep ns h.0, distinct-filter keep ns h.1)
      | false ↦ distinct-filter keep ns h.1
    ]

-- names of the queues that stay
pub names-filter : (keep : List ℕ → Bool) (queues : List (Named Message)) → map (λ (q : Named Message). q.0) (filter (λ q. keep q.0) queues) ≡ filter keep (map (λ q. q.0) queues)
names-filter keep [] = refl
names-filter keep (q ∷ queues) =
    elim (keep q.0) as (λ b. map (λ (x : Named Message). x.0) (cond b (q ∷ filter (λ x. keep x.0) queues) (filter (λ x. keep x.0) queues)) ≡ cond b (q.0 ∷ filter keep (map (λ x. x.0) queues)) (filter keep (map (λ x. x.0) queues))) [
      | true ↦ ap (λ ns. q.0 ∷ ns) (names-filter keep queues)
      | false ↦ names-filter keep queues
    ]

-- no queue of that name
pub absent-any : (name : List ℕ) (queues : List (Named Message)) → queue_of name queues ≡ None → list_any (same_text name) (map (λ q. q.0) queues) ≡ false
absent-any name queues none = sym (is_some-lookup (bytes_eq name) queues) ∙ ap is_some none

-- ---- queues without their copies

-- what a queue was declared with, and whose it is
abbrev pub declared_as : Standing Message → QueueOptions × Option ℕ
declared_as queue = (queue.options, queue.owner)

abbrev pub plain : List (Named Message) → List (List ℕ × (QueueOptions × Option ℕ))
plain queues = map (λ q. (q.0, declared_as q.1)) queues

plain-of : (name : List ℕ) (queues : List (Named Message)) → lookup (bytes_eq name) (plain queues) ≡ option_map declared_as (queue_of name queues)
plain-of name queues = lookup-map_values declared_as (bytes_eq name) queues

plain-names : (queues : List (Named Message)) → map (λ q. q.0) (plain queues) ≡ map (λ q. q.0) queues
plain-names [] = refl
plain-names (q ∷ queues) = ap (λ ns. q.0 ∷ ns) (plain-names queues)

pub same-names : (was now : List (Named Message)) → plain now ≡ plain was → map (λ q. q.0) now ≡ map (λ q. q.0) was
same-names was now same = sym (plain-names now) ∙ ap (λ es. map (λ e. e.0) es) same ∙ plain-names was

same-declared : (was now : List (Named Message)) → plain now ≡ plain was → (name : List ℕ) → option_map declared_as (queue_of name now) ≡ option_map declared_as (queue_of name was)
same-declared was now same name = sym (plain-of name now) ∙ ap (lookup (bytes_eq name)) same ∙ plain-of name was

options-of : (o : Option (Standing Message)) → option_map (λ s. s.options) o ≡ option_map (λ d. d.0) (option_map declared_as o)
options-of None = refl
options-of (Some s) = refl

owner-of : (o : Option (Standing Message)) → option_and_then (λ s. s.owner) o ≡ option_and_then (λ d. d.1) (option_map declared_as o)
owner-of None = refl
owner-of (Some s) = refl

some-of : (o : Option (Standing Message)) → is_some o ≡ is_some (option_map declared_as o)
some-of None = refl
some-of (Some s) = refl

pub same-options : (was now : List (Named Message)) → plain now ≡ plain was → (name : List ℕ) → option_map (λ s. s.options) (queue_of name now) ≡ option_map (λ s. s.options) (queue_of name was)
same-options was now same name = options-of (queue_of name now) ∙ ap (option_map (λ d. d.0)) (same-declared was now same name) ∙ sym (options-of (queue_of name was))

pub same-owner : (was now : List (Named Message)) → plain now ≡ plain was → (name : List ℕ) → option_and_then (λ s. s.owner) (queue_of name now) ≡ option_and_then (λ s. s.owner) (queue_of name was)
same-owner was now same name = owner-of (queue_of name now) ∙ ap (option_and_then (λ d. d.1)) (same-declared was now same name) ∙ sym (owner-of (queue_of name was))

pub same-some : (was now : List (Named Message)) → plain now ≡ plain was → (name : List ℕ) → is_some (queue_of name now) ≡ is_some (queue_of name was)
same-some was now same name = some-of (queue_of name now) ∙ ap is_some (same-declared was now same name) ∙ sym (some-of (queue_of name was))

-- ---- changes of the copies alone

pub plain-changed : (name : List ℕ) (f : Mail Message → Mail Message) (queues : List (Named Message)) → plain (changed name (with_mail f) queues) ≡ plain queues
plain-changed name f [] = refl
plain-changed name f (q ∷ queues) =
    elim (bytes_eq name q.0) as (λ b. plain (cond b ((q.0, with_mail f q.1) ∷ queues) (q ∷ changed name (with_mail f) queues)) ≡ plain (q ∷ queues)) [
      | true ↦ refl
      | false ↦ ap (λ rest. (q.0, declared_as q.1) ∷ rest) (plain-changed name f queues)
    ]

pub plain-all : (f : Mail Message → Mail Message) (queues : List (Named Message)) → plain (all_changed (with_mail f) queues) ≡ plain queues
plain-all f [] = refl
plain-all f (q ∷ queues) = ap (λ rest. (q.0, declared_as q.1) ∷ rest) (plain-all f queues)

pub plain-entered : (names : List (List ℕ)) (number : ℕ) (m : Message) (queues : List (Named Message)) → plain (all_entered names number m queues) ≡ plain queues
plain-entered [] number m queues = refl
plain-entered (name ∷ names) number m queues =
    plain-entered names (number + 1) m (changed name (with_mail (entered number m)) queues) ∙ plain-changed name (entered number m) queues

pub plain-freed : (connection number : ℕ) (clients : List Client) (queues : List (Named Message)) → plain (freed_from connection number clients queues) ≡ plain queues
plain-freed connection number [] queues = refl
plain-freed connection number (client ∷ clients) queues =
    plain-freed connection (number + 1) clients _
    ∙ elim (client.connection == connection) as (λ b. plain (cond b (all_changed (with_mail (released_from number)) queues) queues) ≡ plain queues) [
      | true ↦ plain-all (released_from number) queues
      | false ↦ refl
    ]

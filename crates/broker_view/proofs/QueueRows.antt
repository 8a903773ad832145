-- The rows of a queue of that name, where queues change.
use Rattle.std.proofs.Common.{◌≡◌, ℕ, List, [], ◌∷◌, ◌++◌, Bool, true, false, cond, not, Option, Some, None, is_some, refl, ap, sym, ◌∙◌, ◌⊎◌, inl, inr}
use Rattle.std.specs.Prelude.{filter}
use Rattle.std.specs.Option.{option_map_or}
use Rattle.std.specs.Str.{bytes_eq}
use Rattle.std.proofs.lemmas.Bool.{false≢true}
use Rattle.queue_core.specs.declared.rows.Row.{Row}
use Rattle.fed_journal.specs.Names.{same_text}
use Rattle.amqp_props.specs.declared.message.Message.{Message}
use Rattle.broker_store.specs.Mail.{Mail}
use Rattle.broker_store.specs.Queues.{Standing, Named, queue_of, changed, all_changed, with_mail}
use Rattle.broker_view.specs.View.{rows_in}
use Rattle.broker_view.proofs.Names.{same_text-true, same_text-sym}

abbrev rows_or : Bool → Standing Message → Option (Standing Message) → List Row
rows_or b x rest = option_map_or (λ s. s.mail.rows) (cond b (Some x) rest) []

-- every queue is changed
pub all-rows : (m : Mail Message → Mail Message) (h : List Row → List Row) → ((x : Mail Message) → (m x).rows ≡ h x.rows) → h [] ≡ [] → (queues : List (Named Message)) (q : List ℕ) → rows_in q (all_changed (with_mail m) queues) ≡ h (rows_in q queues)
all-rows m h same none [] q = sym none
all-rows m h same none (e ∷ queues) q =
    elim (bytes_eq q e.0) as (λ b. rows_or b (with_mail m e.1) (queue_of q (all_changed (with_mail m) queues)) ≡ h (rows_or b e.1 (queue_of q queues))) [
      | true ↦ same e.1.mail
      | false ↦ all-rows m h same none queues q
    ]

-- one queue is changed
IsSafe : List ℕ → (List Row → List Row) → List (Named Message) → Type 0
IsSafe name h queues = (is_some (queue_of name queues) ≡ true) ⊎ (h [] ≡ [])

safe-none : (name : List ℕ) (h : List Row → List Row) → IsSafe name h [] → h [] ≡ []
unfolding IsSafe
safe-none name h (inl there) = absurd (false≢true there)
safe-none name h (inr none) = none

safe-rest : (name : List ℕ) (h : List Row → List Row) (e : Named Message) (queues : List (Named Message)) → bytes_eq name e.0 ≡ false → IsSafe name h (e ∷ queues) → IsSafe name h queues
unfolding IsSafe
safe-rest name h e queues off (inl there) = inl (sym (ap (λ b. is_some (cond b (Some e.1) (queue_of name queues))) off) ∙ there)
safe-rest name h e queues off (inr none) = inr none

here-rows : (m : Mail Message → Mail Message) (h : List Row → List Row) → ((x : Mail Message) → (m x).rows ≡ h x.rows) → (x : Standing Message) (rest : Option (Standing Message)) (b : Bool) → rows_or b (with_mail m x) rest ≡ cond b (h (rows_or b x rest)) (rows_or b x rest)
here-rows m h same x rest true = same x.mail
here-rows m h same x rest false = refl

other-rows : (h : List Row → List Row) (x : Standing Message) (now was : Option (Standing Message)) (b other : Bool) → (b ≡ true → other ≡ false) → (b ≡ false → option_map_or (λ s. s.mail.rows) now [] ≡ cond other (h (option_map_or (λ s. s.mail.rows) was [])) (option_map_or (λ s. s.mail.rows) was [])) → rows_or b x now ≡ cond other (h (rows_or b x was)) (rows_or b x was)
other-rows h x now was true other off later = sym (ap (λ o. cond o (h x.mail.rows) x.mail.rows) (off refl))
other-rows h x now was false other off later = later refl

changed-by : (m : Mail Message → Mail Message) (h : List Row → List Row) → ((x : Mail Message) → (m x).rows ≡ h x.rows) → (name : List ℕ) (e : Named Message) (queues : List (Named Message)) (q : List ℕ) (b : Bool) → bytes_eq name e.0 ≡ b → (b ≡ false → rows_in q (changed name (with_mail m) queues) ≡ cond (same_text q name) (h (rows_in q queues)) (rows_in q queues)) → rows_in q (cond b ((e.0, with_mail m e.1) ∷ queues) (e ∷ changed name (with_mail m) queues)) ≡ cond (same_text q name) (h (rows_in q (e ∷ queues))) (rows_in q (e ∷ queues))
changed-by m h same name e queues q true on later =
    here-rows m h same e.1 (queue_of q queues) (bytes_eq q e.0) ∙ ap (λ n. cond (same_text q n) (h (rows_in q (e ∷ queues))) (rows_in q (e ∷ queues))) (sym (same_text-true name e.0 on))
changed-by m h same name e queues q false off later =
    other-rows h e.1 (queue_of q (changed name (with_mail m) queues)) (queue_of q queues) (bytes_eq q e.0) (same_text q name)
    (λ is. ap (λ n. same_text n name) (same_text-true q e.0 is) ∙ same_text-sym e.0 name ∙ off)
    (λ isn't. later refl)

changed-safe : (m : Mail Message → Mail Message) (h : List Row → List Row) → ((x : Mail Message) → (m x).rows ≡ h x.rows) → (name : List ℕ) (queues : List (Named Message)) → IsSafe name h queues → (q : List ℕ) → rows_in q (changed name (with_mail m) queues) ≡ cond (same_text q name) (h (rows_in q queues)) (rows_in q queues)
changed-safe m h same name [] safe q = elim (same_text q name) as (λ b. [] ≡ cond b (h []) []) [ true ↦ sym (safe-none name h safe) | false ↦ refl ]
changed-safe m h same name (e ∷ queues) safe q =
    changed-by m h same name e queues q (bytes_eq name e.0) refl (λ off. changed-safe m h same name queues (safe-rest name h e queues off safe) q)

-- where that queue stands
pub changed-rows : (m : Mail Message → Mail Message) (h : List Row → List Row) → ((x : Mail Message) → (m x).rows ≡ h x.rows) → (name : List ℕ) (queues : List (Named Message)) → is_some (queue_of name queues) ≡ true → (q : List ℕ) → rows_in q (changed name (with_mail m) queues) ≡ cond (same_text q name) (h (rows_in q queues)) (rows_in q queues)
unfolding IsSafe
changed-rows m h same name queues there = changed-safe m h same name queues (inl there)

-- or where no rows stay none
pub changed-rows_none : (m : Mail Message → Mail Message) (h : List Row → List Row) → ((x : Mail Message) → (m x).rows ≡ h x.rows) → h [] ≡ [] → (name : List ℕ) (queues : List (Named Message)) (q : List ℕ) → rows_in q (changed name (with_mail m) queues) ≡ cond (same_text q name) (h (rows_in q queues)) (rows_in q queues)
unfolding IsSafe
changed-rows_none m h same none name queues = changed-safe m h same name queues (inr none)

-- a queue is gone
gone-by : (name : List ℕ) (e : Named Message) (queues : List (Named Message)) (q : List ℕ) (b c : Bool) → bytes_eq e.0 name ≡ b → bytes_eq q e.0 ≡ c → rows_in q (filter (λ (x : Named Message). not (bytes_eq x.0 name)) queues) ≡ cond (same_text q name) [] (rows_in q queues) → rows_in q (cond (not b) (e ∷ filter (λ (x : Named Message). not (bytes_eq x.0 name)) queues) (filter (λ (x : Named Message). not (bytes_eq x.0 name)) queues)) ≡ cond (same_text q name) [] (rows_or c e.1 (queue_of q queues))
gone-by name e queues q true true on is later =
    later ∙ ap (λ b. cond b [] (rows_in q queues)) same ∙ sym (ap (λ b. cond b [] e.1.mail.rows) same)
  where
    same : same_text q name ≡ true
    same = ap (λ n. same_text n name) (same_text-true q e.0 is) ∙ on
gone-by name e queues q true false on isn't later = later
gone-by name e queues q false true off is later =
    ap (λ b. option_map_or (λ (s : Standing Message). s.mail.rows) (cond b (Some e.1) (queue_of q (filter (λ (x : Named Message). not (bytes_eq x.0 name)) queues))) []) is
    ∙ sym (ap (λ b. cond b [] e.1.mail.rows) (ap (λ n. same_text n name) (same_text-true q e.0 is) ∙ off))
gone-by name e queues q false false off isn't later =
    ap (λ b. option_map_or (λ (s : Standing Message). s.mail.rows) (cond b (Some e.1) (queue_of q (filter (λ (x : Named Message). not (bytes_eq x.0 name)) queues))) []) isn't ∙ later

pub gone-rows : (name : List ℕ) (queues : List (Named Message)) (q : List ℕ) → rows_in q (filter (λ (x : Named Message). not (bytes_eq x.0 name)) queues) ≡ cond (same_text q name) [] (rows_in q queues)
gone-rows name [] q = elim (same_text q name) as (λ b. ◌≡◌ {A = List Row} [] (cond b [] [])) [ true ↦ refl | false ↦ refl ]
gone-rows name (e ∷ queues) q = gone-by name e queues q (bytes_eq e.0 name) (bytes_eq q e.0) refl refl (gone-rows name queues q)

-- an empty queue is made
pub made-rows : (new : Named Message) → new.1.mail.rows ≡ [] → (queues : List (Named Message)) (q : List ℕ) → rows_in q (queues ++ new ∷ []) ≡ rows_in q queues
made-rows new empty [] q = elim (bytes_eq q new.0) as (λ b. rows_or b new.1 None ≡ []) [ true ↦ empty | false ↦ refl ]
made-rows new empty (e ∷ queues) q =
    elim (bytes_eq q e.0) as (λ b. rows_or b e.1 (queue_of q (queues ++ new ∷ [])) ≡ rows_or b e.1 (queue_of q queues)) [ true ↦ refl | false ↦ made-rows new empty queues q ]

-- The rows of a queue, where a message's copies enter.
use Rattle.std.proofs.Common.{◌≡◌, ℕ, suc, ◌+◌, List, [], ◌∷◌, ◌++◌, length, Bool, true, false, cond, Option, Some, None, is_some, arith, refl, sym, ap, ◌∙◌, append-nil}
use Rattle.std.specs.Prelude.{All, position, option_map, nat_lt}
use Rattle.std.specs.List.{cons_option, list_any, position_or_len}
use Rattle.std.proofs.lemmas.Bool.{true≢false, or_parts, lt-ltb, ltb-true}
use Rattle.std.proofs.lemmas.List.Elements.{All-nil, All-cons, All-head, All-tail}
use Rattle.amqp_props.specs.declared.message.Message.{Message}
use Rattle.queue_core.specs.declared.rows.Row.{Row}
use Rattle.queue_core.specs.Rows as rows
use Rattle.fed_journal.specs.Names.{same_text}
use Rattle.broker_store.specs.Mail.{entered}
use Rattle.broker_store.specs.Queues.{Named, queue_of, changed, with_mail, all_entered}
use Rattle.broker_store.proofs.NameLemmas.{stands_changed}
use Rattle.broker_view.specs.View.{AreDistinct, rows_in}
use Rattle.broker_view.proofs.Names.{same_text-true}
use Rattle.broker_view.proofs.Publications.{or_len-here, or_len-later}
use Rattle.broker_view.proofs.QueueRows.{changed-rows}

-- ---- the place of a name

pub position-first : {X : Type 0} (p : X → Bool) (x : X) (xs : List X) → p x ≡ true → position p (x ∷ xs) ≡ Some 0
position-first p x xs h =
    ap (λ n. cond (nat_lt n (length (x ∷ xs))) (Some n) None) (or_len-here p x xs h) ∙ ap (λ b. cond b (Some 0) None) (lt-ltb 0 (length (x ∷ xs)) (omega arith))

next-by : (n l : ℕ) (b : Bool) → nat_lt n l ≡ b → cond (nat_lt (suc n) (suc l)) (Some (suc n)) None ≡ option_map suc (cond b (Some n) None)
next-by n l true h = ap (λ b. cond b (Some (suc n)) None) (lt-ltb (suc n) (suc l) (omega (arith, ltb-true n l h)))
next-by n l false h = ap (λ b. cond b (Some (suc n)) None) (past (nat_lt (suc n) (suc l)) refl)
  where
    past : (b : Bool) → nat_lt (suc n) (suc l) ≡ b → b ≡ false
    past true k = absurd (true≢false (sym (lt-ltb n l (omega (arith, ltb-true (suc n) (suc l) k))) ∙ h))
    past false k = refl

pub position-next : {X : Type 0} (p : X → Bool) (x : X) (xs : List X) → p x ≡ false → position p (x ∷ xs) ≡ option_map suc (position p xs)
position-next p x xs h =
    ap (λ n. cond (nat_lt n (length (x ∷ xs))) (Some n) None) (or_len-later p x xs h) ∙ next-by (position_or_len p xs) (length xs) (nat_lt (position_or_len p xs) (length xs)) refl

absent-by : {X : Type 0} (p : X → Bool) (x : X) (xs : List X) → p x ≡ false → position p xs ≡ None → position p (x ∷ xs) ≡ None
absent-by p x xs off none = position-next p x xs off ∙ ap (option_map suc) none

pub position-absent : {X : Type 0} (p : X → Bool) (xs : List X) → list_any p xs ≡ false → position p xs ≡ None
position-absent p [] h = refl
position-absent p (x ∷ xs) h =
    let parts : (p x ≡ false) × (list_any p xs ≡ false) = or_parts (p x) (list_any p xs) h in
    absent-by p x xs parts.0 (position-absent p xs parts.1)

-- ---- rows

-- the row of the copy that enters the queue
abbrev pub entering : List ℕ → List (List ℕ) → ℕ → List Row
entering q names n = cons_option (option_map (λ k. rows.entered (n + k)) (position (same_text q) names)) []

shift-by : (n : ℕ) (o : Option ℕ) → cons_option (option_map (λ k. rows.entered (n + 1 + k)) o) [] ≡ cons_option (option_map (λ k. rows.entered (n + k)) (option_map suc o)) []
shift-by n None = refl
shift-by n (Some k) = ap (λ m. rows.entered m ∷ []) (omega arith)

one-more : (q name : List ℕ) (names : List (List ℕ)) (n : ℕ) (rs : List Row) (b : Bool) → same_text q name ≡ b → list_any (same_text name) names ≡ false → cond b (rs ++ rows.entered n ∷ []) rs ++ entering q names (n + 1) ≡ rs ++ entering q (name ∷ names) n
one-more q name names n rs true on once =
    let none : position (same_text q) names ≡ None = position-absent (same_text q) names (ap (λ x. list_any (same_text x) names) (same_text-true q name on) ∙ once) in
    ap (λ o. (rs ++ rows.entered n ∷ []) ++ cons_option (option_map (λ k. rows.entered (n + 1 + k)) o) []) none
    ∙ append-nil (rs ++ rows.entered n ∷ [])
    ∙ ap (λ m. rs ++ rows.entered m ∷ []) (omega arith)
    ∙ sym (ap (λ o. rs ++ cons_option (option_map (λ k. rows.entered (n + k)) o) []) (position-first (same_text q) name names on))
one-more q name names n rs false off once =
    ap (λ x. rs ++ x) (shift-by n (position (same_text q) names) ∙ sym (ap (λ o. cons_option (option_map (λ k. rows.entered (n + k)) o) []) (position-next (same_text q) name names off)))

stand-on : (first : List ℕ) (n : ℕ) (m : Message) (queues : List (Named Message)) (names : List (List ℕ)) → All (λ name. is_some (queue_of name queues) ≡ true) names → All (λ name. is_some (queue_of name (changed first (with_mail (entered n m)) queues)) ≡ true) names
stand-on first n m queues [] all = All-nil (λ name. is_some (queue_of name (changed first (with_mail (entered n m)) queues)) ≡ true)
stand-on first n m queues (name ∷ names) all =
    All-cons (λ name. is_some (queue_of name (changed first (with_mail (entered n m)) queues)) ≡ true) name names
    (stands_changed name first (with_mail (entered n m)) queues ∙ All-head (λ name. is_some (queue_of name queues) ≡ true) name names all)
    (stand-on first n m queues names (All-tail (λ name. is_some (queue_of name queues) ≡ true) name names all))

pub entered-rows : (names : List (List ℕ)) (n : ℕ) (m : Message) (queues : List (Named Message)) → AreDistinct names → All (λ name. is_some (queue_of name queues) ≡ true) names → (q : List ℕ) → rows_in q (all_entered names n m queues) ≡ rows_in q queues ++ entering q names n
entered-rows [] n m queues distinct stand q = sym (append-nil (rows_in q queues))
entered-rows (name ∷ names) n m queues distinct stand q =
    entered-rows names (n + 1) m (changed name (with_mail (entered n m)) queues) distinct.1 (stand-on name n m queues names (All-tail (λ name. is_some (queue_of name queues) ≡ true) name names stand)) q
    ∙ ap (λ rs. rs ++ entering q names (n + 1)) (changed-rows (entered n m) (λ rs. rs ++ rows.entered n ∷ []) (λ x. refl) name queues (All-head (λ name. is_some (queue_of name queues) ≡ true) name names stand) q)
    ∙ one-more q name names n (rows_in q queues) (same_text q name) refl distinct.0

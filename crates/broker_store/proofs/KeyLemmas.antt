-- What is done to queues is the same whatever their copies carry.
use Rattle.std.proofs.Common.{◌≡◌, ℕ, ◌+◌, ◌<◌, ◌==◌, Bool, true, false, cond, not, List, [], ◌∷◌, ◌++◌, Option, Some, None, is_some, refl, ap, sym, ◌∙◌, subst, map}
use Rattle.std.specs.Prelude.{All, filter, count_by, ◌||◌}
use Rattle.std.specs.Option.{option_map, option_and_then, option_map_or}
use Rattle.std.specs.Str.{bytes_eq}
use Rattle.std.proofs.lemmas.List.{map-append}
use Rattle.std.proofs.lemmas.List.Elements.{All-nil, All-cons, All-head, All-tail}
use Rattle.queue_core.specs.declared.rows.Holder.{Holder}
use Rattle.queue_core.specs.Rows as rows
use Rattle.broker_store.specs.declared.mailbox.CopyMessage.{CopyMessage}
use Rattle.broker_store.specs.declared.mailbox.Sweep.{Sweep}
use Rattle.broker_store.specs.declared.mailbox.Sweep.TheVariants.{Store, Free, Leave, Release, Hand, Settle, Requeue}
use Rattle.broker_store.specs.Mail.{Mail, empty, entered, fresh, as_seen, handed, left, given, released, purged, copy_of, first_copy, is_held_at, swept}
use Rattle.broker_store.specs.Queues.{Standing, Named, queue_of, changed, all_changed, with_mail, bare_queue, emptied, IsLast, AreAbove, ready_in, first_in, ready_count, is_held_in, is_owned, owned_names, others, StandInTurn, all_entered}
use Rattle.broker_store.specs.Messages.{copy_with, mail_with, queue_with, queues_with}

-- a test that says the same of what is shown
filter_with : {X Y : Type 0} (f : X → Y) (p : X → Bool) (test : Y → Bool) → ((x : X) → test (f x) ≡ p x) → (xs : List X) → map f (filter p xs) ≡ filter test (map f xs)
filter_with f p test same [] = refl
filter_with f p test same (x ∷ xs) =
    elim (p x) as (λ b. map f (cond b (x ∷ filter p xs) (filter p xs)) ≡ cond b (f x ∷ filter test (map f xs)) (filter test (map f xs))) [
      | true ↦ ap (λ rest. f x ∷ rest) (filter_with f p test same xs)
      | false ↦ filter_with f p test same xs
    ]
    ∙ ap (λ b. cond b (f x ∷ filter test (map f xs)) (filter test (map f xs))) (sym (same x))

-- ---- the copies of a queue

pub mail_entered : {A B : Type 0} (of : A → B) (n : ℕ) (key : A) (m : Mail A) → mail_with of (entered n key m) ≡ entered n (of key) (mail_with of m)
mail_entered of n key m = λ i. record { rows = m.rows ++ rows.entered n ∷ []; copies = map-append (copy_with of) m.copies (fresh n key ∷ []) i }

seen_with : {A B : Type 0} (of : A → B) (n : ℕ) (copies : List (CopyMessage A)) → map (copy_with of) (map (as_seen n) copies) ≡ map (as_seen n) (map (copy_with of) copies)
seen_with of n [] = refl
seen_with of n (copy ∷ copies) = ap (λ rest. copy_with of (as_seen n copy) ∷ rest) (seen_with of n copies)

pub mail_handed : {A B : Type 0} (of : A → B) (n : ℕ) (holder : Holder) (m : Mail A) → mail_with of (handed n holder m) ≡ handed n holder (mail_with of m)
mail_handed of n holder m = λ i. record { rows = rows.handed n holder m.rows; copies = seen_with of n m.copies i }

pub mail_left : {A B : Type 0} (of : A → B) (n : ℕ) (m : Mail A) → mail_with of (left n m) ≡ left n (mail_with of m)
mail_left of n m = λ i. record { rows = rows.without n m.rows; copies = filter_with (copy_with of) (λ copy. not (copy.number == n)) (λ copy. not (copy.number == n)) (λ copy. refl) m.copies i }

pub mail_given : {A B : Type 0} (of : A → B) (n : ℕ) (holder : Holder) (no_ack : Bool) (m : Mail A) → mail_with of (given n holder no_ack m) ≡ given n holder no_ack (mail_with of m)
mail_given of n holder true m = mail_left of n m
mail_given of n holder false m = mail_handed of n holder m

pub mail_purged : {A B : Type 0} (of : A → B) (m : Mail A) → mail_with of (purged m) ≡ purged (mail_with of m)
mail_purged of m = λ i. record { rows = filter rows.is_held m.rows; copies = filter_with (copy_with of) (λ copy. is_some (rows.holder_of copy.number (filter rows.is_held m.rows))) (λ copy. is_some (rows.holder_of copy.number (filter rows.is_held m.rows))) (λ copy. refl) m.copies i }

pub mail_swept : {A B : Type 0} (of : A → B) (sweep : Sweep) (m : Mail A) → mail_with of (swept sweep m) ≡ swept sweep (mail_with of m)
mail_swept of Store m = refl
mail_swept of (Free client) m = refl
mail_swept of (Leave client number) m =
    elim (is_held_at client number m) as (λ b. mail_with of (cond b (left number m) m) ≡ cond b (left number (mail_with of m)) (mail_with of m)) [ true ↦ mail_left of number m | false ↦ refl ]
mail_swept of (Release client number) m =
    elim (is_held_at client number m) as (λ b. mail_with of (cond b (released number m) m) ≡ cond b (released number (mail_with of m)) (mail_with of m)) [ true ↦ refl | false ↦ refl ]
mail_swept of (Hand number holder) m = mail_handed of number holder m
mail_swept of (Settle number) m = mail_left of number m
mail_swept of (Requeue number) m = refl

-- ---- queues that are changed

queue_changed : {A B : Type 0} (of : A → B) (f : Mail A → Mail A) (g : Mail B → Mail B) → ((m : Mail A) → mail_with of (f m) ≡ g (mail_with of m)) → (q : Standing A) → queue_with of (with_mail f q) ≡ with_mail g (queue_with of q)
queue_changed of f g same q = λ i. record { number = q.number; options = q.options; owner = q.owner; mail = same q.mail i }

pub queues_changed : {A B : Type 0} (of : A → B) (name : List ℕ) (f : Mail A → Mail A) (g : Mail B → Mail B) → ((m : Mail A) → mail_with of (f m) ≡ g (mail_with of m)) → (queues : List (Named A)) → queues_with of (changed name (with_mail f) queues) ≡ changed name (with_mail g) (queues_with of queues)
queues_changed of name f g same [] = refl
queues_changed of name f g same (q ∷ queues) =
    elim (bytes_eq name q.0) as (λ b. queues_with of (cond b ((q.0, with_mail f q.1) ∷ queues) (q ∷ changed name (with_mail f) queues)) ≡ cond b ((q.0, with_mail g (queue_with of q.1)) ∷ queues_with of queues) ((q.0, queue_with of q.1) ∷ changed name (with_mail g) (queues_with of queues))) [
      | true ↦ ap (λ queue. (q.0, queue) ∷ queues_with of queues) (queue_changed of f g same q.1)
      | false ↦ ap (λ rest. (q.0, queue_with of q.1) ∷ rest) (queues_changed of name f g same queues)
    ]

pub queues_all_changed : {A B : Type 0} (of : A → B) (f : Mail A → Mail A) (g : Mail B → Mail B) → ((m : Mail A) → mail_with of (f m) ≡ g (mail_with of m)) → (queues : List (Named A)) → queues_with of (all_changed (with_mail f) queues) ≡ all_changed (with_mail g) (queues_with of queues)
queues_all_changed of f g same [] = refl
queues_all_changed of f g same (q ∷ queues) = λ i. (q.0, queue_changed of f g same q.1 i) ∷ queues_all_changed of f g same queues i

-- ---- the queue of a name

pub queue_of_with : {A B : Type 0} (of : A → B) (name : List ℕ) (queues : List (Named A)) → queue_of name (queues_with of queues) ≡ option_map (queue_with of) (queue_of name queues)
queue_of_with of name [] = refl
queue_of_with of name (q ∷ queues) =
    elim (bytes_eq name q.0) as (λ b. cond b (Some (queue_with of q.1)) (queue_of name (queues_with of queues)) ≡ option_map (queue_with of) (cond b (Some q.1) (queue_of name queues))) [
      | true ↦ refl
      | false ↦ queue_of_with of name queues
    ]

-- what doesn't see what the copies carry
same_of : {A B C : Type 0} (of : A → B) (f : Standing A → C) (g : Standing B → C) → ((q : Standing A) → f q ≡ g (queue_with of q)) → (found : Option (Standing A)) → option_map f found ≡ option_map g (option_map (queue_with of) found)
same_of of f g same None = refl
same_of of f g same (Some q) = ap Some (same q)

pub bare_with : {A B : Type 0} (of : A → B) (name : List ℕ) (queues : List (Named A)) → option_map bare_queue (queue_of name queues) ≡ option_map bare_queue (queue_of name (queues_with of queues))
bare_with of name queues = same_of of bare_queue bare_queue (λ q. refl) (queue_of name queues) ∙ ap (option_map bare_queue) (sym (queue_of_with of name queues))

pub ready_in_with : {A B : Type 0} (of : A → B) (name : List ℕ) (queues : List (Named A)) → ready_in name queues ≡ ready_in name (queues_with of queues)
ready_in_with {A} of name queues = at (queue_of name queues) ∙ ap (option_and_then (λ queue. rows.first_ready queue.mail.rows)) (sym (queue_of_with of name queues))
  where
    at : (found : Option (Standing A)) → option_and_then (λ queue. rows.first_ready queue.mail.rows) found ≡ option_and_then (λ queue. rows.first_ready queue.mail.rows) (option_map (queue_with of) found)
    at None = refl
    at (Some q) = refl

pub ready_count_with : {A B : Type 0} (of : A → B) (name : List ℕ) (queues : List (Named A)) → ready_count name queues ≡ ready_count name (queues_with of queues)
ready_count_with {A} of name queues = at (queue_of name queues) ∙ ap (λ found. option_map_or (λ queue. count_by rows.is_ready queue.mail.rows) found 0) (sym (queue_of_with of name queues))
  where
    at : (found : Option (Standing A)) → option_map_or (λ queue. count_by rows.is_ready queue.mail.rows) found 0 ≡ option_map_or (λ queue. count_by rows.is_ready queue.mail.rows) (option_map (queue_with of) found) 0
    at None = refl
    at (Some q) = refl

-- ---- the first copy

copy_of_with : {A B : Type 0} (of : A → B) (n : ℕ) (copies : List (CopyMessage A)) → copy_of n (map (copy_with of) copies) ≡ option_map (copy_with of) (copy_of n copies)
copy_of_with of n [] = refl
copy_of_with of n (copy ∷ copies) =
    elim (copy.number == n) as (λ b. cond b (Some (copy_with of copy)) (copy_of n (map (copy_with of) copies)) ≡ option_map (copy_with of) (cond b (Some copy) (copy_of n copies))) [
      | true ↦ refl
      | false ↦ copy_of_with of n copies
    ]

pub first_copy_with : {A B : Type 0} (of : A → B) (m : Mail A) → first_copy (mail_with of m) ≡ option_map (copy_with of) (first_copy m)
first_copy_with of m = at (rows.first_ready m.rows)
  where
    at : (found : Option ℕ) → option_and_then (λ number. copy_of number (map (copy_with of) m.copies)) found ≡ option_map (copy_with of) (option_and_then (λ number. copy_of number m.copies) found)
    at None = refl
    at (Some number) = copy_of_with of number m.copies

pub first_in_with : {A B : Type 0} (of : A → B) (name : List ℕ) (queues : List (Named A)) → first_in name (queues_with of queues) ≡ option_map (copy_with of) (first_in name queues)
first_in_with {A} of name queues = ap (option_and_then (λ queue. first_copy queue.mail)) (queue_of_with of name queues) ∙ at (queue_of name queues)
  where
    at : (found : Option (Standing A)) → option_and_then (λ queue. first_copy queue.mail) (option_map (queue_with of) found) ≡ option_map (copy_with of) (option_and_then (λ queue. first_copy queue.mail) found)
    at None = refl
    at (Some q) = first_copy_with of q.mail

-- ---- all queues

pub is_held_in_with : {A B : Type 0} (of : A → B) (client n : ℕ) (queues : List (Named A)) → is_held_in client n (queues_with of queues) ≡ is_held_in client n queues
is_held_in_with of client n [] = refl
is_held_in_with of client n (q ∷ queues) = ap (λ b. is_held_at client n q.1.mail || b) (is_held_in_with of client n queues)

below_with : {A B : Type 0} (of : A → B) (n : ℕ) (copies : List (CopyMessage A)) → All (λ copy. copy.number < n) (map (copy_with of) copies) → All (λ copy. copy.number < n) copies
below_with of n [] below = All-nil (λ copy. copy.number < n)
below_with of n (copy ∷ copies) below =
    All-cons (λ copy. copy.number < n) copy copies (All-head (λ copy. copy.number < n) (copy_with of copy) (map (copy_with of) copies) below) (below_with of n copies (All-tail (λ copy. copy.number < n) (copy_with of copy) (map (copy_with of) copies) below))

pub above_with : {A B : Type 0} (of : A → B) (n : ℕ) (queues : List (Named A)) → AreAbove n (queues_with of queues) → AreAbove n queues
above_with of n [] above = All-nil (λ q. IsLast n q.1)
above_with of n (q ∷ queues) above =
    let head = All-head (λ q. IsLast n q.1) (q.0, queue_with of q.1) (queues_with of queues) above in
    All-cons (λ q. IsLast n q.1) q queues (head.0, below_with of n q.1.mail.copies head.1) (above_with of n queues (All-tail (λ q. IsLast n q.1) (q.0, queue_with of q.1) (queues_with of queues) above))

pub others_with : {A B : Type 0} (of : A → B) (name : List ℕ) (queues : List (Named A)) → queues_with of (others name queues) ≡ others name (queues_with of queues)
others_with of name queues = filter_with (λ q. (q.0, queue_with of q.1)) (λ q. not (bytes_eq q.0 name)) (λ q. not (bytes_eq q.0 name)) (λ q. refl) queues

pub owned_with : {A B : Type 0} (of : A → B) (connection : ℕ) (queues : List (Named A)) → owned_names connection (queues_with of queues) ≡ owned_names connection queues
owned_with of connection [] = refl
owned_with of connection (q ∷ queues) =
    elim (is_owned connection q) as (λ b. map (λ q. q.0) (cond b ((q.0, queue_with of q.1) ∷ filter (is_owned connection) (queues_with of queues)) (filter (is_owned connection) (queues_with of queues))) ≡ map (λ q. q.0) (cond b (q ∷ filter (is_owned connection) queues) (filter (is_owned connection) queues))) [
      | true ↦ ap (λ rest. q.0 ∷ rest) (owned_with of connection queues)
      | false ↦ owned_with of connection queues
    ]

is_some_with : {A B : Type 0} (f : A → B) (found : Option A) → is_some (option_map f found) ≡ is_some found
is_some_with f None = refl
is_some_with f (Some x) = refl

pub turn_with : {A B : Type 0} (of : A → B) (names : List (List ℕ)) (queues : List (Named A)) → StandInTurn names queues → StandInTurn names (queues_with of queues)
turn_with of [] queues stand = tt
turn_with of (name ∷ names) queues stand = (
  ap is_some (queue_of_with of name queues) ∙ is_some_with (queue_with of) (queue_of name queues) ∙ stand.0,
  subst (StandInTurn names) (others_with of name queues) (turn_with of names (others name queues) stand.1),
)

pub entered_with : {A B : Type 0} (of : A → B) (names : List (List ℕ)) (n : ℕ) (key : A) (queues : List (Named A)) → queues_with of (all_entered names n key queues) ≡ all_entered names n (of key) (queues_with of queues)
entered_with of [] n key queues = refl
entered_with of (name ∷ names) n key queues =
    entered_with of names (n + 1) key (changed name (with_mail (entered n key)) queues)
    ∙ ap (all_entered names (n + 1) (of key)) (queues_changed of name (entered n key) (entered n (of key)) (mail_entered of n key) queues)

-- ---- a queue that is made

pub pushed_with : {A B : Type 0} (of : A → B) (name : List ℕ) (q : Standing A) (queues : List (Named A)) → queues_with of (queues ++ (name, q) ∷ []) ≡ queues_with of queues ++ (name, queue_with of q) ∷ []
pushed_with of name q queues = map-append (λ q. (q.0, queue_with of q.1)) queues ((name, q) ∷ [])

pub emptied_with : {A B : Type 0} (of : A → B) (q : Standing A) → q.mail ≡ empty → queue_with of q ≡ emptied q
emptied_with of q none = λ i. record { number = q.number; options = q.options; owner = q.owner; mail = mail_with of (none i) }

-- A message is kept for as many copies as there are.
use Rattle.std.proofs.Common.{◌≡◌, ◌≢◌, ℕ, zero, suc, ◌+◌, ◌<◌, ◌≤◌, ◌==◌, Bool, true, false, not, List, [], ◌∷◌, ◌++◌, Some, refl, ap, sym, ◌∙◌, subst, arith, slice_get, map, cond, is_some, unwrap_or, eq-eqb, eqb-true}
use Rattle.std.specs.Option.{option_map_or}
use Rattle.std.specs.Map.{values_of}
use Rattle.std.specs.Str.{bytes_eq}
use Rattle.std.proofs.lemmas.Bool.{true≢false}
use Rattle.std.proofs.lemmas.List.{map-append}
use Rattle.std.proofs.lemmas.List.Sums.{sum_by-cons, sum_by_push}
use Rattle.indexmap.specs.IndexMap.{set_value_at}
use Rattle.amqp_props.specs.declared.message.Message.{Message}
use Rattle.slab.specs.Slab.{Slab}
use Rattle.broker_store.specs.declared.mailbox.CopyMessage.{CopyMessage}
use Rattle.broker_store.specs.declared.messages.Kept.{Kept}
use Rattle.broker_store.specs.Mail.{as_seen, entered, fresh}
use Rattle.broker_store.specs.Messages.{no_message, message_at, copies_at, uses, all_uses, IsCounted, Covers, Follows, Remains, AreMore, IsAdded, copy_with, queue_with, queues_with}
use Rattle.broker_store.specs.Queues.{all_entered, Standing, Named, named, queue_of, changed, with_mail, others}
use Rattle.broker_store.proofs.KeyLemmas.{entered_with}
use Rattle.broker_store.proofs.QueueLemmas.{Entries}

abbrev one : ℕ → CopyMessage ℕ → ℕ
one key copy = cond (copy.message == key) 1 0

pub uses_cons : (key : ℕ) (copy : CopyMessage ℕ) (copies : List (CopyMessage ℕ)) → uses key (copy ∷ copies) ≡ one key copy + uses key copies
uses_cons key copy copies = sum_by-cons (one key) copy copies

uses_push : (key : ℕ) (copies : List (CopyMessage ℕ)) (copy : CopyMessage ℕ) → uses key (copies ++ copy ∷ []) ≡ uses key copies + one key copy
uses_push key copies copy = sum_by_push (one key) copies copy

same_some : {A : Type 0} {x y : A} → Some x ≡ Some y → x ≡ y
same_some {A} {x} e = ap (λ r. unwrap_or r x) e

-- ---- the copies of one queue among those of all

uses_within : {Z : Type 0} (key : ℕ) (es : Entries Z) (i : ℕ) (v : Standing ℕ) → slice_get (values_of es) i ≡ Some v → uses key v.mail.copies ≤ all_uses key (named es)
uses_within key [] i v at = absurd (true≢false (sym (ap is_some at)))
uses_within key (e ∷ es) zero v at = subst (λ q. uses key q.mail.copies ≤ all_uses key (named (e ∷ es))) (same_some at) (omega arith)
uses_within key (e ∷ es) (suc i) v at = let rest = uses_within key es i v at in omega arith

uses_set : {Z : Type 0} (key : ℕ) (es : Entries Z) (i : ℕ) (v w : Standing ℕ) → slice_get (values_of es) i ≡ Some v → all_uses key (named (set_value_at es i w)) + uses key v.mail.copies ≡ all_uses key (named es) + uses key w.mail.copies
uses_set key [] i v w at = absurd (true≢false (sym (ap is_some at)))
uses_set key (e ∷ es) zero v w at =
    subst (λ q. uses key w.mail.copies + all_uses key (named es) + uses key q.mail.copies ≡ uses key e.1.mail.copies + all_uses key (named es) + uses key w.mail.copies) (same_some at) (omega arith)
uses_set key (e ∷ es) (suc i) v w at = let rest = uses_set key es i v w at in omega arith

pub covers_at : {Z : Type 0} (kept : Slab Kept) (es : Entries Z) (i : ℕ) (v : Standing ℕ) → IsCounted kept (named es) → slice_get (values_of es) i ≡ Some v → Covers kept v.mail.copies
covers_at kept es i v counted at = λ key. omega (arith, counted key, uses_within key es i v at)

pub remains_at : {Z : Type 0} (was mid now : Slab Kept) (es : Entries Z) (i : ℕ) (v w : Standing ℕ) → Remains was mid (named es) → slice_get (values_of es) i ≡ Some v → Follows mid now v.mail.copies w.mail.copies → Remains was now (named (set_value_at es i w))
remains_at was mid now es i v w remains at follows = record {
  counted = λ key. omega (arith, remains.counted key, follows.counts key, uses_set key es i v w at);
  same = λ key live. follows.same key live ∙ remains.same key (omega (arith, live, follows.fewer key));
}

pub counted_at : {Z : Type 0} (was now : Slab Kept) (es : Entries Z) (i : ℕ) (v w : Standing ℕ) → IsCounted was (named es) → slice_get (values_of es) i ≡ Some v → Follows was now v.mail.copies w.mail.copies → Remains was now (named (set_value_at es i w))
counted_at was now es i v w counted at follows =
    remains_at was was now es i v w (record { counted = counted; same = λ key live. refl }) at follows

-- ---- what copies carry, by what is seen under their keys

one_same : (key : ℕ) → ◌≡◌ {A = ℕ} (cond (key == key) 1 0) 1
one_same key = ap {B = ℕ} (λ b. cond b 1 0) (eq-eqb key key refl)

copies_same : {B : Type 0} (f g : ℕ → B) (copies : List (CopyMessage ℕ)) → ((key : ℕ) → 0 < uses key copies → f key ≡ g key) → map (copy_with f) copies ≡ map (copy_with g) copies
copies_same f g [] same = refl
copies_same f g (copy ∷ copies) same =
    let head : f copy.message ≡ g copy.message = same copy.message (omega (arith, uses_cons copy.message copy copies, one_same copy.message)) in
    let tail = copies_same f g copies (λ key live. same key (omega (arith, live, uses_cons key copy copies))) in
    λ i. record { number = copy.number; again = copy.again; message = head i } ∷ tail i

pub carried_same : {B : Type 0} (f g : ℕ → B) (queues : List (Named ℕ)) → ((key : ℕ) → 0 < all_uses key queues → f key ≡ g key) → queues_with f queues ≡ queues_with g queues
carried_same f g [] same = refl
carried_same f g (q ∷ queues) same =
    let head = copies_same f g q.1.mail.copies (λ key live. same key (omega (arith, live))) in
    let tail = carried_same f g queues (λ key live. same key (omega (arith, live))) in
    λ i. (q.0, record { number = q.1.number; options = q.1.options; owner = q.1.owner; mail = record { rows = q.1.mail.rows; copies = head i } }) ∷ tail i

pub remains_seen : (was now : Slab Kept) (queues : List (Named ℕ)) → Remains was now queues → queues_with (message_at now) queues ≡ queues_with (message_at was) queues
remains_seen was now queues remains =
    carried_same (message_at now) (message_at was) queues (λ key live. remains.same key (omega (arith, live, remains.counted key)))

-- ---- copies that enter

none_more : (b : Bool) → ◌≡◌ {A = ℕ} 0 (0 + cond b 0 0)
none_more true = refl
none_more false = refl

either_key : (a b : ℕ) → ◌≡◌ {A = ℕ} (cond (a == b) 1 0) (cond (b == a) 1 0)
either_key a b =
    elim (a == b) as (λ t. (a == b) ≡ t → ◌≡◌ {A = ℕ} (cond t 1 0) (cond (b == a) 1 0)) [
      | true ↦ (λ on. sym (ap {B = ℕ} (λ t. cond t 1 0) (eq-eqb b a (sym (eqb-true a b on)))))
      | false ↦ (λ off. elim (b == a) as (λ t. (b == a) ≡ t → ◌≡◌ {A = ℕ} 0 (cond t 1 0)) [
        | true ↦ (λ on. absurd (true≢false (sym (eq-eqb a b (sym (eqb-true b a on))) ∙ off)))
        | false ↦ (λ _. refl)
      ] refl)
    ] refl

pub one_more : (name : List ℕ) (n key : ℕ) (queues : List (Named ℕ)) → AreMore key (cond (is_some (queue_of name queues)) 1 0) queues (changed name (with_mail (entered n key)) queues)
one_more name n key [] = λ other. none_more (other == key)
one_more name n key (q ∷ queues) = λ other.
    elim (bytes_eq name q.0) as (λ b. all_uses other (cond b ((q.0, with_mail (entered n key) q.1) ∷ queues) (q ∷ changed name (with_mail (entered n key)) queues)) ≡ uses other q.1.mail.copies + all_uses other queues + cond (other == key) (cond (is_some (cond b (Some q.1) (queue_of name queues))) 1 0) 0) [
      | true ↦ omega (arith, uses_push other q.1.mail.copies (fresh n key), either_key key other)
      | false ↦ omega (arith, one_more name n key queues other)
    ]

pub at_most_one : (b : Bool) → cond b 1 0 ≤ 1
at_most_one true = omega arith
at_most_one false = omega arith

pub more_more : (key a b : ℕ) (was mid now : List (Named ℕ)) → AreMore key a was mid → AreMore key b mid now → AreMore key (a + b) was now
more_more key a b was mid now first second = λ other.
    elim (other == key) as (λ t. all_uses other mid ≡ all_uses other was + cond t a 0 → all_uses other now ≡ all_uses other mid + cond t b 0 → all_uses other now ≡ all_uses other was + cond t (a + b) 0) [
      | true ↦ (λ one two. omega (arith, one, two))
      | false ↦ (λ one two. omega (arith, one, two))
    ] (first other) (second other)

another : (a b : ℕ) → (a == b) ≡ false → a ≢ b
another a b off = λ same. true≢false (sym (eq-eqb a b same) ∙ off)

pub added_counted : (message : Message) (copies : ℕ) (was now : Slab Kept) (queues more : List (Named ℕ)) → IsCounted was queues → copies_at was.vacant_key was ≡ 0 → IsAdded message copies was now → AreMore was.vacant_key copies queues more → IsCounted now more
added_counted message copies was now queues more counted vacant added are = λ key.
    elim (key == was.vacant_key) as (λ t. (key == was.vacant_key) ≡ t → all_uses key more ≡ all_uses key queues + cond t copies 0 → copies_at key now ≡ all_uses key more) [
      | true ↦ (λ on some.
          let is : key ≡ was.vacant_key = eqb-true key was.vacant_key on in
          let here : copies_at key now ≡ copies = ap (λ k. copies_at k now) is ∙ added.counts in
          let none : copies_at key was ≡ 0 = ap (λ k. copies_at k was) is ∙ vacant in
          omega (arith, here, none, some, counted key))
      | false ↦ (λ off some.
          let kept : copies_at key now ≡ copies_at key was = ap (λ o. option_map_or (λ (k : Kept). k.copies) o 0) (added.others key (another key was.vacant_key off)) in
          omega (arith, kept, some, counted key))
    ] refl (are key)

-- ---- what the queues show, once a message is kept for copies that entered

-- the message under the next key, and what was kept under the others
abbrev with_next : Message → Slab Kept → ℕ → Message
with_next message was key = cond (key == was.vacant_key) message (message_at was key)

seen_now : (message : Message) (copies : ℕ) (was now : Slab Kept) (queues more : List (Named ℕ)) → IsCounted was queues → copies_at was.vacant_key was ≡ 0 → IsAdded message copies was now → AreMore was.vacant_key copies queues more → queues_with (message_at now) more ≡ queues_with (with_next message was) more
seen_now message copies was now queues more counted vacant added are =
    carried_same (message_at now) (with_next message was) more (λ key live.
    elim (key == was.vacant_key) as (λ t. (key == was.vacant_key) ≡ t → all_uses key more ≡ all_uses key queues + cond t copies 0 → message_at now key ≡ cond t message (message_at was key)) [
      | true ↦ (λ on some.
          let is : key ≡ was.vacant_key = eqb-true key was.vacant_key on in
          let none : copies_at key was ≡ 0 = ap (λ k. copies_at k was) is ∙ vacant in
          ap (message_at now) is ∙ added.there (omega (arith, live, none, some, counted key)))
      | false ↦ (λ off _. ap (λ o. option_map_or (λ (k : Kept). k.message) o no_message) (added.others key (another key was.vacant_key off)))
    ] refl (are key))

seen_before : (message : Message) (was : Slab Kept) (queues : List (Named ℕ)) → IsCounted was queues → copies_at was.vacant_key was ≡ 0 → queues_with (with_next message was) queues ≡ queues_with (message_at was) queues
seen_before message was queues counted vacant =
    carried_same (with_next message was) (message_at was) queues (λ key live.
    elim (key == was.vacant_key) as (λ t. (key == was.vacant_key) ≡ t → cond t message (message_at was key) ≡ message_at was key) [
      | true ↦ (λ on.
          let none : copies_at key was ≡ 0 = ap (λ k. copies_at k was) (eqb-true key was.vacant_key on) ∙ vacant in
          absurd (omega (arith, live, none, counted key)))
      | false ↦ (λ off. refl)
    ] refl)

pub added_seen : (message : Message) (copies : ℕ) (was now : Slab Kept) (queues more : List (Named ℕ)) → IsCounted was queues → copies_at was.vacant_key was ≡ 0 → IsAdded message copies was now → AreMore was.vacant_key copies queues more → (names : List (List ℕ)) (n : ℕ) → more ≡ all_entered names n was.vacant_key queues → queues_with (message_at now) more ≡ all_entered names n message (queues_with (message_at was) queues)
added_seen message copies was now queues more counted vacant added are names n is =
    seen_now message copies was now queues more counted vacant added are
    ∙ ap (queues_with (with_next message was)) is
    ∙ entered_with (with_next message was) names n was.vacant_key queues
    ∙ ap (λ m. all_entered names n m (queues_with (with_next message was) queues)) (ap (λ t. cond t message (message_at was was.vacant_key)) (eq-eqb was.vacant_key was.vacant_key refl))
    ∙ ap (all_entered names n message) (seen_before message was queues counted vacant)

-- ---- a queue that goes

-- as the copies of the queues of that name go: counted are the copies of the other queues and of what is left, and that is as it was
pub record IsFreed (name : List ℕ) (was now : Slab Kept) (all rest : List (Named ℕ)) : Type 0 where
  pub counts : (key : ℕ) → copies_at key now + all_uses key (others name rest) ≡ all_uses key (others name all) + all_uses key rest
  pub same : (key : ℕ) → 0 < copies_at key now → message_at now key ≡ message_at was key

uses_others : (key : ℕ) (name : List ℕ) (queues : List (Named ℕ)) → all_uses key (others name queues) ≤ all_uses key queues
uses_others key name [] = omega arith
uses_others key name (q ∷ queues) =
    elim (bytes_eq q.0 name) as (λ b. all_uses key (cond (not b) (q ∷ others name queues) (others name queues)) ≤ all_uses key (q ∷ queues)) [
      | true ↦ omega (arith, uses_others key name queues)
      | false ↦ omega (arith, uses_others key name queues)
    ]

-- a queue of the name is still counted
pub freed_covers : (name : List ℕ) (was now : Slab Kept) (all : List (Named ℕ)) (q : Named ℕ) (rest : List (Named ℕ)) → bytes_eq q.0 name ≡ true → IsFreed name was now all (q ∷ rest) → Covers now q.1.mail.copies
freed_covers name was now all q rest is freed = λ key.
    let first : copies_at key now + all_uses key (others name rest) ≡ all_uses key (others name all) + (uses key q.1.mail.copies + all_uses key rest) = subst (λ t. copies_at key now + all_uses key (cond (not t) (q ∷ others name rest) (others name rest)) ≡ all_uses key (others name all) + (uses key q.1.mail.copies + all_uses key rest)) is (freed.counts key) in
    omega (arith, first, uses_others key name rest)

-- What is done to the table of queues, as contracts see it with the messages of the copies.
use Rattle.std.proofs.Common.{◌≡◌, ℕ, zero, suc, ◌+◌, ◌<◌, ◌≤◌, ◌==◌, true, false, cond, List, [], ◌∷◌, ◌++◌, Option, Some, None, Bor, position, slice_get, is_some, refl, ap, sym, ◌∙◌, subst, arith, eq-eqb, unwrap_or}
use Rattle.std.specs.Option.{option_map, option_and_then, option_copied}
use Rattle.std.specs.Prelude.{Result, Ok, Err, IfOk, find}
use Rattle.std.specs.Map.{lookup, keys_of, values_of}
use Rattle.std.proofs.lemmas.Bool.{false≢true}
use Rattle.indexmap.specs.IndexMap.{set_value_at}
use Rattle.amqp_props.specs.declared.message.Message.{Message}
use Rattle.queue_core.specs.Rows.{first_ready}
use Rattle.slab.specs.Slab.{Slab}
use Rattle.broker_store.specs.declared.mailbox.CopyMessage.{CopyMessage}
use Rattle.broker_store.specs.declared.messages.Kept.{Kept}
use Rattle.broker_store.specs.Mail.{Mail, empty, copy_of, is_copy, first_copy}
use Rattle.broker_store.specs.Messages.{message_at, copies_at, uses, all_uses, IsCounted, Follows, copy_with, mail_with, queue_with, queues_with}
use Rattle.broker_store.specs.Queues.{Standing, Named, named, queue_of, changed, with_mail, first_in, ready_in}
use Rattle.broker_store.proofs.QueueLemmas.{Entries, is_key, changed_at, set_same, lookup_named}
use Rattle.broker_store.proofs.KeyLemmas.{queues_changed, queue_of_with, first_in_with, ready_in_with}
use Rattle.broker_store.proofs.CountLemmas.{counted_at, remains_seen, uses_cons}

-- a queue is changed, and what its copies don't need is freed
pub changed_seen : {Z : Type 0} (was now : Slab Kept) (es : Entries Z) (name : List ℕ) (f : Mail ℕ → Mail ℕ) (g : Mail Message → Mail Message) → ((m : Mail ℕ) → mail_with (message_at was) (f m) ≡ g (mail_with (message_at was) m)) → (i : ℕ) (v : Standing ℕ) (mail : Mail ℕ) → Some i ≡ position (is_key name) (keys_of es) → slice_get (values_of es) i ≡ Some v → mail ≡ f v.mail → IsCounted was (named es) → Follows was now v.mail.copies mail.copies → queues_with (message_at now) (named (set_value_at es i (record v { mail = mail }))) ≡ changed name (with_mail g) (queues_with (message_at was) (named es))
changed_seen was now es name f g same i v mail place at is counted follows =
    remains_seen was now (named (set_value_at es i (record v { mail = mail }))) (counted_at was now es i v (record v { mail = mail }) counted at follows)
    ∙ ap (queues_with (message_at was)) (changed_at name (with_mail f) es i v (record v { mail = mail }) place at (ap (λ m. record v { mail = m }) is))
    ∙ queues_changed (message_at was) name f g same (named es)

-- a queue stays as it is
pub same_seen : {Z : Type 0} (was now : Slab Kept) (es : Entries Z) (i : ℕ) (v : Standing ℕ) (mail : Mail ℕ) → slice_get (values_of es) i ≡ Some v → mail ≡ v.mail → IsCounted was (named es) → Follows was now v.mail.copies mail.copies → queues_with (message_at now) (named (set_value_at es i (record v { mail = mail }))) ≡ queues_with (message_at was) (named es)
same_seen was now es i v mail at is counted follows =
    remains_seen was now (named (set_value_at es i (record v { mail = mail }))) (counted_at was now es i v (record v { mail = mail }) counted at follows)
    ∙ ap (λ es. queues_with (message_at was) (named es)) (set_same es i v (record v { mail = mail }) at (ap (λ m. record v { mail = m }) is))

-- the queue of that name is at that place
pub found_at : {Z : Type 0} (name : List ℕ) (es : Entries Z) (i : ℕ) (v : Standing ℕ) → slice_get (values_of es) i ≡ lookup (is_key name) es → slice_get (values_of es) i ≡ Some v → queue_of name (named es) ≡ Some v
found_at name es i v found at = lookup_named name es ∙ sym found ∙ at

-- there is none
pub found_none : {Z : Type 0} (name : List ℕ) (es : Entries Z) → false ≡ is_some (lookup (is_key name) es) → queue_of name (named es) ≡ None
found_none name es none = lookup_named name es ∙ not_some (lookup (is_key name) es) none
  where
    not_some : {A : Type 0} (r : Option A) → false ≡ is_some r → r ≡ None
    not_some None e = refl
    not_some (Some a) e = absurd (false≢true e)

pub absent_seen : {Z B : Type 0} (of : ℕ → B) (name : List ℕ) (es : Entries Z) → false ≡ is_some (lookup (is_key name) es) → queue_of name (queues_with of (named es)) ≡ None
absent_seen of name es none = queue_of_with of name (named es) ∙ ap (option_map (queue_with of)) (found_none name es none)

-- there was none
pub absent_before : {Z B : Type 0} (of : ℕ → B) (name : List ℕ) (es : Entries Z) → queue_of name (queues_with of (named es)) ≡ None → queue_of name (named es) ≡ None
absent_before of name es none = unmapped (queue_of name (named es)) (sym (queue_of_with of name (named es)) ∙ none)
  where
    unmapped : (r : Option (Standing ℕ)) → option_map (queue_with of) r ≡ None → r ≡ None
    unmapped None e = refl
    unmapped (Some q) e = absurd (false≢true (sym (ap is_some e)))

pub if_ok : {A F : Type 0} {P Q : A → Type 0} (r : Result A F) → ((a : A) → P a → Q a) → IfOk r P → IfOk r Q
if_ok (Ok a) f p = f a p
if_ok (Err e) f p = p

-- a queue without copies uses no message
pub uses_pushed : (key : ℕ) (name : List ℕ) (q : Standing ℕ) (queues : List (Named ℕ)) → q.mail ≡ empty → all_uses key (queues ++ (name, q) ∷ []) ≡ all_uses key queues
uses_pushed key name q [] none = ap (λ m. uses key m.copies + 0) none
uses_pushed key name q (first ∷ queues) none = ap (λ n. uses key first.1.mail.copies + n) (uses_pushed key name q queues none)

-- a copy that is there uses its message
pub found_used : (n : ℕ) (copies : List (CopyMessage ℕ)) (copy : CopyMessage ℕ) → copy_of n copies ≡ Some copy → 0 < uses copy.message copies
found_used n [] copy found = absurd (false≢true (ap is_some found))
found_used n (first ∷ copies) copy found =
    elim (is_copy n first) as (λ b. cond b (Some first) (find (is_copy n) copies) ≡ Some copy → 0 < uses copy.message (first ∷ copies)) [
      | true ↦ (λ is.
          let used : cond (first.message == copy.message) (suc zero) zero ≡ suc zero = ap (λ b. cond b (suc zero) zero) (eq-eqb first.message copy.message (ap (λ r. (unwrap_or r first).message) is)) in
          let all = uses_cons copy.message first copies in
          omega (arith, used, all))
      | false ↦ (λ later.
          let more = found_used n copies copy later in
          let all = uses_cons copy.message first copies in
          omega (arith, more, all))
    ] found

-- ---- the copy that a queue would hand out

-- it is the same copy with its message
pub seen_first : {Z : Type 0} (kept : Slab Kept) (name : List ℕ) (es : Entries Z) (found : Option (Bor (Standing ℕ))) → option_copied found ≡ lookup (is_key name) es → first_in name (queues_with (message_at kept) (named es)) ≡ option_map (copy_with (message_at kept)) (option_and_then (λ (q : Standing ℕ). first_copy q.mail) (option_copied found))
seen_first kept name es found is =
    first_in_with (message_at kept) name (named es)
    ∙ ap (λ r. option_map (copy_with (message_at kept)) (option_and_then (λ (q : Standing ℕ). first_copy q.mail) r)) (lookup_named name es ∙ sym is)

pub seen_ready : {Z : Type 0} (kept : Slab Kept) (name : List ℕ) (es : Entries Z) (found : Option (Bor (Standing ℕ))) → option_copied found ≡ lookup (is_key name) es → ready_in name (queues_with (message_at kept) (named es)) ≡ option_and_then (λ (q : Standing ℕ). first_ready q.mail.rows) (option_copied found)
seen_ready kept name es found is =
    sym (ready_in_with (message_at kept) name (named es))
    ∙ ap (λ r. option_and_then (λ (q : Standing ℕ). first_ready q.mail.rows) r) (lookup_named name es ∙ sym is)

first_used : (m : Mail ℕ) (copy : CopyMessage ℕ) → first_copy m ≡ Some copy → 0 < uses copy.message m.copies
first_used m copy is = at (first_ready m.rows) is
  where
    at : (first : Option ℕ) → option_and_then (λ number. copy_of number m.copies) first ≡ Some copy → 0 < uses copy.message m.copies
    at None is = absurd (false≢true (ap is_some is))
    at (Some n) is = found_used n m.copies copy is

lookup_uses : {Z : Type 0} (key : ℕ) (name : List ℕ) (es : Entries Z) (v : Standing ℕ) → lookup (is_key name) es ≡ Some v → uses key v.mail.copies ≤ all_uses key (named es)
lookup_uses key name [] v is = absurd (false≢true (ap is_some is))
lookup_uses key name (e ∷ es) v is =
    elim (is_key name e.0) as (λ b. cond b (Some e.1) (lookup (is_key name) es) ≡ Some v → uses key v.mail.copies ≤ uses key e.1.mail.copies + all_uses key (named es)) [
      | true ↦ (λ is. subst (λ q. uses key q.mail.copies ≤ uses key e.1.mail.copies + all_uses key (named es)) (ap (λ r. unwrap_or r e.1) is) (omega arith))
      | false ↦ (λ is. let rest = lookup_uses key name es v is in omega (arith, rest))
    ] is

-- a copy that would be handed out has its message
pub first_kept : {Z : Type 0} {P : Type 0} (kept : Slab Kept) (name : List ℕ) (es : Entries Z) (v : Standing ℕ) (copy : CopyMessage ℕ) → IsCounted kept (named es) → lookup (is_key name) es ≡ Some v → first_copy v.mail ≡ Some copy → copies_at copy.message kept ≡ 0 → P
first_kept {P = P} kept name es v copy counted found first none =
    let used = first_used v.mail copy first in
    let within = lookup_uses copy.message name es v found in
    let count = counted copy.message in
    absurd (impossible (copies_at copy.message kept) (uses copy.message v.mail.copies) (all_uses copy.message (named es)) used within count none)
  where
    impossible : (a b d : ℕ) → 0 < b → b ≤ d → a ≡ d → a ≡ 0 → ⊥
    impossible a b d used within count none = omega arith

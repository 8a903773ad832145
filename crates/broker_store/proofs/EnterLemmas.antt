-- Copies that enter, and that leave again for want of memory.
use Rattle.std.proofs.Common.{◌≡◌, ℕ, zero, suc, ◌+◌, ◌<◌, ◌≤◌, ◌==◌, Bool, true, false, cond, not, List, [], ◌∷◌, ◌++◌, length, get_or, take, refl, ap, subst, ◌∙◌, arith, eq-eqb}
use Rattle.std.specs.Prelude.{All, filter}
use Rattle.std.specs.Str.{bytes_eq}
use Rattle.std.proofs.lemmas.Bool.Decides.{nat_tests}
use Rattle.std.proofs.lemmas.List.Elements.{All-nil, All-cons, All-head, All-tail, All-push, All-weaker}
use Rattle.queue_core.specs.declared.rows.Row.{Row}
use Rattle.queue_core.specs.Rows as rows
use Rattle.broker_store.specs.declared.mailbox.CopyMessage.{CopyMessage}
use Rattle.broker_store.specs.Mail.{entered, left, fresh}
use Rattle.broker_store.specs.Queues.{Standing, Named, changed, with_mail, all_entered, all_left_again, IsLast, AreAbove}

-- what passes stays, and the last goes
pub filter_push : {X : Type 0} (test : X → Bool) (xs : List X) (y : X) → All (λ x. test x ≡ true) xs → test y ≡ false → filter test (xs ++ y ∷ []) ≡ xs
filter_push test [] y all off = ap (λ b. cond b (y ∷ []) []) off
filter_push test (x ∷ xs) y all off =
    ap (λ b. cond b (x ∷ filter test (xs ++ y ∷ [])) (filter test (xs ++ y ∷ []))) (All-head (λ x. test x ≡ true) x xs all)
    ∙ ap (λ rest. x ∷ rest) (filter_push test xs y (All-tail (λ x. test x ≡ true) x xs all) off)

other_number : (a n : ℕ) → a < n → not (a == n) ≡ true
other_number a n below = grind (arith, nat_tests, below)

same_number : (n : ℕ) → not (n == n) ≡ false
same_number n = ap not (eq-eqb n n refl)

-- a copy that entered leaves again
undone_at : {M : Type 0} (n : ℕ) (m : M) (queue : Standing M) → IsLast n queue → with_mail (left n) (with_mail (entered n m) queue) ≡ queue
undone_at n m queue last =
    let rows_back : filter (λ (row : Row). not (row.copy == n)) (queue.mail.rows ++ rows.entered n ∷ []) ≡ queue.mail.rows = filter_push (λ (row : Row). not (row.copy == n)) queue.mail.rows (rows.entered n) (All-weaker (λ row. row.copy < n) (λ row. not (row.copy == n) ≡ true) (λ row below. other_number row.copy n below) queue.mail.rows last.0) (same_number n) in
    let copies_back : filter (λ (copy : CopyMessage _). not (copy.number == n)) (queue.mail.copies ++ fresh n m ∷ []) ≡ queue.mail.copies = filter_push (λ (copy : CopyMessage _). not (copy.number == n)) queue.mail.copies (fresh n m) (All-weaker (λ copy. copy.number < n) (λ copy. not (copy.number == n) ≡ true) (λ copy below. other_number copy.number n below) queue.mail.copies last.1) (same_number n) in
    λ i. record queue { mail = record { rows = rows_back i; copies = copies_back i } }

pub undone : {M : Type 0} (name : List ℕ) (n : ℕ) (m : M) (queues : List (Named M)) → AreAbove n queues → changed name (with_mail (left n)) (changed name (with_mail (entered n m)) queues) ≡ queues
undone name n m [] above = refl
undone name n m (q ∷ queues) above =
    elim (bytes_eq name q.0) as (λ b. bytes_eq name q.0 ≡ b → changed name (with_mail (left n)) (cond b ((q.0, with_mail (entered n m) q.1) ∷ queues) (q ∷ changed name (with_mail (entered n m)) queues)) ≡ q ∷ queues) [
      | true ↦ (λ on. ap (λ b. cond b ((q.0, with_mail (left n) (with_mail (entered n m) q.1)) ∷ queues) ((q.0, with_mail (entered n m) q.1) ∷ changed name (with_mail (left n)) queues)) on
          ∙ ap (λ x. (q.0, x) ∷ queues) (undone_at n m q.1 (All-head (λ q. IsLast n q.1) q queues above)))
      | false ↦ (λ off. ap (λ b. cond b ((q.0, with_mail (left n) q.1) ∷ changed name (with_mail (entered n m)) queues) (q ∷ changed name (with_mail (left n)) (changed name (with_mail (entered n m)) queues))) off
          ∙ ap (λ rest. q ∷ rest) (undone name n m queues (All-tail (λ q. IsLast n q.1) q queues above)))
    ] refl

-- the next number is above what is there
next_at : {M : Type 0} (n : ℕ) (queue : Standing M) → IsLast n queue → IsLast (n + 1) queue
next_at n queue last =
    (All-weaker (λ row. row.copy < n) (λ row. row.copy < n + 1) (λ row below. omega arith) queue.mail.rows last.0, All-weaker (λ copy. copy.number < n) (λ copy. copy.number < n + 1) (λ copy below. omega arith) queue.mail.copies last.1)

next_entered : {M : Type 0} (n : ℕ) (m : M) (queue : Standing M) → IsLast n queue → IsLast (n + 1) (with_mail (entered n m) queue)
next_entered n m queue last =
    let next = next_at n queue last in
    (All-push (λ row. row.copy < n + 1) queue.mail.rows (rows.entered n) next.0 (omega arith), All-push (λ copy. copy.number < n + 1) queue.mail.copies (fresh n m) next.1 (omega arith))

pub next_above : {M : Type 0} (name : List ℕ) (n : ℕ) (m : M) (queues : List (Named M)) → AreAbove n queues → AreAbove (n + 1) (changed name (with_mail (entered n m)) queues)
next_above name n m [] above = All-nil (λ q. IsLast (n + 1) q.1)
next_above name n m (q ∷ queues) above =
    let head = All-head (λ q. IsLast n q.1) q queues above in
    let tail = All-tail (λ q. IsLast n q.1) q queues above in
    elim (bytes_eq name q.0) as (λ b. AreAbove (n + 1) (cond b ((q.0, with_mail (entered n m) q.1) ∷ queues) (q ∷ changed name (with_mail (entered n m)) queues))) [
      | true ↦ All-cons (λ q. IsLast (n + 1) q.1) (q.0, with_mail (entered n m) q.1) queues (next_entered n m q.1 head) (All-weaker (λ q. IsLast n q.1) (λ q. IsLast (n + 1) q.1) (λ q last. next_at n q.1 last) queues tail)
      | false ↦ All-cons (λ q. IsLast (n + 1) q.1) q (changed name (with_mail (entered n m)) queues) (next_at n q.1 head) (next_above name n m queues tail)
    ]

-- ---- the first so many queues

-- one more queue gets its copy
pub entered_more : {M : Type 0} (names : List (List ℕ)) (i n : ℕ) (d : List ℕ) (m : M) (queues : List (Named M)) → i < length names → all_entered (take (suc i) names) n m queues ≡ changed (get_or names i d) (with_mail (entered (n + i) m)) (all_entered (take i names) n m queues)
entered_more [] i n d m queues within = absurd (omega (arith, within))
entered_more (name ∷ names) zero n d m queues within = ap (λ number. changed name (with_mail (entered number m)) queues) (omega arith)
entered_more (name ∷ names) (suc i) n d m queues within =
    let rest = entered_more names i (n + 1) d m (changed name (with_mail (entered n m)) queues) (omega (arith, within)) in
    let number : n + 1 + i ≡ n + suc i = omega arith in
    rest ∙ ap (λ number. changed (get_or names i d) (with_mail (entered number m)) (all_entered (take i names) (n + 1) m (changed name (with_mail (entered n m)) queues))) number

-- one copy less is left to withdraw
pub left_more : {M : Type 0} (names : List (List ℕ)) (i n : ℕ) (d : List ℕ) (queues : List (Named M)) → i < length names → all_left_again (take (suc i) names) n queues ≡ all_left_again (take i names) n (changed (get_or names i d) (with_mail (left (n + i))) queues)
left_more [] i n d queues within = absurd (omega (arith, within))
left_more (name ∷ names) zero n d queues within = ap (λ number. changed name (with_mail (left number)) queues) (omega arith)
left_more (name ∷ names) (suc i) n d queues within =
    let rest = left_more names i (n + 1) d queues (omega (arith, within)) in
    let number : n + 1 + i ≡ n + suc i = omega arith in
    ap (changed name (with_mail (left n))) (rest ∙ ap (λ number. all_left_again (take i names) (n + 1) (changed (get_or names i d) (with_mail (left number)) queues)) number)

-- the next number is above what is there then
pub above_more : {M : Type 0} (names : List (List ℕ)) (i n : ℕ) (m : M) (queues : List (Named M)) → i ≤ length names → AreAbove n queues → AreAbove (n + i) (all_entered (take i names) n m queues)
above_more names zero n m queues within above = subst (λ number. AreAbove number queues) (omega arith) above
above_more [] (suc i) n m queues within above = absurd (omega (arith, within))
above_more (name ∷ names) (suc i) n m queues within above =
    subst (λ number. AreAbove number (all_entered (take i names) (n + 1) m (changed name (with_mail (entered n m)) queues))) (omega arith) (above_more names i (n + 1) m (changed name (with_mail (entered n m)) queues) (omega (arith, within)) (next_above name n m queues above))

-- all that entered leaves again
pub undone_all : {M : Type 0} (names : List (List ℕ)) (n : ℕ) (m : M) (queues : List (Named M)) → AreAbove n queues → all_left_again names n (all_entered names n m queues) ≡ queues
undone_all [] n m queues above = refl
undone_all (name ∷ names) n m queues above =
    ap (changed name (with_mail (left n))) (undone_all names (n + 1) m (changed name (with_mail (entered n m)) queues) (next_above name n m queues above)) ∙ undone name n m queues above

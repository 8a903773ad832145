-- What is kept of messages while copies go.
use Rattle.std.proofs.Common.{◌≡◌, ℕ, ◌+◌, ◌<◌, ◌==◌, cond, List, ◌∷◌, ◌++◌, length, get_or, take, drop, refl, ap, sym, ◌∙◌, arith, eq-eqb, take-append-drop}
use Rattle.std.proofs.lemmas.List.{drop_more}
use Rattle.std.proofs.lemmas.List.Sums.{sum_by-append, sum_by-cons}
use Rattle.slab.specs.Slab.{Slab}
use Rattle.broker_store.specs.declared.mailbox.CopyMessage.{CopyMessage}
use Rattle.broker_store.specs.declared.messages.Kept.{Kept}
use Rattle.broker_store.specs.Messages.{copies_at, uses, Covers, Follows}

abbrev pub counts_as : ℕ → CopyMessage ℕ → ℕ
counts_as key copy = cond (copy.message == key) 1 0

-- the copy at this place is counted, as none after it has gone
pub still_there : (was now : Slab Kept) (copies after : List (CopyMessage ℕ)) (i : ℕ) (d : CopyMessage ℕ) → i < length copies → Covers was copies → Follows was now (take i copies) after → 0 < copies_at (get_or copies i d).message now
still_there was now copies after i d within covers follows =
    let copy = get_or copies i d in
    let rest = drop (i + 1) copies in
    let split : copies ≡ take i copies ++ copy ∷ rest = sym (take-append-drop i copies) ∙ ap (λ xs. take i copies ++ xs) (drop_more copies i d within) in
    let all : uses copy.message copies ≡ uses copy.message (take i copies) + uses copy.message (copy ∷ rest) = ap (uses copy.message) split ∙ sum_by-append (counts_as copy.message) (take i copies) (copy ∷ rest) in
    let once : cond (copy.message == copy.message) 1 0 ≡ 1 = ap (λ b. cond {A = ℕ} b 1 0) (eq-eqb copy.message copy.message refl) in
    omega (arith, covers copy.message, follows.counts copy.message, all, sum_by-cons (counts_as copy.message) copy rest, once)

-- How the words of a pattern cover those of a key, and what a walk keeps.
use Rattle.std.proofs.Common.{◌≡◌, inl, inr, ℕ, suc, ◌+◌, ◌≤◌, ◌<◌, Bool, true, false, cond, ◌||◌, ◌&&◌, nat_lt, List, [], ◌∷◌, ◌++◌, length, take, drop, Some, None, refl, sym, ap, subst, ◌∙◌, arith, rules}
use Rattle.std.specs.List.{slice_split, position_or_len, position}
use Rattle.std.specs.Str.{bytes_eq}
use Rattle.std.proofs.lemmas.List.Splits.{slice_split_first, slice_split_none}
use Rattle.std.proofs.lemmas.List.Elements.{All-from_get_or}
use Rattle.std.proofs.lemmas.List.Sums.{fails_before_first}
use Rattle.std.proofs.lemmas.Slice.Eq.{bytes_eq-Decides}
use Rattle.binding_match.proofs.Bools.{either, both, or_true}
use Rattle.binding_match.specs.Topics.{is_dot, hash, star, StandsFor, any_words, any_word, itself, Covers, some_end, one_word, covers}

-- ---- a text cut at its first dot

found : (text : List ℕ) (i : ℕ) (b : Bool) → nat_lt (position_or_len is_dot text) (length text) ≡ b → cond b (Some (position_or_len is_dot text)) None ≡ Some i
    → (position_or_len is_dot text < length text) × (position_or_len is_dot text ≡ i)
found text i true lt e = (search rules, cc)
found text i false lt e = absurd cc

pub split_first : (text : List ℕ) (i : ℕ) → position is_dot text ≡ Some i → (i < length text) × (slice_split is_dot text ≡ take i text ∷ slice_split is_dot (drop (i + 1) text))
split_first text i e =
    let f = found text i (nat_lt (position_or_len is_dot text) (length text)) refl e in
    subst (λ (j : ℕ). (j < length text) × (slice_split is_dot text ≡ take j text ∷ slice_split is_dot (drop (j + 1) text))) f.1 (f.0, slice_split_first is_dot text 0 f.0)

no_dot : (text : List ℕ) (b : Bool) → nat_lt (position_or_len is_dot text) (length text) ≡ b → cond b (Some (position_or_len is_dot text)) None ≡ None → length text ≤ position_or_len is_dot text
no_dot text true lt e = absurd cc
no_dot text false lt e = search rules

pub split_none : (text : List ℕ) → position is_dot text ≡ None → slice_split is_dot text ≡ text ∷ []
split_none text e =
    let far = no_dot text (nat_lt (position_or_len is_dot text) (length text)) refl e in
    slice_split_none is_dot text (All-from_get_or (λ (c : ℕ). is_dot c ≡ false) text 0 (λ k lt. fails_before_first is_dot text k 0 (omega arith)))

-- ---- what the test says of one word more

pub covers-hash : (part : List ℕ) (parts ws : List (List ℕ)) → bytes_eq part hash ≡ true → covers (part ∷ parts) ws ≡ some_end (covers parts) ws
unfolding covers
covers-hash part parts ws e = rw e refl

pub covers-word : (part : List ℕ) (parts : List (List ℕ)) (w : List ℕ) (ws : List (List ℕ)) → bytes_eq part hash ≡ false
    → covers (part ∷ parts) (w ∷ ws) ≡ ((bytes_eq part star || bytes_eq part w) && covers parts ws)
unfolding covers one_word
covers-word part parts w ws e = rw e refl

pub covers-no_word : (part : List ℕ) (parts : List (List ℕ)) → bytes_eq part hash ≡ false → covers (part ∷ parts) [] ≡ false
unfolding covers one_word
covers-no_word part parts e = rw e refl

pub covers-ends : covers [] [] ≡ true
unfolding covers
covers-ends = refl

pub covers-too_long : (w : List ℕ) (ws : List (List ℕ)) → covers [] (w ∷ ws) ≡ false
unfolding covers
covers-too_long w ws = refl

-- ---- ends of the words

pub some_end-none : (test : List (List ℕ) → Bool) → some_end test [] ≡ test []
unfolding some_end
some_end-none test = refl

pub some_end-word : (test : List (List ℕ) → Bool) (w : List ℕ) (ws : List (List ℕ)) → some_end test (w ∷ ws) ≡ (test (w ∷ ws) || some_end test ws)
unfolding some_end
some_end-word test w ws = refl

pub some_end-more : (test : List (List ℕ) → Bool) (w : List ℕ) (ws : List (List ℕ)) → some_end test ws ≡ true → some_end test (w ∷ ws) ≡ true
some_end-more test w ws h = some_end-word test w ws ∙ ap (λ (b : Bool). test (w ∷ ws) || b) h ∙ or_true (test (w ∷ ws))

pub some_end-here : (test : List (List ℕ) → Bool) (ws : List (List ℕ)) → test ws ≡ true → some_end test ws ≡ true
some_end-here test [] h = some_end-none test ∙ h
some_end-here test (w ∷ ws) h = some_end-word test w ws ∙ ap (λ (b : Bool). b || some_end test ws) h

pub some_end-append : (test : List (List ℕ) → Bool) (run rest : List (List ℕ)) → test rest ≡ true → some_end test (run ++ rest) ≡ true
some_end-append test [] rest h = some_end-here test rest h
some_end-append test (w ∷ run) rest h = some_end-more test w (run ++ rest) (some_end-append test run rest h)

pub some_end-split : (test : List (List ℕ) → Bool) (ws : List (List ℕ)) → some_end test ws ≡ true
    → (run : List (List ℕ)) × (rest : List (List ℕ)) × (ws ≡ run ++ rest) × (test rest ≡ true)
some_end-split test [] h = ([], [], refl, sym (some_end-none test) ∙ h)
some_end-split test (w ∷ ws) h =
    elim (either (test (w ∷ ws)) (some_end test ws) (sym (some_end-word test w ws) ∙ h)) [
      | inl here ↦ ([], w ∷ ws, refl, here)
      | inr later ↦ (let s = some_end-split test ws later in (w ∷ s.0, s.1, ap (λ (us : List (List ℕ)). w ∷ us) s.2, s.3))
    ]

-- what a word and the rest pass at some end, the rest passes at some end behind the first word
pub some_end-after : (part : List ℕ) (parts : List (List ℕ)) → bytes_eq part hash ≡ false → (w : List ℕ) (ws : List (List ℕ))
    → some_end (covers (part ∷ parts)) (w ∷ ws) ≡ true → some_end (covers parts) ws ≡ true
some_end-after part parts n w [] h =
    elim (either _ _ (sym (some_end-word (covers (part ∷ parts)) w []) ∙ h)) [
      | inl here ↦ some_end-here (covers parts) [] (both _ _ (sym (covers-word part parts w [] n) ∙ here)).1
      | inr later ↦ (let e : covers (part ∷ parts) [] ≡ true = sym (some_end-none (covers (part ∷ parts))) ∙ later in let e' = covers-no_word part parts n in absurd cc)
    ]
some_end-after part parts n w (u ∷ ws) h =
    elim (either _ _ (sym (some_end-word (covers (part ∷ parts)) w (u ∷ ws)) ∙ h)) [
      | inl here ↦ some_end-here (covers parts) (u ∷ ws) (both _ _ (sym (covers-word part parts w (u ∷ ws) n) ∙ here)).1
      | inr later ↦ some_end-more (covers parts) u ws (some_end-after part parts n u ws later)
    ]

-- one `#` behind another adds nothing
pub some_end-hash : (part : List ℕ) (parts : List (List ℕ)) → bytes_eq part hash ≡ true → (ws : List (List ℕ))
    → some_end (covers (part ∷ parts)) ws ≡ true → some_end (covers parts) ws ≡ true
some_end-hash part parts y [] h = sym (covers-hash part parts [] y) ∙ sym (some_end-none (covers (part ∷ parts))) ∙ h
some_end-hash part parts y (w ∷ ws) h =
    elim (either _ _ (sym (some_end-word (covers (part ∷ parts)) w ws) ∙ h)) [
      | inl here ↦ sym (covers-hash part parts (w ∷ ws) y) ∙ here
      | inr later ↦ some_end-more (covers parts) w ws (some_end-hash part parts y ws later)
    ]

-- ---- the test and the relation

hash_is : (part : List ℕ) → bytes_eq part hash ≡ true → part ≡ hash
hash_is part h = (bytes_eq-Decides part hash).0 h

by_hash : (part : List ℕ) (parts : List (List ℕ)) (b : Bool) → bytes_eq part hash ≡ b → ((us : List (List ℕ)) → covers parts us ≡ true → Covers parts us)
    → (ws : List (List ℕ)) → covers (part ∷ parts) ws ≡ true → Covers (part ∷ parts) ws
by_hash part parts true y rest ws h =
    let s = some_end-split (covers parts) ws (sym (covers-hash part parts ws y) ∙ h) in
    (s.0, s.1, s.2, any_words (hash_is part y), rest s.1 s.3)
by_hash part parts false n rest [] h = let e = covers-no_word part parts n in absurd cc
by_hash part parts false n rest (w ∷ ws) h =
    let t = both _ _ (sym (covers-word part parts w ws n) ∙ h) in
    elim (either _ _ t.0) [
      | inl any ↦ (w ∷ [], ws, refl, any_word ((bytes_eq-Decides part star).0 any) refl, rest ws t.1)
      | inr same ↦ (w ∷ [], ws, refl, itself (ap (λ (v : List ℕ). v ∷ []) (sym ((bytes_eq-Decides part w).0 same))), rest ws t.1)
    ]

pub covers_yes : (ps ws : List (List ℕ)) → covers ps ws ≡ true → Covers ps ws
covers_yes [] [] h = refl
covers_yes [] (w ∷ ws) h = let e = covers-too_long w ws in absurd cc
covers_yes (part ∷ parts) ws h = by_hash part parts (bytes_eq part hash) refl (covers_yes parts) ws h

one_of : (part : List ℕ) (parts : List (List ℕ)) (w : List ℕ) (rest : List (List ℕ)) (b : Bool) → bytes_eq part hash ≡ b
    → (bytes_eq part star || bytes_eq part w) ≡ true → covers parts rest ≡ true → covers (part ∷ parts) (w ∷ rest) ≡ true
one_of part parts w rest true y fits h = covers-hash part parts (w ∷ rest) y ∙ some_end-append (covers parts) (w ∷ []) rest h
one_of part parts w rest false n fits h = covers-word part parts w rest n ∙ rw (fits, h) refl

any_one : (part : List ℕ) (parts run rest : List (List ℕ)) → part ≡ star → length run ≡ 1 → covers parts rest ≡ true → covers (part ∷ parts) (run ++ rest) ≡ true
any_one part parts [] rest s one h = absurd (omega arith)
any_one part parts (w ∷ []) rest s one h = one_of part parts w rest (bytes_eq part hash) refl (ap (λ (b : Bool). b || bytes_eq part w) ((bytes_eq-Decides part star).1 s)) h
any_one part parts (w ∷ v ∷ run) rest s one h = absurd (omega arith)

covered : (part : List ℕ) (parts ws run rest : List (List ℕ)) → ws ≡ run ++ rest → StandsFor part run → covers parts rest ≡ true → covers (part ∷ parts) ws ≡ true
covered part parts ws run rest e (any_words y) h =
    rw e (covers-hash part parts (run ++ rest) ((bytes_eq-Decides part hash).1 y) ∙ some_end-append (covers parts) run rest h)
covered part parts ws run rest e (any_word s one) h = rw e (any_one part parts run rest s one h)
covered part parts ws run rest e (itself s) h =
    let e' : ws ≡ part ∷ rest = e ∙ ap (λ (r : List (List ℕ)). r ++ rest) s in
    rw e' (one_of part parts part rest (bytes_eq part hash) refl (ap (λ (b : Bool). bytes_eq part star || b) ((bytes_eq-Decides part part).1 refl) ∙ or_true (bytes_eq part star)) h)

pub covers_back : (ps ws : List (List ℕ)) → Covers ps ws → covers ps ws ≡ true
covers_back [] ws h = rw h covers-ends
covers_back (part ∷ parts) ws h = covered part parts ws h.0 h.1 h.2 h.3 (covers_back parts h.1 h.4)

-- ---- what a walk along both keeps

-- from ps and ws on, both are covered as from the start; and where `#` before them helps at the start, it helps there
pub record Along (P K ps ws : List (List ℕ)) : Type 0 where
  pub same : covers ps ws ≡ covers P K
  pub ahead : some_end (covers P) K ≡ true → some_end (covers ps) ws ≡ true
  pub shorter : length ps ≤ length P

pub along_word : (P K ps ws : List (List ℕ)) (part : List ℕ) (parts : List (List ℕ)) (w : List ℕ) (rest : List (List ℕ)) → ps ≡ part ∷ parts → ws ≡ w ∷ rest
    → bytes_eq part hash ≡ false → (bytes_eq part star || bytes_eq part w) ≡ true → Along P K ps ws → Along P K parts rest
along_word P K ps ws part parts w rest eq-parts eq-words n fits a = record {
  same = sym (covers-word part parts w rest n ∙ ap (λ (b : Bool). b && covers parts rest) fits) ∙ ap (λ (x : List (List ℕ)). covers x (w ∷ rest)) (sym eq-parts) ∙ ap (λ (x : List (List ℕ)). covers ps x) (sym eq-words) ∙ a.same;
  ahead = λ h. some_end-after part parts n w rest (subst (λ (x : List (List ℕ)). some_end (covers x) (w ∷ rest) ≡ true) eq-parts (subst (λ (x : List (List ℕ)). some_end (covers ps) x ≡ true) eq-words (a.ahead h)));
  shorter = let l = a.shorter in let e = ap length eq-parts in omega arith;
}

pub record AtHash (P K parts ws : List (List ℕ)) : Type 0 where
  pub same : some_end (covers parts) ws ≡ covers P K
  pub ahead : some_end (covers P) K ≡ true → some_end (covers parts) ws ≡ true
  pub shorter : suc (length parts) ≤ length P

pub along_hash : (P K ps ws : List (List ℕ)) (part : List ℕ) (parts : List (List ℕ)) → ps ≡ part ∷ parts → bytes_eq part hash ≡ true → Along P K ps ws → AtHash P K parts ws
along_hash P K ps ws part parts e y a = record {
  same = sym (covers-hash part parts ws y) ∙ ap (λ (x : List (List ℕ)). covers x ws) (sym e) ∙ a.same;
  ahead = λ h. some_end-hash part parts y ws (subst (λ (x : List (List ℕ)). some_end (covers x) ws ≡ true) e (a.ahead h));
  shorter = let l = a.shorter in let e' = ap length e in omega arith;
}

pub along_differs : (P K ps ws : List (List ℕ)) (part : List ℕ) (parts : List (List ℕ)) (w : List ℕ) (rest : List (List ℕ)) → ps ≡ part ∷ parts → ws ≡ w ∷ rest
    → bytes_eq part hash ≡ false → (bytes_eq part star || bytes_eq part w) ≡ false → Along P K ps ws → false ≡ covers P K
along_differs P K ps ws part parts w rest eq-parts eq-words n differs a =
    sym (covers-word part parts w rest n ∙ ap (λ (b : Bool). b && covers parts rest) differs) ∙ ap (λ (x : List (List ℕ)). covers x (w ∷ rest)) (sym eq-parts) ∙ ap (λ (x : List (List ℕ)). covers ps x) (sym eq-words) ∙ a.same

pub along_short : (P K ps ws : List (List ℕ)) (part : List ℕ) (parts : List (List ℕ)) → ps ≡ part ∷ parts → ws ≡ [] → bytes_eq part hash ≡ false → Along P K ps ws → false ≡ covers P K
along_short P K ps ws part parts eq-parts eq-words n a =
    sym (covers-no_word part parts n) ∙ ap (λ (x : List (List ℕ)). covers x []) (sym eq-parts) ∙ ap (λ (x : List (List ℕ)). covers ps x) (sym eq-words) ∙ a.same

pub along_long : (P K ps ws : List (List ℕ)) (w : List ℕ) (rest : List (List ℕ)) → ps ≡ [] → ws ≡ w ∷ rest → Along P K ps ws → false ≡ covers P K
along_long P K ps ws w rest eq-parts eq-words a =
    sym (covers-too_long w rest) ∙ ap (λ (x : List (List ℕ)). covers x (w ∷ rest)) (sym eq-parts) ∙ ap (λ (x : List (List ℕ)). covers ps x) (sym eq-words) ∙ a.same

pub along_end : (P K ps ws : List (List ℕ)) → ps ≡ [] → ws ≡ [] → Along P K ps ws → true ≡ covers P K
along_end P K ps ws eq-parts eq-words a =
    sym covers-ends ∙ ap (λ (x : List (List ℕ)). covers x []) (sym eq-parts) ∙ ap (λ (x : List (List ℕ)). covers ps x) (sym eq-words) ∙ a.same

-- where the walk from the first word fails, the walk from the next one decides
pub later : (test : List (List ℕ) → Bool) (ws : List (List ℕ)) (w : List ℕ) (rest : List (List ℕ)) → ws ≡ w ∷ rest → test ws ≡ false → some_end test rest ≡ some_end test ws
later test ws w rest e fails =
    let f : test (w ∷ rest) ≡ false = subst (λ (x : List (List ℕ)). test x ≡ false) e fails in
    rw e (sym (some_end-word test w rest ∙ ap (λ (b : Bool). b || some_end test rest) f))

pub never : (test : List (List ℕ) → Bool) (ws : List (List ℕ)) → ws ≡ [] → test ws ≡ false → false ≡ some_end test ws
never test ws e fails = rw e (sym (some_end-none test ∙ subst (λ (x : List (List ℕ)). test x ≡ false) e fails))

-- Two shovels have links of one name only where their brokers and names are the same.
use Rattle.std.proofs.Common.{◌≡◌, ℕ, ◌+◌, ◌*◌, ◌/◌, ◌%◌, List, [], ◌∷◌, ◌++◌, Bool, true, false, arith, refl, sym, ap, ap₂, subst, ◌∙◌, append_assoc, div-add-mod', get_or}
use Rattle.std.specs.Prelude.{cond, nat_lt, flat_map, drop, codes}
use Rattle.std.proofs.lemmas.Bool.{true≢false, false≢true, ltb-true, ltb-false}
use Rattle.fed_journal.specs.declared.place.Place.{Place}
use Rattle.fed_journal.specs.Names.{same_text}
use Rattle.fed_journal.specs.Words.{is_plain, hex_digit, percent_octet, word, place_word, shovel_link_name}
use Rattle.broker_view.proofs.Names.{same_text-true, same_text-refl}

-- what may follow a word in a link's name: nothing, or `/`
abbrev Stops : List ℕ → Type 0
Stops [] = Unit {0}
Stops (c ∷ cs) = c ≡ 47

heads : (x y : ℕ) (xs ys : List ℕ) → x ∷ xs ≡ y ∷ ys → x ≡ y
heads x y xs ys h = ap (λ l. get_or l 0 0) h

tails : (x y : ℕ) (xs ys : List ℕ) → x ∷ xs ≡ y ∷ ys → xs ≡ ys
tails x y xs ys h = ap (drop 1) h

filled : (x : ℕ) (xs : List ℕ) → x ∷ xs ≡ [] → ⊥
filled x xs h = cc

hex-by : (m n : ℕ) (a b : Bool) → nat_lt m 10 ≡ a → nat_lt n 10 ≡ b → cond a (48 + m) (55 + m) ≡ cond b (48 + n) (55 + n) → m ≡ n
hex-by m n true true e f h = omega (arith, h)
hex-by m n true false e f h = absurd (omega (arith, h, ltb-true m 10 e, ltb-false n 10 f))
hex-by m n false true e f h = absurd (omega (arith, h, ltb-false m 10 e, ltb-true n 10 f))
hex-by m n false false e f h = omega (arith, h)

hex-apart : (m n : ℕ) → hex_digit m ≡ hex_digit n → m ≡ n
hex-apart m n h = hex-by m n (nat_lt m 10) (nat_lt n 10) refl refl h

octet-same : (c d : ℕ) → c / 16 ≡ d / 16 → c % 16 ≡ d % 16 → c ≡ d
octet-same c d q r = sym (div-add-mod' c 16) ∙ ap₂ (λ q r. q * 16 + r) q r ∙ div-add-mod' d 16

-- an octet's word where it is plain, or not
abbrev octet_if : Bool → ℕ → List ℕ
octet_if b c = cond b (c ∷ []) (37 ∷ hex_digit (c / 16) ∷ hex_digit (c % 16) ∷ [])

octet-by : (c d : ℕ) (r t : List ℕ) (a b : Bool) → is_plain c ≡ a → is_plain d ≡ b → octet_if a c ++ r ≡ octet_if b d ++ t → (c ≡ d) × (r ≡ t)
octet-by c d r t true true e f h = (heads c d r t h, tails c d r t h)
octet-by c d r t true false e f h = absurd (false≢true (subst (λ n. is_plain n ≡ true) (heads c 37 r (hex_digit (d / 16) ∷ hex_digit (d % 16) ∷ t) h) e))
octet-by c d r t false true e f h = absurd (false≢true (subst (λ n. is_plain n ≡ true) (sym (heads 37 d (hex_digit (c / 16) ∷ hex_digit (c % 16) ∷ r) t h)) f))
octet-by c d r t false false e f h =
    let one : hex_digit (c / 16) ∷ hex_digit (c % 16) ∷ r ≡ hex_digit (d / 16) ∷ hex_digit (d % 16) ∷ t = ap (drop 1) h in
    let two : hex_digit (c % 16) ∷ r ≡ hex_digit (d % 16) ∷ t = ap (drop 2) h in
    (octet-same c d (hex-apart (c / 16) (d / 16) (ap (λ l. get_or l 0 0) one)) (hex-apart (c % 16) (d % 16) (ap (λ l. get_or l 0 0) two)), ap (drop 3) h)

octet-apart : (c d : ℕ) (r t : List ℕ) → percent_octet c ++ r ≡ percent_octet d ++ t → (c ≡ d) × (r ≡ t)
octet-apart c d r t h = octet-by c d r t (is_plain c) (is_plain d) refl refl h

goes_on-by : (c : ℕ) (r x : List ℕ) (b : Bool) → is_plain c ≡ b → Stops x → octet_if b c ++ r ≡ x → ⊥
goes_on-by c r [] true e s h = filled c r h
goes_on-by c r [] false e s h = filled 37 (hex_digit (c / 16) ∷ hex_digit (c % 16) ∷ r) h
goes_on-by c r (d ∷ x) true e s h = false≢true (subst (λ n. is_plain n ≡ true) (heads c d r x h ∙ s) e)
goes_on-by c r (d ∷ x) false e s h =
    let same : 37 ≡ 47 = heads 37 d (hex_digit (c / 16) ∷ hex_digit (c % 16) ∷ r) x h ∙ s in
    omega (arith, same)

-- an octet's word is no end of a word
goes_on : (c : ℕ) (r x : List ℕ) → Stops x → percent_octet c ++ r ≡ x → ⊥
goes_on c r x s h = goes_on-by c r x (is_plain c) refl s h

octets-apart : (a b x y : List ℕ) → Stops x → Stops y → flat_map percent_octet a ++ x ≡ flat_map percent_octet b ++ y → (a ≡ b) × (x ≡ y)
octets-apart [] [] x y s t h = (refl, h)
octets-apart [] (d ∷ b) x y s t h = absurd (goes_on d (flat_map percent_octet b ++ y) x s (sym (append_assoc (percent_octet d) (flat_map percent_octet b) y) ∙ sym h))
octets-apart (c ∷ a) [] x y s t h = absurd (goes_on c (flat_map percent_octet a ++ x) y t (sym (append_assoc (percent_octet c) (flat_map percent_octet a) x) ∙ h))
octets-apart (c ∷ a) (d ∷ b) x y s t h =
    let first : (c ≡ d) × (flat_map percent_octet a ++ x ≡ flat_map percent_octet b ++ y) = octet-apart c d (flat_map percent_octet a ++ x) (flat_map percent_octet b ++ y) (sym (append_assoc (percent_octet c) (flat_map percent_octet a) x) ∙ h ∙ append_assoc (percent_octet d) (flat_map percent_octet b) y) in
    let later : (a ≡ b) × (x ≡ y) = octets-apart a b x y s t first.1 in
    (ap₂ (λ c a. c ∷ a) first.0 later.0, later.1)

-- a text and its word
data IsWord (a w : List ℕ) : Type 0 where
  empty : a ≡ [] → w ≡ 45 ∷ [] → IsWord a w
  dash : a ≡ 45 ∷ [] → w ≡ 37 ∷ 50 ∷ 68 ∷ [] → IsWord a w
  other : (a ≡ [] → ⊥) → (a ≡ 45 ∷ [] → ⊥) → w ≡ flat_map percent_octet a → IsWord a w

word-by : (c : ℕ) (a : List ℕ) (b : Bool) → same_text (c ∷ a) (45 ∷ []) ≡ b → IsWord (c ∷ a) (cond b (37 ∷ 50 ∷ 68 ∷ []) (flat_map percent_octet (c ∷ a)))
word-by c a true e = dash (same_text-true (c ∷ a) (45 ∷ []) e) refl
word-by c a false e = other (filled c a) (λ same. true≢false (sym (same_text-refl (45 ∷ [])) ∙ sym (ap (λ l. same_text l (45 ∷ [])) same) ∙ e)) refl

is-word : (a : List ℕ) → IsWord a (word a)
is-word [] = empty refl refl
is-word (c ∷ a) = word-by c a (same_text (c ∷ a) (45 ∷ [])) refl

dash-by : (d : ℕ) (x t : List ℕ) (b : Bool) → is_plain d ≡ b → 37 ∷ 50 ∷ 68 ∷ x ≡ octet_if b d ++ t → ⊥
dash-by d x t true e h = false≢true (subst (λ n. is_plain n ≡ true) (sym (heads 37 d (50 ∷ 68 ∷ x) t h)) e)
dash-by d x t false e h =
    let high : 2 ≡ d / 16 = hex-apart 2 (d / 16) (ap (λ l. get_or l 1 0) h) in
    let low : 13 ≡ d % 16 = hex-apart 13 (d % 16) (ap (λ l. get_or l 2 0) h) in
    let same : d ≡ 45 = octet-same d 45 (sym high) (sym low) in
    true≢false (subst (λ n. is_plain n ≡ false) same e)

dash-apart : (b x y : List ℕ) → (b ≡ [] → ⊥) → 37 ∷ 50 ∷ 68 ∷ x ≡ flat_map percent_octet b ++ y → ⊥
dash-apart [] x y full h = full refl
dash-apart (d ∷ b) x y full h = dash-by d x (flat_map percent_octet b ++ y) (is_plain d) refl (h ∙ append_assoc (percent_octet d) (flat_map percent_octet b) y)

empty-apart : (b x y : List ℕ) → Stops x → Stops y → (b ≡ 45 ∷ [] → ⊥) → 45 ∷ x ≡ flat_map percent_octet b ++ y → ⊥
empty-apart b x y s t not' h = not' (sym (octets-apart (45 ∷ []) b x y s t h).0)

differ : (x y : List ℕ) → 45 ∷ x ≡ 37 ∷ y → ⊥
differ x y h = let same : 45 ≡ 37 = heads 45 37 x y h in omega (arith, same)

-- the words of two texts, each with its end, are the same only where the texts are
words-by : (a v b w x y : List ℕ) → IsWord a v → IsWord b w → Stops x → Stops y → v ++ x ≡ w ++ y → (a ≡ b) × (x ≡ y)
words-by a v b w x y (empty e f) (empty g k) s t h =
    (e ∙ sym g, tails 45 45 x y (sym (ap (λ l. l ++ x) f) ∙ h ∙ ap (λ l. l ++ y) k))
words-by a v b w x y (empty e f) (dash g k) s t h = absurd (differ x (50 ∷ 68 ∷ y) (sym (ap (λ l. l ++ x) f) ∙ h ∙ ap (λ l. l ++ y) k))
words-by a v b w x y (empty e f) (other g m k) s t h = absurd (empty-apart b x y s t m (sym (ap (λ l. l ++ x) f) ∙ h ∙ ap (λ l. l ++ y) k))
words-by a v b w x y (dash e f) (empty g k) s t h = absurd (differ y (50 ∷ 68 ∷ x) (sym (ap (λ l. l ++ y) k) ∙ sym h ∙ ap (λ l. l ++ x) f))
words-by a v b w x y (dash e f) (dash g k) s t h = (e ∙ sym g, ap (drop 3) (sym (ap (λ l. l ++ x) f) ∙ h ∙ ap (λ l. l ++ y) k))
words-by a v b w x y (dash e f) (other g m k) s t h = absurd (dash-apart b x y g (sym (ap (λ l. l ++ x) f) ∙ h ∙ ap (λ l. l ++ y) k))
words-by a v b w x y (other e n f) (empty g k) s t h = absurd (empty-apart a y x t s n (sym (ap (λ l. l ++ y) k) ∙ sym h ∙ ap (λ l. l ++ x) f))
words-by a v b w x y (other e n f) (dash g k) s t h = absurd (dash-apart a y x e (sym (ap (λ l. l ++ y) k) ∙ sym h ∙ ap (λ l. l ++ x) f))
words-by a v b w x y (other e n f) (other g m k) s t h = octets-apart a b x y s t (sym (ap (λ l. l ++ x) f) ∙ h ∙ ap (λ l. l ++ y) k)

words-apart : (a b x y : List ℕ) → Stops x → Stops y → word a ++ x ≡ word b ++ y → (a ≡ b) × (x ≡ y)
words-apart a b x y s t h = words-by a (word a) b (word b) x y (is-word a) (is-word b) s t h

-- a link's name at the virtual host `/`
name-is : (p : Place) (n : List ℕ) → same_text p.vhost (codes "/") ≡ true → shovel_link_name p n ≡ 115 ∷ 47 ∷ (word p.broker ++ 47 ∷ word n)
name-is p n h =
    append_assoc (codes "s/" ++ place_word p) (codes "/") (word n)
    ∙ append_assoc (codes "s/") (place_word p) (codes "/" ++ word n)
    ∙ ap (λ b. 115 ∷ 47 ∷ (cond b (word p.broker) (word p.broker ++ codes ":" ++ word p.vhost) ++ 47 ∷ word n)) h

pub names-apart : (p q : Place) (n m : List ℕ) → same_text p.vhost (codes "/") ≡ true → same_text q.vhost (codes "/") ≡ true → shovel_link_name p n ≡ shovel_link_name q m → (p.broker ≡ q.broker) × (n ≡ m)
names-apart p q n m e f h =
    let whole : word p.broker ++ 47 ∷ word n ≡ word q.broker ++ 47 ∷ word m = ap (drop 2) (sym (name-is p n e) ∙ h ∙ name-is q m f) in
    let parts : (p.broker ≡ q.broker) × (47 ∷ word n ≡ 47 ∷ word m) = words-apart p.broker q.broker (47 ∷ word n) (47 ∷ word m) refl refl whole in
    (parts.0, (words-apart n m [] [] tt tt (ap (λ l. l ++ []) (tails 47 47 (word n) (word m) parts.1))).0)

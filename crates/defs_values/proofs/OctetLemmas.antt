-- How many octets a table takes, and counts that stop at a limit.
use Rattle.std.proofs.Common.{◌≡◌, ℕ, ◌+◌, ◌≤◌, ◌<◌, ◌++◌, ◌⊎◌, inl, inr, Bool, true, false, length, refl, sym, ap, ◌∙◌, arith, lt-ltb, le-ltb}
use Rattle.std.specs.Prelude.{min, nat_lt, nat_eq}
use Rattle.std.proofs.lemmas.Bool.{cases_lt, eqb-true}
use Rattle.std.proofs.lemmas.List.{length-append}
use Rattle.std.proofs.Math.Nat.{min-eq_left, min-eq_right}
use Rattle.serde_json.specs.Data.{Data, null, boolean, number, string, array, object, Items, no_items, item, Members, no_members, member}
use Rattle.field_tables.specs.View.{fields_of, pairs_of}
use Rattle.field_tables.specs.Tables.{value_spelling, fields_spelling, pairs_spelling, table_spelling}
use Rattle.defs_values.specs.Arguments.{most_octets, field_of, items_fields, members_pairs, octets_of, items_octets, members_octets}

mutual
  pub value_length : (d : Data) → length (value_spelling (field_of d)) ≡ octets_of d
  value_length null = refl
  value_length (boolean b) = refl
  value_length (number n) = refl
  value_length (string s) = omega arith
  value_length (array ds) = omega (arith, items_length ds)
  value_length (object ms) = omega (arith, members_length ms)

  pub items_length : (ds : Items) → length (fields_spelling (fields_of (items_fields ds))) ≡ items_octets ds
  items_length no_items = refl
  items_length (item d ds) =
      omega (arith, value_length d, items_length ds, length-append (value_spelling (field_of d)) (fields_spelling (fields_of (items_fields ds))))

  pub members_length : (ms : Members) → length (pairs_spelling (pairs_of (members_pairs ms))) ≡ members_octets ms
  members_length no_members = refl
  members_length (member k d ms) =
      omega (
        arith,
        value_length d,
        members_length ms,
        length-append k (value_spelling (field_of d) ++ pairs_spelling (pairs_of (members_pairs ms))),
        length-append (value_spelling (field_of d)) (pairs_spelling (pairs_of (members_pairs ms))),
      )

-- ---- counts that stop

capped_at : (c p r : ℕ) → (p < c) ⊎ (c ≤ p) → min c (min c p + r) ≡ min c (p + r)
capped_at c p r (inl h) =
    let below : min c p ≡ p = min-eq_right {n = p} {m = c} (omega arith) in
    rw below refl
capped_at c p r (inr h) =
    let above : min c p ≡ c = min-eq_left {n = c} {m = p} h in
    let whole : min c (c + r) ≡ c = min-eq_left {n = c} {m = c + r} (omega arith) in
    let all : min c (p + r) ≡ c = min-eq_left {n = c} {m = p + r} (omega arith) in
    rw (above, whole, all) refl

capped : (c p r : ℕ) → min c (min c p + r) ≡ min c (p + r)
capped c p r = capped_at c p r (cases_lt p c)

-- a count that stops stays where it is
pub next_count : (c a x r : ℕ) → min c (min c (a + min c x) + r) ≡ min c (a + (x + r))
next_count c a x r =
    let behind : a + min c x + r ≡ min c x + (a + r) = omega arith in
    let before : x + (a + r) ≡ a + (x + r) = omega arith in
    capped c (a + min c x) r ∙ ap (λ n. min c n) behind ∙ capped c x (a + r) ∙ ap (λ n. min c n) before

-- the last count
pub last_count : (c a n : ℕ) → a ≤ c → min c (a + 0) ≡ min c n → a ≡ min c n
last_count c a n h e =
    let same : a + 0 ≡ a = omega arith in
    let kept : min c a ≡ a = min-eq_right {n = a} {m = c} h in
    sym kept ∙ ap (λ (k : ℕ). min c k) (sym same) ∙ e

not_equal : (a b : ℕ) (r : Bool) → nat_eq a b ≡ r → (a ≡ b → ⊥) → r ≡ false
not_equal a b true e h = absurd (h (eqb-true a b e))
not_equal a b false e h = refl

over_at : (m n : ℕ) → n ≡ 4 + m → (n < 32769) ⊎ (32769 ≤ n) → nat_eq (min 32769 (4 + min 32769 m)) 32769 ≡ nat_lt 32768 n
over_at m n e (inl h) =
    let below : min 32769 m ≡ m = min-eq_right {n = m} {m = 32769} (omega arith) in
    let all : min 32769 (4 + m) ≡ 4 + m = min-eq_right {n = 4 + m} {m = 32769} (omega arith) in
    rw (below, all, ← e) (not_equal n 32769 (nat_eq n 32769) refl (λ (k : n ≡ 32769). omega arith) ∙ sym (le-ltb 32768 n (omega arith)))
over_at m n e (inr h) =
    let swapped : 4 + min 32769 m ≡ min 32769 m + 4 = omega arith in
    let whole : min 32769 (m + 4) ≡ 32769 = min-eq_left {n = 32769} {m = m + 4} (omega arith) in
    rw (swapped, capped 32769 m 4, whole) (sym (lt-ltb 32768 n (omega arith)))

-- whether a table takes too many octets
pub over : (ms : Members) → nat_eq (min 32769 (4 + min 32769 (members_octets ms))) 32769
    ≡ nat_lt most_octets (length (table_spelling (pairs_of (members_pairs ms))))
over ms = over_at (members_octets ms) (length (table_spelling (pairs_of (members_pairs ms)))) (omega (arith, members_length ms)) (cases_lt _ 32769)

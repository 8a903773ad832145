-- How many links there are, and which limit is passed.
use Rattle.std.proofs.Common.{◌≡◌, ℕ, ◌+◌, ◌≤◌, ◌<◌, List, [], ◌∷◌, ◌++◌, length, Bool, true, false, cond, Some, None, arith, refl, sym, ap, ◌∙◌}
use Rattle.std.specs.Prelude.{nat_lt, sum_by, flat_map, if◌then◌else◌}
use Rattle.std.specs.List.{list_any}
use Rattle.std.proofs.lemmas.Bool.{true≢false, or_parts, lt-ltb, le-ltb, ltb-false}
use Rattle.std.proofs.lemmas.Option.{none-some}
use Rattle.std.proofs.lemmas.List.Sums.{sum_by-append, sum_by-cons}
use Rattle.std.proofs.lemmas.List.Concat.{length-flat_map}
use Rattle.fed_journal.specs.declared.entry.Entry.{Entry}
use Rattle.fed_journal.specs.declared.entry.Entry.TheVariants.{Begun, ShovelSet}
use Rattle.fed_journal.specs.Limits.{most_entries, most_bytes, most_links}
use Rattle.fed_journal.specs.Links.{spec_of, links_set_by, links_of_broker, links_of}
use Rattle.fed_journal.specs.Names.{same_text}
use Rattle.fed_journal.specs.Sizes.{byte_count}
use Rattle.fed_world.specs.declared.reason.StepFault.TheVariants.{Links, Entries, Bytes}
use Rattle.fed_world.specs.Limits.{limit_of, sets_at, set_count, links_begun, changes_links}

-- ---- links

one-link : (J : List Entry) (b : List ℕ) (e : Entry) → length (links_set_by J b e) ≡ cond (sets_at b e) 1 0
one-link J b (ShovelSet place name shovel) =
    elim (same_text place.broker b) as (λ v. length (cond v (spec_of J place name shovel ∷ []) []) ≡ cond v 1 0) [ true ↦ refl | false ↦ refl ]
one-link J b _ = refl

broker-links : (J K : List Entry) (b : List ℕ) → length (flat_map (links_set_by J b) K) ≡ set_count K b
broker-links J K b = length-flat_map (links_set_by J b) K ∙ (λ i. sum_by (λ e. one-link J b e i) K)

begun-links : (J : List Entry) (e : Entry) → length (links_of_broker J e) ≡ links_begun J e
begun-links J (Begun broker cluster kept) = broker-links J J broker
begun-links J _ = refl

pub links-sum : (J : List Entry) → length (links_of J) ≡ sum_by (links_begun J) J
unfolding links_of
links-sum J = length-flat_map (links_of_broker J) J ∙ (λ i. sum_by (λ e. begun-links J e i) J)

pub set_count-append : (J K : List Entry) (b : List ℕ) → set_count (J ++ K) b ≡ set_count J b + set_count K b
set_count-append J K b = sum_by-append (λ e. cond (sets_at b e) 1 0) J K

pub links-append : (J K : List Entry) → length (links_of (J ++ K)) ≡ sum_by (links_begun (J ++ K)) J + sum_by (links_begun (J ++ K)) K
links-append J K = links-sum (J ++ K) ∙ sum_by-append (links_begun (J ++ K)) J K

sets-none : (b : List ℕ) (e : Entry) → changes_links e ≡ false → sets_at b e ≡ false
sets-none b (Begun broker cluster kept) h = refl
sets-none b (ShovelSet place name shovel) h = absurd (true≢false h)
sets-none b _ h = refl

begins-none : (J : List Entry) (e : Entry) → changes_links e ≡ false → links_begun J e ≡ 0
begins-none J (Begun broker cluster kept) h = absurd (true≢false h)
begins-none J _ h = refl

abbrev one : Bool → ℕ
one v = cond v 1 0

count-none : (b : List ℕ) (K : List Entry) → list_any changes_links K ≡ false → set_count K b ≡ 0
count-none b [] h = refl
count-none b (e ∷ K) h =
    let t = or_parts (changes_links e) (list_any changes_links K) h in
    let first : one (sets_at b e) ≡ 0 = ap one (sets-none b e t.0) in
    let rest : set_count K b ≡ 0 = count-none b K t.1 in
    let all : set_count (e ∷ K) b ≡ one (sets_at b e) + set_count K b = sum_by-cons (λ d. one (sets_at b d)) e K in
    omega (arith, all, first, rest)

sum-none : (J K : List Entry) → list_any changes_links K ≡ false → sum_by (links_begun J) K ≡ 0
sum-none J [] h = refl
sum-none J (e ∷ K) h =
    let t = or_parts (changes_links e) (list_any changes_links K) h in
    omega (arith, sum_by-cons (links_begun J) e K, begins-none J e t.0, sum-none J K t.1)

begun-same : (J K : List Entry) (e : Entry) → list_any changes_links K ≡ false → links_begun (J ++ K) e ≡ links_begun J e
begun-same J K (Begun broker cluster kept) h = omega (arith, set_count-append J K broker, count-none broker K h)
begun-same J K _ h = refl

-- entries that set no shovel and begin no broker leave the links as many as they are
pub links-stay : (J K : List Entry) → list_any changes_links K ≡ false → length (links_of (J ++ K)) ≡ length (links_of J)
links-stay J K h =
    let same : sum_by (links_begun (J ++ K)) J ≡ sum_by (links_begun J) J = (λ i. sum_by (λ e. begun-same J K e h i) J) in
    omega (arith, links-append J K, sum-none (J ++ K) K h, same, links-sum J)

-- ---- limits

pub limit-links : (J K : List Entry) → nat_lt most_links (length (links_of (J ++ K))) ≡ true → limit_of J K ≡ Some Links
limit-links J K h = rw h refl

pub limit-entries : (J K : List Entry) → nat_lt most_links (length (links_of (J ++ K))) ≡ false → most_entries < length J + length K → limit_of J K ≡ Some Entries
limit-entries J K h k = rw (h, lt-ltb most_entries (length J + length K) k) refl

pub limit-bytes : (J K : List Entry) → nat_lt most_links (length (links_of (J ++ K))) ≡ false → length J + length K ≤ most_entries → most_bytes < byte_count J + byte_count K → limit_of J K ≡ Some Bytes
limit-bytes J K h k m = rw (h, le-ltb most_entries (length J + length K) k, lt-ltb most_bytes (byte_count J + byte_count K) m) refl

pub limit-none : (J K : List Entry) → nat_lt most_links (length (links_of (J ++ K))) ≡ false → length J + length K ≤ most_entries → byte_count J + byte_count K ≤ most_bytes → limit_of J K ≡ None
limit-none J K h k m = rw (h, le-ltb most_entries (length J + length K) k, le-ltb most_bytes (byte_count J + byte_count K) m) refl

none-by : (J K : List Entry) (a b c : Bool) → nat_lt most_links (length (links_of (J ++ K))) ≡ a → nat_lt most_entries (length J + length K) ≡ b → (if a then Some Links else if b then Some Entries else if c then Some Bytes else None) ≡ None → (length (links_of (J ++ K)) ≤ most_links) × (length J + length K ≤ most_entries)
none-by J K true b c e f h = absurd (none-some Links (sym h))
none-by J K false true c e f h = absurd (none-some Entries (sym h))
none-by J K false false c e f h = (ltb-false most_links (length (links_of (J ++ K))) e, ltb-false most_entries (length J + length K) f)

-- no limit of links or entries is passed
pub limit-kept : (J K : List Entry) → limit_of J K ≡ None → (length (links_of (J ++ K)) ≤ most_links) × (length J + length K ≤ most_entries)
limit-kept J K h = none-by J K (nat_lt most_links (length (links_of (J ++ K)))) (nat_lt most_entries (length J + length K)) (nat_lt most_bytes (byte_count J + byte_count K)) refl refl h

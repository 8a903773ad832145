-- Keeping links one after the other, and list after list, keeps all of them; and once they are too many they stay so.
use Rattle.std.proofs.Common.{◌≡◌, ℕ, ◌+◌, ◌<◌, ◌≤◌, List, [], ◌∷◌, ◌++◌, length, map, get_or, drop, refl, sym, ap, ◌∙◌, arith, length-append, Bool, true, false, suc, add-one, drop-cons}
use Rattle.std.specs.Prelude.{flat_map, if◌then◌else◌}
use Rattle.std.specs.List.{enumerate_from}
use Rattle.std.proofs.lemmas.List.{drop_all}
use Rattle.std.proofs.lemmas.List.Sums.{fold-append}
use Rattle.std.proofs.lemmas.List.Concat.{flat_map-cons}
use Rattle.amqp_props.specs.declared.link.LinkSpec.{LinkSpec}
use Rattle.fed_defs.specs.Links.{is_kept, with_link, with_links, most_links}

chosen_grows : (b : Bool) (kept : List LinkSpec) (link : LinkSpec) → length kept ≤ length (if b then kept else kept ++ link ∷ [])
chosen_grows true kept link = omega arith
chosen_grows false kept link = omega (arith, length-append kept (link ∷ []))

-- no link that is kept goes
pub with_link_grows : (kept : List LinkSpec) (link : LinkSpec) → length kept ≤ length (with_link kept link)
unfolding with_link
with_link_grows kept link = chosen_grows (is_kept kept link) kept link

pub with_links-cons : (kept : List LinkSpec) (link : LinkSpec) (links : List LinkSpec) → with_links kept (link ∷ links) ≡ with_links (with_link kept link) links
unfolding with_links
with_links-cons kept link links = refl

-- no links change nothing
pub with_none : (kept : List LinkSpec) → with_links kept [] ≡ kept
unfolding with_links
with_none kept = refl

-- a list of one link keeps that one
pub with_one : (kept : List LinkSpec) (link : LinkSpec) → with_links kept (link ∷ []) ≡ with_link kept link
unfolding with_links
with_one kept link = refl

pub with_links-append : (kept some more : List LinkSpec) → with_links kept (some ++ more) ≡ with_links (with_links kept some) more
unfolding with_links
with_links-append kept some more = fold-append with_link kept some more

pub with_links_grows : (kept links : List LinkSpec) → length kept ≤ length (with_links kept links)
unfolding with_links
with_links_grows kept [] = omega arith
with_links_grows kept (link ∷ links) = omega (arith, with_link_grows kept link, with_links_grows (with_link kept link) links)

-- ---- one more link, or the links of one more item

left : {A : Type 0} (xs : List A) (i : ℕ) (x : A) → i < length xs → x ≡ get_or xs i x → drop i xs ≡ x ∷ drop (i + 1) xs
left xs i x within is = rw (add-one) (drop-cons xs i x within ∙ ap (λ y. y ∷ drop (suc i) xs) (sym is))

pub one_more : {A : Type 0} (f : A → LinkSpec) (xs : List A) (i : ℕ) (x : A) (kept : List LinkSpec) → i < length xs → x ≡ get_or xs i x → with_links kept (map f (drop i xs)) ≡ with_links (with_link kept (f x)) (map f (drop (i + 1) xs))
one_more f xs i x kept within is =
    ap (λ ys. with_links kept (map f ys)) (left xs i x within is) ∙ with_links-cons kept (f x) (map f (drop (i + 1) xs))

pub part_more : {A : Type 0} (f : A → List LinkSpec) (xs : List A) (i : ℕ) (x : A) (kept : List LinkSpec) → i < length xs → x ≡ get_or xs i x → with_links kept (flat_map f (drop i xs)) ≡ with_links (with_links kept (f x)) (flat_map f (drop (i + 1) xs))
part_more f xs i x kept within is =
    ap (λ ys. with_links kept (flat_map f ys)) (left xs i x within is)
    ∙ ap (with_links kept) (flat_map-cons f x (drop (i + 1) xs))
    ∙ with_links-append kept (f x) (flat_map f (drop (i + 1) xs))

pub numbered_more : {A : Type 0} (f : ℕ × A → List LinkSpec) (xs : List A) (i : ℕ) (x : A) (kept : List LinkSpec) → i < length xs → x ≡ get_or xs i x → with_links kept (flat_map f (enumerate_from i (drop i xs))) ≡ with_links (with_links kept (f (i, x))) (flat_map f (enumerate_from (i + 1) (drop (i + 1) xs)))
numbered_more f xs i x kept within is =
    ap (λ ys. with_links kept (flat_map f (enumerate_from i ys))) (left xs i x within is)
    ∙ ap (with_links kept) (flat_map-cons f (i, x) (enumerate_from (i + 1) (drop (i + 1) xs)))
    ∙ with_links-append kept (f (i, x)) (flat_map f (enumerate_from (i + 1) (drop (i + 1) xs)))

-- ---- no more

pub one_done : {A : Type 0} (f : A → LinkSpec) (xs : List A) (i : ℕ) (kept : List LinkSpec) → length xs ≤ i → with_links kept (map f (drop i xs)) ≡ kept
one_done f xs i kept done = ap (λ ys. with_links kept (map f ys)) (drop_all i xs done) ∙ with_none kept

pub part_done : {A : Type 0} (f : A → List LinkSpec) (xs : List A) (i : ℕ) (kept : List LinkSpec) → length xs ≤ i → with_links kept (flat_map f (drop i xs)) ≡ kept
part_done f xs i kept done = ap (λ ys. with_links kept (flat_map f ys)) (drop_all i xs done) ∙ with_none kept

pub numbered_done : {A : Type 0} (f : ℕ × A → List LinkSpec) (xs : List A) (i : ℕ) (kept : List LinkSpec) → length xs ≤ i → with_links kept (flat_map f (enumerate_from i (drop i xs))) ≡ kept
numbered_done f xs i kept done = ap (λ ys. with_links kept (flat_map f (enumerate_from i ys))) (drop_all i xs done) ∙ with_none kept

-- ---- too many

pub over_one : {A : Type 0} (f : A → LinkSpec) (xs : List A) (i : ℕ) (x : A) (kept : List LinkSpec) → i < length xs → x ≡ get_or xs i x → most_links < length (with_link kept (f x)) → most_links < length (with_links kept (map f (drop i xs)))
over_one f xs i x kept within is over =
    rw (one_more f xs i x kept within is)
    (omega (arith, with_links_grows (with_link kept (f x)) (map f (drop (i + 1) xs))))

pub over_part : {A : Type 0} (f : A → List LinkSpec) (xs : List A) (i : ℕ) (x : A) (kept : List LinkSpec) → i < length xs → x ≡ get_or xs i x → most_links < length (with_links kept (f x)) → most_links < length (with_links kept (flat_map f (drop i xs)))
over_part f xs i x kept within is over =
    rw (part_more f xs i x kept within is)
    (omega (arith, with_links_grows (with_links kept (f x)) (flat_map f (drop (i + 1) xs))))

pub over_numbered : {A : Type 0} (f : ℕ × A → List LinkSpec) (xs : List A) (i : ℕ) (x : A) (kept : List LinkSpec) → i < length xs → x ≡ get_or xs i x → most_links < length (with_links kept (f (i, x))) → most_links < length (with_links kept (flat_map f (enumerate_from i (drop i xs))))
over_numbered f xs i x kept within is over =
    rw (numbered_more f xs i x kept within is)
    (omega (arith, with_links_grows (with_links kept (f (i, x))) (flat_map f (enumerate_from (i + 1) (drop (i + 1) xs)))))

pub over_front : (kept some more : List LinkSpec) → most_links < length (with_links kept some) → most_links < length (with_links kept (some ++ more))
over_front kept some more over =
    rw (with_links-append kept some more) (omega (arith, with_links_grows (with_links kept some) more))

-- ---- four lists in a row

pub with_four : (kept a b c d : List LinkSpec) → with_links kept (a ++ (b ++ (c ++ d))) ≡ with_links (with_links (with_links (with_links kept a) b) c) d
with_four kept a b c d =
    with_links-append kept a (b ++ (c ++ d))
    ∙ with_links-append (with_links kept a) b (c ++ d)
    ∙ with_links-append (with_links (with_links kept a) b) c d

pub full_first : (kept a b c d : List LinkSpec) → most_links < length (with_links kept a) → most_links < length (with_links kept (a ++ (b ++ (c ++ d))))
full_first kept a b c d over = over_front kept a (b ++ (c ++ d)) over

pub full_second : (kept a b c d : List LinkSpec) → most_links < length (with_links (with_links kept a) b) → most_links < length (with_links kept (a ++ (b ++ (c ++ d))))
full_second kept a b c d over =
    rw (with_links-append kept a (b ++ (c ++ d))) (over_front (with_links kept a) b (c ++ d) over)

pub full_third : (kept a b c d : List LinkSpec) → most_links < length (with_links (with_links (with_links kept a) b) c) → most_links < length (with_links kept (a ++ (b ++ (c ++ d))))
full_third kept a b c d over =
    rw (with_links-append kept a (b ++ (c ++ d)), with_links-append (with_links kept a) b (c ++ d))
    (over_front (with_links (with_links kept a) b) c d over)

pub full_fourth : (kept a b c d : List LinkSpec) → most_links < length (with_links (with_links (with_links (with_links kept a) b) c) d) → most_links < length (with_links kept (a ++ (b ++ (c ++ d))))
full_fourth kept a b c d over = rw (with_four kept a b c d) over

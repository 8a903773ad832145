-- Virtual hosts' names are distinct, so an item that is given to the first of its name is in the share of that one alone.
use Rattle.std.proofs.Common.{◌≡◌, ◌≢◌, ℕ, zero, suc, ◌+◌, ◌-◌, ◌<◌, List, [], ◌∷◌, ◌++◌, length, drop, get_or, Bool, true, false, not, ◌||◌, ◌&&◌, Option, Some, None, cond, refl, sym, ap, ◌∙◌, subst, true≢false, arith}
use Rattle.std.proofs.Math.ListN.{set}
use Rattle.std.proofs.lemmas.List.{length-drop}
use Rattle.std.specs.Prelude.{IfSome}
use Rattle.std.specs.Cmp.Lexicographic.{same_text as told_same}
use Rattle.std.specs.List.{AllByRecursion, position, position_or_len}
use Rattle.defs_lists.specs.declared.names.Name.{Name}
use Rattle.defs_lists.specs.declared.placed.Placed.{Placed}
use Rattle.defs_lists.specs.PlacedItems.{placed_in, placed_in_each, given, AreDistinct}
use Rattle.defs_lists.specs.Names.{same_name, has_name, place_of}
use Rattle.fed_defs.specs.Texts.{same_text}
use Rattle.defs_lists.specs.Vhosts.{vhost_named, AreHosts}

-- ---- one more item

with_or_without : {A : Type 0} (b : Bool) (x : A) (l m : List A) → cond b (x ∷ (l ++ m)) (l ++ m) ≡ cond b (x ∷ l) l ++ m
with_or_without true x l m = refl
with_or_without false x l m = refl

pub hit : {A : Type 0} (v : List ℕ) (done : List (Placed A)) (p : Placed A) → same_text p.vhost v ≡ true
    → placed_in v (done ++ p ∷ []) ≡ placed_in v done ++ p.item ∷ []
hit v [] p h = rw h refl
hit v (q ∷ qs) p h = rw (hit v qs p h) (with_or_without (same_text q.vhost v) q.item (placed_in v qs) (p.item ∷ []))

pub miss : {A : Type 0} (v : List ℕ) (done : List (Placed A)) (p : Placed A) → same_text p.vhost v ≡ false
    → placed_in v (done ++ p ∷ []) ≡ placed_in v done
miss v [] p h = rw h refl
miss v (q ∷ qs) p h = rw (miss v qs p h) refl

-- ---- the shares of all

other_at : (x y : List ℕ) (b : Bool) → same_text y x ≡ b → x ≢ y → b ≡ false
other_at x y true e h = absurd (h (sym (told_same y x (sym e))))
other_at x y false e h = refl

other_name : (x y : List ℕ) → x ≢ y → same_text y x ≡ false
other_name x y h = other_at x y (same_text y x) refl h

missed : {A : Type 0} (vs : List Name) (done : List (Placed A)) (p : Placed A) → AllByRecursion (λ o. o.name ≢ p.vhost) vs
    → placed_in_each vs (done ++ p ∷ []) ≡ placed_in_each vs done
missed [] done p h = refl
missed (n ∷ ns) done p h = rw (miss n.name done p (other_name n.name p.vhost h.0), missed ns done p h.1) refl

-- a name of a virtual host is the same where its text is
same_host : (x : List ℕ) (n : Name) → n ≡ vhost_named n.name → same_name (vhost_named x) n ≡ same_text x n.name
unfolding same_name
same_host x n h = ap (same_name (vhost_named x)) h ∙ refl

given_at : {A : Type 0} (n : Name) (ns : List Name) (done : List (Placed A)) (p : Placed A) → n ≡ vhost_named n.name → AreDistinct (n ∷ ns)
    → given p ns (placed_in_each ns done) ≡ placed_in_each ns (done ++ p ∷ [])
    → (b : Bool) → same_text p.vhost n.name ≡ b
    → given p (n ∷ ns) (placed_in_each (n ∷ ns) done) ≡ placed_in_each (n ∷ ns) (done ++ p ∷ [])
given_at n ns done p host h later true e =
    let same : n.name ≡ p.vhost = sym (told_same p.vhost n.name (sym e)) in
    let others : AllByRecursion (λ o. o.name ≢ p.vhost) ns = subst (λ (x : List ℕ). AllByRecursion (λ o. o.name ≢ x) ns) same h.0 in
    rw (same_host p.vhost n host, e, hit n.name done p e, missed ns done p others) refl
given_at n ns done p host h later false e = rw (same_host p.vhost n host, e, miss n.name done p e, later) refl

pub given_each : {A : Type 0} (vs : List Name) (done : List (Placed A)) (p : Placed A) → AreHosts vs → AreDistinct vs
    → given p vs (placed_in_each vs done) ≡ placed_in_each vs (done ++ p ∷ [])
given_each [] done p hosts h = refl
given_each (n ∷ ns) done p hosts h = given_at n ns done p hosts.0 h (given_each ns done p hosts.1 h.1) (same_text p.vhost n.name) refl

-- ---- where an item goes

neither : (a b : Bool) → (a || b) ≡ false → (a ≡ false) × (b ≡ false)
neither true b h = absurd (true≢false h)
neither false b h = (refl, h)

-- an item of no virtual host goes nowhere
pub given_none : {A : Type 0} (vs : List Name) (p : Placed A) (lists : List (List A)) → has_name (vhost_named p.vhost) vs ≡ false
    → given p vs lists ≡ lists
unfolding has_name
given_none [] p lists h = refl
given_none (n ∷ ns) p [] h = refl
given_none (n ∷ ns) p (list ∷ lists) h =
    let apart = neither (same_name (vhost_named p.vhost) n) _ h in
    rw (apart.0, given_none ns p lists apart.1) refl

-- the place of a name as the table of names gives it
place_step : (b : Bool) (k : ℕ) → cond b 0 (1 + k) ≡ cond (not b) (1 + k) 0
place_step true k = refl
place_step false k = refl

and_parts : (a b c : Bool) → (a && (b && c)) ≡ ((a && b) && c)
and_parts true b c = refl
and_parts false b c = refl

-- the comparison that is derived for names, key by key
abbrev pub derived : Name → Name → Bool
derived one other = same_text one.vhost other.vhost && (same_text one.component other.component && same_text one.name other.name)

derived_is : (one other : Name) → derived one other ≡ same_name one other
unfolding same_name
derived_is one other =
    and_parts (same_text one.vhost other.vhost) (same_text one.component other.component) (same_text one.name other.name)

place_is : (vs : List Name) (name : Name) → place_of name vs ≡ position_or_len (derived name) vs
place_is [] name = refl
place_is (n ∷ ns) name = rw (place_is ns name, ← derived_is name n) (place_step (derived name n) (position_or_len (derived name) ns))

some_at : (b : Bool) (place k : ℕ) → Some place ≡ cond b (Some k) None → place ≡ k
some_at true place k h = cc
some_at false place k h = absurd cc

pub place_found : (vs : List Name) (name : Name) (found : Option ℕ) → found ≡ position (derived name) vs
    → IfSome found (λ place. place ≡ place_of name vs)
place_found vs name None h = tt
place_found vs name (Some place) h = some_at _ place _ h ∙ sym (place_is vs name)

place_at : (n : Name) (ns : List Name) (name : Name) → (has_name name ns ≡ true → place_of name ns < length ns) → (b : Bool)
    → same_name name n ≡ b → (b || has_name name ns) ≡ true → cond b 0 (1 + place_of name ns) < length (n ∷ ns)
place_at n ns name later true e h = omega arith
place_at n ns name later false e h = let rest : place_of name ns < length ns = later h in omega arith

-- a name that is there has its place there
pub place_within : (vs : List Name) (name : Name) → has_name name vs ≡ true → place_of name vs < length vs
unfolding has_name
place_within [] name h = absurd (true≢false (sym h))
place_within (n ∷ ns) name h = place_at n ns name (place_within ns name) (same_name name n) refl h

given_from : {A : Type 0} (n : Name) (ns : List Name) (p : Placed A) (first : List A) (lists : List (List A)) (list : List A)
    → ((l : List A) → has_name (vhost_named p.vhost) ns ≡ true → l ≡ get_or lists (place_of (vhost_named p.vhost) ns) l
    → given p ns lists ≡ set lists (place_of (vhost_named p.vhost) ns) (l ++ p.item ∷ []))
    → (b : Bool) → same_name (vhost_named p.vhost) n ≡ b → (b || has_name (vhost_named p.vhost) ns) ≡ true
    → list ≡ get_or (first ∷ lists) (cond b 0 (1 + place_of (vhost_named p.vhost) ns)) list
    → cond b ((first ++ p.item ∷ []) ∷ lists) (first ∷ given p ns lists)
    ≡ set (first ∷ lists) (cond b 0 (1 + place_of (vhost_named p.vhost) ns)) (list ++ p.item ∷ [])
given_from {A = A} n ns p first lists list later true e h is = ap (λ (l : List A). (l ++ p.item ∷ []) ∷ lists) (sym is)
given_from {A = A} n ns p first lists list later false e h is =
    let one : 1 + place_of (vhost_named p.vhost) ns ≡ suc (place_of (vhost_named p.vhost) ns) = omega arith in
    let at : list ≡ get_or lists (place_of (vhost_named p.vhost) ns) list = is ∙ ap (λ (k : ℕ). get_or (first ∷ lists) k list) one in
    ap (λ (ls : List (List A)). first ∷ ls) (later list h at) ∙ ap (λ (k : ℕ). set (first ∷ lists) k (list ++ p.item ∷ [])) (sym one)

-- an item goes to the first virtual host of its name
pub given_some : {A : Type 0} (vs : List Name) (p : Placed A) (lists : List (List A)) (list : List A)
    → has_name (vhost_named p.vhost) vs ≡ true → length lists ≡ length vs
    → list ≡ get_or lists (place_of (vhost_named p.vhost) vs) list
    → given p vs lists ≡ set lists (place_of (vhost_named p.vhost) vs) (list ++ p.item ∷ [])
unfolding has_name
given_some [] p lists list h same is = absurd (true≢false (sym h))
given_some (n ∷ ns) p [] list h same is = absurd (omega arith)
given_some (n ∷ ns) p (first ∷ lists) list h same is =
    given_from n ns p first lists list (λ l there at. given_some ns p lists l there (omega arith) at) (same_name (vhost_named p.vhost) n) refl h is

-- ---- the shares that are left

pub each_length : {A : Type 0} (vs : List Name) (ps : List (Placed A)) → length (placed_in_each vs ps) ≡ length vs
each_length [] ps = refl
each_length (n ∷ ns) ps = ap suc (each_length ns ps)

pub share_front : {A : Type 0} (vs : List Name) (ps : List (Placed A)) (i : ℕ) (d : Name) (front : List A) (rest : List (List A))
    → i < length vs → placed_in_each (drop i vs) ps ≡ front ∷ rest
    → (front ≡ placed_in (get_or vs i d).name ps) × (rest ≡ placed_in_each (drop (i + 1) vs) ps)
share_front [] ps i d front rest within e = absurd (omega arith)
share_front (n ∷ ns) ps zero d front rest within e = (cc, cc)
share_front (n ∷ ns) ps (suc i) d front rest within e =
    let later = share_front ns ps i d front rest (omega arith) e in
    let next : suc i + 1 ≡ suc (i + 1) = omega arith in
    (later.0, rw next later.1)

-- where virtual hosts are left, so are shares
pub shares_left : {A : Type 0} (vs : List Name) (ps : List (Placed A)) (i : ℕ) (lists : List (List A)) → i < length vs
    → lists ≡ placed_in_each (drop i vs) ps → 0 < length lists
shares_left vs ps i lists within e =
    let left : length lists ≡ length vs - i = ap length e ∙ each_length (drop i vs) ps ∙ length-drop i vs in
    omega arith

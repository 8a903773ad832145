-- Reading the values of an array, or the pairs of a table, one after the other as a loop does.
use Rattle.std.proofs.Common.{Bool, true, false, eqb, true≢false, ◌≡◌, ℕ, zero, suc, ◌-◌, ◌≤◌, ◌<◌, List, [], ◌∷◌, ◌++◌, length, Result, Ok, Err, refl, sym, ap, subst, ◌∙◌, append_assoc, arith}
use Rattle.std.proofs.lemmas.Bool.{eqb-true}
use Rattle.std.proofs.lemmas.List.{append-nil}
use Rattle.field_tables.specs.declared.fault.TableFault.{TableFault}
use Rattle.field_tables.specs.declared.fault.TableFault.TheVariants as faults
use Rattle.field_tables.specs.Fields.{Field}
use Rattle.field_tables.specs.Reading.{◌>>=◌, Fails, octet_at, kind_at, name_at, fields_at, pairs_at, fixed_at, counted_at, inside_at, content_at, value_at}
use Rattle.field_tables.specs.declared.kind.Kind.TheVariants as kinds
use Rattle.field_tables.specs.declared.kind.Counted as counted_kind
use Rattle.field_tables.specs.declared.kind.Fixed as fixed_kind

-- what was read before, and what is still read
abbrev pub with_front : {A : Type 0} → List A → Result (List A) TableFault → Result (List A) TableFault
with_front front read = read >>= λ xs. Ok (front ++ xs)

regroup : {A : Type 0} (front : List A) (x : A) (read : Result (List A) TableFault) → with_front front (read >>= λ xs. Ok (x ∷ xs)) ≡ with_front (front ++ x ∷ []) read
regroup {A} front x (Ok xs) = ap (λ (ys : List A). Ok ys) (simp append_assoc)
regroup front x (Err f) = refl

-- where a step fails, all fails the same way
pub fails_on : {A B : Type 0} (e : TableFault) (r : Result A TableFault) (f : A → Result B TableFault) → Fails e r → Fails e (r >>= f)
fails_on faults.Memory r f h = tt
fails_on faults.Short (Ok x) f h = absurd cc
fails_on faults.Short (Err d) f h = cc
fails_on (faults.BadKind b) (Ok x) f h = absurd cc
fails_on (faults.BadKind b) (Err d) f h = cc
fails_on (faults.BadBool b) (Ok x) f h = absurd cc
fails_on (faults.BadBool b) (Err d) f h = cc
fails_on faults.BadText (Ok x) f h = absurd cc
fails_on faults.BadText (Err d) f h = cc
fails_on faults.Deep (Ok x) f h = absurd cc
fails_on faults.Deep (Err d) f h = cc

-- ---- values, one after the other

pub fields_go : (value : List ℕ → Result (Field × List ℕ) TableFault) (front : List Field) (n : ℕ) (bytes : List ℕ) (v : Field) (after : List ℕ) (total : Result (List Field) TableFault)
    → 0 < length bytes → length bytes ≤ n → value bytes ≡ Ok (v, after) → with_front front (fields_at value n bytes) ≡ total → with_front (front ++ v ∷ []) (fields_at value (n - 1) after) ≡ total
unfolding fields_at
fields_go value front n [] v after total some le e so_far = absurd (omega arith)
fields_go value front zero (b ∷ bytes) v after total some le e so_far = absurd (omega arith)
fields_go value front (suc n) (b ∷ bytes) v after total some le e so_far =
    let one : with_front front (fields_at value (suc n) (b ∷ bytes)) ≡ with_front (front ++ v ∷ []) (fields_at value n after) = rw e (regroup front v (fields_at value n after)) in
    let less : suc n - 1 ≡ n = omega arith in
    rw less (sym one ∙ so_far)

pub fields_fail : (value : List ℕ → Result (Field × List ℕ) TableFault) (front : List Field) (n : ℕ) (bytes : List ℕ) (fault : TableFault) (total : Result (List Field) TableFault)
    → 0 < length bytes → length bytes ≤ n → Fails fault (value bytes) → with_front front (fields_at value n bytes) ≡ total → Fails fault total
unfolding fields_at
fields_fail value front n [] fault total some le e so_far = absurd (omega arith)
fields_fail value front zero (b ∷ bytes) fault total some le e so_far = absurd (omega arith)
fields_fail value front (suc n) (b ∷ bytes) fault total some le e so_far =
    subst (Fails fault) so_far (fails_on fault (fields_at value (suc n) (b ∷ bytes)) (λ xs. Ok (front ++ xs)) (fails_on fault (value (b ∷ bytes)) _ e))

pub fields_end : (value : List ℕ → Result (Field × List ℕ) TableFault) (front : List Field) (n : ℕ) (bytes : List ℕ) (total : Result (List Field) TableFault)
    → length bytes ≡ 0 → with_front front (fields_at value n bytes) ≡ total → total ≡ Ok front
unfolding fields_at
fields_end value front n [] total none so_far = sym so_far ∙ ap (λ (xs : List Field). Ok xs) (append-nil front)
fields_end value front n (b ∷ bytes) total none so_far = absurd (omega arith)

-- ---- names and values, one pair after the other

pub pairs_go : (value : List ℕ → Result (Field × List ℕ) TableFault) (front : List (List ℕ × Field)) (n : ℕ) (bytes name behind : List ℕ) (v : Field) (after : List ℕ) (total : Result (List (List ℕ × Field)) TableFault)
    → 0 < length bytes → length bytes ≤ n → name_at bytes ≡ Ok (name, behind) → value behind ≡ Ok (v, after) → with_front front (pairs_at value n bytes) ≡ total
    → with_front (front ++ (name, v) ∷ []) (pairs_at value (n - 1) after) ≡ total
unfolding pairs_at
pairs_go value front n [] name behind v after total some le named e so_far = absurd (omega arith)
pairs_go value front zero (b ∷ bytes) name behind v after total some le named e so_far = absurd (omega arith)
pairs_go value front (suc n) (b ∷ bytes) name behind v after total some le named e so_far =
    let one : with_front front (pairs_at value (suc n) (b ∷ bytes)) ≡ with_front (front ++ (name, v) ∷ []) (pairs_at value n after) = rw (named, e) (regroup front (name, v) (pairs_at value n after)) in
    let less : suc n - 1 ≡ n = omega arith in
    rw less (sym one ∙ so_far)

pub pairs_fail_name : (value : List ℕ → Result (Field × List ℕ) TableFault) (front : List (List ℕ × Field)) (n : ℕ) (bytes : List ℕ) (fault : TableFault) (total : Result (List (List ℕ × Field)) TableFault)
    → 0 < length bytes → length bytes ≤ n → Fails fault (name_at bytes) → with_front front (pairs_at value n bytes) ≡ total → Fails fault total
unfolding pairs_at
pairs_fail_name value front n [] fault total some le e so_far = absurd (omega arith)
pairs_fail_name value front zero (b ∷ bytes) fault total some le e so_far = absurd (omega arith)
pairs_fail_name value front (suc n) (b ∷ bytes) fault total some le e so_far =
    subst (Fails fault) so_far (fails_on fault (pairs_at value (suc n) (b ∷ bytes)) (λ xs. Ok (front ++ xs)) (fails_on fault (name_at (b ∷ bytes)) _ e))

pub pairs_fail_value : (value : List ℕ → Result (Field × List ℕ) TableFault) (front : List (List ℕ × Field)) (n : ℕ) (bytes name behind : List ℕ) (fault : TableFault) (total : Result (List (List ℕ × Field)) TableFault)
    → 0 < length bytes → length bytes ≤ n → name_at bytes ≡ Ok (name, behind) → Fails fault (value behind) → with_front front (pairs_at value n bytes) ≡ total → Fails fault total
unfolding pairs_at
pairs_fail_value value front n [] name behind fault total some le named e so_far = absurd (omega arith)
pairs_fail_value value front zero (b ∷ bytes) name behind fault total some le named e so_far = absurd (omega arith)
pairs_fail_value value front (suc n) (b ∷ bytes) name behind fault total some le named e so_far =
    subst (Fails fault) so_far (fails_on fault (pairs_at value (suc n) (b ∷ bytes)) (λ xs. Ok (front ++ xs)) (rw named (fails_on fault (value behind) _ e)))

pub pairs_end : (value : List ℕ → Result (Field × List ℕ) TableFault) (front : List (List ℕ × Field)) (n : ℕ) (bytes : List ℕ) (total : Result (List (List ℕ × Field)) TableFault)
    → length bytes ≡ 0 → with_front front (pairs_at value n bytes) ≡ total → total ≡ Ok front
unfolding pairs_at
pairs_end value front n [] total none so_far = sym so_far ∙ ap (λ (xs : List (List ℕ × Field)). Ok xs) (append-nil front)
pairs_end value front n (b ∷ bytes) total none so_far = absurd (omega arith)

-- ---- one value

pub fails_self : {A : Type 0} (fault : TableFault) (r : Result A TableFault) → r ≡ Err fault → Fails fault r
fails_self faults.Memory r e = tt
fails_self faults.Short r e = e
fails_self (faults.BadKind b) r e = e
fails_self (faults.BadBool b) r e = e
fails_self faults.BadText r e = e
fails_self faults.Deep r e = e

-- a value that may have levels below it
pub value_below : (d : ℕ) (bytes : List ℕ) (b : ℕ) (rest : List ℕ) → 0 < d → octet_at bytes ≡ Ok (b, rest) → value_at d bytes ≡ (kind_at b >>= λ kind. content_at (value_at (d - 1)) kind rest)
unfolding value_at
value_below zero bytes b rest some e = absurd (omega arith)
value_below (suc d) bytes b rest some e = let less : suc d - 1 ≡ d = omega arith in rw (e, less) refl

pub value_short : (d : ℕ) (bytes : List ℕ) (fault : TableFault) → Fails fault (octet_at bytes) → Fails fault (value_at d bytes)
unfolding value_at
value_short zero bytes fault e = fails_on fault (octet_at bytes) _ e
value_short (suc d) bytes fault e = fails_on fault (octet_at bytes) _ e

pub value_deep : (d : ℕ) (bytes : List ℕ) (b : ℕ) (rest : List ℕ) → d ≡ 0 → octet_at bytes ≡ Ok (b, rest) → value_at d bytes ≡ Err faults.Deep
unfolding value_at
value_deep zero bytes b rest none e = rw e refl
value_deep (suc d) bytes b rest none e = absurd (omega arith)

pub content_fixed : (value : List ℕ → Result (Field × List ℕ) TableFault) (kind : fixed_kind.Fixed) (bytes : List ℕ) → content_at value (kinds.Fixed kind) bytes ≡ fixed_at kind bytes
unfolding content_at
content_fixed value kind bytes = refl

pub content_counted : (value : List ℕ → Result (Field × List ℕ) TableFault) (kind : counted_kind.Counted) (bytes : List ℕ) → content_at value (kinds.Counted kind) bytes ≡ (counted_at bytes >>= λ x. inside_at value kind x.0 >>= λ v. Ok (v, x.1))
unfolding content_at
content_counted value kind bytes = refl

pub with_front-nil : {A : Type 0} (read : Result (List A) TableFault) → with_front [] read ≡ read
with_front-nil (Ok xs) = refl
with_front-nil (Err e) = refl

-- what the test for an end says
pub some_left : (n : ℕ) (b : Bool) → b ≡ eqb n 0 → b ≡ false → 0 < n
some_left zero b is e = absurd (true≢false (sym is ∙ e))
some_left (suc n) b is e = omega arith

pub none_left : (n : ℕ) (b : Bool) → b ≡ eqb n 0 → b ≡ true → n ≡ 0
none_left n b is e = eqb-true n 0 (sym is ∙ e)

-- A file that isn't refused has no floating-point number in what is kept of it.
use Rattle.std.proofs.Common.{◌≡◌, ℕ, ◌+◌, List, [], ◌∷◌, ◌++◌, Bool, true, false, ◌||◌, Option, Some, None, option_map, refl, sym, ap, ◌∙◌, true≢false, Ordering, Less, Equal, Greater, nat_cmp, cond}
use Rattle.std.specs.Prelude.{Float, is_some, option_and_then, codes}
use Rattle.std.specs.Option.{option_or}
use Rattle.std.specs.Cmp.Lexicographic.{slice_cmp}
use Rattle.std.specs.Ordering.{match_ordering}
use Rattle.serde_json.specs.Data.{Data, null, boolean, number, string, array, object, float, unsigned, negative, Items, no_items, item, Members, no_members, member, put}
use Rattle.serde_json.specs.Find.{get, as_str, as_array, as_object}
use Rattle.serde_json.specs.View.{items_of}
use Rattle.serde_json.specs.Written.{has_float, items_have_float, members_have_float}
use Rattle.defs_values.specs.declared.fault.KeyFault.{KeyFault}
use Rattle.defs_values.specs.declared.fault.KeyFault.TheVariants as key
use Rattle.defs_values.specs.declared.fault.Refusal.{Refusal}
use Rattle.defs_lists.specs.declared.names.Name.{Name}
use Rattle.defs_values.specs.Keys.{optional_fault, required, required_fault, optional_within, inner_fault, required_within, first_fault}
use Rattle.defs_kept.specs.Kept.{with_some}
use Rattle.defs_lists.specs.Lists.{kept_of, list_fault}
use Rattle.defs_values.specs.Paths.{item_fault, object_fault, inside_fault, below, within, item_path}
use Rattle.defs_values.specs.Values.{misfit}

-- ---- what is there, if it is there, has none

abbrev pub IsPlain : Option Data → Type 0
IsPlain None = Unit {0}
IsPlain (Some d) = has_float d ≡ false

pub map_none : {A B : Type 0} (f : A → B) (o : Option A) → option_map f o ≡ None → o ≡ None
map_none f None h = refl
map_none f (Some x) h = absurd (true≢false (ap is_some h))

pub or_none : {A : Type 0} (a b : Option A) → option_or a b ≡ None → (a ≡ None) × (b ≡ None)
or_none None b h = (refl, h)
or_none (Some x) b h = absurd (true≢false (ap is_some h))

pub firsts : (f : Option KeyFault) (fs : List (Option KeyFault)) → first_fault (f ∷ fs) ≡ None → (f ≡ None) × (first_fault fs ≡ None)
firsts None fs h = (refl, h)
firsts (Some x) fs h = absurd (true≢false (ap is_some h))

-- ---- members

pub split_plain : (a b : Bool) → a ≡ false → b ≡ false → (a || b) ≡ false
split_plain a b p q = rw (p, q) refl

put_at : (o : Ordering) (a b c : Members) → members_have_float a ≡ false → members_have_float b ≡ false → members_have_float c ≡ false
    → members_have_float (match_ordering o a b c) ≡ false
put_at Less a b c p q r = p
put_at Equal a b c p q r = q
put_at Greater a b c p q r = r

split : (a b : Bool) → (a || b) ≡ false → (a ≡ false) × (b ≡ false)
split true b h = absurd (true≢false h)
split false b h = (refl, h)

pub put_plain : (k : List ℕ) (d : Data) (ms : Members) → has_float d ≡ false → members_have_float ms ≡ false
    → members_have_float (put k d ms) ≡ false
put_plain k d no_members p h = split_plain _ _ p refl
put_plain k d (member l e ms) p h =
    let rest = split (has_float e) (members_have_float ms) h in
    put_at (slice_cmp nat_cmp k l) _ _ _ (split_plain _ _ p h) (split_plain _ _ p rest.1)
    (split_plain _ _ rest.0 (put_plain k d ms p rest.1))

pub some_plain : (k : List ℕ) (o : Option Data) (ms : Members) → IsPlain o → members_have_float ms ≡ false
    → members_have_float (with_some k o ms) ≡ false
some_plain k None ms p h = h
some_plain k (Some d) ms p h = put_plain k d ms p h

-- ---- values that are refused by what they are

-- a floating-point number, a list and an object are refused
abbrev pub IsOfScalars : (Data → Option Refusal) → Type 0
IsOfScalars refusal =
    ((x : Float) → is_some (refusal (number (float x))) ≡ true)
    × ((ds : Items) → is_some (refusal (array ds)) ≡ true)
    × ((ms : Members) → is_some (refusal (object ms)) ≡ true)

-- what isn't refused has no floating-point number; a refusal may have a path within the value
abbrev pub IsOfPlain : {A : Type 0} → (Data → Option A) → Type 0
IsOfPlain refusal = (d : Data) → refusal d ≡ None → has_float d ≡ false

clash : {A : Type 0} (o : Option A) → is_some o ≡ true → o ≡ None → ⊥
clash o h e = true≢false (sym h ∙ ap is_some e)

pub scalars_plain : (refusal : Data → Option Refusal) → IsOfScalars refusal → IsOfPlain refusal
scalars_plain refusal fits null h = refl
scalars_plain refusal fits (boolean b) h = refl
scalars_plain refusal fits (number (unsigned n)) h = refl
scalars_plain refusal fits (number (negative z)) h = refl
scalars_plain refusal fits (number (float x)) h = absurd (clash _ (fits.0 x) h)
scalars_plain refusal fits (string s) h = refl
scalars_plain refusal fits (array ds) h = absurd (clash _ (fits.1 ds) h)
scalars_plain refusal fits (object ms) h = absurd (clash _ (fits.2 ms) h)

pub optional_at : {A : Type 0} (refusal : Data → Option A) (path : A → KeyFault) (o : Option Data) → IsOfPlain refusal
    → option_map path (option_and_then refusal o) ≡ None → IsPlain o
optional_at refusal path None fits h = tt
optional_at refusal path (Some d) fits h = fits d (map_none path (refusal d) h)

pub optional_plain : (refusal : Data → Option Refusal) (k : List ℕ) (d : Data) → IsOfPlain refusal
    → optional_fault refusal k d ≡ None → IsPlain (get k d)
unfolding optional_fault
optional_plain refusal k d fits h = optional_at refusal (key.Refused k) (get k d) fits h

pub optional_within_plain : (fault : Data → Option KeyFault) (k : List ℕ) (d : Data) → IsOfPlain fault
    → optional_within fault k d ≡ None → IsPlain (get k d)
unfolding optional_within
optional_within_plain fault k d fits h = optional_at fault (within k) (get k d) fits h

required_at : (refusal : Data → Option Refusal) (k : List ℕ) (o : Option Data) → IsOfPlain refusal
    → option_map (key.Refused k) (required refusal o) ≡ None → IsPlain o
required_at refusal k None fits h = tt
required_at refusal k (Some d) fits h = fits d (map_none (key.Refused k) (refusal d) h)

pub required_plain : (refusal : Data → Option Refusal) (k : List ℕ) (d : Data) → IsOfPlain refusal
    → required_fault refusal k d ≡ None → IsPlain (get k d)
unfolding required_fault
required_plain refusal k d fits h = required_at refusal k (get k d) fits h

required_within_at : (fault : Data → Option KeyFault) (k : List ℕ) (o : Option Data) → IsOfPlain fault
    → option_map (within k) (inner_fault fault o) ≡ None → IsPlain o
required_within_at fault k None fits h = tt
required_within_at fault k (Some d) fits h = fits d (map_none (within k) (fault d) h)

pub required_within_plain : (fault : Data → Option KeyFault) (k : List ℕ) (d : Data) → IsOfPlain fault
    → required_within fault k d ≡ None → IsPlain (get k d)
unfolding required_within
required_within_plain fault k d fits h = required_within_at fault k (get k d) fits h

-- ---- items and lists

item_at : (list : List ℕ) (index : ℕ) (d : Data) (keys : Option KeyFault) (b : Bool)
    → cond b (option_map (below (item_path list index)) keys) (Some (key.Refused (item_path list index) (misfit d))) ≡ None → keys ≡ None
item_at list index d keys true h = map_none _ keys h
item_at list index d keys false h = absurd (true≢false (ap is_some h))

-- the fault of an item is that of its keys
pub item_keys : (list : List ℕ) (index : ℕ) (d : Data) (keys : Option KeyFault) → item_fault list index d keys ≡ None → keys ≡ None
unfolding item_fault
item_keys list index d keys h = item_at list index d keys (is_some (as_object d)) h

object_at : (inner : Data → Option KeyFault) (keep : Data → Data) (k : List ℕ) (d : Data)
    → (inner d ≡ None → has_float (keep d) ≡ false) → (b : Bool)
    → cond b (option_map (below k) (inner d)) (Some (key.Refused k (misfit d))) ≡ None → has_float (keep d) ≡ false
object_at inner keep k d fits true h = fits (map_none _ (inner d) h)
object_at inner keep k d fits false h = absurd (true≢false (ap is_some h))

-- a value that is an object, with keys that aren't refused
pub object_plain : (inner : Data → Option KeyFault) (keep : Data → Data) (k : List ℕ) (d : Data)
    → (inner d ≡ None → has_float (keep d) ≡ false) → object_fault inner k d ≡ None → has_float (keep d) ≡ false
unfolding object_fault
object_plain inner keep k d fits h = object_at inner keep k d fits (is_some (as_object d)) h

pub inside_plain : (inner : Data → Option KeyFault) (keep : Data → Data) (k : List ℕ) (o : Option Data)
    → ((d : Data) → inner d ≡ None → has_float (keep d) ≡ false) → inside_fault inner k o ≡ None → IsPlain (option_map keep o)
inside_plain inner keep k None fits h = tt
inside_plain inner keep k (Some d) fits h = object_plain inner keep k d (fits d) h

-- an item that is left out, or kept and not refused, before others
pub list_step : (b : Bool) (d : Data) (ds : List Data) (skipped refused whole rest : Option KeyFault)
    → (refused ≡ None → has_float d ≡ false)
    → (skipped ≡ None → items_have_float (items_of ds) ≡ false)
    → (rest ≡ None → items_have_float (items_of ds) ≡ false)
    → cond b skipped (option_or refused (option_or whole rest)) ≡ None
    → items_have_float (items_of (cond b ds (d ∷ ds))) ≡ false
list_step true d ds skipped refused whole rest fits over later h = over h
list_step false d ds skipped refused whole rest fits over later h =
    let one = or_none refused (option_or whole rest) h in
    split_plain _ _ (fits one.0) (later (or_none whole rest one.1).1)

pub list_plain : (passes : Data → Bool) (fault : ℕ → Data → Option KeyFault) (called : Data → Name) (keep : Data → Data) (list : List ℕ)
    (seen : List Name) (index : ℕ) (ds : Items) → ((i : ℕ) (d : Data) → fault i d ≡ None → has_float (keep d) ≡ false)
    → list_fault passes fault called list seen index ds ≡ None → items_have_float (items_of (kept_of passes keep ds)) ≡ false
list_plain passes fault called keep list seen index no_items fits h = refl
list_plain passes fault called keep list seen index (item d ds) fits h =
    list_step (passes d) (keep d) (kept_of passes keep ds) _ (fault index d) _ _ (fits index d)
    (list_plain passes fault called keep list seen (index + 1) ds fits)
    (list_plain passes fault called keep list (seen ++ called d ∷ []) (index + 1) ds fits) h

-- A table of parameters finds the first of each name.
use Rattle.std.proofs.Common.{◌≡◌, ℕ, ◌+◌, ◌<◌, ◌≤◌, suc, Bool, true, false, cond, List, [], ◌∷◌, ◌++◌, Option, Some, None, is_some, length, get_or, map, drop, drop-cons, add-one, refl, sym, ap, ◌∙◌, subst, arith}
use Rattle.std.specs.Prelude.{◌&&◌, find, if◌then◌else◌}
use Rattle.std.specs.Borrow.{Bor}
use Rattle.std.specs.Map.{lookup}
use Rattle.std.specs.Option.{option_map, option_or}
use Rattle.std.specs.Prelude.{option_and_then, unwrap_or}
use Rattle.std.specs.Str.{bytes_eq}
use Rattle.std.proofs.lemmas.Bool.{true≢false}
use Rattle.std.proofs.lemmas.List.{drop_all, map-append}
use Rattle.std.proofs.lemmas.Slice.Eq.{bytes_eq-Decides}
use Rattle.fed_defs.specs.declared.config.ParameterDef.{ParameterDef}
use Rattle.fed_defs.specs.declared.config.ParameterValue.{ParameterValue}
use Rattle.fed_defs.specs.declared.config.ParameterValue.TheVariants as values
use Rattle.fed_defs.specs.declared.config.VhostConfig.{VhostConfig}
use Rattle.fed_defs.specs.Choices.{upstream_value, set_value, upstream_if, set_if, upstream_named, members_of}
use Rattle.fed_defs.specs.Places.{first_some}
use Rattle.fed_defs.specs.Texts.{same_text}
use Rattle.upstream_sets.specs.declared.table.Component.{Component}
use Rattle.upstream_sets.specs.declared.table.Component.TheVariants as components
use Rattle.upstream_sets.specs.Tables.{Named, is_value_of, is_of, named, with_first, IsTableOf}
use Rattle.upstream_sets.proofs.NameLemmas.{either_way}

-- ---- the entries

abbrev pub Entries : Type 0
Entries = List (Bor (List ℕ) × Bor ParameterDef)

-- the entries as contracts see them
abbrev pub seen : Entries → List Named
seen es = map (λ e. (e.0.now, e.1.now)) es

pub lookup_seen : (name : List ℕ) (es : Entries) → lookup (bytes_eq name) (seen es) ≡ option_map (λ p. p.now) (lookup (λ key. bytes_eq name key.now) es)
lookup_seen name [] = refl
lookup_seen name (e ∷ es) =
    elim (bytes_eq name e.0.now) as (λ b. cond b (Some e.1.now) (lookup (bytes_eq name) (seen es)) ≡ option_map (λ p. p.now) (cond b (Some e.1) (lookup (λ key. bytes_eq name key.now) es))) [ true ↦ refl | false ↦ lookup_seen name es ]

mapped : {A B : Type 0} (f : A → B) (o : Option A) → is_some (option_map f o) ≡ is_some o
mapped f None = refl
mapped f (Some x) = refl

pub is_some_seen : (name : List ℕ) (es : Entries) → is_some (lookup (bytes_eq name) (seen es)) ≡ is_some (lookup (λ key. bytes_eq name key.now) es)
is_some_seen name es = ap is_some (lookup_seen name es) ∙ mapped (λ p. p.now) (lookup (λ key. bytes_eq name key.now) es)

pub seen_pushed : (es : Entries) (name : Bor (List ℕ)) (parameter : Bor ParameterDef) → seen (es ++ (name, parameter) ∷ []) ≡ seen es ++ (name.now, parameter.now) ∷ []
seen_pushed es name parameter = map-append (λ e. (e.0.now, e.1.now)) es ((name, parameter) ∷ [])

pub nothing : {A : Type 0} (o : Option A) → is_some o ≡ false → o ≡ None
nothing None e = refl
nothing (Some x) e = absurd (true≢false e)

-- ---- a parameter that is added

pub with_known : (table : List Named) (parameter : ParameterDef) → is_some (lookup (bytes_eq parameter.name) table) ≡ true → with_first table parameter ≡ table
with_known table parameter there = ap (λ b. if b then table else table ++ (parameter.name, parameter) ∷ []) there

pub with_new : (table : List Named) (parameter : ParameterDef) → is_some (lookup (bytes_eq parameter.name) table) ≡ false → with_first table parameter ≡ table ++ (parameter.name, parameter) ∷ []
with_new table parameter free = ap (λ b. if b then table else table ++ (parameter.name, parameter) ∷ []) free

lookup_pushed : (name : List ℕ) (table : List Named) (e : Named) → lookup (bytes_eq name) (table ++ e ∷ []) ≡ option_or (lookup (bytes_eq name) table) (cond (bytes_eq name e.0) (Some e.1) None)
lookup_pushed name [] e = refl
lookup_pushed name (d ∷ table) e =
    elim (bytes_eq name d.0) as (λ b. cond b (Some d.1) (lookup (bytes_eq name) (table ++ e ∷ [])) ≡ option_or (cond b (Some d.1) (lookup (bytes_eq name) table)) (cond (bytes_eq name e.0) (Some e.1) None)) [ true ↦ refl | false ↦ lookup_pushed name table e ]

behind : {A : Type 0} (o : Option A) (here : Bool) (x : A) (rest : Option A) → option_or o (cond here (Some x) rest) ≡ option_or (option_or o (cond here (Some x) None)) rest
behind (Some y) here x rest = refl
behind None true x rest = refl
behind None false x rest = refl

hidden : {A : Type 0} (o a b : Option A) → is_some o ≡ true → option_or o a ≡ option_or o b
hidden None a b there = absurd (true≢false (sym there))
hidden (Some x) a b there = refl

known_by : (name : List ℕ) (table : List Named) (p : ParameterDef) (rest : Option ParameterDef) (here : Bool) → bytes_eq p.name name ≡ here → is_some (lookup (bytes_eq p.name) table) ≡ true → option_or (lookup (bytes_eq name) table) (cond here (Some p) rest) ≡ option_or (lookup (bytes_eq name) table) rest
known_by name table p rest false is there = refl
known_by name table p rest true is there =
    hidden (lookup (bytes_eq name) table) (Some p) rest (subst (λ n. is_some (lookup (bytes_eq n) table) ≡ true) ((bytes_eq-Decides p.name name).0 is) there)

new_by : (name : List ℕ) (table : List Named) (p : ParameterDef) (rest : Option ParameterDef) → option_or (lookup (bytes_eq name) table) (cond (bytes_eq p.name name) (Some p) rest) ≡ option_or (lookup (bytes_eq name) (table ++ (p.name, p) ∷ [])) rest
new_by name table p rest =
    ap (λ b. option_or (lookup (bytes_eq name) table) (cond b (Some p) rest)) (either_way p.name name)
    ∙ behind (lookup (bytes_eq name) table) (bytes_eq name p.name) p rest
    ∙ ap (λ o. option_or o rest) (sym (lookup_pushed name table (p.name, p)))

added_by : (name : List ℕ) (table : List Named) (p : ParameterDef) (rest : Option ParameterDef) (there : Bool) → is_some (lookup (bytes_eq p.name) table) ≡ there → option_or (lookup (bytes_eq name) table) (cond (bytes_eq p.name name) (Some p) rest) ≡ option_or (lookup (bytes_eq name) (if there then table else table ++ (p.name, p) ∷ [])) rest
added_by name table p rest true is = known_by name table p rest (bytes_eq p.name name) refl is
added_by name table p rest false is = new_by name table p rest

-- ---- one more parameter, or none

left : {A : Type 0} (xs : List A) (i : ℕ) (x : A) → i < length xs → x ≡ get_or xs i x → drop i xs ≡ x ∷ drop (i + 1) xs
left xs i x within is = rw (add-one) (drop-cons xs i x within ∙ ap (λ y. y ∷ drop (suc i) xs) (sym is))

of_by : (c : Component) (name : List ℕ) (table : List Named) (p : ParameterDef) (rest : List ParameterDef) (of : Bool) → is_of c p ≡ of → option_or (lookup (bytes_eq name) table) (cond (of && bytes_eq p.name name) (Some p) (named c name rest)) ≡ option_or (lookup (bytes_eq name) (if of then with_first table p else table)) (named c name rest)
of_by c name table p rest true is = added_by name table p (named c name rest) (is_some (lookup (bytes_eq p.name) table)) refl
of_by c name table p rest false is = refl

-- what is found is the same before and after a parameter is looked at
one_more : (c : Component) (name : List ℕ) (table : List Named) (ps : List ParameterDef) (i : ℕ) (p : ParameterDef) → i < length ps → p ≡ get_or ps i p → option_or (lookup (bytes_eq name) table) (named c name (drop i ps)) ≡ option_or (lookup (bytes_eq name) (if is_of c p then with_first table p else table)) (named c name (drop (i + 1) ps))
one_more c name table ps i p within is =
    ap (λ xs. option_or (lookup (bytes_eq name) table) (named c name xs)) (left ps i p within is)
    ∙ of_by c name table p (drop (i + 1) ps) (is_of c p) refl

pub more_added : (c : Component) (name : List ℕ) (table : List Named) (ps : List ParameterDef) (i : ℕ) (p : ParameterDef) → i < length ps → p ≡ get_or ps i p → is_of c p ≡ true → option_or (lookup (bytes_eq name) table) (named c name (drop i ps)) ≡ option_or (lookup (bytes_eq name) (with_first table p)) (named c name (drop (i + 1) ps))
more_added c name table ps i p within is of =
    one_more c name table ps i p within is
    ∙ ap (λ (b : Bool). option_or (lookup (bytes_eq name) (if b then with_first table p else table)) (named c name (drop (i + 1) ps))) of

pub more_passed : (c : Component) (name : List ℕ) (table : List Named) (ps : List ParameterDef) (i : ℕ) (p : ParameterDef) → i < length ps → p ≡ get_or ps i p → is_of c p ≡ false → option_or (lookup (bytes_eq name) table) (named c name (drop i ps)) ≡ option_or (lookup (bytes_eq name) table) (named c name (drop (i + 1) ps))
more_passed c name table ps i p within is of =
    one_more c name table ps i p within is
    ∙ ap (λ (b : Bool). option_or (lookup (bytes_eq name) (if b then with_first table p else table)) (named c name (drop (i + 1) ps))) of

alone : {A : Type 0} (o : Option A) → option_or o None ≡ o
alone None = refl
alone (Some x) = refl

-- when all were looked at, the table alone finds what there is
pub all_seen : (c : Component) (name : List ℕ) (table : List Named) (ps : List ParameterDef) (i : ℕ) → length ps ≤ i → option_or (lookup (bytes_eq name) table) (named c name (drop i ps)) ≡ lookup (bytes_eq name) table
all_seen c name table ps i done =
    ap (λ xs. option_or (lookup (bytes_eq name) table) (named c name xs)) (drop_all i ps done)
    ∙ alone (lookup (bytes_eq name) table)

-- ---- what policies and sets name

passed : {A : Type 0} (f : ParameterDef → Option A) (p : ParameterDef) (here of : Bool) (v r : Option A) (rest : Option ParameterDef) → f p ≡ v → of ≡ is_some v → r ≡ option_and_then f rest → option_or (if here then v else None) r ≡ option_and_then f (cond (of && here) (Some p) rest)
passed f p true true (Some x) r rest is as_is later = sym is
passed f p false true (Some x) r rest is as_is later = later
passed f p here false (Some x) r rest is as_is later = absurd (true≢false (sym as_is))
passed f p here true None r rest is as_is later = absurd (true≢false as_is)
passed f p true false None r rest is as_is later = later
passed f p false false None r rest is as_is later = later

-- the first value under the name is that of the first parameter that has one and is named so
first_value : {A : Type 0} (value : ParameterValue → Option A) (c : Component) (is_its : (v : ParameterValue) → is_value_of c v ≡ is_some (value v)) (name : List ℕ) (ps : List ParameterDef) → first_some (λ p. if same_text p.name name then value p.value else None) ps ≡ option_and_then (λ p. value p.value) (named c name ps)
first_value value c is_its name [] = refl
first_value value c is_its name (p ∷ ps) =
    passed (λ p. value p.value) p (same_text p.name name) (is_of c p) (value p.value) (first_some (λ p. if same_text p.name name then value p.value else None) ps) (named c name ps) refl (is_its p.value) (first_value value c is_its name ps)

has_upstream : (v : ParameterValue) → is_value_of components.Upstream v ≡ is_some (upstream_value v)
has_upstream (values.Upstream upstream) = refl
has_upstream (values.Set members) = refl
has_upstream (values.Shovel shovel) = refl

has_set : (v : ParameterValue) → is_value_of components.Set v ≡ is_some (set_value v)
has_set (values.Upstream upstream) = refl
has_set (values.Set members) = refl
has_set (values.Shovel shovel) = refl

-- the upstream of a name is the one in the table
pub upstream_found : (table : List Named) (vhost : VhostConfig) (name : List ℕ) → IsTableOf components.Upstream table vhost.parameters → upstream_named vhost name ≡ option_and_then (λ p. upstream_value p.value) (lookup (bytes_eq name) table)
unfolding upstream_named upstream_if
upstream_found table vhost name tabled =
    first_value upstream_value components.Upstream has_upstream name vhost.parameters
    ∙ ap (option_and_then (λ p. upstream_value p.value)) (sym (tabled name))

-- the members of a set are those of the set in the table
pub members_found : (table : List Named) (vhost : VhostConfig) (name : List ℕ) → IsTableOf components.Set table vhost.parameters → members_of vhost name ≡ unwrap_or (option_and_then (λ p. set_value p.value) (lookup (bytes_eq name) table)) []
unfolding members_of set_if
members_found table vhost name tabled =
    ap (λ members. unwrap_or members [])
    (first_value set_value components.Set has_set name vhost.parameters
    ∙ ap (option_and_then (λ p. set_value p.value)) (sym (tabled name)))

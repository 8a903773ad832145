-- Links in a table, each under its name.
use Rattle.std.proofs.Common.{◌≡◌, ℕ, ◌+◌, ◌<◌, ◌≤◌, Bool, true, false, List, [], ◌∷◌, ◌++◌, Option, Some, None, String, string_bytes, is_some, length, length-append, map, refl, sym, ap, ◌∙◌, arith}
use Rattle.std.specs.Prelude.{◌||◌, if◌then◌else◌}
use Rattle.std.specs.List.{list_any}
use Rattle.std.specs.Map.{lookup, keys_of, values_of}
use Rattle.std.specs.Str.{bytes_eq}
use Rattle.std.specs.String.{string_eq}
use Rattle.std.proofs.lemmas.Bool.{true≢false}
use Rattle.std.proofs.lemmas.List.{length-map, map-append}
use Rattle.std.proofs.lemmas.Map.Made.{is_some-lookup}
use Rattle.indexmap.specs.IndexMap.{IndexMap, get, values, insert_entry}
use Rattle.indexmap.proofs.CallerLemmas.{insert_entry-new}
use Rattle.amqp_props.specs.declared.link.LinkSpec.{LinkSpec}
use Rattle.fed_defs.specs.Links.{is_kept, with_link}
use Rattle.upstream_sets.specs.Distinct.{AreUnderNames}
use Rattle.upstream_sets.proofs.NameLemmas.{either_way}

any_map : {X Y : Type 0} (p : Y → Bool) (f : X → Y) (xs : List X) → list_any p (map f xs) ≡ list_any (λ x. p (f x)) xs
any_map p f [] = refl
any_map p f (x ∷ xs) = ap (λ b. p (f x) || b) (any_map p f xs)

any_same : {X : Type 0} (p q : X → Bool) (xs : List X) → ((x : X) → p x ≡ q x) → list_any p xs ≡ list_any q xs
any_same p q [] same = refl
any_same p q (x ∷ xs) same = (λ i. same x i || any_same p q xs same i)

-- a name is in the table where a link of it is
pub found : {A : Type 0} (entries : List (String A × LinkSpec)) (link : LinkSpec) → AreUnderNames entries → is_some (lookup (λ key. bytes_eq link.name (string_bytes key)) entries) ≡ is_kept (values_of entries) link
unfolding is_kept
found entries link named =
    is_some-lookup (λ key. bytes_eq link.name (string_bytes key)) entries
    ∙ any_map (λ key. bytes_eq link.name (string_bytes key)) (λ e. e.0) entries
    ∙ sym (any_map (bytes_eq link.name) (λ e. string_bytes e.0) entries)
    ∙ ap (list_any (bytes_eq link.name)) named
    ∙ any_map (bytes_eq link.name) (λ e. e.1.name) entries
    ∙ any_same (λ e. bytes_eq link.name e.1.name) (λ e. bytes_eq e.1.name link.name) entries (λ e. either_way link.name e.1.name)
    ∙ sym (any_map (λ other. bytes_eq other.name link.name) (λ e. e.1) entries)

nothing : {A : Type 0} (o : Option A) → is_some o ≡ false → o ≡ None
nothing None e = refl
nothing (Some x) e = absurd (true≢false e)

-- a link whose name isn't there goes last
pub inserted : {A S : Type 0} (table : IndexMap (String A) LinkSpec S) (name : String A) (link : LinkSpec) → AreUnderNames table.entries → string_bytes name ≡ link.name → is_kept (values table) link ≡ false → insert_entry string_eq table.entries name link ≡ table.entries ++ (name, link) ∷ []
inserted table name link named same free =
    insert_entry-new string_eq table name link
    (nothing (get string_eq table name) (ap (λ bytes. is_some (lookup (λ key. bytes_eq bytes (string_bytes key)) table.entries)) same ∙ found table.entries link named ∙ free))

pub still_named : {A : Type 0} (entries : List (String A × LinkSpec)) (name : String A) (link : LinkSpec) → AreUnderNames entries → string_bytes name ≡ link.name → AreUnderNames (entries ++ (name, link) ∷ [])
still_named entries name link named same =
    map-append (λ e. string_bytes e.0) entries ((name, link) ∷ [])
    ∙ (λ i. named i ++ same i ∷ [])
    ∙ sym (map-append (λ e. e.1.name) entries ((name, link) ∷ []))

pub links_of_pushed : {A : Type 0} (entries : List (String A × LinkSpec)) (name : String A) (link : LinkSpec) → values_of (entries ++ (name, link) ∷ []) ≡ values_of entries ++ link ∷ []
links_of_pushed entries name link = map-append (λ e. e.1) entries ((name, link) ∷ [])

pub one_longer : {A : Type 0} (entries : List (String A × LinkSpec)) (name : String A) (link : LinkSpec) → length (values_of (entries ++ (name, link) ∷ [])) ≡ length entries + 1
one_longer entries name link = length-map (entries ++ (name, link) ∷ []) (λ e. e.1) ∙ length-append entries ((name, link) ∷ [])

-- a link that isn't kept yet is kept as the last
pub with_new : (kept : List LinkSpec) (link : LinkSpec) → is_kept kept link ≡ false → with_link kept link ≡ kept ++ link ∷ []
unfolding with_link
with_new kept link free = ap (λ b. if b then kept else kept ++ link ∷ []) free

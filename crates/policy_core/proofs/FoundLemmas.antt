-- What a pattern was compiled to, against what the grammar reads in its text.
use Rattle.std.proofs.Common.{◌≡◌, ◌≢◌, ◌⊎◌, ℕ, ◌<◌, ◌≤◌, false, List, Option, Some, None, All, option_map, refl, ap, ◌∙◌, sym, inl, inr, ⊎_elim, arith}
use Rattle.std.specs.Prelude.{chars, is_some, IsSomeAnd, IfSome}
use Rattle.std.specs.Option.{option_map_or}
use Rattle.regex_hir.specs.Re.{Re}
use Rattle.regex_hir.specs.Find.{find_str}
use Rattle.regex_hir.specs.Meaning.{meaning}
use Rattle.regex_hir.specs.declared.hir.Hir.{Hir}
use Rattle.regex_syntax.specs.Captures.{SameCaptures}
use Rattle.regex_syntax.specs.Brackets.{Nested}
use Rattle.regex_syntax.specs.Grammar.{Names, read}
use Rattle.regex_syntax.specs.Verdict.{Reads, Refuses, default_config}
use Rattle.regex_syntax.specs.declared.error.ErrorKind.{ErrorKind}
use Rattle.regex_syntax.specs.declared.error.ErrorKind.TheVariants.{OutOfMemory}
use Rattle.regex_syntax.proofs.CapturesLemmas.{find_str_alike, spans}
use Rattle.regex.specs.Strings.{regex_source, regex_config, regex_pattern, IsReadFromSource}
use Rattle.regex.specs.Names.{names_of}
use Rattle.regex.specs.declared.string.regex.Regex.{Regex}
use Rattle.policy_core.specs.Patterns.{nest_limit, IsNoPattern, NestsTooDeep, is_found}

abbrev Found : Type 0
Found = Nested Re × Names

some_mapped : {A B : Type 0} (f : A → B) (o : Option A) → is_some (option_map f o) ≡ is_some o
some_mapped f None = refl
some_mapped f (Some x) = refl

-- two expressions with the same captures are found in the same names
found_alike : (a b : Re) → SameCaptures a b → (name : List ℕ) → All (λ x. x < 256) name →
    is_some (find_str a name 0) ≡ is_some (find_str b name 0)
found_alike a b same name bytes =
    sym (some_mapped spans (find_str a name 0)) ∙ ap is_some (find_str_alike a b same name bytes 0)
    ∙ some_mapped spans (find_str b name 0)

weaker : {A : Type 0} (P Q : A → Type 0) → ((x : A) → P x → Q x) → (o : Option A) → IsSomeAnd o P → IsSomeAnd o Q
weaker P Q implies None holds = absurd holds
weaker P Q implies (Some x) holds = implies x holds

found_as_read : (tree : Re) (name : List ℕ) → All (λ x. x < 256) name → (o : Option Found) →
    IsSomeAnd o (λ found. SameCaptures tree found.0.value) →
    is_some (find_str tree name 0) ≡ option_map_or (λ found. is_some (find_str found.0.value name 0)) o false
found_as_read tree name bytes None same = absurd same
found_as_read tree name bytes (Some found) same = found_alike tree found.0.value same name bytes

reads_alike : (text : List ℕ) (hir : Hir) (names : Names) → Reads default_config text hir names →
    IsSomeAnd (read default_config (chars text)) (λ found. SameCaptures (meaning hir) found.0.value)
unfolding Reads
reads_alike text hir names = weaker _ _ (λ found holds. holds.1) (read default_config (chars text))

-- a search by the compiled pattern is one by its text
pub found_by_text : (r : Regex) (text name : List ℕ) → regex_source r ≡ text → regex_config r ≡ default_config →
    IsReadFromSource r → All (λ x. x < 256) name → is_some (find_str (regex_pattern r) name 0) ≡ is_found text name
unfolding is_found
found_by_text r text name is_source is_config is_read bytes =
    let reads : Reads default_config text r.pattern.program.hir (names_of r.pattern.names.items) =
    rw (is_source, is_config) at is_read in
    found_as_read (regex_pattern r) name bytes (read default_config (chars text))
    (reads_alike text r.pattern.program.hir (names_of r.pattern.names.items) reads)

none_or_some : {A : Type 0} (P : A → Type 0) (o : Option A) → IfSome o P → (o ≡ None) ⊎ IsSomeAnd o P
none_or_some P None holds = inl refl
none_or_some P (Some x) holds = inr holds

-- an error of syntax is of a text that is no pattern or nests too deep
pub refusal : (text : List ℕ) (kind : ErrorKind) → kind ≢ OutOfMemory → Refuses default_config text kind →
    IsNoPattern text ⊎ NestsTooDeep text
unfolding Refuses
refusal text kind syntax refused =
    ⊎_elim (λ memory. absurd (syntax memory))
    (⊎_elim (λ none. inl none) (λ deep. none_or_some _ (read default_config (chars text)) deep.1))
    refused

not_both : (o : Option Found) → IsSomeAnd o (λ found. found.0.depth ≤ nest_limit) →
    (o ≡ None) ⊎ IsSomeAnd o (λ found. nest_limit < found.0.depth) → ⊥
not_both None holds other = holds
not_both (Some found) holds other = ⊎_elim (λ none. cc) (λ deep. omega arith) other

-- what was compiled is a pattern that does not nest too deep
pub not_refused : (r : Regex) (text : List ℕ) → regex_source r ≡ text → regex_config r ≡ default_config →
    IsReadFromSource r → IsNoPattern text ⊎ NestsTooDeep text → ⊥
unfolding Reads
not_refused r text is_source is_config is_read =
    let reads : Reads default_config text r.pattern.program.hir (names_of r.pattern.names.items) =
    rw (is_source, is_config) at is_read in
    not_both (read default_config (chars text))
    (weaker _ _ (λ found holds. holds.0) (read default_config (chars text)) reads)

-- No two links that are kept have one name.
use Rattle.std.proofs.Common.{◌≡◌, ◌≢◌, ℕ, ◌<◌, List, [], ◌∷◌, ◌++◌, Bool, true, false, length, get_or, refl, sym, ◌∙◌, arith, true≢false}
use Rattle.std.specs.Prelude.{if◌then◌else◌}
use Rattle.std.specs.List.{list_any, AllPairs}
use Rattle.std.specs.Cmp.Lexicographic.{bytes_decides}
use Rattle.std.proofs.lemmas.List.Quantifiers.{all_pairs_push}
use Rattle.std.proofs.lemmas.Map.Keys.{any_passes_from_place}
use Rattle.std.proofs.lemmas.Option.{slice_get-get_or}
use Rattle.amqp_props.specs.declared.link.LinkSpec.{LinkSpec}
use Rattle.fed_defs.specs.declared.config.Config.{Config}
use Rattle.fed_defs.specs.Texts.{same_text}
use Rattle.fed_defs.specs.Links.{is_kept, with_link, with_links, asked_links, links_of}
use Rattle.upstream_sets.specs.Distinct.{HaveTwoNames}

differ : (a b : List ℕ) → same_text a b ≡ false → a ≢ b
differ a b apart = λ e. true≢false (sym ((bytes_decides a b).1 e) ∙ apart)

fails_by : {X : Type 0} (p : X → Bool) (xs : List X) (k : ℕ) (d : X) (answer : Bool) → p (get_or xs k d) ≡ answer → list_any p xs ≡ false → k < length xs → p (get_or xs k d) ≡ false
fails_by p xs k d true e none within =
    absurd (true≢false (sym (any_passes_from_place p xs k (get_or xs k d) (slice_get-get_or xs k d within) e) ∙ none))
fails_by p xs k d false e none within = e

-- where none passes, each fails
fails_at : {X : Type 0} (p : X → Bool) (xs : List X) (k : ℕ) (d : X) → list_any p xs ≡ false → k < length xs → p (get_or xs k d) ≡ false
fails_at p xs k d none within = fails_by p xs k d (p (get_or xs k d)) refl none within

not_kept : (kept : List LinkSpec) (link : LinkSpec) → is_kept kept link ≡ false → (k : ℕ) (d : LinkSpec) → k < length kept → HaveTwoNames (get_or kept k d) link
unfolding is_kept
not_kept kept link none k d within =
    differ (get_or kept k d).name link.name (fails_at (λ other. same_text other.name link.name) kept k d none within)

with_by : (kept : List LinkSpec) (link : LinkSpec) (answer : Bool) → is_kept kept link ≡ answer → AllPairs HaveTwoNames kept → AllPairs HaveTwoNames (if answer then kept else kept ++ link ∷ [])
with_by kept link true e pairs = pairs
with_by kept link false e pairs = all_pairs_push HaveTwoNames kept link pairs (not_kept kept link e)

with_distinct : (kept : List LinkSpec) (link : LinkSpec) → AllPairs HaveTwoNames kept → AllPairs HaveTwoNames (with_link kept link)
unfolding with_link
with_distinct kept link pairs = with_by kept link (is_kept kept link) refl pairs

all_distinct : (kept links : List LinkSpec) → AllPairs HaveTwoNames kept → AllPairs HaveTwoNames (with_links kept links)
unfolding with_links
all_distinct kept [] pairs = pairs
all_distinct kept (link ∷ links) pairs = all_distinct (with_link kept link) links (with_distinct kept link pairs)

pub links_distinct : (config : Config) → AllPairs HaveTwoNames (links_of config)
unfolding links_of
links_distinct config = all_distinct [] (asked_links config) (λ i j d below within. absurd (omega arith))

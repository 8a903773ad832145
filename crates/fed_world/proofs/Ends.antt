-- A link's ends are places of the run.
use Rattle.std.proofs.Common.{◌≡◌, ℕ, List, [], ◌∷◌, Bool, true, false, Option, Some, None, refl, sym, subst, inl, inr}
use Rattle.std.specs.Prelude.{cond, flat_map, IfSome}
use Rattle.fed_journal.specs.declared.place.Place.{Place}
use Rattle.fed_journal.specs.declared.event.Shovel.{Shovel}
use Rattle.fed_journal.specs.declared.link.LinkSpec.{LinkSpec}
use Rattle.fed_journal.specs.declared.entry.Entry.{Entry}
use Rattle.fed_journal.specs.declared.entry.Entry.TheVariants.{Begun, ShovelSet}
use Rattle.fed_journal.specs.Configuration.{is_place}
use Rattle.fed_journal.specs.Links.{place_at, spec_of, links_set_by, links_of_broker, links_of, is_named, link_of}
use Rattle.fed_journal.specs.Names.{same_text}
use Rattle.fed_world.specs.Ends.{IsEnd, HasEnds}
use Rattle.fed_world.proofs.Lists.{IsIn, Split, find-in, in-flat}

named-end : (J : List Entry) (p : Place) (b : Bool) → is_place J p ≡ b → IsEnd J (cond b (Some p) None)
named-end J p true h = h
named-end J p false h = tt

spec-ends : (J : List Entry) (p : Place) (n : List ℕ) (v : Shovel) → HasEnds J (spec_of J p n v)
unfolding spec_of
spec-ends J p n v = record {
  source = named-end J (place_at v.source p) (is_place J (place_at v.source p)) refl;
  target = named-end J (place_at v.target p) (is_place J (place_at v.target p)) refl;
}

set-if : (J : List Entry) (p : Place) (n : List ℕ) (v : Shovel) (spec : LinkSpec) (b : Bool) → IsIn spec (cond b (spec_of J p n v ∷ []) []) → HasEnds J spec
set-if J p n v spec true (inl same) = subst (HasEnds J) same (spec-ends J p n v)
set-if J p n v spec true (inr h) = absurd h
set-if J p n v spec false h = absurd h

set-by : (J : List Entry) (b : List ℕ) (spec : LinkSpec) (d : Entry) → IsIn spec (links_set_by J b d) → HasEnds J spec
set-by J b spec (ShovelSet p n v) h = set-if J p n v spec (same_text p.broker b) h
set-by J b spec _ h = absurd h

set-of : (J : List Entry) (spec : LinkSpec) (d : Entry) → IsIn spec (links_of_broker J d) → HasEnds J spec
set-of J spec (Begun b c k) h =
    let at : Split (λ e. IsIn spec (links_set_by J b e)) J = in-flat (links_set_by J b) spec J h in
    set-by J b spec at.at at.holds
set-of J spec _ h = absurd h

described-ends : (J : List Entry) (l : List ℕ) (spec : LinkSpec) → link_of J l ≡ Some spec → HasEnds J spec
unfolding link_of links_of
described-ends J l spec h =
    let found : (is_named l spec ≡ true) × IsIn spec (flat_map (links_of_broker J) J) = find-in (is_named l) spec (flat_map (links_of_broker J) J) h in
    let at : Split (λ e. IsIn spec (links_of_broker J e)) J = in-flat (links_of_broker J) spec J found.1 in
    set-of J spec at.at at.holds

-- the link, if there is one
pub link-ends : (J : List Entry) (l : List ℕ) (link : Option LinkSpec) → link ≡ link_of J l → IfSome link (HasEnds J)
link-ends J l None h = tt
link-ends J l (Some spec) h = described-ends J l spec (sym h)

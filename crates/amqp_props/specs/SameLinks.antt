-- When two descriptions of links are one: a test by their codes.
use Rattle.std.specs.Prelude.{◌≡◌, Bool, true, false, ◌&&◌, ◌==◌}
use Rattle.std.proofs.Common.{refl, sym, ap, ◌∙◌, true≢false}
use Rattle.std.specs.Cmp.{IsEquivalence}
use Rattle.std.proofs.lemmas.Bool.Decides.{Decides-eqb}
use base.Stored.{Gv, gnil, gnum, gcons}
use Rattle.field_tables.specs.SameLaws.{both, equivalence}
use Rattle.amqp_props.specs.declared.link.LinkSpec.{LinkSpec}
use Rattle.amqp_props.specs.contracts.link.LinkSpec as link

same_tree : Gv → Gv → Bool
same_tree gnil gnil = true
same_tree (gnum m) (gnum n) = m == n
same_tree (gcons a b) (gcons c d) = same_tree a c && same_tree b d
same_tree _ _ = false

tree_yes : (a b : Gv) → same_tree a b ≡ true → a ≡ b
unfolding same_tree
tree_yes gnil gnil h = refl
tree_yes (gnum m) (gnum n) h = ap gnum ((Decides-eqb m n).0 h)
tree_yes (gcons a b) (gcons c d) h = let t = both (same_tree a c) (same_tree b d) h in λ i. gcons (tree_yes a c t.0 i) (tree_yes b d t.1 i)
tree_yes _ _ h = absurd (true≢false (sym h))

tree_self : (a : Gv) → same_tree a a ≡ true
unfolding same_tree
tree_self gnil = refl
tree_self (gnum n) = (Decides-eqb n n).1 refl
tree_self (gcons a b) = ap (λ (x : Bool). x && same_tree b b) (tree_self a) ∙ tree_self b

pub same_link : LinkSpec → LinkSpec → Bool
same_link a b = same_tree (link.the_row.coded.code a) (link.the_row.coded.code b)

pub link_yes : (a b : LinkSpec) → same_link a b ≡ true → a ≡ b
unfolding same_link
link_yes a b h = link.the_row.coded.inj a b (tree_yes _ _ h)

pub link_self : (a : LinkSpec) → same_link a a ≡ true
unfolding same_link
link_self a = tree_self (link.the_row.coded.code a)

pub link_laws : IsEquivalence same_link
link_laws = equivalence same_link link_yes link_self

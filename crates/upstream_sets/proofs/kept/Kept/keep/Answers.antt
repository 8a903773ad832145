use Rattle.std.proofs.Common.{◌≡◌, ◌++◌, ◌∷◌, [], ◌<◌, ◌≤◌, ◌+◌, false, length, rules, ap, sym, ◌∙◌, subst, arith, string_bytes}
use Rattle.std.specs.Map.{values_of}
use Rattle.fed_defs.specs.Links.{is_kept}
use Rattle.upstream_sets.specs.Distinct.{AreUnderNames}
use Rattle.upstream_sets.proofs.LinkTableLemmas.{inserted, still_named, links_of_pushed, one_longer, with_new}
use Rattle.upstream_sets.proofs.kept.Kept.keep.Goals as goal

pub invariant_of-self-2 : goal.invariant_of-self-2
invariant_of-self-2 c =
    let was = c.self.inside.table in
    let free : is_kept (values_of was.entries) c.args.link ≡ false = ap (λ kept. is_kept kept c.args.link) c.self.view_is ∙ sym c.has.ensures ∙ c.if-has.false in
    let same : string_bytes c.in_ok-name.name ≡ c.args.link.name = c.in_ok-name.ensures.ok ∙ c.as_str.ensures in
    let now = c.in_ok-insert.ensures.entries ∙ inserted was c.in_ok-name.name c.args.link c.self.invariant.named same free in
    record {
      within = omega (arith, ap (λ es. length (values_of es)) now ∙ one_longer was.entries c.in_ok-name.name c.args.link, c.len.ensures.len, c.if-len-ge-MAX_LINKS.false);
      named = subst AreUnderNames (sym now) (still_named was.entries c.in_ok-name.name c.args.link c.self.invariant.named same);
    }

pub returns-clause-kept : goal.returns-clause-kept
returns-clause-kept c =
    let was = c.self.inside.table in
    let free : is_kept c.args.self.now c.args.link ≡ false = sym c.has.ensures ∙ c.if-has.false in
    let free_inside : is_kept (values_of was.entries) c.args.link ≡ false = ap (λ kept. is_kept kept c.args.link) c.self.view_is ∙ free in
    let same : string_bytes c.in_ok-name.name ≡ c.args.link.name = c.in_ok-name.ensures.ok ∙ c.as_str.ensures in
    ap values_of (c.in_ok-insert.ensures.entries ∙ inserted was c.in_ok-name.name c.args.link c.self.invariant.named same free_inside)
    ∙ links_of_pushed was.entries c.in_ok-name.name c.args.link
    ∙ ap (λ kept. kept ++ c.args.link ∷ []) c.self.view_is
    ∙ sym (with_new c.args.self.now c.args.link free)

use Rattle.std.proofs.Common.{◌≡◌, ◌∙◌, refl, arith}
use Rattle.std.specs.BTreeMap.{is_at}
use Rattle.std.specs.Ordering.{nat_cmp}
use Rattle.confirm_core.specs.Openings.{without_number}
use Rattle.confirm_core.proofs.OpeningLemmas.{Ascends-from_sorted, removed-is, has-ready-without, count-removed-le}
use Rattle.confirm_core.proofs.openings.Openings.remove.Goals as goal

pub returns : goal.returns
returns c =
    let is : c.remove.new.self.entries ≡ without_number c.args.number c.self.inside.publications.entries = c.remove.ensures.entries ∙ removed-is c.args.number c.args.opening c.self.inside.publications.entries (Ascends-from_sorted _ c.self.invariant.0) (rw c.self.view_is c.requires) in
    rw c.self.view_is at is

pub invariant_of-self : goal.invariant_of-self
invariant_of-self c =
    let es = c.self.inside.publications.entries in
    let is : c.remove.new.self.entries ≡ without_number c.args.number es = c.remove.ensures.entries ∙ removed-is c.args.number c.args.opening es (Ascends-from_sorted _ c.self.invariant.0) (rw c.self.view_is c.requires) in (
      c.remove.ensures.ordered,
      c.remove-2.ensures.rises,
      λ n. c.remove-2.ensures.members n ∙ rw (is, has-ready-without n c.args.number es, c.self.invariant.2 n) refl,
      rw c.remove.ensures.entries (omega (arith, c.self.invariant.3, count-removed-le (is_at (nat_cmp c.args.opening)) es, c.remove-2.ensures.len, c.remove-2.ensures.capacity)),
    )

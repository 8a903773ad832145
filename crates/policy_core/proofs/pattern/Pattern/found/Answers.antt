-- The matcher searches for what the pattern was compiled to, which is what the grammar reads in its text.
use Rattle.std.proofs.Common.{◌∙◌, ◌<◌, ℕ, ap, arith}
use Rattle.std.specs.Prelude.{is_some}
use Rattle.std.proofs.lemmas.List.Elements.{All-from_get_or}
use Rattle.regex_hir.specs.Find.{find_str}
use Rattle.policy_core.proofs.FoundLemmas.{found_by_text}
use Rattle.policy_core.proofs.pattern.Pattern.found.Goals as goal

pub returns : goal.returns
returns c =
    let bytes = All-from_get_or (λ (x : ℕ). x < 256) c.args.name.now 0 (λ i within. omega (arith, c.type_inv.name i)) in
    c.is_match.ensures.found
    ∙ ap (λ tree. is_some (find_str tree c.args.name.now 0)) c.in_ok-matcher.ensures.pattern
    ∙ found_by_text c.self.inside.regex c.args.self.now c.args.name.now c.self.view_is c.self.invariant.0
    c.self.invariant.1 bytes

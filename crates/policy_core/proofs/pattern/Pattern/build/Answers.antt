-- What was compiled is a pattern, and an error of syntax is of a text that is none or nests too deep.
use Rattle.std.proofs.Common.{subst}
use Rattle.regex_syntax.specs.Verdict.{default_config}
use Rattle.regex.specs.Failures.{IsRightKind}
use Rattle.policy_core.proofs.FoundLemmas.{not_refused, refusal}
use Rattle.policy_core.proofs.pattern.Pattern.build.Goals as goal

pub returns-in-Ok-clause-refused : goal.returns-in-Ok-clause-refused
returns-in-Ok-clause-refused c = λ refused.
    absurd (not_refused c.in-Ok.regex c.args.text.now c.in-Ok.ensures.source c.in-Ok.ensures.config c.in-Ok.ensures.read
    refused)

pub returns-in-Err-Syntax-clause-bad : goal.returns-in-Err-Syntax-clause-bad
returns-in-Err-Syntax-clause-bad c = λ _.
    let arm = c.in-Err-Syntax in
    refusal c.args.text.now arm.field-0-0.kind
    (subst (IsRightKind default_config c.args.text.now) arm.field-0-is arm.ensures.kind)
    (arm.ensures.by_grammar arm.field-0-0 arm.field-0-is)

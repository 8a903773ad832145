use Rattle.confirm_core.proofs.NumberLemmas.{found, missed, has-insert, has-found, Ascends-insert}
use Rattle.confirm_core.proofs.numbers.add.Goals as goal

pub returns-in_default-clause-members : goal.returns-in_default-clause-members
returns-in_default-clause-members c =
    let at = found c.args.numbers.now.items c.args.number c.in_default.field-0 c.requires.rises c.in_default.ensures.position in
    λ n. has-found n c.args.numbers.now.items c.in_default.field-0 c.args.number at.0 at.1

pub returns-clause-rises : goal.returns-clause-rises
returns-clause-rises c =
    let at = missed c.args.numbers.now.items c.args.number c.in-Err.place c.requires.rises c.in-Err.ensures.position in
    rw c.in-Ok.ensures.items (Ascends-insert _ _ _ c.requires.rises at.0 at.1 at.2)

pub returns-clause-members : goal.returns-clause-members
returns-clause-members c = λ n. rw c.in-Ok.ensures.items (has-insert n c.args.numbers.now.items c.in-Err.place c.args.number)

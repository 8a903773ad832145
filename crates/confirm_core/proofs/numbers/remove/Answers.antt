use Rattle.confirm_core.proofs.NumberLemmas.{found, missed, has-remove, has-missed, Ascends-remove}
use Rattle.confirm_core.proofs.numbers.remove.Goals as goal

pub returns-in-Ok-clause-rises : goal.returns-in-Ok-clause-rises
returns-in-Ok-clause-rises c =
    let is = c.remove.ensures.succeeds 0 c.in-Ok.ensures.bound in
    let items = rw is at c.remove.ensures.items in
    rw items (Ascends-remove c.args.numbers.now.items c.in-Ok.place c.requires)

pub returns-in-Ok-clause-members : goal.returns-in-Ok-clause-members
returns-in-Ok-clause-members c =
    let is = c.remove.ensures.succeeds 0 c.in-Ok.ensures.bound in
    let items = rw is at c.remove.ensures.items in
    let at = found c.args.numbers.now.items c.args.number c.in-Ok.place c.requires c.in-Ok.ensures.position in
    λ n. rw items (has-remove n c.args.numbers.now.items c.in-Ok.place c.args.number c.requires at.0 at.1)

pub returns-in_default-clause-members : goal.returns-in_default-clause-members
returns-in_default-clause-members c =
    let at = missed c.args.numbers.now.items c.args.number c.in_default.field-0 c.requires c.in_default.ensures.position in
    λ n. has-missed n c.args.numbers.now.items c.in_default.field-0 c.args.number at.1 at.2

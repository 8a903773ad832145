-- One more item is in the share of its virtual host.
use Rattle.std.proofs.Common.{ap, ◌∙◌}
use Rattle.defs_lists.specs.PlacedItems.{given}
use Rattle.defs_lists.proofs.PlacedLemmas.{given_each}
use Rattle.defs_lists.proofs.placed.distribute.Goals as goal

pub loop-p-preserved : goal.loop-p-preserved
loop-p-preserved g c =
    c.in_ok-give.ensures.given ∙ ap (given c.in-Some.p c.args.vhosts.now) c.loop-p.invariant
    ∙ given_each c.args.vhosts.now c.loop-p.yielded c.in-Some.p c.requires.hosts c.requires.distinct

-- The choices so far and those of what is left are those of all.
use Rattle.std.proofs.Common.{◌≡◌, ◌++◌, drop}
use Rattle.std.specs.Prelude.{filter_map}
use Rattle.fed_defs.specs.Choices.{member_choice}
use Rattle.upstream_sets.proofs.choices.member_choices.Given as goal

abbrev pub invariant-loop-member : goal.invariant-loop-member
invariant-loop-member l =
    l.list.items ++ filter_map (member_choice l.scope.config.now l.scope.owner.now l.scope.vhost.now) (drop l.member-index l.member-items)
    ≡ filter_map (member_choice l.scope.config.now l.scope.owner.now l.scope.vhost.now) l.member-items

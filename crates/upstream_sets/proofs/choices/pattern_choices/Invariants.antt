-- The choices so far and those of what is left are those of all.
use Rattle.std.proofs.Common.{◌≡◌, ◌++◌, drop}
use Rattle.std.specs.Prelude.{filter_map}
use Rattle.fed_defs.specs.Choices.{pattern_choice}
use Rattle.upstream_sets.proofs.choices.pattern_choices.Given as goal

abbrev pub invariant-loop-parameter : goal.invariant-loop-parameter
invariant-loop-parameter l =
    l.list.items ++ filter_map (pattern_choice l.scope.config.now l.scope.owner.now l.pattern) (drop l.parameter-index l.parameter-items)
    ≡ filter_map (pattern_choice l.scope.config.now l.scope.owner.now l.pattern) l.parameter-items

-- What the table finds so far, or what is left has, is what the parameters have.
use Rattle.std.proofs.Common.{◌≡◌, List, ℕ, drop}
use Rattle.std.specs.Map.{lookup}
use Rattle.std.specs.Option.{option_or}
use Rattle.std.specs.Str.{bytes_eq}
use Rattle.upstream_sets.specs.Tables.{named}
use Rattle.upstream_sets.proofs.table.table_of.Given as goal

abbrev pub invariant-loop-parameter : goal.invariant-loop-parameter
invariant-loop-parameter l =
    (name : List ℕ) → option_or (lookup (bytes_eq name) l.table) (named l.component name (drop l.parameter-index l.parameters)) ≡ named l.component name l.parameters

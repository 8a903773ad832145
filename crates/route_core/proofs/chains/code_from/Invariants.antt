use Rattle.std.proofs.Common.{◌≡◌, drop}
use Rattle.route_core.specs.Chains.{code_from}
use Rattle.route_core.proofs.chains.code_from.Given as goal

abbrev pub invariant-loop-octet : goal.invariant-loop-octet
invariant-loop-octet l = code_from l.code (drop l.octet-index l.text) ≡ code_from l.start l.text

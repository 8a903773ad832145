use Rattle.std.proofs.Common.{◌∙◌, arith}
use Rattle.hop_headers.proofs.PropagationLemmas.{first_is, first_none}
use Rattle.hop_headers.proofs.propagation.first_hops.Goals as goal

pub returns-in-empty : goal.returns-in-empty
returns-in-empty c = first_none c.args.values.now (omega arith)

pub returns-in-len1-up : goal.returns-in-len1-up
returns-in-len1-up c = c.hops_of.ensures ∙ first_is c.args.values.now c.first-item.result c.requires (omega arith) c.first-item.is

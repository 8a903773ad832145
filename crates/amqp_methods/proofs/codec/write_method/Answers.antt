use Rattle.std.specs.Prelude.{OnOk}
use Rattle.std.proofs.Common.{Result, Ok, Err}
use Rattle.amqp_methods.specs.Methods.{IsCall, SpellsCall, FitArguments, call_spelling}
use Rattle.amqp_methods.specs.View.{call_of}
use Rattle.amqp_methods.specs.declared.method.Method.{Method}
use Rattle.amqp_methods.proofs.CallLemmas.{written_spells_call}
use Rattle.amqp_methods.proofs.MethodLemmas.{call_is}
use Rattle.amqp_methods.proofs.codec.write_method.Goals as goal

is_spelled : {A B : Type 0} (result : Result A B) (m : Method) → FitArguments (call_of m) → OnOk result (IsCall (call_of m) × SpellsCall (call_of m) (call_spelling (call_of m)))
is_spelled (Ok done) m fit = (call_is m fit, written_spells_call (call_of m) (call_is m fit))
is_spelled (Err e) m fit = tt

pub returns-then-is_err-clause-spells : goal.returns-then-is_err-clause-spells
returns-then-is_err-clause-spells c = is_spelled c.put_method-written.result c.args.method.now c.requires

pub returns-else-is_err-clause-spells : goal.returns-else-is_err-clause-spells
returns-else-is_err-clause-spells c = is_spelled c.put_method-written.result c.args.method.now c.requires

use Rattle.std.proofs.Common.{refl}
use Rattle.amqp_methods.proofs.TableLemmas.{once_from_test}
use Rattle.amqp_methods.proofs.laws.rows_are_once.Goals as goal

pub returns-clause-fact : goal.returns-clause-fact
returns-clause-fact c = once_from_test _ refl

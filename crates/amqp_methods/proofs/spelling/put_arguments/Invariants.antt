use Rattle.std.proofs.Common.{◌≡◌, ◌++◌, take}
use Rattle.amqp_methods.specs.Arguments.{arguments_spelling}
use Rattle.amqp_methods.specs.Lent.{argument_views}
use Rattle.amqp_methods.proofs.spelling.put_arguments.Given as goal

abbrev pub invariant-loop-argument : goal.invariant-loop-argument
invariant-loop-argument l = l.out.items ≡ l.fn.out.items ++ arguments_spelling (argument_views (take l.argument-index l.arguments))

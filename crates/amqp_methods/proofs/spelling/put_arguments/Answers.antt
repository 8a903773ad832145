use Rattle.std.proofs.Common.{◌≡◌, ℕ, zero, suc, ◌<◌, List, [], ◌∷◌, length, take, get_or, arith}
use Rattle.field_tables.proofs.Kept.{kept_appended, kept_on}
use Rattle.std.specs.List.{AllByRecursion}
use Rattle.amqp_methods.specs.Arguments.{HasSpelling}
use Rattle.amqp_methods.specs.Lent.{argument_view, argument_views}
use Rattle.amqp_methods.specs.declared.spelling.Argument.{Argument}
use Rattle.amqp_methods.proofs.spelling.put_arguments.Goals as goal

fits_at : (xs : List Argument) (i : ℕ) (d : Argument) → i < length xs → AllByRecursion HasSpelling (argument_views xs) → HasSpelling (argument_view (get_or xs i d))
fits_at [] i d lt fit = absurd (omega arith)
fits_at (x ∷ xs) zero d lt fit = fit.0
fits_at (x ∷ xs) (suc i) d lt fit = fits_at xs i d (omega arith) fit.1

pub put_argument-requires : goal.put_argument-requires
put_argument-requires c = rw c.argument-item.is (fits_at c.args.arguments.now c.loop-argument.argument-index _ c.loop-argument-test.true c.requires)

pub returns-in_err-put_argument : goal.returns-in_err-put_argument
returns-in_err-put_argument c =
    let front = kept_appended c.args.out.now.items _ c.loop-argument.out.items c.loop-argument.invariant in
    let all : take (length c.args.out.now.items) c.put_argument.new.out.items ≡ c.args.out.now.items = kept_on _ _ _ front c.in_err-put_argument.ensures in
    grind (arith, all, c.from_residual.ensures)

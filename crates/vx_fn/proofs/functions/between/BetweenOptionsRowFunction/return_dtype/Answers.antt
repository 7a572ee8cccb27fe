use Rattle.std.proofs.Common.{rules, sym}
use Rattle.vx_value.specs.View.{type_of}
use Rattle.vx_fn.proofs.BetweenLemmas.{none_of_few, none_of_many}
use Rattle.vx_fn.proofs.functions.between.BetweenOptionsRowFunction.return_dtype.Goals as goal
use Rattle.vx_fn.proofs.functions.between.BetweenOptionsRowFunction.return_dtype.Goals.{in_default-via-then-arguments-lt3}
use Rattle.vx_fn.proofs.functions.between.BetweenOptionsRowFunction.return_dtype.Goals.{in_default-via-else-arguments-lt3+else-arguments-lt4}

pub returns-in_default-clause-ok : goal.returns-in_default-clause-ok
returns-in_default-clause-ok c =
    let xs = c.args.arguments.now in
    elim c.in_default.branch [
      | in_default-via-then-arguments-lt3 w ↦ sym (none_of_few type_of xs (search rules))
      | in_default-via-else-arguments-lt3+else-arguments-lt4 w ↦ sym (none_of_many type_of xs (search rules))
    ]

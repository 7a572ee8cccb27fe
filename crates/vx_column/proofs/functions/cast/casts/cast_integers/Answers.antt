use Rattle.std.proofs.lemmas.Result.{IfOk-weaker, IfErr-weaker}
use Rattle.vx_value.specs.Casts.{to_integer}
use Rattle.vx_value.specs.Values.{integer}
use Rattle.vx_tree.specs.Natives.{values_of}
use Rattle.vx_tree.specs.Canonicals.{canonical_tree}
use Rattle.vx_column.specs.Arguments.{integer_in}
use Rattle.vx_column.proofs.CastsLemmas.{rows_cast, rows_not_cast}
use Rattle.vx_column.proofs.functions.cast.casts.cast_integers.Goals as goal

pub returns-clause-ok : goal.returns-clause-ok
returns-clause-ok c =
    IfOk-weaker c.convert.result _ _
    (λ u made. (
      made.0,
      rows_cast (λ z. to_integer c.args.target (integer z)) (integer_in c.args.integers) (values_of c.in_ok-values.values) c.args.valid.now c.args.len
          c.in_ok-values.ensures.values (canonical_tree u) made.1,
    ))
    c.convert.ensures.ok

pub returns-clause-err : goal.returns-clause-err
returns-clause-err c =
    IfErr-weaker c.convert.result _ _
    (rows_not_cast (λ z. to_integer c.args.target (integer z)) (integer_in c.args.integers) (values_of c.in_ok-values.values) c.args.valid.now c.args.len
    c.in_ok-values.ensures.values)
    c.convert.ensures.err

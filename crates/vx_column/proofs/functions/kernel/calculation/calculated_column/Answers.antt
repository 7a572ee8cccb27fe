use Rattle.std.proofs.Common.{map, pos, ap, subst, ◌≡◌, ◌∙◌}
use Rattle.std.proofs.lemmas.Result.{IfOk-weaker}
use Rattle.vx_value.specs.Types.{primitive}
use Rattle.vx_value.specs.Values.{integer}
use Rattle.vx_value.specs.Cell.{value}
use Rattle.vx_tree.specs.Natives.{values_of}
use Rattle.vx_tree.specs.Canonicals.{canonical_tree}
use Rattle.vx_column.specs.ValidRows.{is_valid, nullability_in}
use Rattle.vx_column.specs.Operands.{calculated_rows}
use Rattle.vx_column.proofs.ComputedLemmas.{calculated_long, calculated_made}
use Rattle.vx_column.proofs.functions.kernel.calculation.calculated_column.Goals as goal

pub valid_integers-requires-clause-values : goal.valid_integers-requires-clause-values
valid_integers-requires-clause-values g c =
    calculated_long g.U.Number.value (g.C.Calculation.stands_for c.args.calculation.now) c.args.valid.now (g.C.Calculation.cell c.args.calculation.now)
    c.args.len c.in_ok-numbers.numbers.items (values_of c.wrap-values.result)
    (c.wrap-values.ensures.values ∙ ap (map g.U.Number.value) c.in_ok-from_vec.ensures) c.in_ok-numbers.ensures.ok

pub returns-clause-ok : goal.returns-clause-ok
returns-clause-ok g c =
    IfOk-weaker c.valid_integers.result _ _
    (λ u made. (
      made.0 ∙ ap (λ p. primitive p (nullability_in c.args.valid.now)) c.wrap-values.ensures.same_kind,
      calculated_made g.U.Number.value integer c.args.valid.now (g.C.Calculation.cell c.args.calculation.now) c.args.len
          c.in_ok-numbers.numbers.items (values_of c.wrap-values.result)
          (c.wrap-values.ensures.values ∙ ap (map g.U.Number.value) c.in_ok-from_vec.ensures)
          (subst (λ f. map (λ x. value (f (g.U.Number.value x))) c.in_ok-numbers.numbers.items
          ≡ calculated_rows (f (pos 0)) (is_valid c.args.valid.now) (g.C.Calculation.cell c.args.calculation.now) c.args.len)
          c.are_integers.ensures c.in_ok-numbers.ensures.ok)
          (canonical_tree u) made.1,
    ))
    c.valid_integers.ensures.ok

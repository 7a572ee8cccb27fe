use Rattle.std.proofs.Common.{◌≡◌, map, pos, sym, ap, subst, ◌∙◌, true}
use Rattle.std.proofs.lemmas.Result.{IfOk-weaker}
use Rattle.vx_value.specs.Values.{decimal}
use Rattle.vx_value.specs.Cell.{value}
use Rattle.vx_tree.specs.DecimalNumbers.{numbers_of, decimal_type_of}
use Rattle.vx_tree.specs.ColumnTypes.{are_decimals_of}
use Rattle.vx_tree.specs.Canonicals.{canonical_tree}
use Rattle.vx_column.specs.Arguments.{stored_decimals}
use Rattle.vx_column.specs.ValidRows.{is_valid}
use Rattle.vx_column.specs.Operands.{calculated_rows, IsDecimalColumnOf}
use Rattle.vx_column.proofs.ComputedLemmas.{calculated_long, calculated_made}
use Rattle.vx_column.proofs.UnscaledLemmas.{digits_stored}
use Rattle.vx_column.proofs.functions.kernel.calculation.calculated_decimals.Goals as goal

pub valid_decimals-requires-clause-values : goal.valid_decimals-requires-clause-values
valid_decimals-requires-clause-values g c =
    calculated_long g.U.Number.value (g.C.Calculation.stands_for c.args.calculation.now) c.args.valid.now (g.C.Calculation.cell c.args.calculation.now)
    c.args.len c.in_ok-numbers.numbers.items (numbers_of c.wrap_decimals-values.result)
    (c.wrap_decimals-values.ensures.values ∙ ap (map g.U.Number.value) c.in_ok-from_vec.ensures) c.in_ok-numbers.ensures.ok

pub valid_decimals-requires-clause-stored : goal.valid_decimals-requires-clause-stored
valid_decimals-requires-clause-stored g c =
    let d = g.C.DecimalCalculation.of_type c.args.calculation.now in
    subst (λ e. are_decimals_of (stored_decimals e) (decimal_type_of c.wrap_decimals-values.result) (numbers_of c.wrap_decimals-values.result) ≡ true)
    (sym c.decimal-decimal.ensures.value)
    (digits_stored g.U.Number.value d c.args.valid.now (g.C.Calculation.cell c.args.calculation.now) c.args.len c.in_ok-numbers.numbers.items
    (numbers_of c.wrap_decimals-values.result)
    (c.wrap_decimals-values.ensures.values ∙ ap (map g.U.Number.value) c.in_ok-from_vec.ensures)
    (subst (λ f. map (λ x. value (f (g.U.Number.value x))) c.in_ok-numbers.numbers.items
    ≡ calculated_rows (f (pos 0)) (is_valid c.args.valid.now) (g.C.Calculation.cell c.args.calculation.now) c.args.len)
    c.decimal-decimal.ensures.numbers c.in_ok-numbers.ensures.ok)
    c.decimal-decimal.ensures.digits (decimal_type_of c.wrap_decimals-values.result) (c.wrap_decimals-values.ensures.same_kind ∙ c.requires.kind))

pub returns-clause-ok : goal.returns-clause-ok
returns-clause-ok g c =
    IfOk-weaker c.valid_decimals.result _ _
    (λ u made. subst (λ d. IsDecimalColumnOf d c.args.valid.now (g.C.Calculation.cell c.args.calculation.now) c.args.len (canonical_tree u))
    c.decimal-decimal.ensures.value (
      made.0,
      calculated_made g.U.Number.value (λ z. decimal z c.decimal-decimal.result.scale) c.args.valid.now (g.C.Calculation.cell c.args.calculation.now) c.args.len
          c.in_ok-numbers.numbers.items (numbers_of c.wrap_decimals-values.result)
          (c.wrap_decimals-values.ensures.values ∙ ap (map g.U.Number.value) c.in_ok-from_vec.ensures)
          (subst (λ f. map (λ x. value (f (g.U.Number.value x))) c.in_ok-numbers.numbers.items
          ≡ calculated_rows (f (pos 0)) (is_valid c.args.valid.now) (g.C.Calculation.cell c.args.calculation.now) c.args.len)
          (c.decimal-decimal.ensures.numbers ∙ ap (λ d z. decimal z d.scale) (sym c.decimal-decimal.ensures.value)) c.in_ok-numbers.ensures.ok)
          (canonical_tree u) made.1,
    ))
    c.valid_decimals.ensures.ok

use Rattle.std.proofs.Common.{◌≡◌, ℤ, FitsSigned, Some, true, sym, ap, subst, ◌∙◌, rules}
use Rattle.std.proofs.Math.Facts.{to_z-of_z}
use Rattle.std.specs.Int.{w128}
use Rattle.std.specs.Cmp.{second_so}
use Rattle.std.specs.Prelude.{option_map}
use Rattle.std.proofs.lemmas.Option.{slice_get-map}
use Rattle.vx_value.specs.Cell.{Cell, value}
use Rattle.vx_value.specs.Decimals.{has_digits}
use Rattle.vx_value.specs.Storage.{storage_of}
use Rattle.vx_value.specs.Values.{decimal}
use Rattle.vx_value.specs.View.{type_of}
use Rattle.vx_tree.specs.DecimalNumbers.{numbers_of, decimal_type_of}
use Rattle.vx_tree.specs.Tree.{dtype}
use Rattle.vx_tree.specs.ColumnTypes.{are_decimals_of, scale_of}
use Rattle.vx_column.proofs.CellsLemmas.{passes_at}
use Rattle.vx_column.proofs.rows.probe.decimal_at.Goals as goal

pub decimal-requires : goal.decimal-requires
decimal-requires c =
    let fits : FitsSigned w128 c.wide_at.result = search rules in
    let zs = numbers_of c.args.values.now in
    let p = c.in-Decimal.decimal.precision in
    let is = sym c.dtype.ensures.dtype ∙ ap type_of c.in-Decimal.is in
    let typed = subst (λ ty. are_decimals_of (storage_of ty) (decimal_type_of c.args.values.now) zs ≡ true) is c.requires.typed in
    ap (has_digits p) (to_z-of_z fits) ∙ passes_at (has_digits p) zs c.args.index c.wide_at.result (second_so _ _ typed) c.wide_at.ensures.value

pub returns-clause-row : goal.returns-clause-row
returns-clause-row c =
    let fits : FitsSigned w128 c.wide_at.result = search rules in
    let zs = numbers_of c.args.values.now in
    let cell : ℤ → Cell = λ z. value (decimal z (scale_of (storage_of (dtype c.args.array.now)))) in
    let is = sym c.dtype.ensures.dtype ∙ ap type_of c.in-Decimal.is in
    rw c.decimal.ensures
    (slice_get-map cell zs c.args.index ∙ ap (option_map cell) c.wide_at.ensures.value
    ∙ ap (λ ty. Some (value (decimal c.wide_at.result (scale_of (storage_of ty))))) is
    ∙ ap (λ z. Some (value (decimal z c.in-Decimal.decimal.scale))) (sym (to_z-of_z fits)))

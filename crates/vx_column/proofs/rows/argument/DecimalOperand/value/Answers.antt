use Rattle.std.proofs.Common.{FitsSigned, pos, sym, ap, subst, ◌∙◌, arith, rules}
use Rattle.std.proofs.lemmas.Option.{get_or_from_slice_get}
use Rattle.std.proofs.Math.Facts.{to_z-of_z}
use Rattle.std.specs.Int.{w128}
use Rattle.std.specs.Cmp.{second_so}
use Rattle.vx_value.specs.Decimals.{has_digits}
use Rattle.vx_tree.specs.DecimalNumbers.{numbers_of}
use Rattle.vx_column.specs.Arguments.{HasDecimals, unscaled_at}
use Rattle.vx_column.proofs.CellsLemmas.{passes_at}
use Rattle.vx_column.proofs.rows.argument.DecimalOperand.value.Goals as goal

pub returns-in-Rows-clause-digits : goal.returns-in-Rows-clause-digits
returns-in-Rows-clause-digits c =
    let fits : FitsSigned w128 c.wide_at.result = search rules in
    let decimal = c.args.self.decimal in
    let stored = subst (λ rows. HasDecimals decimal rows c.requires.0) c.in-Rows.is c.requires.2 in
    ap (has_digits decimal.precision) (to_z-of_z fits)
    ∙ passes_at (has_digits decimal.precision) (numbers_of c.in-Rows.values.now) c.args.index c.wide_at.result (second_so _ _ stored.1) c.wide_at.ensures.value

pub wide_at-requires : goal.wide_at-requires
wide_at-requires c =
    let stored = subst (λ rows. HasDecimals c.args.self.decimal rows c.requires.0) c.in-Rows.is c.requires.2 in
    omega (arith, stored.0, c.requires.1)

pub returns-in-Rows-clause-value : goal.returns-in-Rows-clause-value
returns-in-Rows-clause-value c =
    let fits : FitsSigned w128 c.wide_at.result = search rules in
    to_z-of_z fits ∙ sym (get_or_from_slice_get (numbers_of c.in-Rows.values.now) c.args.index c.wide_at.result (pos 0) c.wide_at.ensures.value)
    ∙ ap (λ rows. unscaled_at rows c.args.index) (sym c.in-Rows.is)

pub returns-in-Value-clause-value : goal.returns-in-Value-clause-value
returns-in-Value-clause-value c =
    let fits : FitsSigned w128 c.in-Value.unscaled = search rules in
    to_z-of_z fits ∙ ap (λ rows. unscaled_at rows c.args.index) (sym c.in-Value.is)

use Rattle.std.proofs.Common.{◌≡◌, IfErr, map, pos, refl, subst}
use Rattle.std.proofs.lemmas.Result.{IfOk-weaker}
use Rattle.vx_value.specs.Values.{integer}
use Rattle.vx_value.specs.Cell.{value}
use Rattle.vx_column.specs.Arguments.{integer_in}
use Rattle.vx_column.specs.LookedUp.{place_cell}
use Rattle.vx_column.specs.Operands.{calculated_rows, IsFaultyRow}
use Rattle.vx_column.specs.ValidRows.{is_valid}
use Rattle.vx_column.specs.declared.rows.argument.ArgumentRows.TheVariants.{Integers}
use Rattle.vx_column.proofs.LookedUpLemmas.{places_named}
use Rattle.vx_column.proofs.lookup.places.places_in.Goals as goal

pub returns-clause-ok : goal.returns-clause-ok
returns-clause-ok g c =
    let valid = c.args.valid.now in
    let bound = c.args.bound in
    let n = c.args.len in
    IfOk-weaker c.calculate_rows.result _ _
    (λ v made. places_named (Integers c.args.codes) (integer_in c.args.codes) valid bound n v.items (λ i. refl)
    (subst (λ z. map (λ x. value (integer (pos x))) v.items ≡ calculated_rows (integer (pos 0)) (is_valid valid) (λ i. place_cell bound (integer (z i))) n)
    c.operand_of-codes.ensures.numbers made))
    c.calculate_rows.ensures.ok

pub returns-clause-err : goal.returns-clause-err
returns-clause-err g c =
    subst (λ z. IfErr c.calculate_rows.result (IsFaultyRow (is_valid c.args.valid.now) (λ i. place_cell c.args.bound (integer (z i))) c.args.len))
    c.operand_of-codes.ensures.numbers c.calculate_rows.ensures.err

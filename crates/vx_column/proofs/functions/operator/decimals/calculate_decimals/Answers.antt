use Rattle.std.proofs.lemmas.Result.{IfOk-weaker, IfErr-weaker}
use Rattle.vx_tree.specs.Canonicals.{canonical_tree}
use Rattle.vx_column.specs.Operands.{number_in}
use Rattle.vx_column.proofs.OperandsLemmas.{decimals_filled, decimals_not_filled}
use Rattle.vx_column.proofs.functions.operator.decimals.calculate_decimals.Goals as goal

pub returns-clause-ok : goal.returns-clause-ok
returns-clause-ok g c =
    IfOk-weaker c.calculated_decimals.result _ _
    (λ t. decimals_filled g.A.Arithmetic.operator c.args.lhs c.args.rhs c.args.valid.now c.args.len c.requires.operator c.requires.operands.taken
    (number_in g.T.Number.value c.decimal_operand_of.result) (number_in g.T.Number.value c.decimal_operand_of-2.result) c.decimal_operand_of.ensures.numbers
    c.decimal_operand_of-2.ensures.numbers (canonical_tree t)) c.calculated_decimals.ensures.ok

pub returns-clause-err : goal.returns-clause-err
returns-clause-err g c =
    IfErr-weaker c.calculated_decimals.result _ _
    (decimals_not_filled g.A.Arithmetic.operator c.args.lhs c.args.rhs c.args.valid.now c.args.len c.requires.operator c.requires.operands.taken
    (number_in g.T.Number.value c.decimal_operand_of.result) (number_in g.T.Number.value c.decimal_operand_of-2.result) c.decimal_operand_of.ensures.numbers
    c.decimal_operand_of-2.ensures.numbers) c.calculated_decimals.ensures.err

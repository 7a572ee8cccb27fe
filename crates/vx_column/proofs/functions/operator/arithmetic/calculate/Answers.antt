use Rattle.std.proofs.Common.{sym}
use Rattle.std.proofs.lemmas.Result.{IfOk-weaker, IfErr-weaker}
use Rattle.vx_tree.specs.Canonicals.{canonical_tree}
use Rattle.vx_column.specs.Operands.{number_in}
use Rattle.vx_column.proofs.OperandsLemmas.{operation_filled, operation_not_filled}
use Rattle.vx_column.proofs.functions.operator.arithmetic.calculate.Goals as goal

pub returns-clause-ok : goal.returns-clause-ok
returns-clause-ok g c =
    IfOk-weaker c.calculated_column.result _ _
    (λ t. operation_filled g.A.Arithmetic.operator g.T.NativeInteger.kind c.args.lhs c.args.rhs c.args.valid.now c.args.len c.requires.operator
    (sym c.requires.kind) c.requires.operands.taken (number_in g.T.Number.value c.operand_of.result) (number_in g.T.Number.value c.operand_of-2.result)
    c.operand_of.ensures.numbers c.operand_of-2.ensures.numbers (canonical_tree t)) c.calculated_column.ensures.ok

pub returns-clause-err : goal.returns-clause-err
returns-clause-err g c =
    IfErr-weaker c.calculated_column.result _ _
    (operation_not_filled g.A.Arithmetic.operator g.T.NativeInteger.kind c.args.lhs c.args.rhs c.args.valid.now c.args.len c.requires.operator
    (sym c.requires.kind) c.requires.operands.taken (number_in g.T.Number.value c.operand_of.result) (number_in g.T.Number.value c.operand_of-2.result)
    c.operand_of.ensures.numbers c.operand_of-2.ensures.numbers) c.calculated_column.ensures.err

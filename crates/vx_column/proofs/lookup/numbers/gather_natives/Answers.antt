use Rattle.std.proofs.lemmas.Result.{IfOk-weaker}
use Rattle.vx_tree.specs.Canonicals.{canonical_tree}
use Rattle.vx_column.specs.Arguments.{integer_in, ptype_in}
use Rattle.vx_column.specs.Operands.{number_in}
use Rattle.vx_column.proofs.GatheredLemmas.{integers_gathered}
use Rattle.vx_column.proofs.lookup.numbers.gather_natives.Goals as goal

pub returns-clause-ok : goal.returns-clause-ok
returns-clause-ok g c =
    let zs = c.args.integers in
    IfOk-weaker c.calculated_column.result _ _
    (λ u. integers_gathered g.T.NativeInteger.kind (ptype_in zs) (number_in g.T.Number.value c.operand_of-values.result) (integer_in zs)
    c.args.places.now c.args.valid.now c.args.len (canonical_tree u) c.operand_of-values.ensures.numbers c.requires.integers.1.0)
    c.calculated_column.ensures.ok

use Rattle.vx_tree.proofs.KindsLemmas.{kind_validity}
use Rattle.vx_tree.proofs.arrays.scalar_fn_validity.ScalarFnValidityEncodingKind.kind.Goals as goal

pub returns : goal.returns
returns c = kind_validity c.args.node.now c.requires.well c.index.result.now c.present.result.now c.requires.data c.index.ensures c.present.ensures

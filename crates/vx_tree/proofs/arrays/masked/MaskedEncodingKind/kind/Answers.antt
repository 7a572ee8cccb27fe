use Rattle.vx_tree.proofs.KindsLemmas.{kind_masked}
use Rattle.vx_tree.proofs.arrays.masked.MaskedEncodingKind.kind.Goals as goal

pub returns : goal.returns
returns c =
    let child = c.index.result.now in
    let validity = c.index-2.result.now in
    kind_masked c.args.node.now c.requires.well child validity validity c.present.result.now c.requires.data c.index.ensures c.present.ensures c.index-2.ensures

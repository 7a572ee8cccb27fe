use Rattle.vx_tree.proofs.KindsLemmas.{kind_slice}
use Rattle.vx_tree.proofs.arrays.slice.SliceEncodingKind.kind.Goals as goal

pub returns : goal.returns
returns c =
    let range = c.args.payload.now.range in
    kind_slice c.args.node.now c.requires.well range.start range.end c.index.result.now c.present.result.now c.requires.data c.index.ensures c.present.ensures

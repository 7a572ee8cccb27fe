use Rattle.vx_mask.specs.Masks.{bits_in}
use Rattle.vx_tree.proofs.KindsLemmas.{kind_filter}
use Rattle.vx_tree.proofs.arrays.filter.FilterEncodingKind.kind.Goals as goal

pub returns : goal.returns
returns c =
    kind_filter c.args.node.now c.requires.well (bits_in c.args.payload.now.mask) c.index.result.now c.present.result.now c.requires.data c.index.ensures
    c.present.ensures

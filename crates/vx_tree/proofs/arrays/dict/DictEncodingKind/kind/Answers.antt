use Rattle.vx_tree.proofs.DictLemmas.{kind_dict}
use Rattle.vx_tree.proofs.arrays.dict.DictEncodingKind.kind.Goals as goal

pub returns : goal.returns
returns c =
    kind_dict c.args.node.now c.requires.well c.index.result.now c.index-2.result.now c.present.result.now c.present-2.result.now c.requires.data c.index.ensures
    c.present.ensures c.index-2.ensures c.present-2.ensures

use Rattle.std.proofs.lemmas.Result.{IfOk-weaker}
use Rattle.vx_rule.proofs.PushLemmas.{codes_pushed, dict_pushed}
use Rattle.vx_rule.proofs.push.dict_part.Goals as goal

pub dict_node-requires : goal.dict_node-requires
dict_node-requires c =
    codes_pushed c.args.range.start c.args.range.end c.args.array.now c.args.codes.now c.args.values.now c.requires.shape c.well_formed_tree.ensures.formed
    c.requires.within c.args.part c.requires.part

pub returns-clause-ok : goal.returns-clause-ok
returns-clause-ok c =
    IfOk-weaker c.dict_node.result _ _
    (dict_pushed c.args.range.start c.args.range.end c.args.array.now c.args.codes.now c.args.values.now c.requires.shape c.well_formed_tree.ensures.formed
    c.requires.within c.args.part c.in_ok-clone.field-0 c.requires.part c.in_ok-clone.ensures.cases)
    c.dict_node.ensures.ok

use Rattle.std.proofs.lemmas.Result.{IfOk-weaker}
use Rattle.vx_rule.proofs.PushLemmas.{masked_pushed, masked_well}
use Rattle.vx_rule.proofs.push.masked_part.Goals as goal

pub masked_node-requires : goal.masked_node-requires
masked_node-requires c =
    masked_well c.args.range.start c.args.range.end c.args.array.now c.args.child.now c.args.validity.now c.requires.shape c.well_formed_tree.ensures.formed
    c.requires.within c.args.part c.in_ok-validity.validity c.requires.part c.in_ok-validity.ensures.ok

pub returns-clause-ok : goal.returns-clause-ok
returns-clause-ok c =
    IfOk-weaker c.masked_node.result _ _
    (masked_pushed c.args.range.start c.args.range.end c.args.array.now c.args.child.now c.args.validity.now c.requires.shape c.well_formed_tree.ensures.formed
    c.requires.within c.args.part c.in_ok-validity.validity c.requires.part c.in_ok-validity.ensures.ok)
    c.masked_node.ensures.ok

use Rattle.std.proofs.Common.{rules, arith, ◌<◌, subst}
use Rattle.vx_tree.proofs.array.node.ArrayRef.TheLaws.TheTie.{below-Node, inner-Node}
use Rattle.vx_tree.proofs.+tree.Goals as goal

-- a node's slots are smaller than the node
pub vx_tree++array++node++Node+Destruct::drop-drop-requires-3 :
    goal.vx_tree++array++node++Node+Destruct::drop-drop-requires-3
vx_tree++array++node++Node+Destruct::drop-drop-requires-3 t c κs =
    let below : inner-Node c.args.arg1 < t = subst (λ n. inner-Node c.args.arg1 < n) c.decreases (below-Node c.args.arg1) in
    (((omega (arith, below), tt), tt), search rules)

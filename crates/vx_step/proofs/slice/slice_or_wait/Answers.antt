use Rattle.std.proofs.Common.{◌≡◌, true, rules}
use Rattle.vx_tree.specs.Tree.{datum, is_canonical}
use Rattle.vx_step.proofs.StepsLemmas.{part_done}
use Rattle.vx_step.proofs.slice.slice_or_wait.Goals as goal

pub returns-clause-ok : goal.returns-clause-ok
returns-clause-ok c =
    let whole : is_canonical (datum c.args.child.now) ≡ true = search rules in
    part_done c.args.range.start c.args.range.end c.args.child.now c.args.array.now c.in_ok-part.part c.requires.shape whole c.well_formed_tree.ensures.formed
    c.in_ok-part.ensures.canonical c.in_ok-part.ensures.ok

pub returns-then-not-is-clause-ok : goal.returns-then-not-is-clause-ok
returns-then-not-is-clause-ok c = search rules

use Rattle.std.proofs.Common.{◌≡◌, ◌<◌, true, sym, ◌∙◌, ap, subst, arith}
use Rattle.std.proofs.lemmas.Grind.{common_steps}
use Rattle.vx_mask.specs.Masks.{bits_in, is_all_true}
use Rattle.vx_mask.specs.Places.{true_count}
use Rattle.vx_tree.specs.Columns.{empty_of}
use Rattle.vx_tree.specs.Canonicals.{canonical_tree}
use Rattle.vx_tree.specs.Tree.{filter_of}
use Rattle.vx_step.specs.Steps.{IsAnswer, IsDone}
use Rattle.vx_step.proofs.FilterLemmas.{nothing_done, whole_done}
use Rattle.vx_step.proofs.filter.filter_or_wait.Goals as goal

pub returns-then-true_count-eq0-clause-ok : goal.returns-then-true_count-eq0-clause-ok
returns-then-true_count-eq0-clause-ok c =
    let bits = bits_in c.args.mask.now in
    let none : true_count bits ≡ 0 = grind (arith, common_steps) in
    let empty = c.in_ok-empty.ensures.ok ∙ ap empty_of c.dtype.ensures.dtype in
    subst (IsAnswer (filter_of bits c.args.child.now)) (sym c.done.ensures.done)
    (nothing_done bits c.args.child.now c.requires c.well_formed_tree.ensures.counted
    (canonical_tree c.in_ok-empty.field-0) none empty c.done.ensures.known c.done.ensures.canonical)

pub returns-then-all_true-clause-ok : goal.returns-then-all_true-clause-ok
returns-then-all_true-clause-ok c =
    let bits = bits_in c.args.mask.now in
    let some : 0 < true_count bits = grind (arith, common_steps) in
    let all : is_all_true bits ≡ true = grind (arith, common_steps) in
    subst (IsDone (filter_of bits c.args.child.now)) (sym c.in_ok-clone.ensures.cases)
    (whole_done bits c.args.child.now c.requires c.well_formed_tree.ensures.counted some all)

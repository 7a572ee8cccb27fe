use Rattle.vx_mask.specs.Masks.{bits_in}
use Rattle.vx_rule.proofs.FiltersLemmas.{run_range}
use Rattle.vx_step.proofs.FilterLemmas.{run_done, filter_waits}
use Rattle.vx_step.proofs.filter.slice_or_wait.Goals as goal

pub push_slice-requires : goal.push_slice-requires
push_slice-requires c = run_range (bits_in c.args.mask.now) c.in-Some.range.start c.in-Some.range.end _ c.in-Some.ensures c.requires.within

pub returns-in-Some-clause-ok : goal.returns-in-Some-clause-ok
returns-in-Some-clause-ok c =
    let range = c.in-Some.range in
    run_done (bits_in c.args.mask.now) c.args.child c.requires.within c.well_formed_tree.ensures.counted range.start range.end
    c.in_ok-part-in-Some.part c.requires.not_all c.requires.unready c.in-Some.ensures c.in_ok-part-in-Some.ensures.ok c.in_ok-part-in-Some.ensures.cost

pub returns-clause-ok : goal.returns-clause-ok
returns-clause-ok c =
    filter_waits (bits_in c.args.mask.now) c.args.child c.requires.within c.well_formed_tree.ensures.counted c.requires.some c.requires.not_all
    c.requires.unready c.in-None.ensures

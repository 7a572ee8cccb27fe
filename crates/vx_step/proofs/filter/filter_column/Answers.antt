use Rattle.vx_mask.specs.Masks.{bits_in}
use Rattle.vx_rule.proofs.FiltersLemmas.{run_range}
use Rattle.vx_step.proofs.filter.filter_column.Goals as goal

pub slice_canonical-requires : goal.slice_canonical-requires
slice_canonical-requires c = run_range (bits_in c.args.mask.now) c.in-Some.range.start c.in-Some.range.end _ c.in-Some.ensures c.requires

use Rattle.std.proofs.Common.{◌≡◌, ap, sym, ◌∙◌}
use Rattle.vx_mask.specs.Masks.{bits_in}
use Rattle.vx_tree.specs.Tree.{len}
use Rattle.vx_rule.proofs.FiltersLemmas.{run_range}
use Rattle.vx_rule.proofs.encodings.filter.filter_of_run.Goals as goal

pub new-requires : goal.new-requires
new-requires c =
    let same : c.in_ok-clone.field-0 ≡ c.args.child.now = c.in_ok-clone.ensures.cases in
    run_range (bits_in c.args.mask.now) c.args.range.start c.args.range.end (len c.in_ok-clone.field-0) c.requires.run (c.requires.long ∙ ap len (sym same))

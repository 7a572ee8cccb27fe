use Rattle.std.proofs.Common.{ap, ap₂, ◌∙◌}
use Rattle.vx_tree.specs.Views.{viewed, viewed_range}
use Rattle.vx_tree.proofs.views.views.BinaryViews.slice.Goals as goal

pub returns-clause-ok : goal.returns-clause-ok
returns-clause-ok c =
    ap₂ viewed c.in_ok-slice.ensures c.in_ok-clone.ensures.cases ∙ ap (viewed_range c.args.range.start c.args.range.end) c.self.view_is

use Rattle.std.proofs.Common.{rules, arith, refl, sym, take}
use Rattle.std.proofs.lemmas.List.{take_all}
use Rattle.std.proofs.lemmas.List.Elements.{All-same, All-more}
use Rattle.vx_tree.specs.Views.{LiesIn}
use Rattle.vx_tree.proofs.views.view.all_lie_in.Goals as goal

pub loop-index-preserved : goal.loop-index-preserved
loop-index-preserved c =
    All-more (LiesIn c.args.buffers.now) c.args.views.now c.loop-index.index _ (omega arith) c.loop-index.invariant (c.lies_in.ensures.0 (search rules))

pub returns : goal.returns
returns c =
    let views = c.args.views.now in
    let i = c.loop-index.index in
    (λ _. All-same (LiesIn c.args.buffers.now) views (take i views) (sym (take_all i views (omega arith))) c.loop-index.invariant, λ _. refl)

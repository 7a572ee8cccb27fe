use Rattle.std.proofs.Common.{rules, ap, ◌∙◌}
use Rattle.vx_column.specs.LookedUp.{place_at, view_of}
use Rattle.vx_column.specs.ValidRows.{is_valid}
use Rattle.vx_column.proofs.ComputedLemmas.{items_more}
use Rattle.vx_column.proofs.GatheredLemmas.{views_lie}
use Rattle.vx_column.proofs.lookup.views.gather_views.Goals as goal

pub loop-index-preserved : goal.loop-index-preserved
loop-index-preserved c =
    let i = c.loop-index.index in
    let views = c.parts.result.0.now in
    let places = c.args.places.now in
    rw c.push_reserved.ensures.items (
      search rules,
      search rules,
      items_more (λ k. view_of views (is_valid c.args.valid.now k) (place_at places k)) c.loop-index.gathered.items i c.view_at.result c.loop-index.invariant.2
          (c.view_at.ensures ∙ ap (λ b. view_of views b (place_at places i)) c.is_valid-is_valid.ensures),
    )

pub with_views-requires : goal.with_views-requires
with_views-requires c =
    views_lie c.args.rows.now c.parts.result.0.now c.loop-index.gathered.items c.parts.result.1.now c.args.places.now c.args.valid.now c.loop-index.index
    c.parts.ensures.parts c.parts.ensures.within c.requires.rows c.loop-index.invariant.2

use Rattle.std.proofs.Common.{◌≡◌, ◌∷◌, [], ◌++◌, ap, ◌∙◌, replicate}
use Rattle.vx_mask.proofs.Lists.{lengthened}
use Rattle.vx_tree.specs.declared.views.view.View.{View}
use Rattle.vx_tree.specs.Views.{viewed, rows_of, packed, view_at}
use Rattle.vx_tree.proofs.ViewsLemmas.{packed_again, grown_empty}
use Rattle.vx_tree.proofs.views.builder.BinaryBuilder.push_empty.Goals as goal

grown : (c : goal.In_ok-resize) → viewed c.resize.new.self.items (c.self.inside.bytes.items ∷ [])
    ≡ packed (rows_of (viewed c.self.inside.views.items (c.self.inside.bytes.items ∷ [])) ++ replicate c.args.count [])
grown c =
    let before = c.self.inside in
    let old = c.reserve.new.self in
    let view : View = record { buffer = 0; start = c.len.result; size = 0 } in
    let more = lengthened c.resize.new.self.items old.items _ c.len-2.result c.args.count view c.in_ok-resize.ensures.items old.ok.0 c.len-2.ensures in
    grown_empty before.views.items before.bytes.items c.self.invariant c.args.count view c.resize.new.self.items (ap (λ k. view_at k 0) (c.len.ensures ∙ before.bytes.ok.0))
    (more ∙ ap (λ vs. vs ++ replicate c.args.count view) c.reserve.ensures.items)

pub invariant_of-self-2 : goal.invariant_of-self-2
invariant_of-self-2 c = (packed_again _ _ (grown c)).0

pub returns-clause-ok : goal.returns-clause-ok
returns-clause-ok c = (packed_again _ _ (grown c)).1 ∙ ap (λ rs. rs ++ replicate c.args.count []) c.self.view_is

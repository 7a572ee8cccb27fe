use Rattle.std.proofs.Common.{◌≡◌, ◌∷◌, [], ◌++◌, ap, ◌∙◌, length}
use Rattle.vx_tree.specs.Views.{viewed, rows_of, packed, view_at}
use Rattle.vx_tree.proofs.ViewsLemmas.{packed_again, grown_push}
use Rattle.vx_tree.proofs.views.builder.BinaryBuilder.push.Goals as goal

grown : (c : goal.After-push_reserved) → viewed c.push_reserved.new.self.items (c.extend_from_slice.new.self.items ∷ [])
    ≡ packed (rows_of (viewed c.self.inside.views.items (c.self.inside.bytes.items ∷ [])) ++ c.args.bytes.now ∷ [])
grown c =
    let before = c.self.inside in
    grown_push before.views.items before.bytes.items c.self.invariant (record { buffer = 0; start = c.len.result; size = length c.args.bytes.now })
    c.push_reserved.new.self.items c.args.bytes.now c.extend_from_slice.new.self.items (ap (λ k. view_at k (length c.args.bytes.now)) (c.len.ensures ∙ before.bytes.ok.0))
    (c.push_reserved.ensures.items ∙ ap (λ vs. vs ++ record { buffer = 0; start = c.len.result; size = length c.args.bytes.now } ∷ []) c.reserve.ensures.items)
    c.in_ok-extend_from_slice.ensures.items

pub invariant_of-self-2 : goal.invariant_of-self-2
invariant_of-self-2 c = (packed_again _ _ (grown c)).0

pub returns-clause-ok : goal.returns-clause-ok
returns-clause-ok c = (packed_again _ _ (grown c)).1 ∙ ap (λ rs. rs ++ c.args.bytes.now ∷ []) c.self.view_is

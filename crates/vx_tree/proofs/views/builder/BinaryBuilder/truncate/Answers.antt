use Rattle.std.proofs.Common.{◌≡◌, ◌<◌, ◌∷◌, [], arith, ap, ap₂, ◌∙◌, length, take}
use Rattle.vx_tree.specs.Views.{viewed, rows_of, packed}
use Rattle.vx_tree.proofs.ViewsLemmas.{packed_again, grown_first}
use Rattle.vx_tree.proofs.views.builder.BinaryBuilder.truncate.Goals as goal

cut : (c : goal.After-truncate-then-len) → viewed c.truncate.new.self.items (c.truncate-then-len.new.self.items ∷ [])
    ≡ packed (take c.args.len (rows_of (viewed c.self.inside.views.items (c.self.inside.bytes.items ∷ []))))
cut c =
    let before = c.self.inside in
    let view = c.index.result.now in
    let within : c.args.len < length before.views.items = omega (arith, c.if-len.true, c.len.ensures, before.views.ok.0) in
    ap₂ (λ l b. viewed l (b ∷ [])) c.truncate.ensures.items c.truncate-then-len.ensures.items
    ∙ grown_first before.views.items before.bytes.items c.self.invariant c.args.len view view within c.index.ensures

pub invariant_of-self : goal.invariant_of-self
invariant_of-self c = (packed_again _ _ (cut c)).0

pub returns-then-len : goal.returns-then-len
returns-then-len c = (packed_again _ _ (cut c)).1 ∙ ap (take c.args.len) c.self.view_is

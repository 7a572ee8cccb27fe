use Rattle.std.proofs.Common.{◌∷◌, [], sym, subst}
use Rattle.vx_tree.specs.Views.{AllLieIn}
use Rattle.vx_tree.proofs.ViewsLemmas.{builder_lies}
use Rattle.vx_tree.proofs.views.builder.BinaryBuilder.finish.Goals as goal

pub of_one_buffer-requires : goal.of_one_buffer-requires
of_one_buffer-requires c =
    let all = c.self.inside in
    subst (λ b. AllLieIn (b ∷ []) all.views.items) (sym c.in_ok-bytes.ensures.ok) (builder_lies all.views.items all.bytes.items c.self.invariant)

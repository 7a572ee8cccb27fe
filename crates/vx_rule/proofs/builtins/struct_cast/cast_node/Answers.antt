use Rattle.std.proofs.Common.{ap, ◌∙◌, ◌∷◌, [], Some}
use Rattle.vx_value.specs.View.{type_of}
use Rattle.vx_fn.specs.declared.function.ScalarFnRef.TheVariants as fn_of
use Rattle.vx_rule.proofs.StructCastsLemmas.{cast_made}
use Rattle.vx_rule.proofs.builtins.struct_cast.cast_node.Goals as goal

pub from_parts_unchecked-requires-clause-node : goal.from_parts_unchecked-requires-clause-node
from_parts_unchecked-requires-clause-node c =
    let typed = ap type_of c.in_ok-clone-3.ensures.cases in
    let called = ap (λ p. p.scalar_fn) c.new-payload.ensures ∙ ap fn_of.Cast c.in_ok-clone-2.ensures.cases in
    let held = c.in_ok-slots.ensures.items ∙ ap (λ t. Some t ∷ []) c.in_ok-clone.ensures.cases in
    rw c.new-parts.ensures (cast_made c.args.array.now c.args.target.now _ _ _ _ c.requires.castable typed c.len.ensures called held)

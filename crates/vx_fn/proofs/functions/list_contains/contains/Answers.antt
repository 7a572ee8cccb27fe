use Rattle.std.proofs.Common.{[], ◌∷◌, ap, sym, ◌∙◌}
use Rattle.vx_value.specs.Types.{bool}
use Rattle.vx_value.specs.Cell.{value}
use Rattle.vx_fn.specs.Logic.{truth}
use Rattle.vx_fn.specs.ListContains.{list_contains}
use Rattle.vx_fn.proofs.ListContainsLemmas.{contains_null}
use Rattle.vx_fn.proofs.functions.list_contains.contains.Goals as goal

pub null-requires : goal.null-requires
null-requires c =
    let l = c.args.list.now in
    let r = c.args.needle.now in
    contains_null l.of_type r.of_type (bool c.in-Some.nullability) l.value r.value
    ((λ i. list_contains.types (sym c.dtype.ensures.dtype i ∷ sym c.dtype-2.ensures.dtype i ∷ [])) ∙ sym c.in-Some.ensures)
    c.dtype.ensures.typed c.dtype-2.ensures.typed (c.contained.ensures ∙ ap (λ o. value (truth o)) c.in-None.is)

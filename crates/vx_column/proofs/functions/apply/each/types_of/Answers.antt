use Rattle.std.proofs.Common.{◌≡◌, ◌++◌, [], ◌∷◌, map, take, sym, ap, ◌∙◌}
use Rattle.std.proofs.lemmas.List.{take_more, map-append}
use Rattle.vx_value.specs.View.{type_of}
use Rattle.vx_tree.specs.Tree.{dtype}
use Rattle.vx_tree.specs.Canonicals.{columnar_tree}
use Rattle.vx_column.proofs.functions.apply.each.types_of.Goals as goal

pub loop-column-preserved : goal.loop-column-preserved
loop-column-preserved c =
    let column = c.column-item.result in
    let done = take c.loop-column.column-index c.args.columns.now in
    let typed : type_of c.in_ok-clone.field-0 ≡ dtype (columnar_tree column) = ap type_of c.in_ok-clone.ensures.cases ∙ c.dtype.ensures.dtype in
    rw (take_more c.args.columns.now c.loop-column.column-index column c.loop-column-test.true, ← c.column-item.is)
    (ap (map type_of) c.in_ok-push.ensures.items ∙ map-append type_of c.loop-column.types.items (c.in_ok-clone.field-0 ∷ [])
    ∙ (λ i. c.loop-column.invariant i ++ typed i ∷ [])
    ∙ sym (map-append dtype (map columnar_tree done) (columnar_tree column ∷ []))
    ∙ ap (map dtype) (sym (map-append columnar_tree done (column ∷ []))))

use Rattle.std.proofs.Common.{◌≡◌, ap, ◌∙◌}
use Rattle.std.proofs.lemmas.Result.{IfOk-weaker}
use Rattle.vx_value.specs.Nullabilities.{with_nullability}
use Rattle.vx_value.specs.declared.dtype.Nullability.TheVariants.{Nullable}
use Rattle.vx_tree.specs.Tree.{len, masked_of}
use Rattle.vx_tree.specs.Validities.{child_of}
use Rattle.vx_tree.specs.Canonicals.{canonical_tree}
use Rattle.vx_column.proofs.ComposedLemmas.{extension_masked}
use Rattle.vx_column.proofs.mask.mask_extension.Goals as goal

pub returns-clause-ok : goal.returns-clause-ok
returns-clause-ok c =
    let t = c.args.array.now in
    let storage = c.in_ok-storage.storage in
    let w = child_of c.told_by.result (len storage) in
    let kept : c.in_ok-storage.storage ≡ c.extension_storage.result.now = c.in_ok-storage.ensures.cases in
    let masks : c.into_array-masked.result ≡ masked_of c.extension_storage.result.now w =
    c.into_array-masked.ensures ∙ c.in_ok-new_unchecked.ensures.ok ∙ ap (λ x. masked_of x w) kept in
    IfOk-weaker c.composed_column.result _ _
    (λ u made. extension_masked t c.extension_storage.result.now c.args.slots.now c.extension_storage.ensures c.requires.extension
    c.well_formed_tree.ensures.formed c.args.child w c.into_array-masked.result (canonical_tree u) c.in_ok-slots.slots.items _ c.len.result c.len.ensures
    (c.in_ok-dtype.ensures.ok ∙ ap (with_nullability Nullable) c.dtype.ensures.dtype) (c.told_by.ensures.slot (len storage)) masks
    c.well_formed_tree-2.ensures.formed c.in_ok-slots.ensures.items made)
    c.composed_column.ensures.ok

use Rattle.std.proofs.Common.{ap, ◌∙◌, arith}
use Rattle.std.proofs.lemmas.Result.{IfOk-weaker}
use Rattle.vx_value.specs.View.{type_of}
use Rattle.vx_tree.specs.Canonicals.{canonical_tree}
use Rattle.vx_column.proofs.ExpandedLemmas.{storage_columns, storage_below, extension_node, extension_repeated}
use Rattle.vx_column.proofs.canonicalize.+repeat.Goals as goal

pub repeat_extension-repeat-requires : goal.repeat_extension-repeat-requires
repeat_extension-repeat-requires t c =
    let s = c.args.scalar.now in
    let r = c.in_ok-stored.stored in
    let lower = storage_below s r c.in_ok-stored.ensures.ok c.requires.extension in
    (omega (arith, lower, c.decreases), storage_columns s r c.in_ok-stored.ensures.ok c.requires.extension c.requires.columns)

pub repeat_extension-composed_column-requires-clause-node : goal.repeat_extension-composed_column-requires-clause-node
repeat_extension-composed_column-requires-clause-node t c =
    extension_node c.args.scalar.now c.in_ok-stored.stored c.args.len (canonical_tree c.in_ok-repeat.field-0) c.into_array-storage.result
    c.in_ok-slots.slots.items _ c.requires.extension c.in_ok-stored.ensures.ok c.in_ok-repeat.ensures.ok c.in_ok-repeat.ensures.layout
    c.into_array-storage.ensures c.in_ok-slots.ensures.items (ap type_of c.in_ok-clone.ensures.cases ∙ c.dtype.ensures.dtype)

pub repeat_extension-returns-clause-ok : goal.repeat_extension-returns-clause-ok
repeat_extension-returns-clause-ok t c =
    IfOk-weaker c.composed_column.result _ _
    (λ u new. (extension_repeated c.args.scalar.now c.in_ok-stored.stored c.args.len (canonical_tree c.in_ok-repeat.field-0) c.into_array-storage.result
    c.in_ok-slots.slots.items _ c.requires.extension c.in_ok-stored.ensures.ok c.in_ok-repeat.ensures.ok c.in_ok-repeat.ensures.layout
    c.into_array-storage.ensures c.in_ok-slots.ensures.items (ap type_of c.in_ok-clone.ensures.cases ∙ c.dtype.ensures.dtype) (canonical_tree u) new).0)
    c.composed_column.ensures.ok

pub repeat_extension-returns-clause-layout : goal.repeat_extension-returns-clause-layout
repeat_extension-returns-clause-layout t c =
    IfOk-weaker c.composed_column.result _ _
    (λ u new. (extension_repeated c.args.scalar.now c.in_ok-stored.stored c.args.len (canonical_tree c.in_ok-repeat.field-0) c.into_array-storage.result
    c.in_ok-slots.slots.items _ c.requires.extension c.in_ok-stored.ensures.ok c.in_ok-repeat.ensures.ok c.in_ok-repeat.ensures.layout
    c.into_array-storage.ensures c.in_ok-slots.ensures.items (ap type_of c.in_ok-clone.ensures.cases ∙ c.dtype.ensures.dtype) (canonical_tree u) new).1)
    c.composed_column.ensures.ok

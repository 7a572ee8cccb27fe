use Rattle.std.proofs.Common.{ap, ◌∙◌}
use Rattle.std.proofs.lemmas.Result.{IfOk-weaker}
use Rattle.vx_value.specs.View.{type_of}
use Rattle.vx_tree.specs.Canonicals.{canonical_tree}
use Rattle.vx_column.proofs.ExpandedLemmas.{parts_columns, struct_node, struct_repeated}
use Rattle.vx_column.proofs.canonicalize.repeat_struct.Goals as goal

pub repeat_each-requires : goal.repeat_each-requires
repeat_each-requires c = parts_columns c.args.scalar.now c.in_ok-fields.field-0.items c.requires.columns c.in_ok-fields.ensures.ok

pub composed_column-requires-clause-node : goal.composed_column-requires-clause-node
composed_column-requires-clause-node c =
    struct_node c.args.scalar.now c.args.len c.in_ok-fields.field-0.items c.repeated_validity-validity.result c.in_ok-validity_to_child.field-0
    c.in_ok-slots.slots.items c.push.new.self.items _ c.requires.structs c.dtype.ensures.typed c.in_ok-fields.ensures.ok c.in_ok-slots.ensures.ok
    c.repeated_validity-validity.ensures c.in_ok-validity_to_child.ensures.ok c.in_ok-push.ensures.items
    (ap type_of c.in_ok-clone.ensures.cases ∙ c.dtype.ensures.dtype)

pub returns-clause-ok : goal.returns-clause-ok
returns-clause-ok c =
    IfOk-weaker c.composed_column.result _ _
    (λ u new. (struct_repeated c.args.scalar.now c.args.len c.in_ok-fields.field-0.items c.repeated_validity-validity.result c.in_ok-validity_to_child.field-0
    c.in_ok-slots.slots.items c.push.new.self.items _ c.requires.structs c.dtype.ensures.typed c.in_ok-fields.ensures.ok c.in_ok-slots.ensures.ok
    c.repeated_validity-validity.ensures c.in_ok-validity_to_child.ensures.ok c.in_ok-push.ensures.items
    (ap type_of c.in_ok-clone.ensures.cases ∙ c.dtype.ensures.dtype) (canonical_tree u) new).0)
    c.composed_column.ensures.ok

pub returns-clause-layout : goal.returns-clause-layout
returns-clause-layout c =
    IfOk-weaker c.composed_column.result _ _
    (λ u new. (struct_repeated c.args.scalar.now c.args.len c.in_ok-fields.field-0.items c.repeated_validity-validity.result c.in_ok-validity_to_child.field-0
    c.in_ok-slots.slots.items c.push.new.self.items _ c.requires.structs c.dtype.ensures.typed c.in_ok-fields.ensures.ok c.in_ok-slots.ensures.ok
    c.repeated_validity-validity.ensures c.in_ok-validity_to_child.ensures.ok c.in_ok-push.ensures.items
    (ap type_of c.in_ok-clone.ensures.cases ∙ c.dtype.ensures.dtype) (canonical_tree u) new).1)
    c.composed_column.ensures.ok

use Rattle.std.proofs.Common.{sym, ap, subst, ◌∙◌, arith}
use Rattle.std.specs.List.{All}
use Rattle.std.proofs.lemmas.Result.{IfOk-weaker}
use Rattle.vx_value.specs.Supported.{has_columns}
use Rattle.vx_value.specs.View.{type_of, fields_of}
use Rattle.vx_tree.specs.Canonicals.{canonical_tree}
use Rattle.vx_column.specs.Pieces.{columns_in, IsPieceOf}
use Rattle.vx_column.proofs.PiecesLemmas.{field_there, field_columns, fields_more, structs_fit, structs_joined}
use Rattle.vx_column.proofs.builder.join.join_structs.Goals as goal

pub join_slot-requires-clause-slots : goal.join_slot-requires-clause-slots
join_slot-requires-clause-slots c =
    field_there (type_of c.args.dtype.now) c.args.fields.now c.args.nullability c.args.pieces.now c.loop-i.i c.index-fields-i.result
    c.requires.structs c.requires.pieces c.loop-i-test.true

pub join_slot-requires-clause-columns : goal.join_slot-requires-clause-columns
join_slot-requires-clause-columns c =
    field_columns c.args.fields.now c.loop-i.i c.index-fields-i.result c.loop-i-test.true (ap has_columns (sym c.requires.structs) ∙ c.requires.columns)

pub loop-i-preserved : goal.loop-i-preserved
loop-i-preserved c =
    fields_more c.args.fields.now c.loop-i.i c.index-fields-i.result (columns_in c.args.pieces.now) _ c.loop-i.slots.items c.push.new.self.items
    c.in_ok-join_slot.field-0 c.loop-i-test.true c.loop-i.invariant c.in_ok-join_slot.ensures.ok c.in_ok-push.ensures.items

pub valid_in-requires-clause-structs : goal.valid_in-requires-clause-structs
valid_in-requires-clause-structs c =
    (fields_of c.args.fields.now, subst (λ ty. All (IsPieceOf ty) c.args.pieces.now) c.requires.structs c.requires.pieces)

pub composed_column-requires-clause-node : goal.composed_column-requires-clause-node
composed_column-requires-clause-node c =
    structs_fit (type_of c.args.dtype.now) c.args.fields.now c.args.nullability c.args.pieces.now c.args.len c.requires.structs c.requires.pieces
    c.requires.counted c.loop-i.i (omega arith) c.loop-i.slots.items c.push-2.new.self.items c.loop-i.invariant c.in_ok-valid.valid
    c.in_ok-validity.field-0 c.in_ok-validity_to_child.field-0 c.in_ok-valid.ensures.nullability c.in_ok-validity.ensures.ok
    c.in_ok-validity_to_child.ensures.ok c.in_ok-push-2.ensures.items (type_of c.in_ok-clone.field-0) (ap type_of c.in_ok-clone.ensures.cases)

pub returns-clause-ok : goal.returns-clause-ok
returns-clause-ok c =
    IfOk-weaker c.composed_column.result _ _
    (λ u new. structs_joined (type_of c.args.dtype.now) c.args.fields.now c.args.nullability c.args.pieces.now c.args.len c.requires.structs
    c.requires.pieces c.requires.counted c.loop-i.i (omega arith) c.loop-i.slots.items c.push-2.new.self.items c.loop-i.invariant
    c.in_ok-valid.valid c.in_ok-validity.field-0 c.in_ok-validity_to_child.field-0 c.in_ok-valid.ensures.nullability c.in_ok-validity.ensures.ok
    c.in_ok-validity_to_child.ensures.ok c.in_ok-push-2.ensures.items (type_of c.in_ok-clone.field-0) (canonical_tree u)
    (ap type_of c.in_ok-clone.ensures.cases) c.in_ok-valid.ensures.ok c.requires.columns new)
    c.composed_column.ensures.ok

use Rattle.std.proofs.Common.{sym, subst, IfOk}
use Rattle.std.proofs.lemmas.Result.{IfErr-weaker}
use Rattle.vx_tree.specs.Tree.{dtype, len}
use Rattle.vx_column.specs.ValidRows.{AreTold}
use Rattle.vx_column.proofs.PiecesLemmas.{are_structs, own_is, tells_own, own_unread}
use Rattle.vx_column.proofs.builder.join.told_valid.Goals as goal

pub struct_slots-requires : goal.struct_slots-requires
struct_slots-requires c =
    let t = c.args.column.now in
    let opened = c.in-Composed-Struct-default in
    (dtype t, len t, are_structs t opened.field-0 opened.slots.now opened.field-0-is opened.ensures.0 opened.ensures.1)

pub told_by-requires : goal.told_by-requires
told_by-requires c =
    let opened = c.in-Composed-Struct-default in
    tells_own c.args.column.now opened.field-0 opened.slots.now c.struct_slots.result.0.now c.struct_slots.result.1.now opened.field-0-is opened.ensures.0
    opened.ensures.1 c.well_formed_tree.ensures.formed c.struct_slots.ensures

pub returns-in-Composed-Struct-default-clause-ok : goal.returns-in-Composed-Struct-default-clause-ok
returns-in-Composed-Struct-default-clause-ok c =
    let t = c.args.column.now in
    let opened = c.in-Composed-Struct-default in
    let own = own_is t opened.field-0 opened.slots.now c.struct_slots.result.0.now c.struct_slots.result.1.now opened.field-0-is opened.ensures.0
    opened.ensures.1 c.well_formed_tree.ensures.formed c.struct_slots.ensures in
    subst (λ w. IfOk c.told_by.result (AreTold (len t) w)) (sym own) c.told_by.ensures.ok

pub returns-in-Composed-Struct-default-clause-err : goal.returns-in-Composed-Struct-default-clause-err
returns-in-Composed-Struct-default-clause-err c =
    let t = c.args.column.now in
    let opened = c.in-Composed-Struct-default in
    IfErr-weaker c.told_by.result _ _
    (own_unread t opened.field-0 opened.slots.now c.struct_slots.result.0.now c.struct_slots.result.1.now opened.field-0-is opened.ensures.0
    opened.ensures.1 c.well_formed_tree.ensures.formed c.struct_slots.ensures)
    c.told_by.ensures.err

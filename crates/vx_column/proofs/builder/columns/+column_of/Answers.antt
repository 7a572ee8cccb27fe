use Rattle.std.proofs.Common.{◌≡◌, ◌∙◌, length, get_or, true, ap, sym, subst, arith}
use Rattle.std.proofs.lemmas.List.{length-map}
use Rattle.std.proofs.lemmas.Option.{slice_get-get_or}
use Rattle.std.proofs.lemmas.Result.{IfOk-weaker}
use Rattle.vx_value.specs.Types.{height}
use Rattle.vx_value.specs.Supported.{has_columns, have_columns}
use Rattle.vx_value.specs.Typed.{Typed}
use Rattle.vx_value.specs.View.{type_of, fields_of}
use Rattle.vx_value.specs.declared.nested.Field.{Field}
use Rattle.vx_value.proofs.SupportedLemmas.{field_at_columns}
use Rattle.vx_tree.proofs.EmptyLemmas.{field_height}
use Rattle.vx_column.specs.ValueColumns.{AreOf, column_of, values_of}
use Rattle.vx_column.proofs.FieldColumnsLemmas.{extension_fits, extension_made, slots_more, slots_all, struct_fits, struct_made}
use Rattle.vx_column.proofs.builder.columns.+column_of.Goals as goal

pub column_of-storages-requires : goal.column_of-storages-requires
column_of-storages-requires t c =
    let e = c.in-Extension.extension in
    (e.0, e.1, subst (λ d. AreOf (type_of d) c.args.scalars.now) c.in-Extension.is c.requires.typed)

pub column_of-column_of-requires : goal.column_of-column_of-requires
column_of-column_of-requires t c =
    let e = c.in-Extension.extension in
    let is = c.in-Extension.is in
    let lower = ap height c.storage.ensures in
    let whole = ap (λ d. height (type_of d)) is in
    let typed = c.in_ok-stored-in-Extension.ensures.typed e.0 e.1 (subst (λ d. AreOf (type_of d) c.args.scalars.now) is c.requires.typed) in (
      omega (arith, lower, whole, c.decreases),
      (
        ap has_columns c.storage.ensures ∙ sym (ap (λ d. has_columns (type_of d)) is) ∙ c.requires.columns,
        subst (λ x. x) (λ i. AreOf (sym c.storage.ensures i) (sym c.as_slice-in-Extension.ensures.value i)) typed,
      ),
    )

pub column_of-composed_column-requires-clause-node :
    goal.column_of-composed_column-requires-clause-node
column_of-composed_column-requires-clause-node t c =
    let e = c.in-Extension.extension in
    let is = c.in-Extension.is in
    let ss = c.args.scalars.now in
    let stored = c.in_ok-stored-in-Extension.stored.items in
    extension_fits e.0 e.1 (values_of stored) (length ss) c.into_array-storage.result c.in_ok-slots-in-Extension.slots.items _
    (ap type_of (c.in_ok-clone-in-Extension.ensures.cases ∙ is))
    (c.into_array-storage.ensures ∙ c.in_ok-column_of-in-Extension.ensures.ok
    ∙ (λ i. column_of (c.storage.ensures i) (values_of (c.as_slice-in-Extension.ensures.value i))))
    c.in_ok-slots-in-Extension.ensures.items
    (ap length c.in_ok-stored-in-Extension.ensures.values ∙ length-map ss (λ (s : Typed). s.value))
    (sym (ap (λ d. has_columns (type_of d)) is) ∙ c.requires.columns)

pub column_of-returns-in_ok-clone-in-Extension-clause-ok : goal.column_of-returns-in_ok-clone-in-Extension-clause-ok
column_of-returns-in_ok-clone-in-Extension-clause-ok t c =
    let e = c.in-Extension.extension in
    let is = c.in-Extension.is in
    let ss = c.args.scalars.now in
    let stored = c.in_ok-stored-in-Extension.stored.items in
    IfOk-weaker c.composed_column.result _ _
    (λ u new. new ∙ extension_made e.0 e.1 (values_of stored) (length ss) c.into_array-storage.result c.in_ok-slots-in-Extension.slots.items _
    (ap type_of (c.in_ok-clone-in-Extension.ensures.cases ∙ is))
    (c.into_array-storage.ensures ∙ c.in_ok-column_of-in-Extension.ensures.ok
    ∙ (λ i. column_of (c.storage.ensures i) (values_of (c.as_slice-in-Extension.ensures.value i))))
    c.in_ok-slots-in-Extension.ensures.items (ap length c.in_ok-stored-in-Extension.ensures.values ∙ length-map ss (λ (s : Typed). s.value))
    ∙ (λ i. column_of (type_of (sym is i)) (c.in_ok-stored-in-Extension.ensures.values i)))
    c.composed_column.ensures.ok

pub structs_of-column_of-requires : goal.structs_of-column_of-requires
structs_of-column_of-requires t c =
    let fs = c.args.fields.now in
    let i = c.loop-i.i in
    let f = c.index-fields-i.result in
    let at = c.index-fields-i.is in
    let there = c.loop-i-test.true in
    let lower = field_height fs i f there at in
    let same = ap (λ g. height (type_of (Field.dtype g))) at in
    let whole = ap height c.requires.structs in
    let has : have_columns (fields_of fs) ≡ true = sym (ap has_columns c.requires.structs) ∙ c.requires.columns in
    let typed = c.in_ok-column.ensures.typed (get_or fs i f) (slice_get-get_or fs i f there) in (
      omega (arith, lower, same, whole, c.decreases),
      (field_at_columns fs i f there has, subst (AreOf (type_of (Field.dtype (get_or fs i f)))) (sym c.as_slice.ensures.value) typed),
    )

pub structs_of-loop-i-preserved : goal.structs_of-loop-i-preserved
structs_of-loop-i-preserved t c =
    let fs = c.args.fields.now in
    let l = c.loop-i in
    let f = c.index-fields-i.result in
    let at = c.index-fields-i.is in
    let vs = values_of c.args.scalars.now in
    slots_more fs l.i f vs l.slots.items c.push.new.self.items c.into_array.result c.loop-i-test.true at l.invariant
    (c.into_array.ensures ∙ c.in_ok-column-2.ensures.ok
    ∙ (λ j. column_of (type_of (Field.dtype (sym at j))) ((ap values_of c.as_slice.ensures.value ∙ c.in_ok-column.ensures.values) j)))
    c.in_ok-push.ensures.items

pub structs_of-composed_column-requires-clause-node :
    goal.structs_of-composed_column-requires-clause-node
structs_of-composed_column-requires-clause-node t c =
    let fs = c.args.fields.now in
    let ss = c.args.scalars.now in
    let l = c.loop-i in
    let structs = c.requires.structs in
    struct_fits (fields_of fs) c.args.nullability ss c.in_ok-valid.valid c.in_ok-validity_to_child.field-0 l.slots.items c.push-2.new.self.items _
    (ap type_of c.in_ok-clone.ensures.cases ∙ structs) (slots_all fs l.i (values_of ss) l.slots.items c.loop-i-test.false l.invariant) c.in_ok-valid.ensures.ok
    (c.in_ok-validity_to_child.ensures.ok ∙ c.in_ok-validity.ensures.ok.1) c.in_ok-push-2.ensures.items
    (sym (ap has_columns structs) ∙ c.requires.columns) c.in_ok-valid.ensures.sized
    (c.in_ok-valid.ensures.nullability (fields_of fs) (subst (λ ty. AreOf ty ss) structs c.requires.typed))

pub structs_of-returns-clause-ok : goal.structs_of-returns-clause-ok
structs_of-returns-clause-ok t c =
    let fs = c.args.fields.now in
    let ss = c.args.scalars.now in
    let l = c.loop-i in
    let structs = c.requires.structs in
    IfOk-weaker c.composed_column.result _ _
    (λ u new. new ∙ struct_made (fields_of fs) c.args.nullability ss c.in_ok-valid.valid c.in_ok-validity_to_child.field-0 l.slots.items
    c.push-2.new.self.items _
    (ap type_of c.in_ok-clone.ensures.cases ∙ structs) (slots_all fs l.i (values_of ss) l.slots.items c.loop-i-test.false l.invariant) c.in_ok-valid.ensures.ok
    (c.in_ok-validity_to_child.ensures.ok ∙ c.in_ok-validity.ensures.ok.1) c.in_ok-push-2.ensures.items
    ∙ ap (λ ty. column_of ty (values_of ss)) (sym structs))
    c.composed_column.ensures.ok

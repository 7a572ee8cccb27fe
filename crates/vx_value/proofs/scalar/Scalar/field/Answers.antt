use Rattle.std.proofs.Common.{◌≡◌, ◌∙◌, sym, ◌<◌, length, Some, ap, arith, rules}
use Rattle.std.proofs.lemmas.Result.{IfOk-weaker}
use Rattle.std.proofs.Math.ListN.{get_or}
use Rattle.vx_value.specs.Types as type
use Rattle.vx_value.specs.Values.{null}
use Rattle.vx_value.specs.View.{type_of, fields_of}
use Rattle.vx_value.specs.Defaults.{default_of}
use Rattle.vx_value.proofs.ScalarPartsLemmas.{among_fields, null_field}
use Rattle.vx_value.proofs.scalar.Scalar.field.Goals as goal
use Rattle.vx_value.proofs.scalar.Scalar.field.Goals.{After-as_slice-in-Struct-None}

pub present_field-requires-clause-index : goal.present_field-requires-clause-index
present_field-requires-clause-index c =
    let arm = c.in-Struct-Some-Struct in
    let own : type.struct (fields_of c.as_slice.result.now) arm.field-1-0 ≡ c.args.self.now.of_type
    = ap (λ fs. type.struct fs arm.field-1-0) c.as_slice.ensures.fields ∙ sym (ap type_of arm.is-0) ∙ c.dtype.ensures.dtype in
    among_fields c.args.self.now c.as_slice.result.now arm.field-1-0 c.args.index own c.requires.index

-- the type of the null struct, and the place of the field
own : (c : After-as_slice-in-Struct-None)
    → type.struct (fields_of c.as_slice-in-Struct-None.result.now) c.in-Struct-None.field-1-0 ≡ c.args.self.now.of_type
own c =
    let arm = c.in-Struct-None in
    ap (λ fs. type.struct fs arm.field-1-0) c.as_slice-in-Struct-None.ensures.fields ∙ sym (ap type_of arm.is-0) ∙ c.dtype.ensures.dtype

within : (c : After-as_slice-in-Struct-None) → c.args.index < length c.as_slice-in-Struct-None.result.now
within c = among_fields c.args.self.now c.as_slice-in-Struct-None.result.now c.in-Struct-None.field-1-0 c.args.index (own c) c.requires.index

pub offset_bounds-as_slice-index : goal.offset_bounds-as_slice-index
offset_bounds-as_slice-index c =
    let here : c.args.index < length c.as_slice-in-Struct-None.result.now
    = within (goal.at.offset_bounds-as_slice-index c).After-as_slice-in-Struct-None in grind arith

pub bounds-as_slice-index : goal.bounds-as_slice-index
bounds-as_slice-index c = within (goal.at.bounds-as_slice-index c).After-as_slice-in-Struct-None

pub returns-in_ok-dtype-in-Struct-None-clause-ok : goal.returns-in_ok-dtype-in-Struct-None-clause-ok
returns-in_ok-dtype-in-Struct-None-clause-ok c =
    let there = (goal.at.returns-in_ok-dtype-in-Struct-None-clause-ok c).After-as_slice-in-Struct-None in
    let empty : null ≡ c.args.self.now.value = search rules in
    let made = null_field c.args.self.now c.as_slice-in-Struct-None.result.now c.in-Struct-None.field-1-0 c.args.index c.index-as_slice-index.result
    (own there) empty (within there) in
    let same : type_of (get_or c.as_slice-in-Struct-None.result.now c.args.index c.index-as_slice-index.result).dtype ≡ type_of c.in_ok-dtype-in-Struct-None.dtype
    = ap type_of (sym c.in_ok-dtype-in-Struct-None.ensures.cases) in
    IfOk-weaker c.default_value.result _ _
    (λ s e. made ∙ ap (λ t. Some (record { of_type = t; value = default_of t })) same ∙ ap (λ x. Some x) (sym e))
    c.default_value.ensures.ok

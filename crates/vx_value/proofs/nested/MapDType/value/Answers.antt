use Rattle.std.proofs.Common.{◌≡◌, List, sym, ap, ◌∙◌, codes, arith}
use Rattle.vx_value.specs.Types as type
use Rattle.vx_value.specs.Types.{DataType, Fields}
use Rattle.vx_value.specs.View.{type_of, fields_of}
use Rattle.vx_value.specs.Nested.{entry_type, key_in, value_in}
use Rattle.vx_value.specs.declared.dtype.DType.{DType}
use Rattle.vx_value.specs.declared.dtype.DType.TheVariants as dtype
use Rattle.vx_value.specs.declared.dtype.Nullability.{Nullability}
use Rattle.vx_value.specs.declared.nested.Field.{Field}
use Rattle.vx_value.proofs.NestedLemmas.{has_second, second_type}
use Rattle.vx_value.proofs.nested.MapDType.value.Goals as goal

-- the fields of an entry are a key and a value
entry_fields : (fs : List Field) (seen : Fields) (n : Nullability) (d : DType) (t : DataType)
    → fields_of fs ≡ seen → d ≡ dtype.Struct seen n → type_of d ≡ t → t ≡ entry_type (key_in t) (value_in t)
    → fields_of fs ≡ type.field (codes "key") (key_in t) (type.field (codes "value") (value_in t) type.no_fields)
entry_fields fs seen n d t held is of whole =
    let e : type.struct seen n ≡ entry_type (key_in t) (value_in t) = sym (ap type_of is) ∙ of ∙ whole in
    cc

pub index-requires : goal.index-requires
index-requires c =
    let v = c.deref-in-Struct.result.now in
    let held = ap (λ u. fields_of u.items) c.deref-in-Struct.ensures ∙ c.fields.view_is in
    let two = entry_fields v.items _ _ _ c.self.inside.entry held c.in-Struct.is c.deref.ensures c.self.invariant.0 in
    omega (arith, v.ok.0, has_second v.items _ _ _ _ two)

pub returns : goal.returns
returns c =
    let v = c.deref-in-Struct.result.now in
    let held = ap (λ u. fields_of u.items) c.deref-in-Struct.ensures ∙ c.fields.view_is in
    let two = entry_fields v.items _ _ _ c.self.inside.entry held c.in-Struct.is c.deref.ensures c.self.invariant.0 in
    ap (λ f. type_of f.dtype) c.index.ensures ∙ second_type v.items c.index.result.now _ _ _ _ two ∙ ap (λ p. p.1) c.self.view_is

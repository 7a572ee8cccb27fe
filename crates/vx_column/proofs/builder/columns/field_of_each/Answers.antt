use Rattle.std.proofs.Common.{◌<◌, ◌∙◌, ap, arith}
use Rattle.vx_value.specs.Nested.{fields_count}
use Rattle.vx_value.specs.Typed.{Typed}
use Rattle.vx_value.specs.View.{type_of, fields_of}
use Rattle.vx_value.specs.declared.nested.Field.{Field}
use Rattle.vx_value.proofs.NestedLemmas.{fields_length}
use Rattle.vx_column.proofs.FieldColumnsLemmas.{field_value, field_each, each_more, each_value, typed_more, has_field, field_read}
use Rattle.vx_column.proofs.builder.columns.field_of_each.Goals as goal

pub field-requires-clause-index : goal.field-requires-clause-index
field-requires-clause-index c =
    let s = c.scalar-item.result in
    has_field c.args.fields.now c.requires.typed.0 s c.args.index
    (ap (λ (r : Typed). r.of_type) c.scalar-item.is ∙ c.requires.typed.1 c.loop-scalar.scalar-index s c.loop-scalar-test.true) c.requires.index

pub loop-scalar-preserved : goal.loop-scalar-preserved
loop-scalar-preserved c =
    let fs = c.args.fields.now in
    let k = c.args.index in
    let l = c.loop-scalar in
    let s = c.scalar-item.result in
    let r = c.in_ok-field.field-0 in
    let typed = ap (λ (r : Typed). r.of_type) c.scalar-item.is ∙ c.requires.typed.1 l.scalar-index s c.loop-scalar-test.true in
    let here = field_read fs c.requires.typed.0 s k typed r c.in_ok-field.ensures.ok in
    let pushed = c.in_ok-push.ensures.items in
    record {
      values = each_more (λ x. field_value k (fields_of fs) x.value) c.args.scalars.now l.column.items c.push.new.self.items l.scalar-index s r
          l.invariant.values c.loop-scalar-test.true c.scalar-item.is here.0 pushed;
      typed = λ f at. typed_more (type_of (Field.dtype f)) l.column.items c.push.new.self.items r (l.invariant.typed f at) (here.1 f at) pushed;
    }

pub returns-clause-values : goal.returns-clause-values
returns-clause-values c =
    let fs = c.args.fields.now in
    let ss = c.args.scalars.now in
    let l = c.loop-scalar in
    let within : c.args.index < fields_count (fields_of fs) = omega (arith, c.requires.index, fields_length fs) in
    each_value (λ x. field_value c.args.index (fields_of fs) x.value) ss l.column.items l.scalar-index l.invariant.values c.loop-scalar-test.false
    ∙ field_each c.args.index (fields_of fs) ss within

use Rattle.std.proofs.Common.{rules, arith, ◌≡◌, true, ◌∙◌, ap, sym, subst, Result, IfOk}
use Rattle.std.proofs.lemmas.Result.{IfOk-weaker}
use Rattle.vx_value.specs.Types.{nullability_of, is_nullable}
use Rattle.vx_value.specs.declared.error.VortexError.{VortexError}
use Rattle.vx_tree.specs.Tree as enc
use Rattle.vx_tree.specs.Tree.{node, dtype, len, slots_of, validity_in}
use Rattle.vx_tree.specs.Validities.{validity_of}
use Rattle.vx_value.specs.declared.dtype.Nullability.TheVariants.{Nullable}
use Rattle.vx_tree.specs.declared.array.layout.Layout.TheVariants as layout
use Rattle.vx_tree.specs.Well.{IsNode, shapes}
use Rattle.vx_tree.specs.NodeValidities.{node_validity}
use Rattle.vx_tree.specs.declared.validity.Validity.{Validity}
use Rattle.vx_tree.specs.declared.validity.Validity.TheVariants as validity
use Rattle.vx_tree.proofs.ScalarFnLemmas.{function_told}
use Rattle.vx_tree.proofs.StructToldLemmas.{struct_told}
use Rattle.vx_tree.proofs.MaskedLemmas.{own_rows, masked_told}
use Rattle.vx_tree.proofs.NodeValiditiesLemmas.{first_counted, first_rows}
use Rattle.vx_tree.proofs.node_validity.+node_validity.Goals as goal

pub filter_rows-requires : goal.filter_rows-requires
filter_rows-requires t c = let shown = c.in-Filter.ensures in let read = c.in_ok-node_validity-in-Filter.ensures in search first_counted

pub join-requires-clause-first : goal.join-requires-clause-first
join-requires-clause-first t c = grind (arith, own_rows)

pub join-requires-clause-second : goal.join-requires-clause-second
join-requires-clause-second t c =
    let shown = c.in-Masked.ensures in let read = c.in_ok-node_validity-in-Masked.ensures in search first_rows

pub returns-in_ok-node_validity-in-Masked-clause-ok : goal.returns-in_ok-node_validity-in-Masked-clause-ok
returns-in_ok-node_validity-in-Masked-clause-ok t c = grind (arith, masked_told)

told_as : (r : Result Validity VortexError) (v w : Validity) → w ≡ v → IfOk r (λ x. x ≡ v) → IfOk r (λ x. x ≡ w)
told_as r v w e h = IfOk-weaker r (λ x. x ≡ v) (λ x. x ≡ w) (λ x made. made ∙ sym e) h

pub returns-in-ScalarFn-clause-ok : goal.returns-in-ScalarFn-clause-ok
returns-in-ScalarFn-clause-ok t c =
    let tree = c.args.array.now in
    let nullable : is_nullable (nullability_of (dtype tree)) ≡ true = search rules in
    let told = function_told tree (dtype tree) (len tree) c.in-ScalarFn.field-0.now (slots_of c.in-ScalarFn.field-1.now) c.in-ScalarFn.ensures.0 nullable in
    told_as c.test_lazily.result (validity.Array (validity_in tree)) (node_validity tree) told c.test_lazily.ensures.ok

pub struct_slots-requires : goal.struct_slots-requires
struct_slots-requires t c =
    let a = c.args.array.now in
    let shaped = subst (λ l. IsNode (dtype a) (len a) (enc.composed l) (shapes (slots_of c.in-Composed-Struct-default.slots.now))) c.in-Composed-Struct-default.field-0-is
    c.in-Composed-Struct-default.ensures.1 in
    (dtype a, len a, shaped)

pub returns-in-Composed-Struct-default-clause-ok : goal.returns-in-Composed-Struct-default-clause-ok
returns-in-Composed-Struct-default-clause-ok t c =
    let a = c.args.array.now in
    let xs = c.in-Composed-Struct-default.slots.now in
    let made : node (dtype a) (len a) (enc.composed c.in-Composed-Struct-default.field-0) (slots_of xs) ≡ node (dtype a) (len a) (enc.composed layout.Struct) (slots_of xs) =
    ap (λ l. node (dtype a) (len a) (enc.composed l) (slots_of xs)) c.in-Composed-Struct-default.field-0-is in
    let nullable : is_nullable (nullability_of (dtype a)) ≡ true = search rules in
    let told = struct_told a (dtype a) (len a) xs c.struct_slots.result.0.now c.struct_slots.result.1.now (c.in-Composed-Struct-default.ensures.0 ∙ made) c.struct_slots.ensures nullable in
    told_as c.slot_validity-in-Composed-Struct-default.result (validity_of Nullable c.struct_slots.result.1.now) (node_validity a) told
    c.slot_validity-in-Composed-Struct-default.ensures.ok

use Rattle.std.specs.Option.{MatchOption}
use Rattle.std.specs.List.{IsLastAndRest}
use Rattle.std.proofs.Common.{length, ◌≡◌, ◌++◌, ◌∷◌, [], ap, subst, sym, ◌∙◌}
use Rattle.vx_tree.specs.Tree as enc
use Rattle.vx_tree.specs.Tree.{dtype, len, node, slots_of}
use Rattle.vx_tree.specs.Well.{IsNode, shapes}
use Rattle.vx_tree.specs.declared.array.layout.Layout.TheVariants as layout
use Rattle.vx_rule.proofs.StructCastsLemmas.{castable, casts_node, casts_answer, casts_none, ends_otherwise, ends_nowhere, absent_is, present_is}
use Rattle.vx_rule.proofs.builtins.struct_cast.cast_of_structs.Goals as goal

pub returns-in_default : goal.returns-in_default
returns-in_default c =
    let p = c.args.parent.now in
    let xs = c.function_parts.result.1.now in
    let named = c.fields_of_target-fields.ensures.1 in
    let is = c.function_parts.ensures.shape ∙ ap (λ f. node (dtype p) (len p) (enc.function f) (slots_of xs)) named in
    let ok = subst (λ f. IsNode (dtype p) (len p) (enc.function f) (shapes (slots_of xs))) named c.function_parts.ensures.node in
    casts_none c.args.slot c.args.child.now p _ _ xs c.slots.result.now is ok c.function_parts.ensures.well c.requires.slot c.requires.structs c.slots.ensures
    (λ zs h. ends_nowhere c.slots.result.now zs (subst (λ o. MatchOption o (length c.slots.result.now ≡ 0) (λ p. IsLastAndRest c.slots.result.now p.0.now p.1.now)) c.in_default.is c.split_last.ensures.cases) h)

pub returns-then-is_some : goal.returns-then-is_some
returns-then-is_some c =
    let p = c.args.parent.now in
    let xs = c.function_parts.result.1.now in
    let named = c.fields_of_target-fields.ensures.1 in
    let is = c.function_parts.ensures.shape ∙ ap (λ f. node (dtype p) (len p) (enc.function f) (slots_of xs)) named in
    let ok = subst (λ f. IsNode (dtype p) (len p) (enc.function f) (shapes (slots_of xs))) named c.function_parts.ensures.node in
    casts_none c.args.slot c.args.child.now p _ _ xs c.slots.result.now is ok c.function_parts.ensures.well c.requires.slot c.requires.structs c.slots.ensures
    (λ zs h. ends_otherwise c.slots.result.now c.in-Some.columns.now zs c.in-Some.validity.now c.in-Some.ensures.cases.0 (present_is c.in-Some.validity.now c.if-is_some.ensures) h)

pub cast_fields-requires : goal.cast_fields-requires
cast_fields-requires c =
    let p = c.args.parent.now in
    let xs = c.function_parts.result.1.now in
    let named = c.fields_of_target-fields.ensures.1 in
    let is = c.function_parts.ensures.shape ∙ ap (λ f. node (dtype p) (len p) (enc.function f) (slots_of xs)) named in
    let ok = subst (λ f. IsNode (dtype p) (len p) (enc.function f) (shapes (slots_of xs))) named c.function_parts.ensures.node in
    castable c.args.slot c.args.child.now p _ _ xs c.slots.result.now is ok c.function_parts.ensures.well c.requires.slot c.requires.structs c.slots.ensures
    c.as_slice.result.now c.in-Some.columns.now c.in-Some.validity.now c.as_slice.ensures.fields c.in-Some.ensures.cases.0 c.well_formed_tree.ensures.supported

pub structs_node-requires : goal.structs_node-requires
structs_node-requires c =
    let p = c.args.parent.now in
    let xs = c.function_parts.result.1.now in
    let named = c.fields_of_target-fields.ensures.1 in
    let is = c.function_parts.ensures.shape ∙ ap (λ f. node (dtype p) (len p) (enc.function f) (slots_of xs)) named in
    let ok = subst (λ f. IsNode (dtype p) (len p) (enc.function f) (shapes (slots_of xs))) named c.function_parts.ensures.node in
    subst (λ n. IsNode (dtype p) n (enc.composed layout.Struct) (shapes (slots_of c.in_ok-casts.casts.items))) (sym c.len.ensures)
    (casts_node c.args.slot c.args.child.now p _ _ xs c.slots.result.now is ok c.function_parts.ensures.well c.requires.slot c.requires.structs c.slots.ensures
    c.as_slice.result.now c.in-Some.columns.now c.in_ok-casts.casts.items c.as_slice.ensures.fields
    (subst (λ z. c.slots.result.now ≡ c.in-Some.columns.now ++ z ∷ []) (absent_is c.in-Some.validity.now c.if-is_some.ensures) c.in-Some.ensures.cases.0) c.in_ok-casts.ensures.ok)

pub returns : goal.returns
returns c =
    let p = c.args.parent.now in
    let xs = c.function_parts.result.1.now in
    let named = c.fields_of_target-fields.ensures.1 in
    let is = c.function_parts.ensures.shape ∙ ap (λ f. node (dtype p) (len p) (enc.function f) (slots_of xs)) named in
    let ok = subst (λ f. IsNode (dtype p) (len p) (enc.function f) (shapes (slots_of xs))) named c.function_parts.ensures.node in
    let made = c.in_ok-structs.ensures.ok ∙ ap (λ n. node (dtype p) n (enc.composed layout.Struct) (slots_of c.in_ok-casts.casts.items)) c.len.ensures in
    casts_answer c.args.slot c.args.child.now p _ _ xs c.slots.result.now is ok c.function_parts.ensures.well c.requires.slot c.requires.structs c.slots.ensures
    c.as_slice.result.now c.in-Some.columns.now c.in_ok-casts.casts.items c.as_slice.ensures.fields
    (subst (λ z. c.slots.result.now ≡ c.in-Some.columns.now ++ z ∷ []) (absent_is c.in-Some.validity.now c.if-is_some.ensures) c.in-Some.ensures.cases.0) c.in_ok-casts.ensures.ok
    c.in_ok-structs.structs c.raw.result made c.raw.ensures

use Rattle.std.proofs.Common.{◌≡◌, rules, length, map, None, Some, Result, Ok, Err, IfErr, sym, ap, subst, ◌∙◌, inr, inl, ◌⊎◌, refl}
use Rattle.vx_value.specs.View.{type_of}
use Rattle.vx_fn.specs.ReturnTypes.{return_type}
use Rattle.std.specs.Prelude.{IsErrAnd}
use Rattle.vx_value.specs.declared.error.VortexError.{VortexError}
use Rattle.vx_value.specs.declared.error.VortexError.TheVariants as VortexError
use Rattle.vx_tree.specs.Tree.{Tree, slots_of, arity_refusal, lengths_refusal, types_in}
use Rattle.vx_tree.specs.Calls.{row_refusal}
use Rattle.vx_tree.specs.Well.{shapes}
use Rattle.vx_tree.proofs.CallsLemmas.{call_lengths_refused, call_row_refused, call_taken, call_made, call_is_node}
use Rattle.vx_tree.proofs.arrays.scalar_fn.ScalarFnArray.try_new_with_len.Goals as goal

-- what `?` hands on
handed_on : (r : Result Tree VortexError) (e : VortexError) (P : VortexError → Type 0) → IsErrAnd r (λ x. x ≡ e) → P e → IfErr r P
handed_on (Ok t) e P h p = tt
handed_on (Err x) e P h p = subst P (sym h) p

row_handed_on : (r : Result Tree VortexError) (e : VortexError) (P Q : VortexError → Type 0) → IsErrAnd r (λ x. x ≡ e) → (e ≡ VortexError.OutOfMemory) ⊎ P e → (P e → Q e)
    → IfErr r (λ x. (x ≡ VortexError.OutOfMemory) ⊎ Q x)
row_handed_on r e P Q h (inl memory) f = handed_on r e _ h (inl memory)
row_handed_on r e P Q h (inr row) f = handed_on r e _ h (inr (f row))

pub returns-in_err-check_that-clause-refused : goal.returns-in_err-check_that-clause-refused
returns-in_err-check_that-clause-refused c =
    let ss = slots_of c.in_ok-slots.slots.items in
    let e = c.in_err-check_that.field-0.0 in
    let count : arity_refusal c.args.scalar_fn (length c.args.children.items) ≡ None = search rules in
    let long : lengths_refusal c.args.len (shapes ss) ≡ Some e = search rules in
    handed_on c.from_residual-in_err-check_that.result e _ c.from_residual-in_err-check_that.ensures.1
    (inr (call_lengths_refused c.args.scalar_fn c.args.children.items c.args.len ss c.in_ok-slots.ensures e count long))

pub returns-clause-ok : goal.returns-clause-ok
returns-clause-ok c =
    let ss = slots_of c.in_ok-slots.slots.items in
    let tys = types_in (shapes ss) in
    let row : return_type c.args.scalar_fn tys ≡ Some (type_of c.in_ok-dtype.dtype) = search rules in
    let made = call_made c.args.scalar_fn c.args.children.items c.args.len ss c.in_ok-slots.ensures tys refl (type_of c.in_ok-dtype.dtype) row in
    made ∙ ap Some (sym c.in_ok-of.ensures.ok)

pub returns-clause-valid : goal.returns-clause-valid
returns-clause-valid c =
    let ss = slots_of c.in_ok-slots.slots.items in
    let tys = types_in (shapes ss) in
    let count : arity_refusal c.args.scalar_fn (length c.args.children.items) ≡ None = search rules in
    let long : lengths_refusal c.args.len (shapes ss) ≡ None = search rules in
    let row : row_refusal (return_type c.args.scalar_fn tys) ≡ None = search rules in
    call_taken c.args.scalar_fn c.args.children.items c.args.len ss c.in_ok-slots.ensures tys refl count long row

pub of-requires-clause-node : goal.of-requires-clause-node
of-requires-clause-node c =
    let ss = slots_of c.in_ok-slots.slots.items in
    let tys = types_in (shapes ss) in
    let long : lengths_refusal c.args.len (shapes ss) ≡ None = search rules in
    let row : return_type c.args.scalar_fn tys ≡ Some (type_of c.in_ok-dtype.dtype) = search rules in
    call_is_node c.args.scalar_fn c.args.children.items c.args.len ss c.in_ok-slots.ensures tys refl (type_of c.in_ok-dtype.dtype) long row

pub returns-in_err-dtype-clause-refused : goal.returns-in_err-dtype-clause-refused
returns-in_err-dtype-clause-refused c =
    let ss = slots_of c.in_ok-slots.slots.items in
    let e = c.in_err-dtype.field-0.0 in
    let count : arity_refusal c.args.scalar_fn (length c.args.children.items) ≡ None = search rules in
    let long : lengths_refusal c.args.len (shapes ss) ≡ None = search rules in
    row_handed_on c.from_residual-in_err-dtype.result e (λ x. row_refusal (return_type c.args.scalar_fn (types_in (shapes ss))) ≡ Some x) _ c.from_residual-in_err-dtype.ensures.1
    (subst (λ zs. (e ≡ VortexError.OutOfMemory) ⊎ (row_refusal (return_type c.args.scalar_fn (types_in (shapes (slots_of zs)))) ≡ Some e)) c.as_slice-2.ensures.value c.in_err-dtype.ensures.refused)
    (λ row. call_row_refused c.args.scalar_fn c.args.children.items c.args.len ss c.in_ok-slots.ensures (types_in (shapes ss)) refl e count long row)

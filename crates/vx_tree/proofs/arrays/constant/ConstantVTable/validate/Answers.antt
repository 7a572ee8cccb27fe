use Rattle.std.proofs.Common.{◌≡◌, Bool, true, List, [], Option, None, Result, Ok, Err, sym, ap, ◌∙◌, rules}
use Rattle.std.specs.Prelude.{OnOk}
use Rattle.vx_value.specs.Types.{DataType, same_type, same_type_Decides}
use Rattle.vx_value.specs.Typed.{Typed}
use Rattle.vx_value.specs.IsOf.{is_of}
use Rattle.vx_value.specs.View.{type_of}
use Rattle.vx_value.specs.declared.error.VortexError.{VortexError}
use Rattle.vx_value.specs.declared.error.VortexError.TheVariants.{InvalidArgument}
use Rattle.vx_value.specs.declared.error.ArgKind.TheVariants.{NodeType}
use Rattle.vx_tree.specs.Conditions.{Checks, unless}
use Rattle.vx_tree.specs.Tree.{constant_refusal, slots_of}
use Rattle.vx_tree.specs.Shapes.{Shape}
use Rattle.vx_tree.specs.Well.{shapes}
use Rattle.vx_tree.proofs.ConditionsLemmas.{none_refused, none_unless, unless_none}
use Rattle.vx_tree.proofs.arrays.constant.ConstantVTable.validate.Goals as goal

-- a scalar is of its own type
checked : {T : Type 0} (r : Result T VortexError) (ty : DataType) (v : Typed) (ss : List (Option Shape)) (b : Bool) → ss ≡ []
    → b ≡ same_type ty v.of_type → is_of v.of_type v.value ≡ true → Checks r (unless b (InvalidArgument NodeType))
    → OnOk r (constant_refusal ty v ss ≡ None)
checked (Ok x) ty v ss b none same typed h =
    let s : same_type ty v.of_type ≡ true = sym same ∙ unless_none b _ h in
    let held : is_of ty v.value ≡ true = ap (λ u. is_of u v.value) ((same_type_Decides ty v.of_type).0 s) ∙ typed in
    ap (constant_refusal ty v) none ∙ none_refused _ _ (none_unless _ _ s) (none_unless _ _ held)
checked (Err e) ty v ss b none same typed h = tt

pub returns-clause-valid : goal.returns-clause-valid
returns-clause-valid c =
    let v = c.args.parts.now.payload.scalar in
    let ty = type_of c.args.parts.now.dtype in
    let none : shapes (slots_of c.args.parts.now.slots.items) ≡ [] = search rules in
    let same : c.is_same_type.result ≡ same_type ty v.of_type = c.is_same_type.ensures ∙ ap (same_type ty) c.dtype.ensures.dtype in
    checked c.check_that.result ty v _ c.is_same_type.result none same c.dtype.ensures.typed c.check_that.ensures

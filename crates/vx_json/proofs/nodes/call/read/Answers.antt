use Rattle.std.proofs.Common.{◌≡◌, ◌∙◌, ⊎_elim, Some, None, ap, sym, refl, inr, rules}
use Rattle.std.specs.Prelude.{option_and_then, is_none, if◌then◌else◌}
use Rattle.serde_json.specs.View.{view}
use Rattle.vx_value.specs.declared.error.VortexError.TheVariants.{OutOfMemory}
use Rattle.vx_tree.specs.Calls.{inferred, inferred_refusal}
use Rattle.vx_json.specs.SpelledNodes.Call.{call_on}
use Rattle.vx_json.specs.SpelledFunctions.{function_at}
use Rattle.vx_json.proofs.nodes.call.read.Goals as goal

pub returns-in-Ok : goal.returns-in-Ok
returns-in-Ok c =
    let children = c.args.children.items in
    let function = c.in_ok-function.function in
    let named : function_at (view c.args.value.now) ≡ Some function = c.in_ok-function.ensures in
    ap (option_and_then (call_on children)) named ∙ ap (λ r. if is_none r then inferred function children else None) c.in-Ok.ensures.valid
    ∙ c.in-Ok.ensures.ok ∙ ap Some (sym c.into_array.ensures)

pub returns-in-Err : goal.returns-in-Err
returns-in-Err c =
    let children = c.args.children.items in
    let function = c.in_ok-function.function in
    let named : function_at (view c.args.value.now) ≡ Some function = c.in_ok-function.ensures in
    let full : c.in-Err.field-0 ≡ OutOfMemory → ⊥ = λ p. search rules in
    let refused : inferred_refusal function children ≡ Some c.in-Err.field-0 = ⊎_elim (λ p. absurd (full p)) (λ q. q) c.in-Err.ensures.refused in
    let none =
    ap (option_and_then (call_on children)) named ∙ ap (λ r. if is_none r then inferred function children else None) refused in
    inr (refl, none)

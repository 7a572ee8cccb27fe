use Rattle.std.proofs.Common.{◌≡◌, sym, subst, ap, ◌∙◌}
use Rattle.vx_tree.specs.Tree.{len, dict_of}
use Rattle.vx_tree.specs.Calls.{called}
use Rattle.vx_rule.specs.DictFunctions.{IsListOfValues}
use Rattle.vx_rule.proofs.DictFunctionsLemmas.{all_there, functions_none, functions_unrefused, functions_answer}
use Rattle.vx_rule.proofs.builtins.dict_fn.function_of_dict.Goals as goal

pub arguments_of_values-requires : goal.arguments_of_values-requires
arguments_of_values-requires c = all_there _ c.function_parts.ensures.node.0 c.function_parts.result.1.now c.function_parts.ensures.node.1

pub returns-in_default : goal.returns-in_default
returns-in_default c =
    let xs = c.function_parts.result.1.now in
    functions_none c.args.slot c.args.child.now c.args.parent.now c.dict_parts.result.0.now c.dict_parts.result.1.now c.function_parts.result.0.now xs
    c.function_parts.ensures.shape c.function_parts.ensures.well c.requires.slot c.requires.passes c.dict_parts.ensures.shape
    (subst (IsListOfValues c.args.slot c.dict_parts.result.1.now xs) c.in_default.is c.in_ok-arguments.ensures.ok)

pub call_of_values-requires : goal.call_of_values-requires
call_of_values-requires c =
    let xs = c.function_parts.result.1.now in
    let list = subst (IsListOfValues c.args.slot c.dict_parts.result.1.now xs) c.in-Some.is c.in_ok-arguments.ensures.ok in
    rw c.len.ensures (functions_unrefused c.args.slot c.args.child.now c.args.parent.now c.dict_parts.result.0.now c.dict_parts.result.1.now
    c.function_parts.result.0.now xs c.function_parts.ensures.shape c.function_parts.ensures.well c.requires.slot c.requires.passes c.dict_parts.ensures.shape
    c.in-Some.arguments.items list.0 list.1)

pub returns : goal.returns
returns c =
    let xs = c.function_parts.result.1.now in
    let list = subst (IsListOfValues c.args.slot c.dict_parts.result.1.now xs) c.in-Some.is c.in_ok-arguments.ensures.ok in
    let f = c.function_parts.result.0.now in
    functions_answer c.args.slot c.args.child.now c.args.parent.now c.dict_parts.result.0.now c.dict_parts.result.1.now f xs
    c.function_parts.ensures.shape c.function_parts.ensures.well c.requires.slot c.requires.passes c.dict_parts.ensures.shape
    c.in-Some.arguments.items list.0 list.1 c.in_ok-call.call _
    (ap (called f c.in-Some.arguments.items) (sym c.len.ensures) ∙ c.in_ok-call.ensures.ok)
    (c.in_ok-tree.ensures.ok ∙ ap (λ k. dict_of k c.in_ok-call.call) c.in_ok-clone.ensures.cases)
    c.in_ok-optimize.ensures.items

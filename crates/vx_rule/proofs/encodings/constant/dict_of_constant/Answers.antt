use Rattle.std.proofs.Common.{◌∙◌}
use Rattle.vx_rule.proofs.SlotsLemmas.{value_typed, told_nullable, told_sized}
use Rattle.vx_rule.proofs.FitsLemmas.{fit_D1}
use Rattle.vx_rule.proofs.encodings.constant.dict_of_constant.Goals as goal

pub named_by-requires-clause-value : goal.named_by-requires-clause-value
named_by-requires-clause-value c =
    value_typed c.args.parent.now c.args.codes.now c.args.values.now c.well_formed_tree.ensures.formed c.requires.dict c.in-Constant.scalar.now
    c.in-Constant.ensures.0 c.in-Constant.ensures.1

pub named_by-requires-clause-nullable : goal.named_by-requires-clause-nullable
named_by-requires-clause-nullable c =
    told_nullable c.args.parent.now c.args.codes.now c.args.values.now c.well_formed_tree.ensures.formed c.requires.dict c.in_ok-validity.validity
    c.in_ok-validity.ensures.ok

pub named_by-requires-clause-rows : goal.named_by-requires-clause-rows
named_by-requires-clause-rows c =
    told_sized c.args.parent.now c.args.codes.now c.args.values.now c.well_formed_tree.ensures.formed c.requires.dict c.in_ok-validity.validity
    c.in_ok-validity.ensures.ok

pub returns : goal.returns
returns c =
    fit_D1 c.args.parent.now c.args.codes.now c.args.values.now c.done.result.tree c.in-Constant.scalar.now c.in_ok-validity.validity
    c.done.result.optimize.items c.requires.dict c.in-Constant.ensures.0 c.in_ok-validity.ensures.ok (c.done.ensures.tree ∙ c.in_ok-named.ensures.ok)
    c.done.ensures.optimize

use Rattle.std.proofs.Common.{◌≡◌, ◌∙◌, ◌∷◌, [], Some, sym, ap, arith}
use Rattle.std.specs.Prelude.{option_map}
use Rattle.vx_tree.specs.Well.{shape_of}
use Rattle.vx_tree.proofs.RefusalsLemmas.{the_slots}
use Rattle.vx_tree.proofs.DictLemmas.{dict_slot_count, codes_missing, values_missing}
use Rattle.vx_tree.proofs.arrays.dict.codes_and_values.Goals as goal

pub returns-then-slots-ne2 : goal.returns-then-slots-ne2
returns-then-slots-ne2 c = dict_slot_count c.args.slots.now c.if-slots-ne2.true

pub returns-in-Some-Some : goal.returns-in-Some-Some
returns-in-Some-Some c =
    the_slots c.args.slots.now c.index-slots-0.result c.index-slots-1.result c.if-slots-ne2.false c.index-slots-0.is c.index-slots-1.is
    ∙ (λ i. option_map shape_of (c.in-Some-Some.is-0 i) ∷ option_map shape_of (c.in-Some-Some.is-1 i) ∷ [])

pub returns-in-Some-None : goal.returns-in-Some-None
returns-in-Some-None c ty n =
    values_missing ty n c.args.slots.now c.index-slots-0.result c.index-slots-1.result _ c.if-slots-ne2.false c.index-slots-0.is c.in-Some-None.is-0
    c.index-slots-1.is c.in-Some-None.is-1

pub returns-in-None-default : goal.returns-in-None-default
returns-in-None-default c ty n =
    codes_missing ty n c.args.slots.now c.index-slots-0.result c.if-slots-ne2.false c.index-slots-0.is c.in-None-default.is-0

use Rattle.std.proofs.Common.{sym, subst}
use Rattle.vx_tree.specs.Conditions.{Checks}
use Rattle.vx_tree.proofs.StructSlotsLemmas.{split_by_slots}
use Rattle.vx_tree.proofs.arrays.structs.check_slots.Goals as goal

pub returns : goal.returns
returns c =
    subst (Checks c.check_split.result)
    (sym (split_by_slots c.args.fields.now c.args.nullability c.args.len c.args.slots.now c.in-Some.others.now c.in-Some.validity.now c.in-Some.ensures.cases.0))
    c.check_split.ensures

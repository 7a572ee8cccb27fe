use Rattle.std.proofs.Common.{arith, ap, sym, ◌∙◌}
use Rattle.vx_mask.specs.declared.mask.Mask.TheVariants.{AllTrue, AllFalse, Values}
use Rattle.vx_mask.proofs.PlacesLemmas.{true_count-le-length}
use Rattle.vx_mask.proofs.MasksLemmas.{mask_of_all, mask_of_none, mask_of_some}
use Rattle.vx_mask.proofs.mask.Mask.from_bits.Goals as goal

pub returns-then-count-len : goal.returns-then-count-len
returns-then-count-len c = ap AllTrue c.len-len.ensures ∙ sym (mask_of_all c.args.bits (omega arith))

pub returns-then-count-eq0 : goal.returns-then-count-eq0
returns-then-count-eq0 c = ap AllFalse c.len-len.ensures ∙ sym (mask_of_none c.args.bits (omega arith) (omega arith))

pub new-requires-clause-not_all : goal.new-requires-clause-not_all
new-requires-clause-not_all c = omega (arith, true_count-le-length c.args.bits)

pub returns-else-count-eq0 : goal.returns-else-count-eq0
returns-else-count-eq0 c =
    let bits = c.args.bits in
    ap Values c.new.ensures ∙ sym (mask_of_some bits (omega arith) (omega (arith, true_count-le-length bits)))

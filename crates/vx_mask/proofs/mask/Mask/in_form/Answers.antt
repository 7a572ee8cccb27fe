use Rattle.std.proofs.Common.{arith, ap, sym, ◌∙◌}
use Rattle.vx_mask.specs.Masks.{bits_in, mask_of}
use Rattle.vx_mask.specs.declared.mask.Mask.TheVariants.{Values}
use Rattle.vx_mask.proofs.MasksLemmas.{mask_of_trues, mask_of_some}
use Rattle.vx_mask.proofs.mask.Mask.in_form.Goals as goal

pub returns-in-AllTrue : goal.returns-in-AllTrue
returns-in-AllTrue c = sym (ap (λ m. mask_of (bits_in m)) c.in-AllTrue.is ∙ mask_of_trues c.in-AllTrue.len)

pub returns-in_ok-clone-in-Values : goal.returns-in_ok-clone-in-Values
returns-in_ok-clone-in-Values c =
    let bits = c.in-Values.values in
    let count = c.true_count-some.ensures in
    ap Values c.in_ok-clone-in-Values.ensures.cases
    ∙ sym (ap (λ m. mask_of (bits_in m)) c.in-Values.is ∙ mask_of_some bits (omega arith) (omega arith))

use Rattle.std.proofs.Common.{◌≡◌, false, refl, subst, rules}
use Rattle.std.proofs.lemmas.Result.{IfOk-weaker}
use Rattle.vx_mask.specs.Operands.{bit_in, HasBits}
use Rattle.vx_column.proofs.RowsLemmas.{rows_shared, value_repeated}
use Rattle.vx_column.proofs.functions.kernel.stored.bit_rows.Goals as goal

pub returns-in_ok-clone-in-Bits : goal.returns-in_ok-clone-in-Bits
returns-in_ok-clone-in-Bits c =
    let n = c.args.len in
    let same : c.in_ok-clone-in-Bits.field-0 ≡ c.in-Bits.rows.now = search rules in
    rows_shared bit_in c.args.bits n false _ c.in-Bits.rows.now _ c.in-Bits.is same (subst (λ b. HasBits b n) c.in-Bits.is c.requires) (λ i. refl)

pub returns-in-Bit : goal.returns-in-Bit
returns-in-Bit c =
    IfOk-weaker c.repeat.result _ _ (λ b made. value_repeated bit_in c.args.bits c.args.len _ c.in-Bit.bit _ b c.in-Bit.is made refl (λ i. refl))
    c.repeat.ensures

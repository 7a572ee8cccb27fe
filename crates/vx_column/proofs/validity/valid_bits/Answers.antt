use Rattle.std.proofs.Common.{true, false, length, sym, ap, subst, ◌∙◌}
use Rattle.std.proofs.lemmas.List.{length-replicate, get_or-replicate}
use Rattle.std.proofs.lemmas.Result.{IfOk-weaker}
use Rattle.vx_mask.specs.Logic.{bit_row}
use Rattle.vx_column.specs.ValidRows.{is_valid, HasValidity}
use Rattle.vx_column.proofs.validity.valid_bits.Goals as goal

pub returns-in-All-clause-sized : goal.returns-in-All-clause-sized
returns-in-All-clause-sized c = IfOk-weaker c.repeat.result _ _ (λ bits is. ap length is ∙ length-replicate c.args.len true) c.repeat.ensures

pub returns-in-All-clause-rows : goal.returns-in-All-clause-rows
returns-in-All-clause-rows c =
    IfOk-weaker c.repeat.result _ _
    (λ bits is i lt. ap (λ bs. bit_row bs i) is ∙ get_or-replicate c.args.len i true false lt ∙ ap (λ v. is_valid v i) (sym c.in-All.is)) c.repeat.ensures

pub returns-in-Bits-clause-sized : goal.returns-in-Bits-clause-sized
returns-in-Bits-clause-sized c = subst (λ v. HasValidity v c.args.len) c.in-Bits.is c.requires

pub returns-in-Bits-clause-rows : goal.returns-in-Bits-clause-rows
returns-in-Bits-clause-rows c = λ i lt. ap (λ v. is_valid v i) (sym c.in-Bits.is)

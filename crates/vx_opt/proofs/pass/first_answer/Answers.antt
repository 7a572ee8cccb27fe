use Rattle.std.proofs.Common.{None, arith, subst}
use Rattle.vx_rule.specs.Answers.{IsAnswer}
use Rattle.vx_opt.proofs.EntriesLemmas.{spent_refl}
use Rattle.vx_opt.proofs.PassLemmas.{quiet_all, quiet_more}
use Rattle.vx_opt.proofs.CountedLemmas.{passed_on, fails_here, fails_after}
use Rattle.vx_opt.proofs.PassedLemmas.{own_answered, slot_declined, slot_failed, slot_answered, passed_after, declined_after}
use Rattle.vx_opt.proofs.pass.first_answer.Goals as goal

pub returns-in_err-raw : goal.returns-in_err-raw
returns-in_err-raw g c = passed_on _ _ _ _ c.from_residual.ensures.1 (fails_here _ c.in_err-raw.field-0.0 c.in_err-raw.ensures.err)

pub loop-slot-init : goal.loop-slot-init
loop-slot-init g c = record {
  own = subst (IsAnswer None c.args.array.now) c.in_default.is c.in_ok-raw.ensures.answer;
  quiet = λ j l. absurd (omega arith);
  spent = spent_refl _;
}

pub returns-in_err-raw-2 : goal.returns-in_err-raw-2
returns-in_err-raw-2 g c =
    passed_on _ _ _ _ c.from_residual-in_err-raw-2.ensures.1
    (fails_after _ _ _ _ c.loop-slot.invariant.spent.later (slot_failed c.loop-slot.slot c.args.array.now _ _ _ c.in_err-raw-2.ensures))

pub returns-in-Some-2 : goal.returns-in-Some-2
returns-in-Some-2 g c =
    passed_after _ _ _ _ c.in-Some-2.raw c.loop-slot.invariant.spent
    (slot_answered c.loop-slot.slot c.args.array.now _ _ _ c.in-Some-2.raw c.in_ok-raw-2.ensures c.in-Some-2.is
    (c.loop-slot.invariant.own, c.loop-slot.invariant.quiet))

pub loop-slot-preserved : goal.loop-slot-preserved
loop-slot-preserved g c =
    let t = c.args.array.now in
    let d = slot_declined c.loop-slot.slot t _ _ _ c.in_ok-raw-2.ensures c.in_default-2.is in
    record {
      own = c.loop-slot.invariant.own;
      quiet = quiet_more t c.loop-slot.slot c.loop-slot.invariant.quiet d.0;
      spent = declined_after _ _ _ c.loop-slot.invariant.spent d.1;
    }

pub returns-in-Some : goal.returns-in-Some
returns-in-Some g c =
    own_answered c.args.array.now _ c.in-Some.raw (subst (IsAnswer None c.args.array.now) c.in-Some.is c.in_ok-raw.ensures.answer)

pub returns : goal.returns
returns g c = (
  quiet_all c.args.array.now c.loop-slot.slot (omega (arith, c.loop-slot-test.false, c.loop-slot.auto.slot-end, c.number_of_slots-slot-end.ensures))
      c.loop-slot.invariant.own c.loop-slot.invariant.quiet,
  c.loop-slot.invariant.spent,
)

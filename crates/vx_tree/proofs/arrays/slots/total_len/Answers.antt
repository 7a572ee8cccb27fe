use Rattle.std.proofs.Common.{◌≡◌, ◌≤◌, length, drop, ◌+◌, ◌∙◌, ap, sym, arith, subst}
use Rattle.vx_tree.specs.SlotTypes.{rows_in}
use Rattle.vx_value.specs.declared.error.VortexError.TheVariants.{TooLong}
use Rattle.vx_tree.proofs.SlotTypesLemmas.{too_many, total_of, total_more, fits_at, full_at, none_too_many, no_total}
use Rattle.vx_tree.proofs.arrays.slots.total_len.Goals as goal
use Rattle.std.specs.Prelude.{Some, None}

pub returns-then-factor-len : goal.returns-then-factor-len
returns-then-factor-len c =
    let s = c.index-slots-slot.result in
    let n = c.loop-slot.len in
    let factor : c.rows_in-factor.result ≡ rows_in s = c.rows_in-factor.ensures in
    c.loop-slot.invariant.joined
    ∙ full_at n c.args.slots.now c.loop-slot.slot s (omega arith) c.loop-slot-test.true c.index-slots-slot.is (omega (arith, factor, c.if-factor-len.true))
    ∙ ap (λ m. Some (TooLong n m)) (sym factor)

pub loop-slot-preserved : goal.loop-slot-preserved
loop-slot-preserved c =
    let s = c.index-slots-slot.result in
    let n = c.loop-slot.len in
    let xs = c.args.slots.now in
    let k = c.loop-slot.slot in
    let factor : c.rows_in-factor.result ≡ rows_in s = c.rows_in-factor.ensures in record {
      joined =
          c.loop-slot.invariant.joined
          ∙ fits_at n xs k s (omega arith) c.loop-slot-test.true c.index-slots-slot.is (omega (arith, factor, c.if-factor-len.false))
          ∙ ap (λ m. too_many (n + m) (drop (k + 1) xs)) (sym factor);
      total = omega (arith, c.loop-slot.invariant.total, total_more xs k s c.loop-slot-test.true c.index-slots-slot.is, factor);
    }

pub returns : goal.returns
returns c =
    let xs = c.args.slots.now in
    let k = c.loop-slot.slot in
    let done : length xs ≤ k = omega (arith, c.loop-slot-test.false) in (
      omega (arith, c.loop-slot.invariant.total, no_total xs k done),
      c.loop-slot.invariant.joined ∙ none_too_many c.loop-slot.len xs k done,
    )

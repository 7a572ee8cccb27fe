use Rattle.std.proofs.Common.{pos, false, [], ap, subst, ◌∙◌}
use Rattle.std.proofs.lemmas.Result.{on_ok_weaker}
use Rattle.vx_value.specs.Values.{boolean, integer, decimal, bytes}
use Rattle.vx_mask.specs.Operands.{bit_in}
use Rattle.vx_column.specs.Arguments.{value_at, integer_in, unscaled_in, bytes_in}
use Rattle.vx_column.specs.Growing.{stored_values, zero_in, AcceptRows}
use Rattle.vx_column.specs.declared.builder.values.Values.TheVariants.{Decimals}
use Rattle.vx_column.proofs.GrowingLemmas.{more_rows, more_null_rows}
use Rattle.vx_column.proofs.builder.values.Values.push_rows.Goals as goal
use Rattle.vx_column.proofs.builder.values.Values.push_rows.Goals.{in-Nulls-Nulls, in-Bits-Bits, in-Integers-Integers, in-Decimals-Decimals, in-Bytes-Bytes}

pub returns-clause-ok : goal.returns-clause-ok
returns-clause-ok c =
    let old = c.args.self.now in
    let rows = c.args.rows in
    let valid = c.args.valid.now in
    elim c.match-self.branch [
      | in-Nulls-Nulls w ↦
          let k = w.in-Nulls-Nulls in
          rw (w.self-is, w.result-is) (more_null_rows old k.count c.args.len rows valid k.is-0 k.is-1)
      | in-Bits-Bits w ↦
          let k = w.in-Bits-Bits in
          rw (w.self-is, w.result-is)
          (on_ok_weaker w.push_bits.result
          (λ e. more_rows old (boolean) false rows (bit_in k.bits) valid c.args.len k.kept w.push_bits.new.kept (ap stored_values k.is-0) (ap zero_in k.is-0)
          (ap value_at k.is-1) (e))
          w.push_bits.ensures.ok)
      | in-Integers-Integers w ↦
          let k = w.in-Integers-Integers in
          rw (w.self-is, w.result-is)
          (on_ok_weaker w.push_integers.result
          (λ e. more_rows old (integer) (pos 0) rows (integer_in k.integers) valid c.args.len k.kept.numbers w.push_integers.new.kept.numbers (ap stored_values k.is-0) (ap zero_in k.is-0)
          (ap value_at k.is-1) (ap (λ v. v.numbers) e))
          w.push_integers.ensures.ok)
      | in-Decimals-Decimals w ↦
          let k = w.in-Decimals-Decimals in
          let accepted = subst (λ r. AcceptRows (Decimals k.kept k.field-1-0) r c.args.len) k.is-1
          (subst (λ v. AcceptRows v rows c.args.len) k.is-0 c.requires.rows) in
          rw (w.self-is, w.result-is)
          (on_ok_weaker w.push_decimals.result
          (λ e. more_rows old (λ z. decimal z k.field-1-0) (pos 0) rows (unscaled_in k.decimals) valid c.args.len k.kept.numbers w.push_decimals.new.kept.numbers (ap stored_values k.is-0) (ap zero_in k.is-0)
          (ap value_at k.is-1 ∙ (λ j i. decimal (unscaled_in k.decimals i) (accepted.2 j))) (ap (λ v. v.numbers) e))
          w.push_decimals.ensures.ok)
      | in-Bytes-Bytes w ↦
          let k = w.in-Bytes-Bytes in
          rw (w.self-is, w.result-is)
          (on_ok_weaker w.push_bytes.result
          (λ e. more_rows old (bytes) [] rows (bytes_in k.bytes) valid c.args.len k.kept w.push_bytes.new.kept (ap stored_values k.is-0) (ap zero_in k.is-0)
          (ap value_at k.is-1) (e))
          w.push_bytes.ensures.ok)
    ]

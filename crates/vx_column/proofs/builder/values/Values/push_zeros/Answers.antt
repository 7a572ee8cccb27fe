use Rattle.std.proofs.Common.{pos, false, [], ◌++◌, replicate, ap, sym, ◌∙◌}
use Rattle.std.proofs.lemmas.Result.{on_ok_weaker}
use Rattle.vx_value.specs.Values.{boolean, integer, decimal, bytes}
use Rattle.vx_column.specs.Growing.{stored_values, zero_in}
use Rattle.vx_column.proofs.GrowingLemmas.{more_zeros, more_nulls}
use Rattle.vx_column.proofs.builder.values.Values.push_zeros.Goals as goal

pub returns-in-Nulls-clause-ok : goal.returns-in-Nulls-clause-ok
returns-in-Nulls-clause-ok c =
    more_nulls c.args.self.now c.in-Nulls.rows c.args.count c.in-Nulls.is
    ∙ ap (λ vs. stored_values c.args.self.now ++ replicate c.args.count (zero_in vs)) (sym c.in-Nulls.is)

pub returns-in_ok-push_copies-in-Bits-clause-ok : goal.returns-in_ok-push_copies-in-Bits-clause-ok
returns-in_ok-push_copies-in-Bits-clause-ok c =
    more_zeros c.args.self.now boolean false c.in-Bits.bits _ c.args.count (ap stored_values c.in-Bits.is) (ap zero_in c.in-Bits.is)
    c.in_ok-push_copies-in-Bits.ensures.ok

pub returns-in-Integers-clause-ok : goal.returns-in-Integers-clause-ok
returns-in-Integers-clause-ok c =
    on_ok_weaker _
    (more_zeros c.args.self.now integer (pos 0) c.in-Integers.values.numbers _ c.args.count (ap stored_values c.in-Integers.is)
    (ap zero_in c.in-Integers.is))
    (on_ok_weaker _ (ap (λ v. v.numbers)) c.push_zeros.ensures.ok)

pub returns-in-Decimals-clause-ok : goal.returns-in-Decimals-clause-ok
returns-in-Decimals-clause-ok c =
    on_ok_weaker _
    (more_zeros c.args.self.now (λ z. decimal z c.in-Decimals.field-1) (pos 0) c.in-Decimals.values.numbers _ c.args.count
    (ap stored_values c.in-Decimals.is) (ap zero_in c.in-Decimals.is))
    (on_ok_weaker _ (ap (λ v. v.numbers)) c.push_zeros-in-Decimals.ensures.ok)

pub returns-in-Bytes-clause-ok : goal.returns-in-Bytes-clause-ok
returns-in-Bytes-clause-ok c =
    on_ok_weaker _
    (more_zeros c.args.self.now bytes [] c.in-Bytes.rows _ c.args.count (ap stored_values c.in-Bytes.is) (ap zero_in c.in-Bytes.is))
    c.push_empty.ensures.ok

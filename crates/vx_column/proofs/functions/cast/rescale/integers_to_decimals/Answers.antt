use Rattle.std.proofs.Common.{◌∙◌}
use Rattle.vx_tree.specs.Buffers.{numbers_in}
use Rattle.vx_column.specs.Arguments.{integer_in}
use Rattle.vx_column.proofs.CastsLemmas.{decimals_cast}
use Rattle.vx_column.proofs.functions.cast.rescale.integers_to_decimals.Goals as goal

pub returns : goal.returns
returns c =
    let new = c.new-rescaling in
    let made = c.in_ok-values in
    let both = decimals_cast new.result c.args.target 0 new.ensures.target new.ensures.scale (integer_in c.args.integers) (numbers_in c.buffer.result.now)
    c.args.valid.now c.args.len (c.buffer.ensures ∙ made.ensures.values) c.rescale_numbers.result c.rescale_numbers.ensures.ok c.rescale_numbers.ensures.err in
    record { ok = both.0; err = both.1 }

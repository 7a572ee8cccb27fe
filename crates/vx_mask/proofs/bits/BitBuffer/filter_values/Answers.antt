use Rattle.std.proofs.Common.{arith}
use Rattle.vx_mask.proofs.ChosenLemmas.{run_within, run_chosen}
use Rattle.vx_mask.proofs.bits.BitBuffer.filter_values.Goals as goal

pub slice-requires-clause-bounds : goal.slice-requires-clause-bounds
slice-requires-clause-bounds c =
    let range = c.in-Some.range in
    omega (arith, run_within c.args.mask.now range.start range.end c.in-Some.ensures, c.requires)

pub returns-in-Some : goal.returns-in-Some
returns-in-Some c =
    let range = c.in-Some.range in
    rw (run_chosen c.args.mask.now c.args.self.now range.start range.end c.in-Some.ensures) c.slice.ensures

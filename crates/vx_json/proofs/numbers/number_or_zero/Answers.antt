use Rattle.std.proofs.Common.{Some, ap, ◌∙◌}
use Rattle.vx_json.proofs.numbers.number_or_zero.Goals as goal

pub returns-then-null : goal.returns-then-null
returns-then-null g c =
    let zero = ap g.T.Number.value c.zero.ensures ∙ g.met.T.Zero.zero_law g.met.T.Integral.exact_law in
    rw c.if-null.true (ap Some zero)

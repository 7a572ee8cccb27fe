use Rattle.std.proofs.Common.{◌≤◌, arith}
use Rattle.vx_value.proofs.CastsLemmas.{power_fits}
use Rattle.vx_value.proofs.rescaling.Rescaling.new.Goals as goal
use Rattle.vx_value.proofs.rescaling.Rescaling.new.Goals.{then-scale, else-scale}

pub pow-requires : goal.pow-requires
pow-requires c =
    let d = c.args.target in
    let few : c.if-scale.zeros ≤ 38 = elim c.if-scale.branch [
      | then-scale w ↦ omega (arith, w.zeros-is, w.scale-then-scale.ensures, d.is_decimal.1, d.is_decimal.2)
      | else-scale w ↦ omega (arith, w.zeros-is, w.scale-else-scale.ensures, c.requires)
    ] in
    power_fits c.if-scale.zeros few

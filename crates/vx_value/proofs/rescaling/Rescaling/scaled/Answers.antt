use Rattle.std.proofs.Common.{◌≤◌, ◌∙◌, arith, rules}
use Rattle.std.proofs.lemmas.Int.{to_z-of_z}
use Rattle.std.specs.Int.{w128}
use Rattle.vx_value.proofs.PowersLemmas.{fits_by, divides_by, lengthened_in, shortened_by}
use Rattle.vx_value.proofs.rescaling.Rescaling.scaled.Goals as goal

pub nonzero_rem-number : goal.nonzero_rem-number
nonzero_rem-number c = let s = c.args.self.now in divides_by s.target s.scale s.power c.args.number s.has_power c.ranges.number

pub nonzero_div-result : goal.nonzero_div-result
nonzero_div-result c = let s = c.args.self.now in divides_by s.target s.scale s.power c.args.number s.has_power c.ranges.number

pub returns-then-self-scale : goal.returns-then-self-scale
returns-then-self-scale c =
    let s = c.args.self.now in
    let z = c.args.number in
    let below : s.scale ≤ s.target.scale = omega (arith, c.scale.ensures, c.if-self-scale.true) in
    lengthened_in s.target s.scale s.power z s.has_power below _ _ (to_z-of_z w128 z c.ranges.number)
    (to_z-of_z w128 s.power (fits_by s.target s.scale s.power z s.has_power)) c.checked_mul.result c.checked_mul.ensures

pub returns-then-number-self-eq0 : goal.returns-then-number-self-eq0
returns-then-number-self-eq0 c =
    let s = c.args.self.now in
    let above : ¬ (s.scale ≤ s.target.scale) = λ h. omega (arith, c.scale.ensures, c.if-self-scale.false, h) in
    shortened_by s.target s.scale s.power c.args.number s.has_power above ∙ search rules

pub returns-else-number-self-eq0 : goal.returns-else-number-self-eq0
returns-else-number-self-eq0 c =
    let s = c.args.self.now in
    let above : ¬ (s.scale ≤ s.target.scale) = λ h. omega (arith, c.scale.ensures, c.if-self-scale.false, h) in
    shortened_by s.target s.scale s.power c.args.number s.has_power above ∙ search rules

use Rattle.std.proofs.Common.{◌∙◌, ◌<◌, length, [], ◌∷◌, ◌++◌, ap, arith, rules}
use Rattle.std.proofs.Math.ListN.{get_or}
use Rattle.vx_value.specs.View.{type_of, cell_of}
use Rattle.vx_value.specs.IsOf.{is_of}
use Rattle.vx_value.specs.Fits.{list_overflow}
use Rattle.vx_value.proofs.ScalarPartsLemmas.{same_counts, part_typed, part_fits, present_at, one_more}
use Rattle.vx_value.proofs.parts.present_fields.Goals as goal

pub loop-i-init : goal.loop-i-init
loop-i-init c = record {
  counts = same_counts c.args.types.now c.args.values.now c.requires.typed;
  made = search rules;
  typed = c.requires.typed;
  fit = c.requires.fit;
}

pub copied-requires : goal.copied-requires
copied-requires c =
    let fs = c.args.types.now in let vs = c.args.values.now in let l = c.loop-i in
    let f = c.index-types-i in let v = c.index-values-i in
    let t = type_of (get_or fs l.i f.result).dtype in
    let within : l.i < length vs = omega (arith, c.loop-i-test.true, l.invariant.counts) in
    record {
      typed = ap (λ x. is_of t (cell_of x)) v.is ∙ (part_typed fs vs l.i f.result v.result c.loop-i-test.true within l.invariant.typed).0;
      fits = ap (λ x. list_overflow t (cell_of x)) v.is ∙ (part_fits fs vs l.i f.result v.result c.loop-i-test.true within l.invariant.fit).0;
    }

pub loop-i-preserved : goal.loop-i-preserved
loop-i-preserved c =
    let fs = c.args.types.now in let vs = c.args.values.now in let l = c.loop-i in
    let f = c.index-types-i in let v = c.index-values-i in
    let t = type_of (get_or fs l.i f.result).dtype in
    let below = c.loop-i-test.true in
    let within : l.i < length vs = omega (arith, below, l.invariant.counts) in
    let next = c.in_ok-copied.ensures.ok ∙ ap (λ x. record { of_type = t; value = cell_of x }) v.is in
    record {
      counts = l.invariant.counts;
      made =
          one_more _ l.scalars.items c.push.new.self.items _ _ _ l.invariant.made (present_at fs vs l.i f.result v.result below within)
          (c.in_ok-push.ensures.items ∙ ap (λ s. l.scalars.items ++ s ∷ []) next);
      typed = (part_typed fs vs l.i f.result v.result below within l.invariant.typed).1;
      fit = (part_fits fs vs l.i f.result v.result below within l.invariant.fit).1;
    }

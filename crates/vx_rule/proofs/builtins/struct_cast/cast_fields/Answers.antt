use Rattle.std.proofs.Common.{arith, ◌≡◌, ◌∷◌, [], ◌+◌, get_or, length, length-append, sym, subst, ap, ◌∙◌}
use Rattle.vx_rule.specs.StructCasts.{IsCastable, IsSlotCast, AreFirstCast, AreFieldsCast}
use Rattle.vx_rule.proofs.StructCastsLemmas.{castable_long, castable_at, cast_more, cast_end}
use Rattle.vx_rule.proofs.builtins.struct_cast.cast_fields.Goals as goal

pub bounds-fields-index : goal.bounds-fields-index
bounds-fields-index c = omega (arith, castable_long c.args.fields.now c.args.columns.now c.requires)

pub cast_slot-requires : goal.cast_slot-requires
cast_slot-requires c =
    let fl = c.args.fields.now in
    let xs = c.args.columns.now in
    let i = c.loop-index.index in
    let d = c.index-fields-index.result in
    let e = c.index-columns-index.result in
    subst (IsCastable (get_or fl i d).dtype) (sym c.index-columns-index.is) (castable_at fl xs i d e c.requires c.loop-index-test.true)

pub loop-index-preserved : goal.loop-index-preserved
loop-index-preserved c =
    let fl = c.args.fields.now in
    let xs = c.args.columns.now in
    let ys = c.loop-index.casts.items in
    let i = c.loop-index.index in
    let d = c.index-fields-index.result in
    let e = c.index-columns-index.result in
    let y = c.in_ok-cast_slot.field-0 in
    let cast = subst (λ o. IsSlotCast (get_or fl i d).dtype o y) c.index-columns-index.is c.in_ok-cast_slot.ensures.ok in
    let more = c.in_ok-push.ensures.items in
    let long : length c.push.new.self.items ≡ length ys + 1 = ap length more ∙ length-append ys (y ∷ []) in (
      subst (AreFirstCast fl xs) (sym more) (cast_more fl xs ys i d e y c.requires c.loop-index.invariant.0 c.loop-index.invariant.1 c.loop-index-test.true cast),
      omega (arith, long, c.loop-index.invariant.1),
    )

pub returns-clause-ok : goal.returns-clause-ok
returns-clause-ok c =
    let fl = c.args.fields.now in
    let xs = c.args.columns.now in
    let ys = c.loop-index.casts.items in
    let all : length ys ≡ length xs = omega (arith, c.loop-index.invariant.1, c.loop-index-test.false, c.loop-index.auto.index-end) in
    subst (AreFieldsCast fl xs) (sym c.in_ok-push-2.ensures.items) (cast_end fl xs ys c.requires c.loop-index.invariant.0 all)

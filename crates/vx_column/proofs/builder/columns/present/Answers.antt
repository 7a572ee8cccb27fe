use Rattle.std.proofs.Common.{◌∙◌, ◌<◌, length, ap, sym, subst}
use Rattle.vx_value.specs.Typed.{Typed}
use Rattle.vx_column.specs.ValidRows.{child_in}
use Rattle.vx_tree.specs.Validities.{child_by}
use Rattle.vx_column.proofs.BuiltLemmas.{told_child}
use Rattle.vx_column.proofs.FieldColumnsLemmas.{valid_told, null_told, all_told, null_struct}
use Rattle.vx_column.proofs.builder.columns.present.Goals as goal
use Rattle.vx_column.proofs.builder.columns.present.Goals.{then-is_null+in_ok-push_nulls, else-is_null}

pub loop-i-preserved : goal.loop-i-preserved
loop-i-preserved c =
    let ss = c.args.scalars.now in
    let l = c.loop-i in
    let s = c.index-scalars-i.result in
    let at = c.index-scalars-i.is in
    let there = c.loop-i-test.true in
    elim c.if-is_null.branch [
      | then-is_null+in_ok-push_nulls w ↦
          let null = sym c.is_null.ensures ∙ w.if-is_null.true in
          record {
            so = null_told ss l.i l.valid c.if-is_null.valid s l.invariant.so there at (w.valid-is ∙ w.in_ok-push_nulls.ensures.ok) null;
            nullable = λ fs all some. null_struct fs c.args.nullability s (ap (λ (r : Typed). r.of_type) at ∙ all l.i s there) c.dtype-dtype.ensures.typed null;
          }
      | else-is_null w ↦ record {
        so = valid_told ss l.i l.valid c.if-is_null.valid s l.invariant.so there at w.valid-is (sym c.is_null.ensures ∙ w.if-is_null.false);
        nullable = λ fs all some. l.invariant.nullable fs all (subst (λ bits. 0 < length bits) w.valid-is some);
      }
    ]

pub returns-clause-ok : goal.returns-clause-ok
returns-clause-ok c =
    let ss = c.args.scalars.now in
    let l = c.loop-i in
    ap child_in c.in_ok-finish.ensures ∙ told_child c.args.nullability _ l.valid
    ∙ ap child_by (all_told ss l.i l.valid l.invariant.so l.auto.i-end c.loop-i-test.false)

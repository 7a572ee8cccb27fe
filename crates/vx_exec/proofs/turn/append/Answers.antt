use Rattle.std.proofs.Common.{◌≡◌, ◌<◌, ◌^◌, None, sym, ap, subst, ◌∙◌}
use Rattle.vx_tree.specs.Tree.{len}
use Rattle.vx_tree.specs.Well.{IsWell}
use Rattle.vx_tree.specs.Canonicals.{columnar_tree}
use Rattle.vx_column.specs.Grown.{IsGrown, with_column, column_refusal}
use Rattle.vx_step.specs.Contents.{IsWithout}
use Rattle.vx_exec.specs.declared.turn.Focus.TheVariants.{Partial}
use Rattle.vx_exec.proofs.MovesLemmas.{never_refused}
use Rattle.vx_exec.proofs.turn.append.Goals as goal

pub append_rows-requires : goal.append_rows-requires
append_rows-requires c =
    let t = c.args.node in
    let u = columnar_tree c.in-Ok.column in
    let p = c.in_ok-parent.parent in
    let w = subst (λ x. IsWithout c.args.slot x p t) (sym c.in-Ok.ensures.ok) c.in_ok-parent.ensures.ok in
    let short : len u < 2 ^ 64 = subst (λ n. n < 2 ^ 64) c.len-in-Ok.ensures c.know_bound-in-Ok.ensures in
    let long : len t < 2 ^ 64 = subst (λ n. n < 2 ^ 64) c.len.ensures c.know_bound.ensures in
    subst (λ r. column_refusal r u ≡ None) (sym c.in_ok-builder.ensures.ok)
    (never_refused c.args.builder c.args.slot t u p c.requires.formed c.requires.next w short long)

pub returns-in-Ok-append_rows-clause-ok : goal.returns-in-Ok-append_rows-clause-ok
returns-in-Ok-append_rows-clause-ok c =
    let t = c.args.node in
    let u = columnar_tree c.in-Ok.column in
    let p = c.in_ok-parent.parent in
    let w = subst (λ x. IsWithout c.args.slot x p t) (sym c.in-Ok.ensures.ok) c.in_ok-parent.ensures.ok in
    let same = c.in-Ok-append_rows.ensures.ok ∙ ap (λ r. with_column r u) c.in_ok-builder.ensures.ok in (
      u,
      p,
      w,
      ap (Partial p) same,
      c.in-Ok-append_rows.ensures.told,
      subst IsWell c.as_array.ensures.of c.well_formed_tree.ensures.formed,
      subst IsGrown same c.in-Ok-append_rows.ensures.grown,
    )

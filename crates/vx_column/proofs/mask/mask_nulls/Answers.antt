use Rattle.std.proofs.Common.{IfOk, ◌≡◌, ap, sym, subst, ◌∙◌}
use Rattle.vx_tree.specs.Tree.{nulls, nulls_of, masked_of, datum}
use Rattle.vx_tree.specs.Keeps.{KeepsExactly}
use Rattle.vx_tree.specs.Canonicals.{canonical_tree}
use Rattle.vx_tree.specs.declared.canonical.canonical.Canonical.{Canonical}
use Rattle.vx_column.specs.Masked.{TellsAll}
use Rattle.vx_column.proofs.NullsLemmas.{unmasked_nulls, masked_nulls}
use Rattle.vx_column.proofs.mask.mask_nulls.Goals as goal
use Rattle.vx_column.proofs.mask.mask_nulls.Goals.{in-Ok+in_ok-new-in-Ok, in-Err}

pub returns-in_default-clause-ok : goal.returns-in_default-clause-ok
returns-in_default-clause-ok c =
    let n = c.args.len in
    subst (λ v. KeepsExactly (masked_of (nulls_of n) v) c.in_ok-new.field-0) (sym c.in_default.is) (unmasked_nulls n c.in_ok-new.field-0 c.in_ok-new.ensures.ok)

pub returns-clause-ok : goal.returns-clause-ok
returns-clause-ok c =
    let n = c.args.len in
    let t = c.in-Some.child in
    let there = c.in-Some.is in
    let tells = subst (TellsAll n) there c.requires in
    let Kept : Canonical → Type 0 = λ u. KeepsExactly (masked_of (nulls_of n) c.args.validity.now) (canonical_tree u) in
    elim c.match-truths_in.branch [
      | in-Ok+in_ok-new-in-Ok w ↦
          let bits = w.in-Ok.field-0 in
          let u = w.in_ok-new-in-Ok.field-0 in
          let kept = masked_nulls n t u bits w.in-Ok.ensures.ok (w.in-Ok.ensures.sized ∙ tells.2) w.in_ok-new-in-Ok.ensures.ok in
          subst (λ r. IfOk r Kept) (sym w.result-is) (subst (λ v. KeepsExactly (masked_of (nulls_of n) v) u) (sym there) kept)
      | in-Err w ↦ subst (λ r. IfOk r Kept) (sym w.result-is) tt
    ]

pub returns-clause-stored : goal.returns-clause-stored
returns-clause-stored c =
    let Stored : Canonical → Type 0 = λ u. datum (canonical_tree u) ≡ nulls in
    elim c.match-truths_in.branch [
      | in-Ok+in_ok-new-in-Ok w ↦ subst (λ r. IfOk r Stored) (sym w.result-is) (ap datum w.in_ok-new-in-Ok.ensures.ok)
      | in-Err w ↦ subst (λ r. IfOk r Stored) (sym w.result-is) tt
    ]

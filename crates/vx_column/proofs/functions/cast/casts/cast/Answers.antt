use Rattle.std.proofs.Common.{inl, inr, sym, subst, ◌∙◌, ◌∷◌, []}
use Rattle.std.proofs.lemmas.Result.{IfOk-weaker, IfErr-weaker, err_from_is_err_and}
use Rattle.vx_fn.specs.declared.function.ScalarFnRef.TheVariants.{Cast}
use Rattle.vx_tree.specs.Canonicals.{canonical_tree}
use Rattle.vx_column.specs.Computed.{HasNoCanonicalResult}
use Rattle.vx_column.proofs.CastsLemmas.{shown_again, is_cast_target, cast_computed, cast_not_computed, null_not_computed}
use Rattle.vx_column.proofs.functions.cast.casts.cast.Goals as goal

pub cast_rows-requires-clause-shown : goal.cast_rows-requires-clause-shown
cast_rows-requires-clause-shown c =
    let a = c.args.input.now in
    shown_again a.rows a.valid c.in_ok-valid.valid c.args.len c.in_ok-valid.ensures.rows c.requires.taken.sized.0.2

pub cast_rows-requires-clause-target : goal.cast_rows-requires-clause-target
cast_rows-requires-clause-target c = is_cast_target c.args.len c.args.input.now c.args.target.now c.requires.taken c.requires.unnested

pub returns-clause-ok : goal.returns-clause-ok
returns-clause-ok c =
    IfOk-weaker c.cast_rows.result _ _
    (λ u. cast_computed c.args.len c.args.input.now c.args.target.now c.requires.taken c.in_ok-valid.valid c.in_ok-valid.ensures.rows
    (canonical_tree u) (c.in_ok-valid.ensures.nullability ∙ c.nullability.ensures)) c.cast_rows.ensures.ok

pub returns-clause-err : goal.returns-clause-err
returns-clause-err c =
    IfErr-weaker c.cast_rows.result _ _
    (cast_not_computed c.args.len c.args.input.now c.args.target.now c.requires.taken c.in_ok-valid.valid c.in_ok-valid.ensures.rows)
    c.cast_rows.ensures.err

pub returns-in_err-valid-clause-err : goal.returns-in_err-valid-clause-err
returns-in_err-valid-clause-err c =
    let p = err_from_is_err_and c.from_residual.result c.from_residual.ensures.1 in
    let never = null_not_computed c.args.len c.args.input.now c.args.target.now c.requires.taken in
    rw p.1 (subst (HasNoCanonicalResult (Cast c.args.target.now) (c.args.input.now ∷ []) c.args.len) (sym p.2) (elim c.in_err-valid.ensures.err [
      | inl memory ↦ inl memory
      | inr h ↦ inr (h.0, never h.2 h.3 h.4 (sym c.nullability.ensures ∙ h.1))
    ]))

use Rattle.std.proofs.Common.{◌≡◌, ◌<◌, IfSome, inl, inr, sym, ap, subst, ◌∙◌}
use Rattle.std.proofs.lemmas.Result.{IfOk-weaker, err_from_is_err_and}
use Rattle.vx_value.specs.Types.{nullability_of, is_nullable}
use Rattle.vx_value.specs.Nullabilities.{with_nullability}
use Rattle.vx_value.specs.declared.dtype.Nullability.TheVariants.{Nullable}
use Rattle.vx_value.specs.View.{type_of}
use Rattle.vx_tree.specs.Tree.{len}
use Rattle.vx_tree.specs.Cells.{rows}
use Rattle.vx_column.specs.LookedUp.{IsNamed, IsNotNamed, cell_named}
use Rattle.vx_column.proofs.EachLemmas.{row_nullable, row_plain}
use Rattle.vx_column.proofs.InterleavedLemmas.{row_unread}
use Rattle.vx_column.proofs.MaskedRowsLemmas.{nullable_always}
use Rattle.vx_column.proofs.lookup.each.row_named.Goals as goal

pub returns-then-is_nullable-clause-ok : goal.returns-then-is_nullable-clause-ok
returns-then-is_nullable-clause-ok c =
    let row = c.in_ok-scalar.scalar in
    IfOk-weaker c.into_nullable.result (λ s. s ≡ record { of_type = with_nullability Nullable row.of_type; value = row.value })
    (IsNamed c.args.codes c.args.values.now c.args.place)
    (row_nullable c.args.values.now c.args.codes c.args.place c.in-Some.place row c.in-Some.is c.in_ok-scalar.ensures.ok
    (sym c.is_nullable.ensures ∙ c.if-is_nullable.true))
    c.into_nullable.ensures.ok

pub returns-else-is_nullable-clause-ok : goal.returns-else-is_nullable-clause-ok
returns-else-is_nullable-clause-ok c =
    row_plain c.args.values.now c.args.codes c.args.place c.in-Some.place c.in_ok-scalar.scalar c.in-Some.is c.in_ok-scalar.ensures.ok
    (sym c.is_nullable.ensures ∙ c.if-is_nullable.false)

pub null-requires : goal.null-requires
null-requires c =
    ap is_nullable (ap nullability_of c.in_ok-as_nullable.ensures.ok ∙ nullable_always (type_of c.dtype.result.now))

pub returns-in_err-scalar-clause-err : goal.returns-in_err-scalar-clause-err
returns-in_err-scalar-clause-err c =
    let t = c.args.values.now in
    let k = c.in-Some.place in
    let within : k < len t = subst (λ p. IfSome p (λ j. j < len t)) c.in-Some.is c.requires.within in
    let p = err_from_is_err_and c.from_residual-in_err-scalar.result c.from_residual-in_err-scalar.ensures.1 in
    rw p.1 (subst (IsNotNamed t c.args.place) (sym p.2) (elim (row_unread t k c.in_err-scalar.field-0.0 within c.in_err-scalar.ensures.err) [
      | inl memory ↦ inl memory
      | inr missed ↦ inr (missed.0, ap (cell_named (rows t)) c.in-Some.is ∙ missed.1)
    ]))

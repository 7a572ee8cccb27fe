use Rattle.std.proofs.Common.{refl, inr, sym, ap, ◌∙◌, subst, ◌<◌}
use Rattle.vx_column.specs.ValidRows.{is_valid, HasValidity}
use Rattle.vx_column.proofs.CastsLemmas.{false_row}
use Rattle.vx_column.proofs.ValidRowsLemmas.{counted_row}
use Rattle.vx_column.proofs.functions.cast.casts.cast_valid_rows.Goals as goal

pub returns-then-true_count-len-clause-rows : goal.returns-then-true_count-len-clause-rows
returns-then-true_count-len-clause-rows c =
    let bits = c.in-Bits-NonNullable.bits in
    let is = c.in-Bits-NonNullable.is-0 in
    let long = subst (λ v. HasValidity v c.args.len) is c.requires in
    let full = sym c.true_count.ensures ∙ c.if-true_count-len.true ∙ c.len.ensures in
    λ i lt. counted_row bits i full (subst (λ n. i < n) (sym long) lt) ∙ ap (λ v. is_valid v i) (sym is)

pub returns-else-true_count-len-clause-err : goal.returns-else-true_count-len-clause-err
returns-else-true_count-len-clause-err c =
    let bits = c.in-Bits-NonNullable.bits in
    let is = c.in-Bits-NonNullable.is-0 in
    let long = subst (λ v. HasValidity v c.args.len) is c.requires in
    let found = false_row bits (λ e. c.if-true_count-len.false (c.true_count.ensures ∙ e ∙ sym c.len.ensures)) in
    inr (refl, c.in-Bits-NonNullable.is-1, found.0, subst (λ n. found.0 < n) long found.1, ap (λ v. is_valid v found.0) is ∙ found.2)

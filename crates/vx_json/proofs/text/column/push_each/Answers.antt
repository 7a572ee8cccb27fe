use Rattle.std.proofs.Common.{◌≡◌, suc, ◌+◌, ◌∙◌, ◌++◌, [], ◌∷◌, ap, sym, subst, inl, inr, take, append_assoc, arith, string_bytes}
use Rattle.std.proofs.lemmas.Result.{err_from_is_err_and}
use Rattle.vx_tree.specs.Tree.{dtype}
use Rattle.vx_tree.specs.Cells.{rows}
use Rattle.vx_json.specs.RowText.{row_text}
use Rattle.vx_json.specs.Output.{AddsRows, IsUnread}
use Rattle.vx_json.proofs.OutputLemmas.{adds_more, row_unread}
use Rattle.vx_json.proofs.text.column.push_each.Goals as goal

pub returns-in_err-scalar-clause-err : goal.returns-in_err-scalar-clause-err
returns-in_err-scalar-clause-err c =
    let t = c.args.array.now in
    let p = err_from_is_err_and c.from_residual.result c.from_residual.ensures.1 in
    rw p.1 (subst (IsUnread t) (sym p.2) (elim c.in_err-scalar.ensures.err [
      | inl past ↦ absurd (omega (arith, past.1, c.loop-index-test.true, c.len-index-end.ensures))
      | inr unread ↦ row_unread t c.loop-index.index c.in_err-scalar.field-0.0 unread
    ]))

pub loop-index-preserved : goal.loop-index-preserved
loop-index-preserved c =
    let t = c.args.array.now in
    let i = c.loop-index.index in
    let scalar = c.in_ok-scalar.scalar in
    let text = string_bytes c.loop-index.text in
    let row = row_text (dtype t) scalar.value in
    let printed : string_bytes c.push_row.new.text ≡ text ++ row =
    c.in_ok-push_row.ensures ∙ ap (λ ty. text ++ row_text ty scalar.value) c.in_ok-scalar.ensures.ok.1 in
    let longer =
    c.in_ok-push.ensures.bytes ∙ ap (λ l. string_bytes c.push_row.new.text ++ l) (c.in_ok-push.ensures.ascii (omega arith)) ∙ ap (λ l. l ++ 10 ∷ []) printed ∙ append_assoc text row (10 ∷ []) in
    let next : suc i ≡ i + 1 = omega arith in
    let all = string_bytes c.push.new.self in
    subst (λ n. AddsRows (dtype t) (take n (rows t)) (string_bytes c.args.text.now) all) next
    (adds_more (dtype t) (rows t) i scalar.value (string_bytes c.args.text.now) text all c.loop-index.invariant c.in_ok-scalar.ensures.ok.0 longer)

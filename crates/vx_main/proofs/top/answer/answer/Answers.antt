use Rattle.std.proofs.Common.{◌≡◌, ◌≤◌, Err, ap, subst, string_bytes, ◌∙◌}
use Rattle.std.proofs.lemmas.Result.{err_from_is_err_and}
use Rattle.vx_tree.specs.Canonicals.{columnar_tree}
use Rattle.vx_opt.proofs.EntriesLemmas.{all_later_refl}
use Rattle.vx_exec.specs.Budgets.{Budget}
use Rattle.vx_main.specs.Runs.{Answers, HasNoAnswer}
use Rattle.vx_main.specs.Statuses.{status_of}
use Rattle.vx_main.proofs.RunsLemmas.{answers_of, put_back, unexecuted, unprinted}
use Rattle.vx_main.proofs.top.answer.answer.Goals as goal

pub returns-clause-ok : goal.returns-clause-ok
returns-clause-ok g c =
    let text = string_bytes c.in_ok-column_text.field-0 in
    let by = c.in_ok-column.ensures.execution in
    let limit = ap (λ (x : Budget). x.limit) c.with_limit-ctx.ensures.budget ∙ c.limit.ensures in
    let same =
    c.into_session.ensures ∙ c.execute-column.ensures.session ∙ c.with_limit-ctx.ensures.session ∙ c.new.ensures.session ∙ c.take.ensures.taken in
    put_back _ c.args.session.now c.prepare.new.session c.into_session.result
    (λ r. Answers c.args.command r c.args.bytes.now text) same
    (answers_of c.args.command _ c.args.bytes.now text c.execute-column.new.ctx.turns c.in_ok-array.array c.in_ok-source.source
    (columnar_tree c.in_ok-column.field-0)
    c.in_ok-array.ensures.ok c.in_ok-source.ensures.ok by.ok by.executed
    (by.within.0, subst (λ l. c.execute-column.new.ctx.turns ≤ l) limit by.within.1) by.as_it_is
    c.in_ok-column_text.ensures.ok c.in_ok-column_text.ensures.lawful)

pub returns-in_err-array-clause-later : goal.returns-in_err-array-clause-later
returns-in_err-array-clause-later g c = all_later_refl _

pub returns-in_err-column-clause-causes : goal.returns-in_err-column-clause-causes
returns-in_err-column-clause-causes g c =
    let p = err_from_is_err_and c.from_residual-in_err-column.result c.from_residual-in_err-column.ensures.1 in
    let by = c.in_err-column.ensures.execution in
    let limit = ap (λ (x : Budget). x.limit) c.with_limit-ctx.ensures.budget ∙ c.limit.ensures in
    let same =
    c.into_session.ensures ∙ c.execute-column.ensures.session ∙ c.with_limit-ctx.ensures.session ∙ c.new.ensures.session ∙ c.take.ensures.taken in
    let none = put_back _ c.args.session.now c.prepare.new.session c.into_session.result
    (λ r. HasNoAnswer c.args.command r c.args.bytes.now (status_of c.in_err-column.field-0.0)) same
    (unexecuted c.args.command _ c.args.bytes.now c.in_ok-array.array c.in_ok-source.source c.with_limit-ctx.result.limit c.in_err-column.field-0.0
    c.in_ok-array.ensures.ok c.in_ok-source.ensures.ok limit by.err
    (λ l is. let over = by.limit l (ap Err is) in (over.2, over.3))) in
    rw (p.1, p.2) none

pub returns-in_err-column_text-clause-causes : goal.returns-in_err-column_text-clause-causes
returns-in_err-column_text-clause-causes g c =
    let p = err_from_is_err_and c.from_residual-in_err-column_text.result c.from_residual-in_err-column_text.ensures.1 in
    let same =
    c.into_session.ensures ∙ c.execute-column.ensures.session ∙ c.with_limit-ctx.ensures.session ∙ c.new.ensures.session ∙ c.take.ensures.taken in
    let none = put_back _ c.args.session.now c.prepare.new.session c.into_session.result
    (λ r. HasNoAnswer c.args.command r c.args.bytes.now (status_of c.in_err-column_text.field-0.0)) same
    (unprinted c.args.command _ c.args.bytes.now c.in_ok-array.array c.in_ok-source.source (columnar_tree c.in_ok-column.field-0) c.in_err-column_text.field-0.0
    c.in_ok-array.ensures.ok c.in_ok-source.ensures.ok c.in_ok-column.ensures.execution.ok c.in_err-column_text.ensures.err) in
    rw (p.1, p.2) none

use Rattle.std.proofs.Common.{◌++◌, ◌∷◌, [], List, ℕ, if◌then◌else◌, map, refl, ap, ◌∙◌, Result, Ok, Err, OnErr}
use Rattle.std.specs.List.{range_with_len}
use Rattle.std.proofs.lemmas.List.{append_assoc}
use Rattle.vx_column.specs.Arguments.{bytes_in}
use Rattle.vx_column.specs.ValidRows.{is_valid}
use Rattle.vx_column.proofs.ComputedLemmas.{items_more}
use Rattle.vx_column.proofs.builder.rows.push_each.Goals as goal

-- what holds anyway
on_err_so : {T E P : Type 0} (r : Result T E) → P → OnErr r P
on_err_so (Ok x) h = tt
on_err_so (Err e) h = h

pub loop-index-preserved : goal.loop-index-preserved
loop-index-preserved c =
    let old = c.args.kept.now in
    let row : ℕ → List ℕ = λ i. if is_valid c.args.valid.now i then bytes_in c.args.bytes.now i else [] in
    let i = c.loop-index.index in
    let bytes = c.valid_bytes.result.now in
    c.in_ok-push.ensures.ok ∙ ap (λ l. l ++ bytes ∷ []) c.loop-index.invariant ∙ append_assoc old (map row (range_with_len 0 i)) (bytes ∷ [])
    ∙ ap (λ l. old ++ l) (items_more row (map row (range_with_len 0 i)) i bytes refl c.valid_bytes.ensures)

pub returns-in_err-push-clause-err : goal.returns-in_err-push-clause-err
returns-in_err-push-clause-err c = on_err_so c.from_residual.result (c.loop-index.index, c.in_err-push.ensures.err ∙ c.loop-index.invariant)

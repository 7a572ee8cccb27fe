use Rattle.std.proofs.Common.{◌≡◌, ◌∙◌, sym, ap, subst}
use Rattle.vx_tree.specs.Tree.{slots, no_slots}
use Rattle.vx_tree.specs.Columns.{empty_of, IsColumn}
use Rattle.vx_tree.specs.Canonicals.{canonical_tree}
use Rattle.vx_tree.specs.Well.{IsWell, IsNodeOf}
use Rattle.vx_tree.proofs.ColumnsLemmas.{column_known, canonical_columnar}
use Rattle.vx_step.specs.Steps.{IsStepTo}
use Rattle.vx_step.specs.declared.steps.ExecutionStep.TheVariants.{Done}
use Rattle.vx_step.proofs.ContentsLemmas.{chunks_empty, chunks_used}
use Rattle.vx_step.proofs.chunked.append_or_wait.Goals as goal

pub returns-then-has_none-clause-ok : goal.returns-then-has_none-clause-ok
returns-then-has_none-clause-ok c =
    let t = c.args.array in
    let u = canonical_tree c.in_ok-empty-in-None.empty in
    let bare : slots t ≡ no_slots = sym c.slots.ensures ∙ c.has_none.ensures.none c.if-has_none.true in
    let well : IsWell u = subst IsWell c.as_array.ensures.of c.well_formed_tree.ensures.formed in
    let known : IsColumn u = column_known u well (canonical_columnar _ c.as_array.ensures.canonical) in
    let same : c.of.result ≡ u = c.of.ensures.is ∙ c.into_array.ensures in
    rw (c.done.ensures) (subst (λ x. IsStepTo t x Done) (sym same)
    (chunks_empty t u c.requires.chunked c.requires.slots bare (c.in_ok-empty-in-None.ensures.ok ∙ ap empty_of c.dtype.ensures.dtype) known
    c.as_array.ensures.canonical (subst IsNodeOf same c.of.ensures.whole)))

pub returns-else-has_none-clause-ok : goal.returns-else-has_none-clause-ok
returns-else-has_none-clause-ok c =
    let t = c.args.array in
    rw (c.done-in-None.ensures) (chunks_used t c.requires.chunked c.requires.slots c.in-None.ensures (λ bare. c.has_none.ensures.some c.if-has_none.false (c.slots.ensures ∙ bare)))

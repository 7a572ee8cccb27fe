use Rattle.std.proofs.Common.{◌≡◌, ◌+◌, length, refl, sym, ◌∙◌, subst, Ok, Err, Some, None, arith}
use Rattle.std.proofs.lemmas.List.{length-map}
use Rattle.vx_opt.specs.Entries.{Asks}
use Rattle.vx_opt.proofs.AskingLemmas.{asked_all, asked_other, asked_declined, asked_answered, asked_failed, asks_of}
use Rattle.vx_opt.proofs.registry.RuleRegistry.ask.Goals as goal
use Rattle.vx_opt.proofs.registry.RuleRegistry.ask.Goals.{then-is_for_at+in-Ok-None, else-is_for_at}

pub returns-in-Ok-Some-clause-asked : goal.returns-in-Ok-Some-clause-asked
returns-in-Ok-Some-clause-asked g c =
    asks_of _ _ _ _ _ _ _ c.encoding_id-parent_id.ensures c.encoding_id-child_id.ensures
    (asked_answered _ _ _ _ c.loop-index.index c.loop-index.place c.loop-index.invariant.asked _ (Ok (Some c.in-Ok-Some.raw))
    (rw c.in-Ok-Some.field-0-is at c.in-Ok-Some.ensures.asked) (λ d. sym (c.is_for_at.ensures d) ∙ c.if-is_for_at.true) c.in-Ok-Some.raw refl)

pub returns-in-Err-clause-asked : goal.returns-in-Err-clause-asked
returns-in-Err-clause-asked g c =
    rw c.told.ensures
    (asks_of _ _ _ _ _ _ _ c.encoding_id-parent_id.ensures c.encoding_id-child_id.ensures
    (asked_failed _ _ _ _ c.loop-index.index c.loop-index.place c.loop-index.invariant.asked _ (Err c.in-Err.error) c.in-Err.ensures.asked
    (λ d. sym (c.is_for_at.ensures d) ∙ c.if-is_for_at.true) c.in-Err.error refl))

pub loop-index-preserved : goal.loop-index-preserved
loop-index-preserved g c = elim c.if-is_for_at.branch [
  | then-is_for_at+in-Ok-None w ↦ rw (w.self-is, w.place-is) (record {
    len = w.ask_at.ensures.len ∙ c.loop-index.invariant.len;
    within = omega (arith, c.loop-index.invariant.within);
    asked = asked_declined _ _ _ _ c.loop-index.index c.loop-index.place c.loop-index.invariant.asked _ (Ok None)
        (rw w.in-Ok-None.field-0-is at w.in-Ok-None.ensures.asked) (λ d. sym (c.is_for_at.ensures d) ∙ w.if-is_for_at.true) refl;
  })
  | else-is_for_at w ↦ rw (w.self-is, w.place-is) (record {
    len = c.loop-index.invariant.len;
    within = omega (arith, c.loop-index.invariant.within);
    asked = asked_other _ _ _ _ c.loop-index.index c.loop-index.place c.loop-index.invariant.asked
        (rw length-map (omega (arith, c.loop-index.invariant.len, c.loop-index.self.entries.ok.0, c.loop-index-test.true)))
        (λ d. sym (c.is_for_at.ensures d) ∙ w.if-is_for_at.false);
  })
]

pub returns-clause-asked : goal.returns-clause-asked
returns-clause-asked g c =
    asks_of _ _ _ _ _ _ _ c.encoding_id-parent_id.ensures c.encoding_id-child_id.ensures
    (asked_all _ _ _ _ c.loop-index.index c.loop-index.place
    (rw length-map (omega (arith, c.loop-index.invariant.len, c.loop-index.self.entries.ok.0, c.loop-index.auto.index-end, c.loop-index-test.false)))
    c.loop-index.invariant.asked)

use Rattle.std.proofs.Common.{◌∙◌, sym, ◌<◌, length, Some, ap, arith}
use Rattle.std.proofs.lemmas.Result.{IfOk-weaker}
use Rattle.std.proofs.Math.ListN.{get_or}
use Rattle.vx_value.specs.View.{type_of, cell_of}
use Rattle.vx_value.specs.IsOf.{is_of}
use Rattle.vx_value.specs.Fits.{list_overflow}
use Rattle.vx_value.proofs.ScalarPartsLemmas.{same_counts, typed_after, fit_after, part_typed, part_fits, field_at}
use Rattle.vx_value.proofs.parts.present_field.Goals as goal
use Rattle.vx_value.proofs.parts.present_field.Goals.{After-index-types-index}

-- the place is that of a value too
within : (c : After-index-types-index) → c.args.index < length c.args.values.now
within c = omega (arith, c.requires.index, same_counts c.args.types.now c.args.values.now c.requires.typed)

pub bounds-values-index : goal.bounds-values-index
bounds-values-index c = within (goal.at.bounds-values-index c).After-index-types-index

pub copied-requires-clause-typed : goal.copied-requires-clause-typed
copied-requires-clause-typed c =
    let fs = c.args.types.now in let vs = c.args.values.now in let i = c.args.index in
    let f = c.index-types-index in let v = c.index-values-index in
    let there = within (goal.at.copied-requires-clause-typed c).After-index-types-index in
    ap (λ x. is_of (type_of (get_or fs i f.result).dtype) (cell_of x)) v.is
    ∙ (part_typed fs vs i f.result v.result c.requires.index there (typed_after fs vs i c.requires.typed)).0

pub copied-requires-clause-fits : goal.copied-requires-clause-fits
copied-requires-clause-fits c =
    let fs = c.args.types.now in let vs = c.args.values.now in let i = c.args.index in
    let f = c.index-types-index in let v = c.index-values-index in
    let there = within (goal.at.copied-requires-clause-fits c).After-index-types-index in
    ap (λ x. list_overflow (type_of (get_or fs i f.result).dtype) (cell_of x)) v.is
    ∙ (part_fits fs vs i f.result v.result c.requires.index there (fit_after fs vs i c.requires.fit)).0

pub returns-clause-ok : goal.returns-clause-ok
returns-clause-ok c =
    let fs = c.args.types.now in let vs = c.args.values.now in let i = c.args.index in
    let f = c.index-types-index in let v = c.index-values-index in
    let there = within (goal.at.returns-clause-ok c).After-index-types-index in
    let made = field_at fs vs i f.result v.result c.requires.index there
    ∙ ap (λ x. Some (record { of_type = type_of (get_or fs i f.result).dtype; value = cell_of x })) (sym v.is) in
    IfOk-weaker c.copied.result _ _ (λ s e. made ∙ ap (λ x. Some x) (sym e)) c.copied.ensures.ok

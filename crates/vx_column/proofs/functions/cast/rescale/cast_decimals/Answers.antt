use Rattle.std.proofs.Common.{◌≡◌, ◌==◌, ◌∙◌, true, sym}
use Rattle.std.specs.Cmp.{unsigned_Decides, first_so, second_so}
use Rattle.std.specs.Prelude.{◌&&◌}
use Rattle.std.proofs.lemmas.Result.{IfOk-weaker}
use Rattle.vx_tree.specs.Buffers.{numbers_in}
use Rattle.vx_tree.specs.Canonicals.{canonical_tree}
use Rattle.vx_column.specs.Arguments.{unscaled_in}
use Rattle.vx_column.proofs.CastsLemmas.{decimals_kept, decimals_cast}
use Rattle.vx_column.proofs.functions.cast.rescale.cast_decimals.Goals as goal

pub returns-then-eq-clause-ok : goal.returns-then-eq-clause-ok
returns-then-eq-clause-ok c =
    let ds = c.args.decimals in
    let d = c.args.target in
    let same : ((ds.decimal.precision == d.precision) && (ds.decimal.scale == d.scale)) ≡ true = sym c.eq.ensures ∙ c.if-eq.true in
    IfOk-weaker c.stored_column.result _ _
    (λ u h. decimals_kept ds d c.args.valid.now c.args.len (canonical_tree u) c.requires.decimals ((unsigned_Decides _ _).0 (first_so _ _ same))
    ((unsigned_Decides _ _).0 (second_so (ds.decimal.precision == d.precision) _ same)) h)
    c.stored_column.ensures.ok

pub returns : goal.returns
returns c =
    let ds = c.args.decimals in
    let new = c.new-rescaling in
    let made = c.in_ok-values in
    let both = decimals_cast new.result c.args.target ds.decimal.scale new.ensures.target (new.ensures.scale ∙ c.scale.ensures) (unscaled_in ds)
    (numbers_in c.buffer.result.now) c.args.valid.now c.args.len (c.buffer.ensures ∙ made.ensures.values) c.rescale_numbers.result c.rescale_numbers.ensures.ok
    c.rescale_numbers.ensures.err in
    record { ok = both.0; err = both.1 }

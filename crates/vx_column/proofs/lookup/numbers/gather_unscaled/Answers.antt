use Rattle.std.proofs.Common.{ℕ, ◌<◌, sym, ap, subst, ◌∙◌}
use Rattle.std.proofs.lemmas.Result.{IfOk-weaker, IfErr-weaker}
use Rattle.vx_value.specs.Decimals.{has_digits}
use Rattle.vx_tree.specs.Canonicals.{canonical_tree}
use Rattle.vx_column.specs.LookedUp.{place_at}
use Rattle.vx_column.specs.Operands.{number_in}
use Rattle.vx_column.proofs.GatheredLemmas.{place_digits, decimal_never, no_fault, decimals_gathered}
use Rattle.vx_column.proofs.lookup.numbers.gather_unscaled.Goals as goal

pub calculated_decimals-requires-clause-rows : goal.calculated_decimals-requires-clause-rows
calculated_decimals-requires-clause-rows g c =
    let ds = c.args.decimals in
    let places = c.args.places.now in
    λ i lt. (
      subst (λ n. i < n) (sym c.requires.places) lt,
      ap (λ f. has_digits ds.decimal.precision (f (place_at places i))) c.decimal_operand_of-values.ensures.numbers
          ∙ place_digits ds.decimal ds.rows c.requires.decimals.0 (place_at places i) c.requires.decimals.1,
    )

pub returns-clause-ok : goal.returns-clause-ok
returns-clause-ok g c =
    let ds = c.args.decimals in
    IfOk-weaker c.calculated_decimals.result _ _
    (λ u. decimals_gathered ds c.requires.decimals.0 (number_in g.T.Number.value c.decimal_operand_of-values.result) c.args.places.now c.args.valid.now
    c.args.len (canonical_tree u) c.requires.decimals.1 c.decimal_operand_of-values.ensures.numbers)
    c.calculated_decimals.ensures.ok

pub returns-clause-err : goal.returns-clause-err
returns-clause-err g c =
    let d = c.args.decimals.decimal in
    let ds = c.args.decimals in
    let places = c.args.places.now in
    let digits = λ (i : ℕ). ap (λ f. has_digits d.precision (f (place_at places i))) c.decimal_operand_of-values.ensures.numbers
    ∙ place_digits d ds.rows c.requires.decimals.0 (place_at places i) c.requires.decimals.1 in
    IfErr-weaker c.calculated_decimals.result _ _ (λ e. no_fault _ _ c.args.len e (λ i lt. decimal_never d (number_in g.T.Number.value c.decimal_operand_of-values.result (place_at places i)) (digits i))) c.calculated_decimals.ensures.err

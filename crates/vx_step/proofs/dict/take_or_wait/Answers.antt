use Rattle.std.proofs.Common.{◌≡◌, true, ◌∙◌, sym, subst, rules}
use Rattle.vx_tree.specs.Tree.{dict_of, dtype, datum, is_columnar}
use Rattle.vx_tree.specs.Canonicals.{columnar_tree}
use Rattle.vx_tree.specs.Well.{IsWell}
use Rattle.vx_column.specs.Casts.{IsIntegerType}
use Rattle.vx_column.specs.LookedUp.{AreTaken}
use Rattle.vx_step.specs.Steps.{IsDone}
use Rattle.vx_step.proofs.DictLemmas.{codes_integer, taken_done}
use Rattle.vx_step.proofs.dict.take_or_wait.Goals as goal

pub take_rows-requires : goal.take_rows-requires
take_rows-requires c =
    let same : columnar_tree c.in-Ok.codes ≡ c.args.codes.now = c.in-Ok.ensures.ok ∙ c.in_ok-clone.ensures.cases in
    record { integers = subst (λ x. IsIntegerType (dtype x)) (sym same) (codes_integer c.args.codes.now c.args.values.now c.requires.node) }

pub returns-in-Ok-take_rows-clause-ok : goal.returns-in-Ok-take_rows-clause-ok
returns-in-Ok-take_rows-clause-ok c =
    let codes = c.args.codes.now in
    let values = c.args.values.now in
    let u = columnar_tree c.in-Ok-take_rows.column in
    let same : columnar_tree c.in-Ok.codes ≡ codes = c.in-Ok.ensures.ok ∙ c.in_ok-clone.ensures.cases in
    let same_values : columnar_tree c.in-Ok-try_from_array_ref.values ≡ values = c.in-Ok-try_from_array_ref.ensures.ok ∙ c.in_ok-clone-2.ensures.cases in
    let whole : is_columnar (datum codes) ≡ true = search rules in
    let whole_values : is_columnar (datum values) ≡ true = search rules in
    let well : IsWell u = subst IsWell c.as_array.ensures.of c.well_formed_tree.ensures.formed in
    let taken = subst (λ x. AreTaken codes x u) same_values (subst (λ x. AreTaken x (columnar_tree c.in-Ok-try_from_array_ref.values) u) same c.in-Ok-take_rows.ensures.ok) in
    subst (λ x. IsDone (dict_of codes values) x) (sym c.into_array.ensures) (taken_done codes values whole whole_values u taken well c.as_array.ensures.columnar)

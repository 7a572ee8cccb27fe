use Rattle.std.specs.Prelude.{MatchOption}
use Rattle.std.proofs.Common.{◌≡◌, rules, true, false, Ok, Some, sym, ap, subst, ◌∙◌}
use Rattle.vx_mask.specs.Masks.{bits_in}
use Rattle.vx_tree.specs.Tree.{datum, is_columnar, dict_of, filter_of}
use Rattle.vx_tree.specs.Cells.{rows, HasNoFault}
use Rattle.vx_tree.specs.Canonicals.{columnar_tree}
use Rattle.vx_step.specs.Kernels.{placed, IsPlaced, KernelAnswers}
use Rattle.vx_step.specs.declared.kernels.builtin.BuiltinKernelKind.TheVariants.{DictOverFilter}
use Rattle.vx_step.proofs.KernelsLemmas.{codes_open, not_placed, placed_answers}
use Rattle.vx_step.proofs.kernels.dict_over_filter.over_child.Goals as goal

pub returns-in_default : goal.returns-in_default
returns-in_default c =
    let unready : is_columnar (datum c.args.codes.now) ≡ false = search rules in
    codes_open (bits_in c.args.mask.now) c.args.codes.now c.args.child.now unready

pub returns-in-Some : goal.returns-in-Some
returns-in-Some c =
    let bits = bits_in c.args.mask.now in
    let codes = c.args.codes.now in
    let child = c.args.child.now in
    let own = columnar_tree c.in-Ok.codes in
    let v = columnar_tree c.in-Some.places in
    let same : own ≡ codes = c.in-Ok.ensures.ok ∙ c.in_ok-clone.ensures.cases in
    let whole : is_columnar (datum codes) ≡ true = search rules in
    let here : IsPlaced bits own v =
    subst (λ o. MatchOption o (HasNoFault (placed bits (rows own)) → ⊥) (λ x. IsPlaced bits own (columnar_tree x))) c.in-Some.is c.in_ok-places.ensures.ok in
    let made : c.in_ok-tree-in-Some.tree ≡ dict_of v child =
    c.in_ok-tree-in-Some.ensures.ok ∙ ap (λ x. dict_of x c.in_ok-clone-in-Some.field-0) c.into_array.ensures ∙ ap (dict_of v) c.in_ok-clone-in-Some.ensures.cases in
    subst (λ x. KernelAnswers DictOverFilter 1 (dict_of codes (filter_of bits child)) (Ok (Some x))) (sym made)
    (placed_answers bits codes child v c.requires.counted c.well_formed_tree.ensures.counted whole (subst (λ x. IsPlaced bits x v) same here))

pub returns : goal.returns
returns c =
    let bits = bits_in c.args.mask.now in
    let codes = c.args.codes.now in
    let own = columnar_tree c.in-Ok.codes in
    let same : own ≡ codes = c.in-Ok.ensures.ok ∙ c.in_ok-clone.ensures.cases in
    let none : HasNoFault (placed bits (rows own)) → ⊥ =
    subst (λ o. MatchOption o (HasNoFault (placed bits (rows own)) → ⊥) (λ x. IsPlaced bits own (columnar_tree x))) c.in-None.is c.in_ok-places.ensures.ok in
    not_placed bits codes c.args.child.now (subst (λ x. HasNoFault (placed bits (rows x)) → ⊥) same none)

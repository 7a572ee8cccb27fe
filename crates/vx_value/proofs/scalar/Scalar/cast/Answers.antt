use Rattle.std.proofs.Common.{◌≡◌, true, rules, ap, sym, subst}
use Rattle.vx_value.specs.Types.{DataType}
use Rattle.vx_value.specs.Values.{Value}
use Rattle.vx_value.specs.View.{type_of, cell_of}
use Rattle.vx_value.specs.IsOf.{is_of}
use Rattle.vx_value.specs.Fits.{ListsFit}
use Rattle.vx_value.proofs.CastsLemmas.{cast_typed, cast_fits}
use Rattle.vx_value.proofs.scalar.Scalar.cast.Goals as goal

pub new_unchecked-requires : goal.new_unchecked-requires
new_unchecked-requires c =
    let from : DataType = type_of c.dtype-2.result.now in
    let to : DataType = type_of c.args.dtype.now in
    let given : Value = cell_of c.entry.result.now in
    let made : Value = cell_of c.in_ok-value.value in
    let source : is_of from given ≡ true = search rules in
    let own : DataType = c.args.self.now.of_type in
    let fitting : ListsFit from given =
    subst (λ t. ListsFit t given) (sym c.dtype-2.ensures.dtype) (subst (ListsFit own) (sym c.entry.ensures.value) c.entry.ensures.fits) in
    let same : to ≡ type_of c.in_ok-clone.field-0 = ap type_of (sym c.in_ok-clone.ensures.cases) in
    record {
      typed = subst (λ t. is_of t made ≡ true) same (cast_typed from to given made source c.in_ok-value.ensures.ok);
      fits = subst (λ t. ListsFit t made) same (cast_fits from to given made fitting c.in_ok-value.ensures.ok);
    }

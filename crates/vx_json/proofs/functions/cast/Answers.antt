use Rattle.std.proofs.Common.{sym, subst, option_map}
use Rattle.serde_json.specs.View.{view}
use Rattle.vx_fn.specs.declared.function.ScalarFnRef.TheVariants as function
use Rattle.vx_json.specs.Fields.{keyed}
use Rattle.vx_json.specs.Refused.{IsRead}
use Rattle.vx_json.specs.SpelledTypes.{column_type_at}
use Rattle.vx_json.proofs.SpelledFunctionsLemmas.{target_named}
use Rattle.vx_json.proofs.functions.cast.Goals as goal

pub returns : goal.returns
returns c =
    let d = view c.args.value.now in
    let named = target_named c.in_ok-target.target (column_type_at d) c.in_ok-target.ensures.spelled (sym c.if-is_nested.ensures) in
    subst (λ o. IsRead (keyed 4 d (option_map function.Cast o)) c.with_keys.result) (sym named) c.with_keys.ensures

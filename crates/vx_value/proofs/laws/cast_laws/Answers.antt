use Rattle.vx_value.proofs.CastsLemmas.{cast_to_self, cast_unchanged, cast_typed, cast_fits, cast_by_target}
use Rattle.vx_value.proofs.laws.cast_laws.Goals as goal

pub returns : goal.returns
returns c = record { own_type = cast_to_self; unchanged = cast_unchanged; typed = cast_typed; fits = cast_fits; by_target = cast_by_target }

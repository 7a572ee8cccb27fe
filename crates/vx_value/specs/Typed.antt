-- A value with its type: what a contract sees of a `Scalar`.
use Rattle.std.specs.Prelude.{refl}
use Rattle.std.specs.Coded.{Coded, code_by, coded×}
use Rattle.vx_value.specs.Types.{DataType, coded_type}
use Rattle.vx_value.specs.Values.{Value, coded_value}

pub record Typed : Type 0 where
  pub of_type : DataType
  pub value : Value

abbrev pub coded_typed : Coded Typed
coded_typed =
    code_by (DataType × Value) (coded× coded_type coded_value) (λ s. (s.of_type, s.value)) (λ p. record { of_type = p.0; value = p.1 }) (λ _. refl)

-- Rows of a nested type, read one after the other.
use Rattle.std.proofs.Common.{◌≡◌, None, Some, Option, refl, ap}
use Rattle.serde_json.specs.Data.{Data}
use Rattle.vx_value.specs.Types.{DataType}
use Rattle.vx_value.specs.Typed.{Typed}
use Rattle.vx_value.specs.Values.{Value}
use Rattle.vx_json.specs.SpelledNodes.Constant.{scalar_of}
use Rattle.vx_json.specs.SpelledValues.{value_spelled, typed_as}

by_value : (ty : DataType) (o : Option Value) (s : Typed) → typed_as ty o ≡ Some s → o ≡ Some s.value
by_value ty None s h = absurd (cc)
by_value ty (Some v) s h = let same : record { of_type = ty; value = v } ≡ s = cc (h) in ap (λ (x : Typed). Some x.value) same

pub value_read : (ty : DataType) (d : Data) (s : Typed) → scalar_of d ty ≡ Some s → value_spelled ty d ≡ Some s.value
value_read ty d s h = by_value ty (value_spelled ty d) s h

by_none : (ty : DataType) (o : Option Value) → typed_as ty o ≡ None → o ≡ None
by_none ty None h = refl
by_none ty (Some v) h = absurd (cc)

pub value_unread : (ty : DataType) (d : Data) → scalar_of d ty ≡ None → value_spelled ty d ≡ None
value_unread ty d h = by_none ty (value_spelled ty d) h

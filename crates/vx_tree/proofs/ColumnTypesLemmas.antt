-- The type of a column, by how its values are stored.
use Rattle.std.proofs.Common.{◌≡◌, refl, ap}
use Rattle.vx_value.specs.Types.{DataType, primitive, bool, nullability_of}
use Rattle.vx_value.specs.Storage.{storage_of}
use Rattle.vx_value.specs.declared.dtype.PType.{PType}
use Rattle.vx_value.specs.declared.dtype.Storage.TheVariants.{Bits, Integers}

pub column_of_bits : (ty : DataType) → storage_of ty ≡ Bits → ty ≡ bool (nullability_of ty)
column_of_bits (bool n) h = refl
column_of_bits _ h = absurd (cc)

pub column_of_integers : (p : PType) (ty : DataType) → storage_of ty ≡ Integers p → ty ≡ primitive p (nullability_of ty)
column_of_integers p (primitive q n) h = let same : q ≡ p = cc in ap (λ r. primitive r n) same
column_of_integers p _ h = absurd (cc)

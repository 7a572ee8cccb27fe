-- Each part of a type is lower than the type.
use Rattle.std.specs.Prelude.{◌≡◌, ℕ, ◌≤◌, ◌<◌, ◌+◌, List, [], ◌∷◌, max}
use Rattle.std.proofs.Common.{arith, sym}
use Rattle.vx_value.specs.Types.{DataType, Fields, Variants, height, fields_height, variants_height}
use Rattle.vx_value.specs.View.{type_of, fields_of, variants_of}
use Rattle.vx_value.specs.declared.dtype.DType.{DType}
use Rattle.vx_value.specs.declared.dtype.DType.TheVariants as dtype
use Rattle.vx_value.specs.declared.nested.Field.{Field}
use Rattle.vx_value.specs.declared.nested.UnionVariant.{UnionVariant}
use Rattle.vx_value.specs.declared.nested.ExtDType.TheDeep.{deep-DType, deep-Field, deep-UnionVariant}
use denote.Param.Weighed.{most, w_this}

-- a line for each variant
pub type_below : (d : DType) → deep-DType d ≤ height (type_of d)
type_below dtype.Null = omega arith
type_below (dtype.List t n) = omega arith
type_below (dtype.FixedSizeList t k n) = omega arith
type_below (dtype.Map m n) = omega arith
type_below (dtype.Struct fs n) = omega arith
type_below (dtype.Union vs n) = omega arith
type_below (dtype.Extension e) = omega arith
type_below _ = omega arith

pub fields_below : (fs : List Field) → most (λ f. deep-Field f) fs ≤ fields_height (fields_of fs)
fields_below [] = omega arith
fields_below (f ∷ fs) = omega (arith, type_below f.dtype, fields_below fs)

pub variants_below : (vs : List UnionVariant) → most (λ v. deep-UnionVariant v) vs ≤ variants_height (variants_of vs)
variants_below [] = omega arith
variants_below (v ∷ vs) = omega (arith, type_below v.dtype, variants_below vs)

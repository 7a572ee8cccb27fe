-- Which integers each of the nine types has, and which of them the kinds of columns name.
use Rattle.std.specs.Prelude.{◌≡◌, ◌↔◌, ◌^◌, ℕ, ℤ, pos, negsuc, true, refl, Bool, FitsSigned}
use Rattle.std.specs.Int.{Width, FitsUnsignedBits, w8, w16, w32, w64, w128}
use mir.Val.{hbits}
use Rattle.std.proofs.Common.{lt-ltb, ltb-true}
use Rattle.vx_value.specs.IsOf.{in_range, is_unsigned_below, is_signed_below}
use Rattle.vx_value.specs.declared.dtype.PType.{PType}
use Rattle.vx_value.specs.declared.dtype.PType.TheVariants as ptype
use Rattle.vx_value.specs.declared.decimal.DecimalType.{DecimalType}
use Rattle.vx_value.specs.declared.decimal.DecimalType.TheVariants as width
use Rattle.vx_tree.specs.Widths.{fits_width}
use Rattle.vx_tree.specs.declared.native.native.NativeType.{NativeType}
use Rattle.vx_tree.specs.declared.native.native.NativeType.TheVariants.{U8, U16, U32, U64, I8, I16, I32, I64, I128}

-- the integer is one of the type's
abbrev pub in_native : NativeType → ℤ → Bool
in_native U8 z = is_unsigned_below (2 ^ 8) z
in_native U16 z = is_unsigned_below (2 ^ 16) z
in_native U32 z = is_unsigned_below (2 ^ 32) z
in_native U64 z = is_unsigned_below (2 ^ 64) z
in_native I8 z = is_signed_below (2 ^ hbits w8) z
in_native I16 z = is_signed_below (2 ^ hbits w16) z
in_native I32 z = is_signed_below (2 ^ hbits w32) z
in_native I64 z = is_signed_below (2 ^ hbits w64) z
in_native I128 z = is_signed_below (2 ^ hbits w128) z

abbrev pub ptype_native : PType → NativeType
ptype_native ptype.U8 = U8
ptype_native ptype.U16 = U16
ptype_native ptype.U32 = U32
ptype_native ptype.U64 = U64
ptype_native ptype.I8 = I8
ptype_native ptype.I16 = I16
ptype_native ptype.I32 = I32
ptype_native ptype.I64 = I64

pub ptype_range : (p : PType) (z : ℤ) → in_range p z ≡ in_native (ptype_native p) z
ptype_range ptype.U8 z = refl
ptype_range ptype.U16 z = refl
ptype_range ptype.U32 z = refl
ptype_range ptype.U64 z = refl
ptype_range ptype.I8 z = refl
ptype_range ptype.I16 z = refl
ptype_range ptype.I32 z = refl
ptype_range ptype.I64 z = refl

abbrev pub width_native : DecimalType → NativeType
width_native width.I8 = I8
width_native width.I16 = I16
width_native width.I32 = I32
width_native width.I64 = I64
width_native width.I128 = I128

pub width_range : (t : DecimalType) (z : ℤ) → fits_width t z ≡ in_native (width_native t) z
width_range width.I8 z = refl
width_range width.I16 z = refl
width_range width.I32 z = refl
width_range width.I64 z = refl
width_range width.I128 z = refl

pub unsigned_range : (k : ℕ) (z : ℤ) → FitsUnsignedBits k z ↔ (is_unsigned_below (2 ^ k) z ≡ true)
unsigned_range k (pos n) = (lt-ltb n (2 ^ k), ltb-true n (2 ^ k))
unsigned_range k (negsuc n) = ((λ h. absurd h), (λ h. cc))

pub signed_range : (w : Width) (z : ℤ) → FitsSigned w z ↔ (is_signed_below (2 ^ hbits w) z ≡ true)
signed_range w (pos n) = ((λ h. lt-ltb n (2 ^ hbits w) h.sfits), (λ h. record { sfits = ltb-true n (2 ^ hbits w) h }))
signed_range w (negsuc n) = ((λ h. lt-ltb n (2 ^ hbits w) h.sfits), (λ h. record { sfits = ltb-true n (2 ^ hbits w) h }))

-- a clone of a number that is no more than its integer is the number
pub same_number : {X : Type 0} (x y : X) → y ≡ x → y ≡ x
same_number x y same = same

-- The integers that the numbers in a buffer stand for, and their type.
use Rattle.std.specs.Prelude.{ℤ, pos, List, map}
use Rattle.vx_tree.specs.declared.native.native.NativeType.{NativeType}
use Rattle.vx_tree.specs.declared.native.native.NativeType.TheVariants as native
use Rattle.vx_tree.specs.declared.native.buffer.NativeBuffer.{NativeBuffer}
use Rattle.vx_tree.specs.declared.native.buffer.NativeBuffer.TheVariants.{U8, U16, U32, U64, I8, I16, I32, I64, I128}

abbrev pub numbers_in : NativeBuffer → List ℤ
numbers_in (U8 xs) = map (λ n. pos n) xs
numbers_in (U16 xs) = map (λ n. pos n) xs
numbers_in (U32 xs) = map (λ n. pos n) xs
numbers_in (U64 xs) = map (λ n. pos n) xs
numbers_in (I8 xs) = map (λ n. n) xs
numbers_in (I16 xs) = map (λ n. n) xs
numbers_in (I32 xs) = map (λ n. n) xs
numbers_in (I64 xs) = map (λ n. n) xs
numbers_in (I128 xs) = map (λ n. n) xs

abbrev pub native_in : NativeBuffer → NativeType
native_in (U8 xs) = native.U8
native_in (U16 xs) = native.U16
native_in (U32 xs) = native.U32
native_in (U64 xs) = native.U64
native_in (I8 xs) = native.I8
native_in (I16 xs) = native.I16
native_in (I32 xs) = native.I32
native_in (I64 xs) = native.I64
native_in (I128 xs) = native.I128

-- The integers that the numbers in a vector stand for, and their type.
use Rattle.std.specs.Prelude.{ℕ, ℤ, pos, Bool, List, map, length, slice_index_or, if◌then◌else◌}
use Rattle.std.specs.List.{range_with_len}
use Rattle.vx_mask.specs.Logic.{bit_row}
use Rattle.vx_tree.specs.declared.native.native.NativeType.{NativeType}
use Rattle.vx_tree.specs.declared.native.native.NativeType.TheVariants as native
use Rattle.vx_tree.specs.declared.native.vec.AnyVec.{AnyVec}
use Rattle.vx_tree.specs.declared.native.vec.AnyVec.TheVariants.{U8, U16, U32, U64, I8, I16, I32, I64, I128}

abbrev pub numbers_of_vec : AnyVec → List ℤ
numbers_of_vec (U8 xs) = map (λ n. pos n) xs.items
numbers_of_vec (U16 xs) = map (λ n. pos n) xs.items
numbers_of_vec (U32 xs) = map (λ n. pos n) xs.items
numbers_of_vec (U64 xs) = map (λ n. pos n) xs.items
numbers_of_vec (I8 xs) = map (λ n. n) xs.items
numbers_of_vec (I16 xs) = map (λ n. n) xs.items
numbers_of_vec (I32 xs) = map (λ n. n) xs.items
numbers_of_vec (I64 xs) = map (λ n. n) xs.items
numbers_of_vec (I128 xs) = map (λ n. n) xs.items

abbrev pub native_of_vec : AnyVec → NativeType
native_of_vec (U8 xs) = native.U8
native_of_vec (U16 xs) = native.U16
native_of_vec (U32 xs) = native.U32
native_of_vec (U64 xs) = native.U64
native_of_vec (I8 xs) = native.I8
native_of_vec (I16 xs) = native.I16
native_of_vec (I32 xs) = native.I32
native_of_vec (I64 xs) = native.I64
native_of_vec (I128 xs) = native.I128

-- number i if its bit is true, else 0
abbrev pub valid_number : List Bool → List ℤ → ℕ → ℤ
valid_number bits zs i = if bit_row bits i then slice_index_or zs i (pos 0) else pos 0

-- the numbers, 0 in place of each whose bit is false
abbrev pub valid_numbers : List Bool → List ℤ → List ℤ
valid_numbers bits zs = map (valid_number bits zs) (range_with_len 0 (length zs))

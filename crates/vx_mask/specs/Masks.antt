-- What a mask stands for: a list of bits.
use Rattle.std.specs.Prelude.{true, false, Bool, not, List, length, replicate, if◌then◌else◌}
use Rattle.std.specs.List.{list_all}
use Rattle.vx_mask.specs.declared.mask.Mask.{Mask}
use Rattle.vx_mask.specs.declared.mask.Mask.TheVariants.{AllTrue, AllFalse, Values}

-- the bits of a mask
abbrev pub bits_in : Mask → List Bool
bits_in (AllTrue n) = replicate n true
bits_in (AllFalse n) = replicate n false
bits_in (Values bits) = bits

-- whether every bit is true
abbrev pub is_all_true : List Bool → Bool
is_all_true bits = list_all (λ bit. bit) bits

-- whether every bit is false
abbrev pub is_all_false : List Bool → Bool
is_all_false bits = list_all not bits

-- the mask of the bits, in its one form: no bits are all true
abbrev pub mask_of : List Bool → Mask
mask_of bits = if is_all_true bits then AllTrue (length bits) else (if is_all_false bits then AllFalse (length bits) else Values bits)

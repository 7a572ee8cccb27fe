-- The values of a column, and the range of their type.
use Rattle.std.proofs.Common.{◌≡◌, ◌<◌, ℕ, zero, suc, ℤ, ◌-◌, List, ◌∷◌, map, take, drop, slice_range, replicate, ◌^◌, to_z, of_z, refl}
use Rattle.std.proofs.Common.{ap}
use Rattle.std.proofs.Common.{◌∙◌}
use Rattle.std.proofs.Math.Facts.{to_z-of_z}
use Rattle.std.specs.Int.{w128}
use Rattle.std.proofs.lemmas.List.{take-map, drop-map}
use mir.Val.{hbits}
use lib.Signed.{mag}

-- a range of what the values stand for is what those of the range stand for
pub map_part : {X Y : Type 0} (f : X → Y) (xs : List X) (a b : ℕ) → slice_range (map f xs) a b ≡ map f (slice_range xs a b)
map_part f xs a b = ap (take (b - a)) (drop-map f a xs) ∙ take-map f (b - a) (drop a xs)

pub map_copies : {X Y : Type 0} (f : X → Y) (n : ℕ) (v : X) → map f (replicate n v) ≡ replicate n (f v)
map_copies f zero v = refl
map_copies f (suc n) v = ap (λ l. f v ∷ l) (map_copies f n v)

-- copies of a value stand for copies of its number
pub copies_read : {X : Type 0} (f : X → ℤ) (xs : List X) (v : X) (n : ℕ) (z : ℤ) → xs ≡ replicate n v → f v ≡ z → map f xs ≡ replicate n z
copies_read f xs v n z e r = ap (map f) e ∙ map_copies f n v ∙ ap (replicate n) r

-- a number of 128 bits is itself once it has gone through them
pub is_wide : (z : ℤ) → mag z < 2 ^ hbits w128 → to_z w128 (of_z w128 z) ≡ z
is_wide z small = to_z-of_z {w = w128} {z = z} (record { sfits = small })

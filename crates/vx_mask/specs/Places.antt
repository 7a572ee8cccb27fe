-- The true bits of a list: how many there are, their places, and the items that they choose.
use Rattle.std.specs.Prelude.{ℕ, zero, suc, ◌<◌, ◌≤◌, ◌↔◌, ◌≡◌, Bool, true, false, List, [], ◌∷◌, Option, None, Some}
use Rattle.std.specs.Option.{option_map}
use Rattle.vx_mask.specs.Logic.{bit_row}

-- how many bits are true
unfoldable pub true_count : List Bool → ℕ
true_count [] = 0
true_count (true ∷ bits) = suc (true_count bits)
true_count (false ∷ bits) = true_count bits

-- the place of the k-th true bit, with k from 0
unfoldable pub true_place : List Bool → ℕ → Option ℕ
true_place [] k = None
true_place (true ∷ bits) zero = Some 0
true_place (true ∷ bits) (suc k) = option_map suc (true_place bits k)
true_place (false ∷ bits) k = option_map suc (true_place bits k)

-- the outer bits, with the k-th true one replaced by bit k of the inner ones, and by false past their end
unfoldable pub combined : List Bool → List Bool → List Bool
combined [] inner = []
combined (false ∷ outer) inner = false ∷ combined outer inner
combined (true ∷ outer) [] = false ∷ combined outer []
combined (true ∷ outer) (bit ∷ inner) = bit ∷ combined outer inner

-- the items at the true bits, in order
unfoldable pub chosen : {A : Type 0} → List Bool → List A → List A
chosen [] items = []
chosen (bit ∷ bits) [] = []
chosen (true ∷ bits) (item ∷ items) = item ∷ chosen bits items
chosen (false ∷ bits) (item ∷ items) = chosen bits items

-- the true bits are those from a, inclusive, to b, exclusive, and there is one
abbrev pub IsRun : List Bool → ℕ → ℕ → Type 0
IsRun bits a b = (a < b) × ((i : ℕ) → (bit_row bits i ≡ true) ↔ ((a ≤ i) × (i < b)))

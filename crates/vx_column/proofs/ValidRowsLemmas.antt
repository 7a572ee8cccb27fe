-- The rows that aren't null: those of a result, and their column.
use Rattle.std.proofs.Common.{◌≡◌, ℕ, zero, suc, ◌<◌, ◌+◌, Bool, true, false, if◌then◌else◌, List, [], ◌∷◌, length, map, get_or, replicate, Option, Some, None}
use Rattle.std.proofs.Common.{refl}
use Rattle.std.proofs.Common.{sym}
use Rattle.std.proofs.Common.{ap}
use Rattle.std.proofs.Common.{◌∙◌}
use Rattle.std.proofs.Common.{subst}
use Rattle.std.proofs.Common.{arith}
use Rattle.std.specs.List.{range_with_len}
use Rattle.std.proofs.lemmas.List.FromFn.{get_or-map-range_with_len, length-map-range_with_len}
use Rattle.vx_value.specs.Values.{boolean, Value}
use Rattle.vx_value.specs.Cell.{Cell, value}
use Rattle.vx_mask.specs.Logic.{bit_row}
use Rattle.vx_mask.specs.Masks.{is_all_true, is_all_false}
use Rattle.vx_mask.specs.Places.{true_count}
use Rattle.vx_mask.proofs.PlacesLemmas.{all_true_yes}
use Rattle.vx_tree.specs.Tree.{Tree, booleans, slots_of}
use Rattle.vx_tree.specs.Well.{IsWell}
use Rattle.vx_tree.specs.Cells.{slots_rows, valid_cell, valid_cells, HasNoFault, AreClean}
use Rattle.vx_tree.specs.Validities.{child_of, child_by, truths, HasRows}
use Rattle.vx_tree.specs.declared.validity.Validity.{Validity}
use Rattle.vx_tree.specs.declared.validity.Validity.TheVariants as validity
use Rattle.vx_column.proofs.KeepsLemmas.{copies_clean}
use Rattle.vx_column.specs.Nulls.{validity_cells}
use Rattle.vx_column.specs.ValidRows.{is_valid, HasValidity, child_in, null_unless}
use Rattle.vx_column.specs.declared.rows.valid.ValidRows.{ValidRows}
use Rattle.vx_column.specs.declared.rows.valid.ValidRows.TheVariants as rows_valid

-- ---- the validity of bits

truths_well : (b : Bool) (n : ℕ) → IsWell (truths b n)
truths_well b n = ((refl, refl, refl), tt)

booleans_well : (bits : List Bool) → IsWell (booleans bits)
booleans_well bits = ((None, refl, refl, refl, tt), tt)

same_Some : {A : Type 0} (x y : A) → Some x ≡ Some y → x ≡ y
same_Some x y e = cc

pub bits_rows : (bits : List Bool) (n : ℕ) (v : Validity) → length bits ≡ n → child_of v (length bits) ≡ child_by bits → HasRows v n
bits_rows bits n (validity.Array t) long e = by_tests (is_all_true bits) (is_all_false bits) e
  where
    of_tree : (u : Tree) → HasRows (validity.Array u) n → Some t ≡ Some u → HasRows (validity.Array t) n
    of_tree u h same = subst (λ x. HasRows (validity.Array x) n) (sym (same_Some t u same)) h

    by_tests : (a b : Bool) → Some t ≡ (if a then None else (if b then Some (truths false (length bits)) else Some (booleans bits)))
        → HasRows (validity.Array t) n
    by_tests true b e = absurd (cc)
    by_tests false true e = of_tree (truths false (length bits)) (truths_well false (length bits), refl, long) e
    by_tests false false e = of_tree (booleans bits) (booleans_well bits, refl, long) e
bits_rows bits n _ long e = tt

-- bits that are all true
all_true_row : (bits : List Bool) (i : ℕ) → is_all_true bits ≡ true → i < length bits → true ≡ bit_row bits i
all_true_row [] i h lt = absurd (omega arith)
all_true_row (true ∷ bits) zero h lt = refl
all_true_row (true ∷ bits) (suc i) h lt = all_true_row bits i h (omega arith)
all_true_row (false ∷ bits) i h lt = absurd (cc)

pub counted_row : (bits : List Bool) (i : ℕ) → true_count bits ≡ length bits → i < length bits → true ≡ bit_row bits i
counted_row bits i h lt = all_true_row bits i (all_true_yes bits h) lt

-- ---- its cells

all_true_cells : (bits : List Bool) (cs : List Cell) → is_all_true bits ≡ true → length cs ≡ length bits
    → cs ≡ valid_cells (map (λ b. value (boolean b)) bits) cs
all_true_cells [] [] h l = refl
all_true_cells [] (c ∷ cs) h l = absurd (omega arith)
all_true_cells (b ∷ bits) [] h l = absurd (omega arith)
all_true_cells (true ∷ bits) (c ∷ cs) h l = ap (λ x. c ∷ x) (all_true_cells bits cs h (omega arith))
all_true_cells (false ∷ bits) (c ∷ cs) h l = absurd (cc)

all_false_cells : (bits : List Bool) → is_all_false bits ≡ true → replicate (length bits) (value (boolean false)) ≡ map (λ b. value (boolean b)) bits
all_false_cells [] h = refl
all_false_cells (false ∷ bits) h = ap (λ x. value (boolean false) ∷ x) (all_false_cells bits h)
all_false_cells (true ∷ bits) h = absurd (cc)

pub child_told : (bits : List Bool) (cs : List Cell) → length cs ≡ length bits
    → valid_cells (validity_cells (child_by bits)) cs ≡ valid_cells (map (λ b. value (boolean b)) bits) cs
child_told bits cs l = by_tests (is_all_true bits) (is_all_false bits) refl refl
  where
    by_tests : (a b : Bool) → is_all_true bits ≡ a → is_all_false bits ≡ b
        → valid_cells (validity_cells (if a then None else (if b then Some (truths false (length bits)) else Some (booleans bits)))) cs
        ≡ valid_cells (map (λ b. value (boolean b)) bits) cs
    by_tests true b h k = all_true_cells bits cs h l
    by_tests false true h k = ap (λ vs. valid_cells vs cs) (all_false_cells bits k)
    by_tests false false h k = refl

-- a list by its rows
from_row : {X : Type 0} (s : ℕ) (xs : List X) (d : X) (f : ℕ → X) → ((i : ℕ) → f (s + i) ≡ get_or xs i d) → xs ≡ map f (range_with_len s (length xs))
from_row s [] d f h = refl
from_row s (x ∷ xs) d f h =
    let here : s + 0 ≡ s = omega arith in
    let first : x ≡ f s = sym (h 0) ∙ ap f here in
    let later : (i : ℕ) → s + suc i ≡ s + 1 + i = λ i. omega arith in
    λ j. first j ∷ from_row (s + 1) xs d f (λ i. ap f (sym (later i)) ∙ h (suc i)) j

pub by_rows : {X : Type 0} (xs : List X) (d : X) (n : ℕ) → length xs ≡ n → xs ≡ map (λ i. get_or xs i d) (range_with_len 0 n)
by_rows xs d n long =
    from_row 0 xs d (λ i. get_or xs i d) (λ i. ap (λ k. get_or xs k d) (omega arith)) ∙ ap (λ k. map (λ i. get_or xs i d) (range_with_len 0 k)) long

-- items that are made row by row
pub counted : {X : Type 0} (f : ℕ → X) (xs : List X) (n : ℕ) → xs ≡ map f (range_with_len 0 n) → length xs ≡ n
counted f xs n made = ap length made ∙ length-map-range_with_len f 0 n

pub row_made : {X : Type 0} (d : X) (f : ℕ → X) (xs : List X) (n i : ℕ) → xs ≡ map f (range_with_len 0 n) → i < n → get_or xs i d ≡ f i
row_made d f xs n i made lt = ap (λ ys. get_or ys i d) made ∙ get_or-map-range_with_len f 0 n i i d lt (omega arith)

pub bit_made : (f : ℕ → Bool) (bits : List Bool) (n i : ℕ) → bits ≡ map f (range_with_len 0 n) → i < n → bit_row bits i ≡ f i
bit_made = row_made false

-- a value, or null
pub filled_cell : (b : Bool) (w : Value) → valid_cell (value (boolean b)) (value w) ≡ null_unless b (value w)
filled_cell true w = refl
filled_cell false w = refl

filled_from : (v : ℕ → Bool) (g : ℕ → Value) (s m : ℕ) → valid_cells (map (λ b. value (boolean b)) (map v (range_with_len s m)))
    (map (λ i. value (g i)) (range_with_len s m))
    ≡ map (λ i. null_unless (v i) (value (g i))) (range_with_len s m)
filled_from v g s zero = refl
filled_from v g s (suc m) = λ j. filled_cell (v s) (g s) j ∷ filled_from v g (s + 1) m j

-- the cells of a column that stores the values of `g`
pub filled_rows : (valid : ValidRows) (n : ℕ) (g : ℕ → Value) → HasValidity valid n
    → valid_cells (validity_cells (child_in valid)) (map (λ i. value (g i)) (range_with_len 0 n)) ≡ map (λ i. null_unless (is_valid valid i) (value (g i)))
    (range_with_len 0 n)
filled_rows (rows_valid.All m) n g sized = refl
filled_rows (rows_valid.Bits bits) n g sized =
    let counted : length (map (λ i. value (g i)) (range_with_len 0 n)) ≡ length bits = length-map-range_with_len (λ i. value (g i)) 0 n ∙ sym sized in
    child_told bits (map (λ i. value (g i)) (range_with_len 0 n)) counted
    ∙ ap (λ bs. valid_cells (map (λ b. value (boolean b)) bs) (map (λ i. value (g i)) (range_with_len 0 n))) (by_rows bits false n sized)
    ∙ filled_from (bit_row bits) g 0 n

-- a validity is the one slot of its column
pub one_slot : (v : Option Tree) → slots_rows (slots_of (v ∷ [])) ≡ validity_cells v ∷ []
one_slot None = refl
one_slot (Some t) = refl

bits_clean : (bits : List Bool) → HasNoFault (map (λ b. value (boolean b)) bits)
bits_clean [] = tt
bits_clean (b ∷ bits) = bits_clean bits

pub filled_clean : (valid : ValidRows) → AreClean (slots_of (child_in valid ∷ []))
filled_clean (rows_valid.All m) = tt
filled_clean (rows_valid.Bits bits) = by_tests (is_all_true bits) (is_all_false bits)
  where
    by_tests : (a b : Bool) → AreClean (slots_of ((if a then None else (if b then Some (truths false (length bits)) else Some (booleans bits))) ∷ []))
    by_tests true b = tt
    by_tests false true = ((copies_clean (length bits) (boolean false), tt), tt)
    by_tests false false = ((bits_clean bits, tt), tt)

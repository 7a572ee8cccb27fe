-- The column of a function, row by row.
use Rattle.std.proofs.Common.{◌≡◌, ◌<◌, ◌+◌, ℕ, zero, suc, ℤ, pos, Bool, false, List, [], ◌∷◌, ◌++◌, length, map, get_or, Some, refl, sym, ap, ◌∙◌, arith}
use Rattle.std.specs.Prelude.{slice_get}
use Rattle.std.proofs.lemmas.Option.{get_or_from_slice_get}
use Rattle.vx_column.specs.Operands.{zero_unless, calculated_rows}
use Rattle.std.specs.List.{range_with_len}
use Rattle.std.proofs.lemmas.List.{length-map, map-append, get_or-map}
use Rattle.std.proofs.lemmas.Simd.{map-map}
use Rattle.std.proofs.lemmas.List.FromFn.{length-map-range_with_len, map-range_with_len_more, get_or-map-range_with_len}
use Rattle.vx_value.specs.Values.{Value, null}
use Rattle.vx_value.specs.Cell.{Cell, value, fault}
use Rattle.vx_tree.specs.Tree.{Tree}
use Rattle.vx_tree.specs.Cells.{HasNoFault}
use Rattle.vx_column.proofs.MadeLemmas.{made_by}
use Rattle.vx_column.specs.Computed.{IsColumnOfCells}
use Rattle.vx_mask.specs.Logic.{bit_row}
use Rattle.vx_column.specs.ValidRows.{is_valid}
use Rattle.vx_column.specs.declared.rows.valid.ValidRows.{ValidRows}

-- one more row that is made by f
pub rows_more : {T C : Type 0} (read : T → C) (f : ℕ → C) (out : List T) (i : ℕ) (r : T)
    → map read out ≡ map f (range_with_len 0 i) → f i ≡ read r
    → map read (out ++ r ∷ []) ≡ map f (range_with_len 0 (i + 1))
rows_more read f out i r h e =
    rw (map-append read out (r ∷ []), map-range_with_len_more f 0 i i (omega arith), h, e) refl

-- one more item that is made by f
pub items_more : {X : Type 0} (f : ℕ → X) (out : List X) (i : ℕ) (r : X) → out ≡ map f (range_with_len 0 i) → r ≡ f i
    → out ++ r ∷ [] ≡ map f (range_with_len 0 (i + 1))
items_more f out i r h e = rw (map-range_with_len_more f 0 i i (omega arith), h, e) refl

-- of the rows at the true bits
pub calculated_more : {T : Type 0} (read : T → Value) (none : Value) (bits : List Bool) (cell : ℕ → Cell) (out : List T) (i : ℕ) (x : T) (b : Bool) →
    slice_get bits i ≡ Some b → zero_unless none b (cell i) ≡ value (read x) →
    map (λ y. value (read y)) out ≡ calculated_rows none (bit_row bits) cell i →
    map (λ y. value (read y)) (out ++ x ∷ []) ≡ calculated_rows none (bit_row bits) cell (i + 1)
calculated_more read none bits cell out i x b here e h =
    rows_more (λ y. value (read y)) (λ j. zero_unless none (bit_row bits j) (cell j)) out i x h
    (ap (λ c. zero_unless none c (cell i)) (get_or_from_slice_get bits i b false here) ∙ e)

clean_at : (cs : List Cell) (i : ℕ) → HasNoFault cs → get_or cs i (value null) ≡ fault → ⊥
clean_at [] i h e = absurd (cc)
clean_at (value v ∷ cs) zero h e = absurd (cc)
clean_at (value v ∷ cs) (suc i) h e = clean_at cs i h e
clean_at (fault ∷ cs) i h e = absurd h

-- a fault in one of the rows
pub fault_among : (f : ℕ → Cell) (n i : ℕ) → i < n → f i ≡ fault → ¬ (HasNoFault (map f (range_with_len 0 n)))
fault_among f n i h e = λ clean. clean_at _ i clean (get_or-map-range_with_len f 0 n i i (value null) h (omega arith) ∙ e)

-- values that are calculated: the numbers that stand for them, and that items stand for
module _ {T : Type 0} (read : T → ℤ) (of_number : ℤ → Value) (valid : ValidRows) (cell : ℕ → Cell) (n : ℕ) (xs : List T) (zs : List ℤ) (are : zs ≡ map read xs)
    (made : map (λ x. value (of_number (read x))) xs ≡ calculated_rows (of_number (pos 0)) (is_valid valid) cell n) where
  cells_read : map (λ z. value (of_number z)) zs ≡ calculated_rows (of_number (pos 0)) (is_valid valid) cell n
  cells_read = ap (map (λ z. value (of_number z))) are ∙ map-map (λ z. value (of_number z)) read xs ∙ made

  pub calculated_long : length zs ≡ n
  calculated_long =
      sym (length-map zs (λ z. value (of_number z)))
      ∙ ap length cells_read
      ∙ length-map-range_with_len (λ i. zero_unless (of_number (pos 0)) (is_valid valid i) (cell i)) 0 n

  -- the number of a row that isn't null
  pub calculated_at : (i : ℕ) → i < n → value (of_number (get_or zs i (pos 0))) ≡ zero_unless (of_number (pos 0)) (is_valid valid i) (cell i)
  calculated_at i lt =
      let long = calculated_long in
      sym (get_or-map (λ z. value (of_number z)) zs i (pos 0) fault (omega (arith, lt, long)))
      ∙ ap (λ cs. get_or cs i fault) cells_read
      ∙ get_or-map-range_with_len (λ j. zero_unless (of_number (pos 0)) (is_valid valid j) (cell j)) 0 n i i fault lt (omega arith)

  pub calculated_made : (u : Tree) → IsColumnOfCells valid (λ i. value (of_number (get_or zs i (pos 0)))) n u → IsColumnOfCells valid cell n u
  calculated_made u =
      made_by valid (λ i. value (of_number (get_or zs i (pos 0)))) cell n u
      (λ i lt here. calculated_at i lt ∙ ap (λ b. zero_unless (of_number (pos 0)) b (cell i)) here)

-- Decimals without their points: what makes numbers those of a decimal type.
use Rattle.std.proofs.Common.{◌≡◌, ◌<◌, ℕ, ℤ, pos, Bool, true, false, List, map, sym, subst, ◌≤◌, ◌^◌, get_or, arith}
use Rattle.std.specs.Cmp.{second_so}
use Rattle.std.specs.List.{range_with_len}
use Rattle.std.proofs.lemmas.Bool.{and_from}
use Rattle.vx_value.specs.Decimals.{has_digits, smallest_width, same_width, same_width_Decides}
use Rattle.vx_value.specs.declared.decimal.DecimalDType.{DecimalDType}
use Rattle.vx_value.specs.declared.decimal.DecimalType.{DecimalType}
use Rattle.vx_tree.specs.ColumnTypes.{are_decimals_of}
use Rattle.vx_column.specs.Arguments.{unscaled_at, stored_decimals, HasDecimals}
use Rattle.vx_column.specs.declared.rows.argument.DecimalRows.{DecimalRows}
use Rattle.vx_column.specs.declared.rows.argument.DecimalRows.TheVariants as decimal_rows
use Rattle.vx_column.proofs.ValidRowsLemmas.{by_rows}
use Rattle.vx_column.proofs.PassedLemmas.{all_passed, passed_at}
use Rattle.vx_value.specs.Cell.{Cell, value}
use Rattle.vx_value.specs.Values.{decimal}
use Rattle.vx_value.proofs.DecimalsLemmas.{ten_to}
use Rattle.vx_value.proofs.DefaultsLemmas.{zero_has_digits}
use Rattle.vx_column.specs.ValidRows.{is_valid}
use Rattle.vx_column.specs.declared.rows.valid.ValidRows.{ValidRows}
use Rattle.vx_column.specs.Operands.{zero_unless, calculated_rows}
use Rattle.vx_column.proofs.ComputedLemmas.{calculated_long, calculated_at}

-- each row has the digits of its type
pub row_digits : (d : DecimalDType) (r : DecimalRows) (n i : ℕ) → HasDecimals d r n → i < n → has_digits d.precision (unscaled_at r i) ≡ true
row_digits d (decimal_rows.Value z) n i h lt = h
row_digits d (decimal_rows.Rows ds) n i h lt =
    passed_at (has_digits d.precision) (pos 0) _ i (second_so (same_width _ (smallest_width d.precision)) _ h.1) (subst (λ k. i < k) (sym h.0) lt)

-- numbers of the narrowest width that are made one by one
pub numbers_stored : (d : DecimalDType) (w : DecimalType) (f : ℕ → ℤ) (zs : List ℤ) (n : ℕ) → w ≡ smallest_width d.precision → zs ≡ map f (range_with_len 0 n)
    → ((i : ℕ) → i < n → has_digits d.precision (f i) ≡ true) → are_decimals_of (stored_decimals d) w zs ≡ true
numbers_stored d w f zs n width made each =
    and_from (same_width w (smallest_width d.precision)) _ ((same_width_Decides w (smallest_width d.precision)).1 width)
    (all_passed (has_digits d.precision) f zs n made each)

-- ---- numbers that are calculated

pub some_number : (p : ℕ) → 1 ≤ 10 ^ p
some_number p = let one : 10 ^ 0 ≤ 10 ^ p = ten_to {p = 0} {q = p} (omega arith) in omega arith

digits_unless : (p s : ℕ) (b : Bool) (c : Cell) (z : ℤ) → value (decimal z s) ≡ zero_unless (decimal (pos 0) s) b c
    → (c ≡ value (decimal z s) → has_digits p z ≡ true) → has_digits p z ≡ true
digits_unless p s true c z e h = h (sym e)
digits_unless p s false c z e h = let same : pos 0 ≡ z = cc (e) in subst (λ x. has_digits p x ≡ true) same (zero_has_digits p)

module _ {T : Type 0} (read : T → ℤ) (d : DecimalDType) (valid : ValidRows) (cell : ℕ → Cell) (n : ℕ) (xs : List T) (zs : List ℤ) (are : zs ≡ map read xs)
    (made : map (λ x. value (decimal (read x) d.scale)) xs ≡ calculated_rows (decimal (pos 0) d.scale) (is_valid valid) cell n)
    (digits : (i : ℕ) (z : ℤ) → cell i ≡ value (decimal z d.scale) → has_digits d.precision z ≡ true) where
  pub digits_stored : (w : DecimalType) → w ≡ smallest_width d.precision → are_decimals_of (stored_decimals d) w zs ≡ true
  digits_stored w narrow =
      let long = calculated_long read (λ z. decimal z d.scale) valid cell n xs zs are made in
      numbers_stored d w (λ i. get_or zs i (pos 0)) zs n narrow (by_rows zs (pos 0) n long)
      (λ i lt. digits_unless d.precision d.scale (is_valid valid i) (cell i) (get_or zs i (pos 0))
      (calculated_at read (λ z. decimal z d.scale) valid cell n xs zs are made i lt)
      (digits i (get_or zs i (pos 0))))

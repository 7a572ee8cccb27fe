-- Values chosen between two of one type: what makes them values that are stored so.
use Rattle.std.proofs.Common.{◌≡◌, ℕ, ℤ, Bool, true, false, if◌then◌else◌, List, ap, sym, subst, [], ◌∷◌, refl, ◌∙◌}
use Rattle.vx_value.specs.Decimals.{has_digits, smallest_width}
use Rattle.vx_value.specs.declared.decimal.DecimalType.{DecimalType}
use Rattle.vx_mask.specs.Logic.{bit_row}
use Rattle.vx_tree.specs.ColumnTypes.{are_decimals_of, bytes_type, are_bytes_of}
use Rattle.vx_column.specs.Arguments.{plain_type, unscaled_in, stored_decimals, HasStored, AreDecimals, bytes_in, AreBytes}
use Rattle.vx_column.specs.declared.rows.argument.DecimalOperand.{DecimalOperand}
use Rattle.vx_column.specs.declared.rows.argument.ArgumentRows.{ArgumentRows}
use Rattle.vx_column.specs.declared.rows.argument.ArgumentRows.TheVariants as stored
use Rattle.vx_column.specs.Selected.{selected_by, selected_rows}
use Rattle.vx_value.specs.declared.dtype.Storage.{Storage}
use Rattle.vx_value.specs.declared.dtype.Storage.TheVariants.{Text}
use Rattle.vx_column.specs.declared.rows.argument.BytesOperand.{BytesOperand}
use Rattle.vx_column.proofs.ViewsLemmas.{rows_stored, row_stored}
use Rattle.vx_column.proofs.UnscaledLemmas.{row_digits, numbers_stored}

-- ---- decimals

chosen_digits : (p : ℕ) (c : Bool) (a b : ℤ) → has_digits p a ≡ true → has_digits p b ≡ true → has_digits p (if c then a else b) ≡ true
chosen_digits p true a b h k = h
chosen_digits p false a b h k = k

module _ (x y : DecimalOperand) (same : plain_type (stored.Decimals x) ≡ plain_type (stored.Decimals y)) where
  same_precision : x.decimal.precision ≡ y.decimal.precision
  same_precision = cc

  pub same_scale : x.decimal.scale ≡ y.decimal.scale
  same_scale = cc

  pub same_width : (w : DecimalType) → w ≡ smallest_width x.decimal.precision → w ≡ smallest_width y.decimal.precision
  same_width w h = h ∙ ap smallest_width same_precision

  pub selected_decimals : (bits : List Bool) (w : DecimalType) (zs : List ℤ) (n : ℕ) → AreDecimals x n → AreDecimals y n
      → w ≡ smallest_width x.decimal.precision
      → zs ≡ selected_rows bits (unscaled_in x) (unscaled_in y) n → are_decimals_of (stored_decimals x.decimal) w zs ≡ true
  selected_decimals bits w zs n h k width made =
      numbers_stored x.decimal w (selected_by bits (unscaled_in x) (unscaled_in y)) zs n width made
      (λ i lt. chosen_digits x.decimal.precision (bit_row bits i) (unscaled_in x i) (unscaled_in y i) (row_digits x.decimal x.rows n i h lt)
      (subst (λ p. has_digits p (unscaled_in y i) ≡ true) (sym same_precision) (row_digits y.decimal y.rows n i k lt)))

-- ---- text and bytes

same_bytes : (s t : Storage) (rs : List (List ℕ)) → bytes_type s ≡ bytes_type t → are_bytes_of t rs ≡ true → are_bytes_of s rs ≡ true
same_bytes Text Text rs e h = h
same_bytes Text _ rs e h = absurd (cc)
same_bytes _ t rs e h = refl

chosen_stored : (st : Storage) (c : Bool) (a b : List ℕ) → are_bytes_of st (a ∷ []) ≡ true → are_bytes_of st (b ∷ []) ≡ true
    → are_bytes_of st ((if c then a else b) ∷ []) ≡ true
chosen_stored st true a b h k = h
chosen_stored st false a b h k = k

pub selected_stored : (l r : ArgumentRows) (x y : BytesOperand) (bits : List Bool) (rs : List (List ℕ)) (n : ℕ) → l ≡ stored.Bytes x → r ≡ stored.Bytes y
    → plain_type l ≡ plain_type r → HasStored l n → HasStored r n
    → rs ≡ selected_rows bits (bytes_in x) (bytes_in y) n → are_bytes_of x.storage rs ≡ true
selected_stored l r x y bits rs n first second same h k made =
    let left : AreBytes x n = subst (λ s. HasStored s n) first h in
    let right : AreBytes y n = subst (λ s. HasStored s n) second k in
    rows_stored x.storage (selected_by bits (bytes_in x) (bytes_in y)) rs n made
    (λ i lt. chosen_stored x.storage (bit_row bits i) (bytes_in x i) (bytes_in y i) (row_stored x.storage x.rows n i left lt)
    (same_bytes x.storage y.storage (bytes_in y i ∷ []) (sym (ap plain_type first) ∙ same ∙ ap plain_type second) (row_stored y.storage y.rows n i right lt)))

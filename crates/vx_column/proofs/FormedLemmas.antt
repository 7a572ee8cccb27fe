-- The one form of a canonical column, from how it is made.
use Rattle.std.proofs.Common.{◌≡◌, ℕ, zero, suc, ◌+◌, Bool, true, false, List, length, map, None, if◌then◌else◌, Some, refl, sym, ap, ◌∙◌}
use Rattle.std.specs.Prelude.{◌&&◌, not}
use Rattle.std.specs.List.{range_with_len}
use Rattle.std.proofs.lemmas.Bool.{false≢true}
use Rattle.std.proofs.lemmas.Simd.{map-map}
use Rattle.vx_value.specs.IsOf.{is_null}
use Rattle.vx_value.specs.Values.{Value, boolean}
use Rattle.vx_value.specs.Cell.{Cell, value}
use Rattle.vx_mask.specs.Masks.{is_all_true, is_all_false}
use Rattle.vx_mask.proofs.Lists.{same_below}
use Rattle.vx_tree.specs.Tree as enc
use Rattle.vx_tree.specs.Tree.{Tree, Data, datum, booleans, is_flat, is_bool, is_composed, is_constant}
use Rattle.vx_tree.specs.Validities.{child_by, truths}
use Rattle.vx_column.specs.Formed.{IsFormed, is_shown, is_true}
use Rattle.vx_column.specs.ValidRows.{is_valid, HasValidity, child_in, null_unless}
use Rattle.vx_column.specs.declared.rows.valid.ValidRows.{ValidRows}
use Rattle.vx_column.specs.declared.rows.valid.ValidRows.TheVariants as rows_valid
use Rattle.vx_column.proofs.ValidRowsLemmas.{by_rows}

-- ---- columns that don't hold their rows themselves

not_bool : (d : Data) → is_flat d ≡ false → is_bool d ≡ false
not_bool (enc.bool bs) h = h
not_bool _ h = refl

pub not_flat_formed : (u : Tree) → is_flat (datum u) ≡ false → is_composed (datum u) ≡ false → IsFormed u
not_flat_formed u h plain = record {
  validity_told = λ k. absurd (false≢true (sym h ∙ k));
  bits_cleared = λ k. absurd (false≢true (sym (not_bool (datum u) h) ∙ k));
  parts_built = λ k. absurd (false≢true (sym plain ∙ k));
}

constant_holds_none : (d : Data) → is_constant d ≡ true → (is_flat d ≡ false) × (is_composed d ≡ false)
constant_holds_none (enc.constant v) h = (refl, refl)
constant_holds_none _ h = absurd (false≢true h)

pub constant_formed : (u : Tree) → is_constant (datum u) ≡ true → IsFormed u
constant_formed u h = let none = constant_holds_none (datum u) h in not_flat_formed u none.0 none.1

-- ---- columns of stored values

shown_unless : (b : Bool) (v : Value) → is_null v ≡ false → is_shown (null_unless b (value v)) ≡ b
shown_unless true v h = ap not h
shown_unless false v h = refl

all_true_below : (s m : ℕ) → is_all_true (map (λ i. true) (range_with_len s m)) ≡ true
all_true_below s zero = refl
all_true_below s (suc m) = all_true_below (s + 1) m

-- bits that are all true stand for no validity
no_child : (bits : List Bool) → is_all_true bits ≡ true → None ≡ child_by bits
no_child bits h = ap (λ b. if b then None else (if is_all_false bits then Some (truths false (length bits)) else Some (booleans bits))) (sym h)

child_valid : (valid : ValidRows) (n : ℕ) → HasValidity valid n → child_in valid ≡ child_by (map (is_valid valid) (range_with_len 0 n))
child_valid (rows_valid.All m) n sized = no_child (map (λ i. true) (range_with_len 0 n)) (all_true_below 0 n)
child_valid (rows_valid.Bits bits) n sized = ap child_by (by_rows bits false n sized)

-- values that aren't null, of the rows that are valid
module _ (valid : ValidRows) (n : ℕ) (sized : HasValidity valid n) (g : ℕ → Value) (held : (i : ℕ) → is_null (g i) ≡ false) where
  abbrev cells : List Cell
  cells = map (λ i. null_unless (is_valid valid i) (value (g i))) (range_with_len 0 n)

  valid_shown : map (is_valid valid) (range_with_len 0 n) ≡ map is_shown cells
  valid_shown =
      same_below n _ _ (λ i lt. sym (shown_unless (is_valid valid i) (g i) (held i)))
      ∙ sym (map-map is_shown (λ i. null_unless (is_valid valid i) (value (g i))) (range_with_len 0 n))

  -- their one validity
  pub child_shown : child_in valid ≡ child_by (map is_shown cells)
  child_shown = child_valid valid n sized ∙ ap child_by valid_shown

-- ---- bits that are false under nulls

true_unless : (v b : Bool) → (v && b) ≡ is_true (null_unless v (value (boolean b)))
true_unless true b = refl
true_unless false b = refl

pub bits_true : (valid : ValidRows) (n : ℕ) (test : ℕ → Bool) → map (λ i. is_valid valid i && test i) (range_with_len 0 n)
    ≡ map is_true (map (λ i. null_unless (is_valid valid i) (value (boolean (test i)))) (range_with_len 0 n))
bits_true valid n test =
    same_below n _ _ (λ i lt. true_unless (is_valid valid i) (test i))
    ∙ sym (map-map is_true (λ i. null_unless (is_valid valid i) (value (boolean (test i)))) (range_with_len 0 n))

-- what stays of a bit that is kept already
pub kept_again : (v b : Bool) → (v && (v && b)) ≡ (v && b)
kept_again true b = refl
kept_again false b = refl

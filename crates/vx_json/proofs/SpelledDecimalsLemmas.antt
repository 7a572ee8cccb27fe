-- The text of a number is what it is read from, and the numbers that are read have no more digits than their type.
use Rattle.std.proofs.Common.{◌≡◌, ◌≢◌, refl, sym, ap, subst, ◌∙◌, arith, ℕ, ℤ, pos, negsuc, suc, nat_abs, ◌<◌, ◌≤◌, ◌^◌, ltb-true, FitsSigned}
use Rattle.std.proofs.Common.{List, [], ◌∷◌, map, Bool, true, false, ◌&&◌, Option, Some, None}
use Rattle.std.proofs.lemmas.Bool.{and_parts, and_from}
use Rattle.std.proofs.lemmas.Fmt.{decimal_is_IsNumeral_wide}
use Rattle.std.proofs.lemmas.Option.{same_Some}
use Rattle.std.proofs.lemmas.Slice.Eq.{bytes_eq-Decides}
use Rattle.std.proofs.lemmas.Str.Parse.{digit_from_value}
use Rattle.std.specs.Fmt.{decimal, signed_decimal}
use Rattle.std.specs.Int.{w128}
use Rattle.std.specs.List.{list_all}
use Rattle.std.specs.Prelude.{bytes_eq, if◌then◌else◌, option_map, option_and_then}
use Rattle.std.specs.Str.Parse.{IsNumeral, digits_value, signed_digits_value, without_leading_sign}
use Rattle.serde_json.specs.Data.{Data, Items}
use Rattle.serde_json.specs.Find.{as_str}
use Rattle.vx_value.specs.Decimals.{has_digits}
use Rattle.vx_value.specs.Types.{is_nullable}
use Rattle.vx_value.specs.declared.dtype.Nullability.{Nullability}
use Rattle.vx_tree.specs.Rows.{item_or}
use Rattle.vx_value.proofs.DecimalsLemmas.{ten_to}
use Rattle.vx_value.proofs.DefaultsLemmas.{zero_has_digits}
use Rattle.vx_json.specs.ReadRows.{AreRead}
use Rattle.vx_json.specs.SpelledValues.{written_so, decimal_in, decimal_spelled, is_null, or_null}
use Rattle.vx_json.proofs.SpelledValuesLemmas.{all_pass, mapped_read}

-- a text of digits begins with no sign
unsigned : (ds : List ℕ) → IsNumeral 10 ds → (without_leading_sign ds ≡ ds) × (signed_digits_value 10 ds ≡ pos (digits_value 10 ds))
unsigned [] h = absurd (omega (arith, h.0))
unsigned (c ∷ cs) h = let d = digit_from_value c h.1.0 in grind (arith)

-- the text of a number is a numeral behind its sign, which writes the number
abbrev IsNumeralOf : ℤ → Type 0
IsNumeralOf z = IsNumeral 10 (without_leading_sign (signed_decimal z)) × (signed_digits_value 10 (signed_decimal z) ≡ z)

read_back : (z : ℤ) → nat_abs z < 10 ^ 64 → IsNumeralOf z
read_back (pos n) h =
    let numeral = decimal_is_IsNumeral_wide n h in
    let plain = unsigned (decimal n) numeral.0 in
    (subst (IsNumeral 10) (sym plain.0) numeral.0, plain.1 ∙ ap pos numeral.1)
read_back (negsuc n) h =
    let numeral = decimal_is_IsNumeral_wide (suc n) h in
    (numeral.0, grind (arith, numeral.1))

-- a number of at most 38 digits is an `i128`
below_wide : (p : ℕ) (z : ℤ) → p ≤ 38 → has_digits p z ≡ true → nat_abs z < 10 ^ 38
below_wide p z few h = let below : nat_abs z < 10 ^ p = ltb-true _ _ h in let all : 10 ^ p ≤ 10 ^ 38 = ten_to few in omega arith

fits_wide : (z : ℤ) → nat_abs z < 10 ^ 38 → FitsSigned w128 z
fits_wide (pos n) h = record { sfits = omega arith }
fits_wide (negsuc n) h = record { sfits = omega arith }

numeral_of : (p : ℕ) (z : ℤ) → p ≤ 38 → has_digits p z ≡ true → IsNumeralOf z
numeral_of p z few h = let below = below_wide p z few h in read_back z (omega arith)

-- such a number is read from its text
written_read : (p : ℕ) (z : ℤ) → p ≤ 38 → has_digits p z ≡ true → decimal_in p (signed_decimal z) ≡ Some z
written_read p z few h =
    ap (written_so p (signed_decimal z)) (numeral_of p z few h).1
    ∙ ap (λ b. if b then Some z else None) (and_from _ _ h ((bytes_eq-Decides (signed_decimal z) (signed_decimal z)).1 refl))

-- so a text from which none is read is the text of none
pub unwritten : (p : ℕ) (text : List ℕ) → p ≤ 38 → decimal_in p text ≡ None → (z : ℤ) → has_digits p z ≡ true → signed_decimal z ≢ text
unwritten p text few none z h same = let e : Some z ≡ None = sym (written_read p z few h) ∙ ap (decimal_in p) same ∙ none in cc e

-- as is a text that isn't the numeral of an `i128`
pub unparsed : (p : ℕ) (text : List ℕ) → p ≤ 38 →
    ¬ (IsNumeral 10 (without_leading_sign text) × FitsSigned w128 (signed_digits_value 10 text)) → decimal_in p text ≡ None
unparsed p text few other = by_test (has_digits p z && bytes_eq (signed_decimal z) text) refl
  where
    z : ℤ
    z = signed_digits_value 10 text

    by_test : (b : Bool) → has_digits p z && bytes_eq (signed_decimal z) text ≡ b → (if b then Some z else None) ≡ None
    by_test true e =
        let parts = and_parts (has_digits p z) (bytes_eq (signed_decimal z) text) e in
        let same : signed_decimal z ≡ text = (bytes_eq-Decides (signed_decimal z) text).0 parts.1 in
        let numeral = subst (λ t. IsNumeral 10 (without_leading_sign t)) same (numeral_of p z few parts.0).0 in
        absurd (other (numeral, fits_wide z (below_wide p z few parts.0)))
    by_test false e = refl

-- what is read has at most so many digits
digits_in : (p : ℕ) (text : List ℕ) (z : ℤ) → decimal_in p text ≡ Some z → has_digits p z ≡ true
digits_in p text z h = by_test (has_digits p y && bytes_eq (signed_decimal y) text) refl h
  where
    y : ℤ
    y = signed_digits_value 10 text

    by_test : (b : Bool) → has_digits p y && bytes_eq (signed_decimal y) text ≡ b → (if b then Some y else None) ≡ Some z → has_digits p z ≡ true
    by_test true e same = ap (has_digits p) (sym (same_Some _ _ same)) ∙ (and_parts (has_digits p y) (bytes_eq (signed_decimal y) text) e).0
    by_test false e same = absurd (cc)

digits_of : (p : ℕ) (d : Data) (z : ℤ) → decimal_spelled p d ≡ Some z → has_digits p z ≡ true
digits_of p d z h = by_text (as_str d) h
  where
    by_text : (o : Option (List ℕ)) → option_and_then (decimal_in p) o ≡ Some z → has_digits p z ≡ true
    by_text None e = absurd (cc)
    by_text (Some text) e = digits_in p text z e

-- a row's number too, 0 for null
row_digits : (m : Nullability) (p : ℕ) (d : Data) (z : ℤ) → option_map (item_or (pos 0)) (or_null m (decimal_spelled p) d) ≡ Some z → has_digits p z ≡ true
row_digits m p d z h = by_test (is_nullable m && is_null d) (decimal_spelled p d) refl h
  where
    by_test : (null : Bool) (o : Option ℤ) → decimal_spelled p d ≡ o →
        option_map (item_or (pos 0)) (if null then Some None else option_map Some o) ≡ Some z → has_digits p z ≡ true
    by_test true o read e = ap (has_digits p) (sym (same_Some _ _ e)) ∙ zero_has_digits p
    by_test false None read e = absurd (cc)
    by_test false (Some y) read e = digits_of p d z (read ∙ e)

pub rows_digits : (m : Nullability) (p : ℕ) (ds : Items) (zs : List ℤ) (valid : List Bool) → AreRead m (pos 0) (decimal_spelled p) ds zs valid →
    list_all (has_digits p) zs ≡ true
rows_digits m p ds zs valid h =
    let row : Data → Option (Option ℤ) = or_null m (decimal_spelled p) in
    all_pass (has_digits p) (λ d. option_map (item_or (pos 0)) (row d)) (row_digits m p) ds zs
    (mapped_read (item_or (pos 0)) row ds ∙ ap (option_map (map (item_or (pos 0)))) h.are_read ∙ ap Some (sym h.held))

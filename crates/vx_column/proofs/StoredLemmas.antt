-- What a column stores of a value.
use Rattle.std.proofs.Common.{◌≡◌, ◌⊎◌, ℕ, ℤ, Bool, List, [], ◌∷◌, pos, true, false, refl, sym, ◌∙◌, ap, subst, inl, inr, arith, lt-ltb}
use Rattle.std.specs.Prelude.{unwrap_or, ◌==◌, ◌^◌}
use Rattle.vx_value.specs.Types.{DataType, utf8, binary, nullability_of}
use Rattle.vx_value.specs.Nullabilities.{with_nullability}
use Rattle.vx_value.specs.Storage.{storage_of}
use Rattle.vx_value.specs.declared.dtype.Storage.{Storage}
use Rattle.vx_value.specs.declared.dtype.Storage.TheVariants.{Bits, Integers, Decimals, Text, Bytes}
use Rattle.vx_value.specs.IsOf.{is_of, is_stored, is_null, in_range, are_parts}
use Rattle.vx_value.specs.Nested.{bare}
use Rattle.vx_value.specs.Parts.{boolean_in, integer_in, bytes_in}
use Rattle.vx_value.specs.Values as of
use Rattle.vx_value.specs.Values.{Value, boolean, integer}
use Rattle.vx_value.specs.Typed.{Typed}
use Rattle.vx_value.specs.declared.dtype.Nullability.{Nullability}
use Rattle.vx_value.specs.declared.dtype.PType.{PType}
use Rattle.vx_value.proofs.DefaultsLemmas.{both_true, zero_in_range, zero_typed}
use Rattle.vx_tree.specs.ColumnTypes.{bytes_type, are_bytes_of, are_decimals_of}
use Rattle.std.specs.Cmp.{unsigned_Decides, first_so, second_so}
use Rattle.vx_value.specs.Types as type
use Rattle.vx_value.specs.Decimals.{has_digits}
use Rattle.vx_value.specs.declared.decimal.DecimalDType.{DecimalDType}
use Rattle.vx_column.specs.declared.rows.argument.DecimalRows.TheVariants.{Value as OneDecimal}
use Rattle.vx_column.specs.Arguments.{AreBytes, IsRepeated, unscaled_of, bytes_in as bytes_operand}
use Rattle.vx_column.specs.declared.rows.argument.ArgumentRows.TheVariants as stored
use Rattle.vx_column.specs.declared.rows.argument.BytesOperand.{BytesOperand}
use Rattle.vx_value.proofs.DecimalsLemmas.{ten_to}
use Rattle.vx_value.specs.View.{type_of}
use Rattle.vx_value.specs.declared.dtype.DType.{DType}
use Rattle.vx_value.specs.declared.dtype.DType.TheVariants as dtypes
use Rattle.vx_value.specs.declared.decimal.DecimalType.{DecimalType}

-- whether the parts of a value are of the parts of what its type is stored as
abbrev pub parts_in : DataType → Value → Bool
parts_in t v = is_stored (nullability_of t) (storage_of (bare t)) (are_parts (bare t) v) v

pub stored_boolean : (m : Nullability) (st : Storage) (parts : Bool) (v : Value) → st ≡ Bits → is_stored m st parts v ≡ true → is_null v ≡ false
    → boolean (unwrap_or (boolean_in v) false) ≡ v
stored_boolean m st parts of.null e h k = absurd (cc)
stored_boolean m st parts (boolean b) e h k = refl
stored_boolean m st parts (integer z) e h k = let no : false ≡ true = sym (ap (λ x. is_stored m x parts (integer z)) e) ∙ h in absurd (cc)
stored_boolean m st parts (of.decimal z r) e h k = let no : false ≡ true = sym (ap (λ x. is_stored m x parts (of.decimal z r)) e) ∙ h in absurd (cc)
stored_boolean m st parts (of.bytes bs) e h k = let no : false ≡ true = sym (ap (λ x. is_stored m x parts (of.bytes bs)) e) ∙ h in absurd (cc)
stored_boolean m st parts (of.list vs) e h k = let no : false ≡ true = sym (ap (λ x. is_stored m x parts (of.list vs)) e) ∙ h in absurd (cc)
stored_boolean m st parts (of.fields vs) e h k = let no : false ≡ true = sym (ap (λ x. is_stored m x parts (of.fields vs)) e) ∙ h in absurd (cc)
stored_boolean m st parts (of.tagged tag v) e h k = let no : false ≡ true = sym (ap (λ x. is_stored m x parts (of.tagged tag v)) e) ∙ h in absurd (cc)
stored_boolean m st parts (of.variant t v) e h k = let no : false ≡ true = sym (ap (λ x. is_stored m x parts (of.variant t v)) e) ∙ h in absurd (cc)

pub stored_number : (p : PType) (m : Nullability) (st : Storage) (parts : Bool) (v : Value) → st ≡ Integers p → is_stored m st parts v ≡ true → is_null v ≡ false
    → integer (unwrap_or (integer_in v) (pos 0)) ≡ v
stored_number p m st parts of.null e h k = absurd (cc)
stored_number p m st parts (boolean b) e h k = let no : false ≡ true = sym (ap (λ x. is_stored m x parts (boolean b)) e) ∙ h in absurd (cc)
stored_number p m st parts (integer z) e h k = refl
stored_number p m st parts (of.decimal z r) e h k = let no : false ≡ true = sym (ap (λ x. is_stored m x parts (of.decimal z r)) e) ∙ h in absurd (cc)
stored_number p m st parts (of.bytes bs) e h k = let no : false ≡ true = sym (ap (λ x. is_stored m x parts (of.bytes bs)) e) ∙ h in absurd (cc)
stored_number p m st parts (of.list vs) e h k = let no : false ≡ true = sym (ap (λ x. is_stored m x parts (of.list vs)) e) ∙ h in absurd (cc)
stored_number p m st parts (of.fields vs) e h k = let no : false ≡ true = sym (ap (λ x. is_stored m x parts (of.fields vs)) e) ∙ h in absurd (cc)
stored_number p m st parts (of.tagged tag v) e h k = let no : false ≡ true = sym (ap (λ x. is_stored m x parts (of.tagged tag v)) e) ∙ h in absurd (cc)
stored_number p m st parts (of.variant t v) e h k = let no : false ≡ true = sym (ap (λ x. is_stored m x parts (of.variant t v)) e) ∙ h in absurd (cc)

-- it is in the range of its type
pub stored_integer : (p : PType) (s : Typed) → storage_of s.of_type ≡ Integers p → is_of s.of_type s.value ≡ true
    → in_range p (unwrap_or (integer_in s.value) (pos 0)) ≡ true
stored_integer p s e h = by_value (parts_in s.of_type s.value) s.value (sym (ap (λ x. is_stored (nullability_of s.of_type) x (parts_in s.of_type s.value) s.value) e) ∙ h)
  where
    by_value : (parts : Bool) (v : Value) → is_stored (nullability_of s.of_type) (Integers p) parts v ≡ true
        → in_range p (unwrap_or (integer_in v) (pos 0)) ≡ true
    by_value parts (integer z) k = k
    by_value parts _ k = zero_in_range p

-- ---- of decimals

-- what is stored of a value of a decimal type, 0 of null
pub stored_decimal : (p q : ℕ) (m : Nullability) (parts : Bool) (v : Value) → is_stored m (Decimals p q) parts v ≡ true → is_null v ≡ false
    → of.decimal (unscaled_of v) q ≡ v
stored_decimal p q m parts of.null h k = absurd (cc)
stored_decimal p q m parts (of.decimal z r) h k = ap (of.decimal z) (sym ((unsigned_Decides r q).0 (first_so (r == q) _ h)))
stored_decimal p q m parts _ h k = absurd (cc)

-- a type is one of decimals if numbers are stored so
pub decimal_typed : (t : DType) (w : DecimalType) (zs : List ℤ) → are_decimals_of (storage_of (type_of t)) w zs ≡ true
    → ((d : DecimalDType) (m : Nullability) → t ≡ dtypes.Decimal d m → ⊥) → ⊥
decimal_typed (dtypes.Decimal d m) w zs h other = other d m refl
decimal_typed _ w zs h other = absurd (cc)

pub decimal_kept : (p q : ℕ) (m : Nullability) (parts : Bool) (v : Value) → is_stored m (Decimals p q) parts v ≡ true → has_digits p (unscaled_of v) ≡ true
decimal_kept p q m parts of.null h = lt-ltb 0 (10 ^ p) (ten_to {p = 0} {q = p} (omega arith))
decimal_kept p q m parts (of.decimal z r) h = second_so (r == q) _ h
decimal_kept p q m parts _ h = absurd (cc)

-- a constant of them
pub decimals_repeated : (s : Typed) (d : DecimalDType) (z : ℤ) (m : Nullability) → s.of_type ≡ type.decimal d.precision d.scale m → z ≡ unscaled_of s.value
    → is_of s.of_type s.value ≡ true → IsRepeated s (stored.Decimals (record { decimal = d; rows = OneDecimal z }))
decimals_repeated s d z m is number typed =
    let n = nullability_of s.of_type in
    let parts : Bool = parts_in s.of_type s.value in
    let kind : is_stored n (Decimals d.precision d.scale) parts s.value ≡ true = ap (λ ty. is_stored n (storage_of ty) parts s.value) (sym is) ∙ typed in
    record {
      typed = ap (λ x. type.decimal d.precision d.scale (nullability_of x)) is ∙ sym is;
      shown = λ i k. ap (λ x. of.decimal x d.scale) number ∙ stored_decimal d.precision d.scale n parts s.value kind k;
      sized = λ k. ap (has_digits d.precision) number ∙ decimal_kept d.precision d.scale n parts s.value kind;
    }

-- ---- of text and bytes

-- their type by how they are stored
pub column_of_bytes : (ty : DataType) → (storage_of ty ≡ Text) ⊎ (storage_of ty ≡ Bytes)
    → with_nullability (nullability_of ty) (bytes_type (storage_of ty)) ≡ ty
column_of_bytes (utf8 n) h = refl
column_of_bytes (binary n) h = refl
column_of_bytes _ (inl e) = absurd (cc)
column_of_bytes _ (inr e) = absurd (cc)

stored_text : (m : Nullability) (parts : Bool) (v : Value) → is_stored m Text parts v ≡ true → is_null v ≡ false → of.bytes (unwrap_or (bytes_in v) []) ≡ v
stored_text m parts of.null h k = absurd (cc)
stored_text m parts (of.bytes bs) h k = refl
stored_text m parts _ h k = absurd (cc)

stored_bytes : (m : Nullability) (parts : Bool) (v : Value) → is_stored m Bytes parts v ≡ true → is_null v ≡ false → of.bytes (unwrap_or (bytes_in v) []) ≡ v
stored_bytes m parts of.null h k = absurd (cc)
stored_bytes m parts (of.bytes bs) h k = refl
stored_bytes m parts _ h k = absurd (cc)

pub stored_as_bytes : (m : Nullability) (st : Storage) (parts : Bool) (v : Value) → (st ≡ Text) ⊎ (st ≡ Bytes) → is_stored m st parts v ≡ true
    → is_null v ≡ false → of.bytes (unwrap_or (bytes_in v) []) ≡ v
stored_as_bytes m st parts v (inl e) h k = stored_text m parts v (sym (ap (λ x. is_stored m x parts v) e) ∙ h) k
stored_as_bytes m st parts v (inr e) h k = stored_bytes m parts v (sym (ap (λ x. is_stored m x parts v) e) ∙ h) k

-- what stands for it, no bytes for null, is stored so too
text_kept : (m : Nullability) (parts : Bool) (v : Value) → is_stored m Text parts v ≡ true → are_bytes_of Text (unwrap_or (bytes_in v) [] ∷ []) ≡ true
text_kept m parts of.null h = both_true (zero_typed (utf8 m) refl) refl
text_kept m parts (of.bytes bs) h = both_true h refl
text_kept m parts _ h = absurd (cc)

pub bytes_kept : (m : Nullability) (st : Storage) (parts : Bool) (v : Value) → (st ≡ Text) ⊎ (st ≡ Bytes) → is_stored m st parts v ≡ true
    → are_bytes_of st (unwrap_or (bytes_in v) [] ∷ []) ≡ true
bytes_kept m st parts v (inl e) h =
    ap (λ x. are_bytes_of x (unwrap_or (bytes_in v) [] ∷ [])) e ∙ text_kept m parts v (sym (ap (λ x. is_stored m x parts v) e) ∙ h)
bytes_kept m st parts v (inr e) h = ap (λ x. are_bytes_of x (unwrap_or (bytes_in v) [] ∷ [])) e

-- a constant of them
pub bytes_repeated : (s : Typed) (b : BytesOperand) (x : List ℕ) → b.storage ≡ storage_of s.of_type → (b.storage ≡ Text) ⊎ (b.storage ≡ Bytes)
    → x ≡ unwrap_or (bytes_in s.value) [] → ((i : ℕ) → bytes_operand b i ≡ x) → ((n : ℕ) → are_bytes_of b.storage (x ∷ []) ≡ true → AreBytes b n)
    → is_of s.of_type s.value ≡ true → IsRepeated s (stored.Bytes b)
bytes_repeated s b x kind known is read sized typed =
    let m = nullability_of s.of_type in
    let parts : Bool = parts_in s.of_type s.value in
    let there : is_stored m b.storage parts s.value ≡ true = ap (λ st. is_stored m st parts s.value) kind ∙ typed in
    record {
      typed = ap (λ st. with_nullability m (bytes_type st)) kind ∙ column_of_bytes s.of_type (subst (λ st. (st ≡ Text) ⊎ (st ≡ Bytes)) kind known);
      shown = λ i k. ap of.bytes (read i ∙ is) ∙ stored_as_bytes m b.storage parts s.value known there k;
      sized = λ n. sized n (ap (λ y. are_bytes_of b.storage (y ∷ [])) is ∙ bytes_kept m b.storage parts s.value known there);
    }

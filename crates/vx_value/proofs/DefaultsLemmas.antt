-- The zero value is of its type.
use Rattle.std.proofs.Common.{◌≡◌, ◌≤◌, ◌^◌, ◌+◌, ◌*◌, nat_lt, ℕ, zero, suc, Bool, true, false, ◌&&◌, ◌==◌, if◌then◌else◌, Option, Some, None, is_some, List, [], ◌∷◌, ◌++◌, length, drop, ◌<◌, refl, ap, sym, ◌∙◌, arith, lt-ltb}
use Rattle.std.specs.Cmp.{unsigned_Decides}
use Rattle.std.proofs.lemmas.Str.{IsUtf8-nil}
use Rattle.vx_value.proofs.DecimalsLemmas.{ten_to}
use Rattle.vx_value.proofs.BytesLemmas.{is_text}
use Rattle.vx_value.specs.Types.{DataType, null, bool, primitive, decimal, utf8, binary, list, fixed_size_list, map, struct, union, variant, extension}
use Rattle.vx_value.specs.Types.{Fields, no_fields, field, Variants, no_variants, alternative}
use Rattle.vx_value.specs.Values.{Value, count, repeated}
use Rattle.vx_value.specs.Nested.{entry_type, tag_type, the_type}
use Rattle.vx_value.specs.Fits.{or_else, overflow, fields_overflow, variants_overflow, list_overflow, each_overflow, named_overflow, ListsFit}
use Rattle.vx_value.specs.Storage.{is_nested}
use Rattle.vx_value.specs.View.{type_of, fields_of, variants_of, cell_of, values_of}
use Rattle.vx_value.specs.Nested.{is_some_variant}
use Rattle.vx_value.specs.Values.{item}
use Rattle.vx_value.specs.declared.nested.Field.{Field}
use Rattle.vx_value.specs.declared.scalar.ScalarValue.{ScalarValue}
use Rattle.vx_value.proofs.ValuesLemmas.{prepend, prepend_one, prepend_none}
use Rattle.std.proofs.Math.ListN.{get_or}
use Rattle.std.proofs.lemmas.List.{drop_more, drop_all}
use Rattle.vx_value.specs.declared.nested.UnionVariant.{UnionVariant}
use Rattle.vx_value.specs.declared.dtype.Nullability.{Nullability}
use Rattle.vx_value.specs.Decimals.{has_digits}
use Rattle.vx_value.specs.IsOf.{is_of, are_parts, all_of, are_of, in_range}
use Rattle.vx_value.specs.Defaults.{zero_of, zeros_of, first_zero}
use Rattle.vx_value.specs.declared.dtype.PType.{PType}
use Rattle.vx_value.specs.declared.dtype.PType.TheVariants as ptype
use Rattle.std.specs.Prelude.{pos}

pub zero_in_range : (p : PType) → in_range p (pos 0) ≡ true
zero_in_range ptype.U8 = refl
zero_in_range ptype.U16 = refl
zero_in_range ptype.U32 = refl
zero_in_range ptype.U64 = refl
zero_in_range ptype.I8 = refl
zero_in_range ptype.I16 = refl
zero_in_range ptype.I32 = refl
zero_in_range ptype.I64 = refl

pub zero_has_digits : (p : ℕ) → has_digits p (pos 0) ≡ true
zero_has_digits p =
    let least : 0 ≤ p = omega arith in
    let one : 10 ^ 0 ≤ 10 ^ p = ten_to least in
    lt-ltb 0 (10 ^ p) (omega arith)

pub both_true : {a b : Bool} → a ≡ true → b ≡ true → (a && b) ≡ true
both_true h k = λ i. h i && k i

-- of a type that isn't nested: a line for each
pub zero_typed : (t : DataType) → is_nested t ≡ false → is_of t (zero_of t) ≡ true
zero_typed (primitive p n) h = zero_in_range p
zero_typed (decimal p s n) h = both_true ((unsigned_Decides s s).1 refl) (zero_has_digits p)
zero_typed (utf8 n) h = is_text [] IsUtf8-nil
zero_typed null h = refl
zero_typed (bool n) h = refl
zero_typed (binary n) h = refl
zero_typed _ h = absurd (cc)

-- ---- of nested types, by their parts

pub count_repeated : (n : ℕ) (v : Value) → count (repeated n v) ≡ n
count_repeated zero v = refl
count_repeated (suc n) v = simp (count_repeated n v) (omega arith)

pub all_repeated : (t : DataType) (n : ℕ) (v : Value) → is_of t v ≡ true → all_of t (repeated n v) ≡ true
all_repeated t zero v h = refl
all_repeated t (suc n) v h = both_true h (all_repeated t n v h)

pub sized_typed : (t : DataType) (k : ℕ) (n : Nullability) → is_of t (zero_of t) ≡ true → is_of (fixed_size_list t k n) (zero_of (fixed_size_list t k n)) ≡ true
sized_typed t k n h = both_true ((unsigned_Decides (count (repeated k (zero_of t))) k).1 (count_repeated k (zero_of t))) (all_repeated t k (zero_of t) h)

-- the first variant of a union has its tag
pub first_typed : (us : List UnionVariant) (u : UnionVariant) (n : Nullability) → is_some_variant (variants_of us) ≡ true → get_or us 0 u ≡ u
    → is_of (type_of u.dtype) (zero_of (type_of u.dtype)) ≡ true
    → are_parts (union (variants_of us) n) (first_zero (variants_of us)) ≡ true
first_typed [] u n some at h = absurd (cc)
first_typed (v ∷ us) u n some at h = by_tag (v.tag == v.tag) ((unsigned_Decides v.tag v.tag).1 refl)
  where
    rest : Option DataType
    rest = tag_type v.tag (variants_of us)

    here : is_of (type_of v.dtype) (zero_of (type_of v.dtype)) ≡ true
    here = ap (λ w. is_of (type_of w.dtype) (zero_of (type_of w.dtype))) at ∙ h

    by_tag : (b : Bool) → b ≡ true → (is_some (if b then Some (type_of v.dtype) else rest)
        && is_of (the_type (if b then Some (type_of v.dtype) else rest)) (zero_of (type_of v.dtype))) ≡ true
    by_tag true e = here
    by_tag false e = absurd (cc)

pub zeros_step : (fs : List Field) (done more : List (Option ScalarValue)) (i : ℕ) (f : Field) (x : Option ScalarValue) → i < length fs → get_or fs i f ≡ f
    → zeros_of (fields_of fs) ≡ prepend done (zeros_of (fields_of (drop i fs)))
    → cell_of x ≡ zero_of (type_of f.dtype)
    → more ≡ done ++ x ∷ []
    → zeros_of (fields_of fs) ≡ prepend more (zeros_of (fields_of (drop (i + 1) fs)))
zeros_step fs done more i f x p at before given pushed =
    before
    ∙ ap (λ gs. prepend done (zeros_of (fields_of gs))) (drop_more fs i f p)
    ∙ ap (λ g. prepend done (item (zero_of (type_of g.dtype)) (zeros_of (fields_of (drop (i + 1) fs))))) at
    ∙ ap (λ v. prepend done (item v (zeros_of (fields_of (drop (i + 1) fs))))) (sym given)
    ∙ sym (prepend_one done x (zeros_of (fields_of (drop (i + 1) fs))))
    ∙ ap (λ xs. prepend xs (zeros_of (fields_of (drop (i + 1) fs)))) (sym pushed)

pub zeros_end : (fs : List Field) (done : List (Option ScalarValue)) (i : ℕ) → length fs ≤ i
    → zeros_of (fields_of fs) ≡ prepend done (zeros_of (fields_of (drop i fs)))
    → values_of done ≡ zeros_of (fields_of fs)
zeros_end fs done i p before = sym (before ∙ ap (λ gs. prepend done (zeros_of (fields_of gs))) (drop_all i fs p) ∙ prepend_none done)

pub typed_step : (fs : List Field) (i : ℕ) (f : Field) → i < length fs → get_or fs i f ≡ f → is_of (type_of f.dtype) (zero_of (type_of f.dtype)) ≡ true
    → are_of (fields_of (drop i fs)) (zeros_of (fields_of (drop i fs))) ≡ are_of (fields_of (drop (i + 1) fs)) (zeros_of (fields_of (drop (i + 1) fs)))
typed_step fs i f p at h =
    ap (λ gs. are_of (fields_of gs) (zeros_of (fields_of gs))) (drop_more fs i f p)
    ∙ ap (λ g. is_of (type_of g.dtype) (zero_of (type_of g.dtype)) && are_of (fields_of (drop (i + 1) fs)) (zeros_of (fields_of (drop (i + 1) fs)))) at
    ∙ ap (λ b. b && are_of (fields_of (drop (i + 1) fs)) (zeros_of (fields_of (drop (i + 1) fs)))) h

-- ---- the lists in a zero value are empty

mutual
  none_overflow : (t : DataType) → overflow t 0 ≡ None
  none_overflow (fixed_size_list t k n) =
      let none : 0 * k ≡ 0 = omega arith in
      ap (λ m. if nat_lt m (2 ^ 64) then overflow t m else Some (0, k)) none ∙ none_overflow t
  none_overflow (struct fs n) = none_fields fs
  none_overflow (union us n) = none_variants us
  none_overflow (extension id t) = none_overflow t
  none_overflow null = refl
  none_overflow _ = refl

  none_fields : (fs : Fields) → fields_overflow fs 0 ≡ None
  none_fields no_fields = refl
  none_fields (field name t fs) = ap (λ o. or_else o (fields_overflow fs 0)) (none_overflow t) ∙ none_fields fs

  none_variants : (us : Variants) → variants_overflow us 0 ≡ None
  none_variants no_variants = refl
  none_variants (alternative tag name t us) = ap (λ o. or_else o (variants_overflow us 0)) (none_overflow t) ∙ none_variants us

each_repeated : (t : DataType) (n : ℕ) (v : Value) → ListsFit t v → each_overflow t (repeated n v) ≡ None
each_repeated t zero v h = refl
each_repeated t (suc n) v h = ap (λ o. or_else o (each_overflow t (repeated n v))) h ∙ each_repeated t n v h

mutual
  pub zero_fits : (t : DataType) → ListsFit t (zero_of t)
  zero_fits (list t n) = ap (λ o. or_else o None) (none_overflow t)
  zero_fits (fixed_size_list t k n) = each_repeated t k (zero_of t) (zero_fits t)
  zero_fits (map k v n) = ap (λ o. or_else o None) (none_overflow (entry_type k v))
  zero_fits (struct fs n) = zeros_fit fs
  zero_fits (union us n) = first_fits us n
  zero_fits (extension id t) = zero_fits t
  zero_fits null = refl
  zero_fits _ = refl

  zeros_fit : (fs : Fields) → named_overflow fs (zeros_of fs) ≡ None
  zeros_fit no_fields = refl
  zeros_fit (field name t fs) = ap (λ o. or_else o (named_overflow fs (zeros_of fs))) (zero_fits t) ∙ zeros_fit fs

  first_fits : (us : Variants) (n : Nullability) → ListsFit (union us n) (first_zero us)
  first_fits no_variants n = refl
  first_fits (alternative tag name t us) n =
      ap (λ b. list_overflow (the_type (if b then Some t else tag_type tag us)) (zero_of t)) ((unsigned_Decides tag tag).1 refl) ∙ zero_fits t

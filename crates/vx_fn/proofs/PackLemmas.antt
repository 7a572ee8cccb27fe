-- Structs that are packed from arguments: their fields and values, made one after the other.
use Rattle.std.proofs.Common.{◌≡◌, ℕ, ◌+◌, ◌<◌, ◌≤◌, Bool, true, false, ◌&&◌, List, [], ◌∷◌, ◌++◌, length, map, drop, None, Some}
use Rattle.std.proofs.Common.{if◌then◌else◌, refl, sym, ap, subst, ◌∙◌, arith}
use Rattle.std.specs.Prelude.{Option, ◌==◌}
use Rattle.std.specs.Cmp.{unsigned_Decides}
use Rattle.std.proofs.Math.ListN.{get_or}
use Rattle.std.proofs.lemmas.List.{drop_more, drop_all}
use Rattle.vx_value.specs.Types.{DataType, Fields, no_fields, field, struct}
use Rattle.vx_value.specs.Nested.{are_fields}
use Rattle.vx_value.specs.Cell.{Cell, value}
use Rattle.vx_value.specs.declared.dtype.Nullability.{Nullability}
use Rattle.vx_value.specs.Values.{Value, Values, item, fields}
use Rattle.vx_value.specs.Typed.{Typed}
use Rattle.vx_value.specs.IsOf.{is_of, are_of}
use Rattle.vx_value.specs.Fits.{or_else, named_overflow, ListsFit}
use Rattle.vx_value.specs.View.{type_of, fields_of, cell_of, values_of}
use Rattle.vx_value.specs.declared.dtype.DType.{DType}
use Rattle.vx_value.specs.declared.nested.Field.{Field}
use Rattle.vx_value.specs.declared.scalar.ScalarValue.{ScalarValue}
use Rattle.vx_value.proofs.ValuesLemmas.{prepend, prepend_one, prepend_none}
use Rattle.vx_fn.specs.Apply.{on_values}
use Rattle.vx_fn.specs.Pack.{fields_with, in_order, pack_type, struct_of, AreTyped}

-- ---- the fields

-- those that are made, before those to come
abbrev pub before : List Field → Fields → Fields
before [] fs = fs
before (f ∷ done) fs = field f.name (type_of f.dtype) (before done fs)

before_one : (done : List Field) (f : Field) (fs : Fields) → before (done ++ f ∷ []) fs ≡ before done (field f.name (type_of f.dtype) fs)
before_one [] f fs = refl
before_one (g ∷ done) f fs = ap (field g.name (type_of g.dtype)) (before_one done f fs)

before_none : (done : List Field) → before done no_fields ≡ fields_of done
before_none [] = refl
before_none (g ∷ done) = ap (field g.name (type_of g.dtype)) (before_none done)

pub fields_step : (names : List (List ℕ)) (types : List DType) (done more : List Field) (i : ℕ) (name : List ℕ) (d : DType) (f : Field)
    (whole : Fields)
    → i < length names → i < length types → get_or names i name ≡ f.name → type_of (get_or types i d) ≡ type_of f.dtype
    → whole ≡ before done (fields_with (drop i names) (map type_of (drop i types)))
    → more ≡ done ++ f ∷ []
    → whole ≡ before more (fields_with (drop (i + 1) names) (map type_of (drop (i + 1) types)))
fields_step names types done more i name d f whole p q named typed made pushed =
    let rest : Fields = fields_with (drop (i + 1) names) (map type_of (drop (i + 1) types)) in
    made
    ∙ ap (λ ns. before done (fields_with ns (map type_of (drop i types)))) (drop_more names i name p)
    ∙ ap (λ ts. before done (fields_with (get_or names i name ∷ drop (i + 1) names) (map type_of ts))) (drop_more types i d q)
    ∙ (λ j. before done (field (named j) (typed j) rest))
    ∙ sym (before_one done f rest)
    ∙ ap (λ fs. before fs rest) (sym pushed)

pub fields_end : (names : List (List ℕ)) (types : List DType) (done : List Field) (i : ℕ) (whole : Fields) → length names ≤ i
    → whole ≡ before done (fields_with (drop i names) (map type_of (drop i types)))
    → whole ≡ fields_of done
fields_end names types done i whole p made =
    made ∙ ap (λ ns. before done (fields_with ns (map type_of (drop i types)))) (drop_all i names p) ∙ before_none done

-- ---- the values

pub values_step : (ss : List Typed) (done more : List (Option ScalarValue)) (i : ℕ) (s : Typed) (x : Option ScalarValue) (whole : Values)
    → i < length ss → get_or ss i s ≡ s → cell_of x ≡ s.value
    → whole ≡ prepend done (in_order (map (λ u. u.value) (drop i ss)))
    → more ≡ done ++ x ∷ []
    → whole ≡ prepend more (in_order (map (λ u. u.value) (drop (i + 1) ss)))
values_step ss done more i s x whole p at given made pushed =
    let rest : Values = in_order (map (λ u. u.value) (drop (i + 1) ss)) in
    made
    ∙ ap (λ us. prepend done (in_order (map (λ u. u.value) us))) (drop_more ss i s p)
    ∙ ap (λ u. prepend done (item u.value rest)) at
    ∙ ap (λ v. prepend done (item v rest)) (sym given)
    ∙ sym (prepend_one done x rest)
    ∙ ap (λ xs. prepend xs rest) (sym pushed)

pub values_end : (ss : List Typed) (done : List (Option ScalarValue)) (i : ℕ) (whole : Values) → length ss ≤ i
    → whole ≡ prepend done (in_order (map (λ u. u.value) (drop i ss)))
    → values_of done ≡ whole
values_end ss done i whole p made =
    sym (made ∙ ap (λ us. prepend done (in_order (map (λ u. u.value) us))) (drop_all i ss p) ∙ prepend_none done)

-- ---- arguments are of their types

pub typed_step : (ss : List Typed) (i : ℕ) (s : Typed) → i < length ss → get_or ss i s ≡ s → is_of s.of_type s.value ≡ true → ListsFit s.of_type s.value
    → AreTyped (drop (i + 1) ss) → AreTyped (drop i ss)
typed_step ss i s p at typed fits rest =
    subst AreTyped (sym (drop_more ss i s p))
    (subst (λ u. (is_of u.of_type u.value ≡ true) × ListsFit u.of_type u.value × AreTyped (drop (i + 1) ss)) (sym at) (typed, fits, rest))

pub packed_typed : (names : List (List ℕ)) (ss : List Typed) → length (map (λ s. s.of_type) ss) ≡ length names → AreTyped ss
    → are_of (fields_with names (map (λ s. s.of_type) ss)) (in_order (map (λ s. s.value) ss)) ≡ true
packed_typed [] [] e h = refl
packed_typed [] (s ∷ ss) e h = absurd (cc)
packed_typed (name ∷ names) [] e h = absurd (cc)
packed_typed (name ∷ names) (s ∷ ss) e h =
    let fewer : length (map (λ s. s.of_type) ss) ≡ length names = omega (arith, e) in
    λ i. h.0 i && packed_typed names ss fewer h.2 i

pub packed_fits : (names : List (List ℕ)) (ss : List Typed) → length (map (λ s. s.of_type) ss) ≡ length names → AreTyped ss
    → named_overflow (fields_with names (map (λ s. s.of_type) ss)) (in_order (map (λ s. s.value) ss)) ≡ None
packed_fits [] [] e h = refl
packed_fits [] (s ∷ ss) e h = absurd (cc)
packed_fits (name ∷ names) [] e h = absurd (cc)
packed_fits (name ∷ names) (s ∷ ss) e h =
    let fewer : length (map (λ s. s.of_type) ss) ≡ length names = omega (arith, e) in
    ap (λ o. or_else o (named_overflow (fields_with names (map (λ s. s.of_type) ss)) (in_order (map (λ s. s.value) ss)))) h.1
    ∙ packed_fits names ss fewer h.2

-- the struct is of its type, and its lists fit
pub packed : (n : Nullability) (names : List (List ℕ)) (ss : List Typed) (ty : DataType) (vs : Values) → Some ty ≡ pack_type n names (map (λ s. s.of_type) ss)
    → AreTyped ss → vs ≡ in_order (map (λ s. s.value) ss)
    → (is_of ty (fields vs) ≡ true) × ListsFit ty (fields vs)
packed n names ss ty vs e typed made =
    by_length (length (map (λ s. s.of_type) ss) == length names) ((unsigned_Decides (length (map (λ s. s.of_type) ss)) (length names)).0) e
  where
    fs : Fields
    fs = fields_with names (map (λ s. s.of_type) ss)

    by_names : (b : Bool) → length (map (λ s. s.of_type) ss) ≡ length names → Some ty ≡ (if b then Some (struct fs n) else None)
        → (is_of ty (fields vs) ≡ true) × ListsFit ty (fields vs)
    by_names true counted e =
        let is : struct fs n ≡ ty = cc in
        subst (λ t. (is_of t (fields vs) ≡ true) × ListsFit t (fields vs)) is
        (ap (are_of fs) made ∙ packed_typed names ss counted typed, ap (named_overflow fs) made ∙ packed_fits names ss counted typed)
    by_names false counted e = absurd (cc)

    by_length : (b : Bool) → (b ≡ true → length (map (λ s. s.of_type) ss) ≡ length names) → Some ty ≡ (if b then struct_of n fs else None)
        → (is_of ty (fields vs) ≡ true) × ListsFit ty (fields vs)
    by_length true counted e = by_names (are_fields fs) (counted refl) e
    by_length false counted e = absurd (cc)

-- arguments that have values are handed on
pub all_values : (f : List Value → Cell) (ss : List Typed) → on_values f (map (λ a. value a.value) ss) ≡ f (map (λ s. s.value) ss)
all_values f [] = refl
all_values f (s ∷ ss) = all_values (λ vs. f (s.value ∷ vs)) ss

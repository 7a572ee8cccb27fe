-- The columns of the values of scalars: of what each is stored as, and of each field, one after the other.
use Rattle.std.proofs.Common.{◌≡◌, ℕ, zero, suc, ◌+◌, ◌-◌, ◌<◌, ◌≤◌, List, [], ◌∷◌, ◌++◌, length, map, take, drop, get_or, replicate, Bool, true, false, not, Option, Some, refl, sym, ap, subst, ◌∙◌, arith, append_assoc}
use Rattle.std.specs.Prelude.{option_map, slice_get}
use Rattle.std.proofs.lemmas.List.Elements.{All-push}
use Rattle.std.proofs.lemmas.List.{length-map, length-append, map-append, append-nil, take_more, take_all, drop_all, replicate-append-replicate}
use Rattle.std.proofs.lemmas.Bool.{false≢true}
use Rattle.std.proofs.lemmas.Option.{same_Some}
use Rattle.std.proofs.lemmas.Simd.{map-map}
use Rattle.vx_value.specs.Types as type
use Rattle.vx_value.specs.Types.{DataType, Fields, is_nullable}
use Rattle.vx_value.specs.Nested.{fields_count}
use Rattle.vx_value.specs.Values as of
use Rattle.vx_value.specs.Values.{Value}
use Rattle.vx_value.specs.IsOf.{is_of, is_null}
use Rattle.vx_value.specs.ScalarParts.{storage_type, fields_by, fields_of_type, fields_in}
use Rattle.vx_value.specs.Supported.{has_columns, have_columns}
use Rattle.vx_value.specs.Typed.{Typed}
use Rattle.vx_value.specs.View.{type_of, fields_of}
use Rattle.vx_value.specs.declared.dtype.Nullability.{Nullability}
use Rattle.vx_value.specs.declared.dtype.Nullability.TheVariants.{Nullable}
use Rattle.vx_value.specs.declared.nested.Field.{Field}
use Rattle.vx_tree.specs.Tree as enc
use Rattle.vx_tree.specs.Tree.{Tree, node, slots_of, fields_shapes}
use Rattle.vx_tree.specs.Well.{shape, shape_of, shapes, IsValidity, IsNode}
use Rattle.vx_tree.specs.Validities.{child_by}
use Rattle.vx_tree.specs.declared.array.layout.Layout.TheVariants.{Struct, Extension}
use Rattle.vx_column.specs.Growing.{padded}
use Rattle.vx_column.specs.Masked.{TellsAll}
use Rattle.vx_column.specs.ValidRows.{child_in, nullability_in, HasValidity}
use Rattle.vx_column.specs.ValueColumns.{first_part, other_parts, present, values_of, AreOf, field_values, column_of, field_columns}
use Rattle.vx_column.specs.declared.rows.valid.ValidRows.{ValidRows}
use Rattle.vx_column.specs.declared.rows.valid.ValidRows.TheVariants as rows_valid
use Rattle.vx_column.proofs.ComposedLemmas.{slots_shaped, validity_of_told}
use Rattle.vx_column.proofs.GrowingLemmas.{length-padded}
use Rattle.vx_column.proofs.RepeatedLemmas.{nullable_null}
use Rattle.vx_column.proofs.ValueColumnsLemmas.{bits_tell, fields_fit, column_typed, column_long}

-- ---- a value of each scalar, one after the other

-- one more
pub each_more : (f : Typed → Value) (ss rs ns : List Typed) (i : ℕ) (s r : Typed) → values_of rs ≡ map f (take i ss) → i < length ss → s ≡ get_or ss i s
    → r.value ≡ f s → ns ≡ rs ++ r ∷ [] → values_of ns ≡ map f (take (i + 1) ss)
each_more f ss rs ns i s r before within at here pushed =
    ap values_of pushed ∙ map-append (λ (t : Typed). t.value) rs (r ∷ []) ∙ (λ k. before k ++ (here ∙ ap f at) k ∷ [])
    ∙ sym (ap (map f) (take_more ss i s within) ∙ map-append f (take i ss) (get_or ss i s ∷ []))

-- all
pub each_value : (f : Typed → Value) (ss rs : List Typed) (i : ℕ) → values_of rs ≡ map f (take i ss) → length ss ≤ i → values_of rs ≡ map f ss
each_value f ss rs i made past = made ∙ ap (map f) (take_all i ss past)

pub typed_more : (ty : DataType) (rs ns : List Typed) (r : Typed) → AreOf ty rs → r.of_type ≡ ty → ns ≡ rs ++ r ∷ [] → AreOf ty ns
typed_more ty rs ns r before here pushed = subst (AreOf ty) (sym pushed) (All-push (λ x. x.of_type ≡ ty) rs r before here)

-- ---- what scalars of an extension type are stored as

pub stored_more : (id : List ℕ) (t : DataType) (ss rs ns : List Typed) (i : ℕ) (s r : Typed) → AreOf (type.extension id t) ss → AreOf t rs → i < length ss
    → s ≡ get_or ss i s → r.of_type ≡ storage_type s.of_type → ns ≡ rs ++ r ∷ [] → AreOf t ns
stored_more id t ss rs ns i s r all before within at here pushed =
    let typed : s.of_type ≡ type.extension id t = ap (λ (x : Typed). x.of_type) at ∙ all i s within in
    typed_more t rs ns r before (here ∙ ap storage_type typed) pushed

-- their column
module _ (id : List ℕ) (t : DataType) (vs : List Value) (n : ℕ) (x : Tree) (xs : List (Option Tree)) (ty : DataType) (typed : ty ≡ type.extension id t)
    (is : x ≡ column_of t vs) (only : xs ≡ Some x ∷ []) (counted : length vs ≡ n) where
  stored_slot : xs ≡ Some (column_of t vs) ∷ []
  stored_slot = only ∙ ap (λ y. Some y ∷ []) is

  pub extension_fits : has_columns t ≡ true → IsNode ty n (enc.composed Extension) (shapes (slots_of xs))
  extension_fits has =
      let kind = column_typed t vs has in
      let long = column_long t vs ∙ counted in
      (id, t, typed, ap (λ ys. shapes (slots_of ys)) stored_slot ∙ (λ i. Some (shape (kind i) (long i)) ∷ []))

  pub extension_made : node ty n (enc.composed Extension) (slots_of xs) ≡ column_of (type.extension id t) vs
  extension_made = λ i. node (typed i) (sym counted i) (enc.composed Extension) (slots_of (stored_slot i))

-- ---- field k of a struct

abbrev pub field_value : ℕ → Fields → Value → Value
field_value k type.no_fields v = v
field_value zero (type.field name t fs) v = first_part t v
field_value (suc k) (type.field name t fs) v = field_value k fs (other_parts v)

by_value : (k : ℕ) (fs : Fields) (vs : List Value) → k < fields_count fs → field_values k fs vs ≡ map (field_value k fs) vs
by_value k type.no_fields vs lt = absurd (omega (arith, lt))
by_value zero (type.field name t fs) vs lt = refl
by_value (suc k) (type.field name t fs) vs lt =
    by_value k fs (map other_parts vs) (omega (arith, lt)) ∙ map-map (field_value k fs) other_parts vs

pub field_each : (k : ℕ) (fs : Fields) (ss : List Typed) → k < fields_count fs → map (λ s. field_value k fs s.value) ss ≡ field_values k fs (values_of ss)
field_each k fs ss lt = sym (by_value k fs (values_of ss) lt ∙ map-map (field_value k fs) (λ (s : Typed). s.value) ss)

-- as a scalar, it has that value, and is of that field's type
abbrev pub IsField : ℕ → List Field → Value → Typed → Type 0
IsField k fs v r = (r.value ≡ field_value k (fields_of fs) v) × ((f : Field) → slice_get fs k ≡ Some f → r.of_type ≡ type_of f.dtype)

first_field : (g : Field) (fs : List Field) (v : Value) (r : Typed)
    → Some (record { of_type = type_of (Field.dtype g); value = first_part (type_of (Field.dtype g)) v }) ≡ Some r → IsField zero (g ∷ fs) v r
first_field g fs v r e =
    let same = same_Some _ r e in
    (ap (λ (s : Typed). s.value) (sym same), λ f at. ap (λ (s : Typed). s.of_type) (sym same) ∙ ap (λ h. type_of (Field.dtype h)) (same_Some g f at))

field_made : (k : ℕ) (fs : List Field) (v : Value) (r : Typed) → slice_get (fields_by (fields_of fs) v) k ≡ Some r → IsField k fs v r
field_made k [] v r e = absurd (cc)
field_made zero (g ∷ fs) (of.fields (of.item v vs)) r e = first_field g fs (of.fields (of.item v vs)) r e
field_made zero (g ∷ fs) (of.fields of.no_values) r e = first_field g fs (of.fields of.no_values) r e
field_made zero (g ∷ fs) v r e = first_field g fs v r e
field_made (suc k) (g ∷ fs) (of.fields (of.item v vs)) r e = field_made k fs (of.fields vs) r e
field_made (suc k) (g ∷ fs) (of.fields of.no_values) r e = field_made k fs (of.fields of.no_values) r e
field_made (suc k) (g ∷ fs) v r e = field_made k fs v r e

fields_long : (fs : List Field) (v : Value) → length (fields_by (fields_of fs) v) ≡ length fs
fields_long [] v = refl
fields_long (g ∷ fs) (of.fields (of.item v vs)) = ap suc (fields_long fs (of.fields vs))
fields_long (g ∷ fs) (of.fields of.no_values) = ap suc (fields_long fs (of.fields of.no_values))
fields_long (g ∷ fs) v = ap suc (fields_long fs v)

-- of a scalar
module _ (fs : List Field) (m : Nullability) (s : Typed) (k : ℕ) (typed : s.of_type ≡ type.struct (fields_of fs) m) where
  pub has_field : k < length fs → k < length (fields_in s)
  has_field lt =
      let same : length (fields_in s) ≡ length fs = ap (λ t. length (fields_of_type t s.value)) typed ∙ fields_long fs s.value in
      omega (arith, lt, same)

  pub field_read : (r : Typed) → slice_get (fields_in s) k ≡ Some r → IsField k fs s.value r
  field_read r e = field_made k fs s.value r (ap (λ t. slice_get (fields_of_type t s.value) k) (sym typed) ∙ e)

-- ---- the columns of the fields

-- the structs without their first k fields
abbrev pub others : ℕ → List Value → List Value
others zero vs = vs
others (suc k) vs = others k (map other_parts vs)

next_column : (fs : List Field) (i : ℕ) (f : Field) (vs : List Value) → i < length fs → f ≡ get_or fs i f
    → field_columns (fields_of (drop i fs)) (others i vs)
    ≡ column_of (type_of f.dtype) (field_values i (fields_of fs) vs) ∷ field_columns (fields_of (drop (suc i) fs)) (others (suc i) vs)
next_column [] i f vs within at = absurd (omega (arith, within))
next_column (g ∷ fs) zero f vs within at =
    ap (λ h. column_of (type_of (Field.dtype h)) (map (first_part (type_of g.dtype)) vs) ∷ field_columns (fields_of fs) (map other_parts vs)) (sym at)
next_column (g ∷ fs) (suc i) f vs within at = next_column fs i f (map other_parts vs) (omega (arith, within)) at

-- slots so far, and those of the fields to come
abbrev pub AreSlotsTo : List Field → List Value → ℕ → List (Option Tree) → Type 0
AreSlotsTo fs vs i xs = xs ++ map Some (field_columns (fields_of (drop i fs)) (others i vs)) ≡ map Some (field_columns (fields_of fs) vs)

pub slots_more : (fs : List Field) (i : ℕ) (f : Field) (vs : List Value) (xs ys : List (Option Tree)) (t : Tree) → i < length fs → f ≡ get_or fs i f
    → AreSlotsTo fs vs i xs → t ≡ column_of (type_of f.dtype) (field_values i (fields_of fs) vs) → ys ≡ xs ++ Some t ∷ [] → AreSlotsTo fs vs (i + 1) ys
slots_more fs i f vs xs ys t within at before made pushed =
    let one : i + 1 ≡ suc i = omega arith in
    let rest = λ (k : ℕ). map Some (field_columns (fields_of (drop k fs)) (others k vs)) in
    (λ j. pushed j ++ rest (one j)) ∙ append_assoc xs (Some t ∷ []) (rest (suc i)) ∙ ap (λ u. xs ++ Some u ∷ rest (suc i)) made
    ∙ sym (ap (λ ts. xs ++ map Some ts) (next_column fs i f vs within at)) ∙ before

pub slots_all : (fs : List Field) (i : ℕ) (vs : List Value) (xs : List (Option Tree)) → length fs ≤ i → AreSlotsTo fs vs i xs
    → xs ≡ map Some (field_columns (fields_of fs) vs)
slots_all fs i vs xs past before =
    sym (append-nil xs) ∙ sym (ap (λ gs. xs ++ map Some (field_columns (fields_of gs) (others i vs))) (drop_all i fs past)) ∙ before

-- ---- the column of structs

-- a validity fits it
valid_fits : (valid : ValidRows) (n : ℕ) (m : Nullability) → HasValidity valid n → nullability_in valid ≡ m → IsValidity m n (option_map shape_of (child_in valid))
valid_fits (rows_valid.All k) n m sized e = tt
valid_fits (rows_valid.Bits bits) n m sized e =
    subst (λ k. IsValidity k n (option_map shape_of (child_by bits))) e
    (validity_of_told n (child_by bits) (subst (λ k. TellsAll k (child_by bits)) sized (bits_tell bits)))

module _ (fs : Fields) (m : Nullability) (ss : List Typed) (valid : ValidRows) (w : Option Tree) (xs ys : List (Option Tree)) (ty : DataType)
    (typed : ty ≡ type.struct fs m) (each : xs ≡ map Some (field_columns fs (values_of ss))) (told : child_in valid ≡ child_by (present (values_of ss)))
    (last : w ≡ child_in valid) (pushed : ys ≡ xs ++ w ∷ []) where
  slots_are : ys ≡ map Some (field_columns fs (values_of ss)) ++ child_in valid ∷ []
  slots_are = pushed ∙ (λ i. each i ++ last i ∷ [])

  pub struct_fits : have_columns fs ≡ true → HasValidity valid (length ss) → nullability_in valid ≡ m
      → IsNode ty (length ss) (enc.composed Struct) (shapes (slots_of ys))
  struct_fits has sized nullable =
      let slots = map Some (field_columns fs (values_of ss)) in
      let shaped : map (option_map shape_of) slots ≡ fields_shapes (length ss) fs =
      fields_fit fs (values_of ss) has ∙ ap (λ n. fields_shapes n fs) (length-map ss (λ s. s.value)) in (
        fs,
        m,
        option_map shape_of (child_in valid),
        typed,
        ap (λ zs. shapes (slots_of zs)) slots_are ∙ slots_shaped (slots ++ child_in valid ∷ []) ∙ map-append (option_map shape_of) slots (child_in valid ∷ [])
            ∙ ap (λ l. l ++ option_map shape_of (child_in valid) ∷ []) shaped,
        valid_fits valid (length ss) m sized nullable,
      )

  pub struct_made : node ty (length ss) (enc.composed Struct) (slots_of ys) ≡ column_of (type.struct fs m) (values_of ss)
  struct_made =
      let count : length ss ≡ length (present (values_of ss)) = sym (length-map (values_of ss) (λ v. not (is_null v)) ∙ length-map ss (λ s. s.value)) in
      λ i. node (typed i) (count i) (enc.composed Struct) (slots_of ((slots_are ∙ ap (λ c. map Some (field_columns fs (values_of ss)) ++ c ∷ []) told) i))

-- ---- which aren't null

-- the bits of the scalars so far
pub record AreTold (i : ℕ) (bits : List Bool) (ss : List Typed) : Type 0 where
  pub within : length bits ≤ i
  pub told : padded i bits ≡ present (values_of (take i ss))

present_more : (ss : List Typed) (i : ℕ) (s : Typed) (b : Bool) (bits : List Bool) → bits ≡ present (values_of (take i ss)) → i < length ss → s ≡ get_or ss i s
    → not (is_null s.value) ≡ b → bits ++ b ∷ [] ≡ present (values_of (take (i + 1) ss))
present_more ss i s b bits before within at here =
    let f = λ (r : Typed). not (is_null r.value) in
    let both = λ (l : List Typed). map-map (λ v. not (is_null v)) (λ (r : Typed). r.value) l in
    (λ k. (before ∙ both (take i ss)) k ++ (sym here ∙ ap f at) k ∷ [])
    ∙ sym (both (take (i + 1) ss) ∙ ap (map f) (take_more ss i s within) ∙ map-append f (take i ss) (get_or ss i s ∷ []))

module _ (ss : List Typed) (i : ℕ) (bits more : List Bool) (s : Typed) (so : AreTold i bits ss) (there : i < length ss) (at : s ≡ get_or ss i s) where
  -- one more that isn't null
  pub valid_told : more ≡ bits → is_null s.value ≡ false → AreTold (i + 1) more ss
  valid_told same valid =
      let w = so.within in
      let one : i + 1 - length bits ≡ i - length bits + 1 = omega (arith, w) in
      let pushed : padded (i + 1) bits ≡ padded i bits ++ true ∷ [] =
      ap (λ k. bits ++ replicate k true) one ∙ ap (λ l. bits ++ l) (sym (replicate-append-replicate (i - length bits) 1 true))
      ∙ sym (append_assoc bits (replicate (i - length bits) true) (true ∷ [])) in
      subst (λ l. AreTold (i + 1) l ss) (sym same)
      (record { within = omega (arith, w); told = pushed ∙ present_more ss i s true (padded i bits) so.told there at (ap not valid) })

  -- and one that is
  pub null_told : more ≡ padded i bits ++ false ∷ [] → is_null s.value ≡ true → AreTold (i + 1) more ss
  null_told pushed null =
      let told = padded i bits ++ false ∷ [] in
      let long : length told ≡ i + 1 = length-append (padded i bits) (false ∷ []) ∙ ap (λ k. k + 1) (length-padded i bits so.within) in
      let none : i + 1 - length told ≡ 0 = omega (arith, long) in
      subst (λ l. AreTold (i + 1) l ss) (sym pushed)
      (record {
        within = omega (arith, long);
        told = ap (λ k. told ++ replicate k true) none ∙ append-nil told ∙ present_more ss i s false (padded i bits) so.told there at (ap not null);
      })

pub all_told : (ss : List Typed) (i : ℕ) (bits : List Bool) → AreTold i bits ss → i ≤ length ss → length ss ≤ i → padded (length ss) bits ≡ present (values_of ss)
all_told ss i bits so within past =
    let same : length ss ≡ i = omega (arith, within, past) in
    ap (λ k. padded k bits) same ∙ so.told ∙ ap (λ l. present (values_of l)) (take_all i ss past)

-- a struct that is null is of a nullable type
pub null_struct : (fs : Fields) (m : Nullability) (s : Typed) → s.of_type ≡ type.struct fs m → is_of s.of_type s.value ≡ true → is_null s.value ≡ true → m ≡ Nullable
null_struct fs m s typed h null = by_value_of s.value (sym (ap (λ t. is_of t s.value) typed) ∙ h) null
  where
    by_value_of : (v : Value) → is_of (type.struct fs m) v ≡ true → is_null v ≡ true → m ≡ Nullable
    by_value_of of.null h null = nullable_null m h
    by_value_of _ h null = absurd (false≢true null)

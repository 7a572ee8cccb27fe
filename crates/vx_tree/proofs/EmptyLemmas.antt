-- Columns without rows.
use Rattle.std.proofs.Common.{◌≡◌, ◌≤◌, ◌<◌, ℕ, zero, suc, ◌+◌, List, [], ◌∷◌, ◌++◌, length, drop, get_or, max, Bool, true, false, ◌&&◌, Option, Some, None, refl, sym, ap, subst, ◌∙◌, arith}
use Rattle.std.specs.Cmp.{first_so, second_so}
use Rattle.std.proofs.lemmas.List.{drop_more, drop_all}
use Rattle.vx_value.specs.Types as type
use Rattle.vx_value.specs.Types.{DataType, Fields, height, fields_height}
use Rattle.vx_value.specs.View.{type_of, fields_of}
use Rattle.vx_value.specs.Supported.{has_columns, have_columns}
use Rattle.vx_value.specs.declared.nested.Field.{Field}
use Rattle.vx_value.specs.declared.dtype.Nullability.{Nullability}
use Rattle.vx_value.proofs.SupportedLemmas.{first_columns, other_columns}
use Rattle.vx_tree.specs.Tree as enc
use Rattle.vx_tree.specs.Tree.{Tree, Slots, no_slots, absent, slot, node, slots_of, dtype, len, fields_shapes}
use Rattle.vx_tree.specs.Columns.{empty_of, empty_fields}
use Rattle.vx_tree.specs.Well.{shape_of, shapes, shape, IsNode}
use Rattle.vx_tree.specs.declared.array.layout.Layout.TheVariants as layout

-- ---- the type and the length: a line for each type

pub empty_typed : (t : DataType) → dtype (empty_of t) ≡ t
empty_typed type.null = refl
empty_typed (type.bool m) = refl
empty_typed (type.primitive p m) = refl
empty_typed (type.decimal p s m) = refl
empty_typed (type.utf8 m) = refl
empty_typed (type.binary m) = refl
empty_typed (type.list t m) = refl
empty_typed (type.fixed_size_list t k m) = refl
empty_typed (type.map k v m) = refl
empty_typed (type.struct fs m) = refl
empty_typed (type.union us m) = refl
empty_typed (type.variant m) = refl
empty_typed (type.extension id t) = refl

pub empty_short : (t : DataType) → len (empty_of t) ≡ 0
empty_short type.null = refl
empty_short (type.bool m) = refl
empty_short (type.primitive p m) = refl
empty_short (type.decimal p s m) = refl
empty_short (type.utf8 m) = refl
empty_short (type.binary m) = refl
empty_short (type.list t m) = refl
empty_short (type.fixed_size_list t k m) = refl
empty_short (type.map k v m) = refl
empty_short (type.struct fs m) = refl
empty_short (type.union us m) = refl
empty_short (type.variant m) = refl
empty_short (type.extension id t) = refl

-- ---- the slots of a struct

pub empty_shapes : (fs : Fields) → shapes (empty_fields fs) ≡ fields_shapes 0 fs ++ None ∷ []
empty_shapes type.no_fields = refl
empty_shapes (type.field name t fs) = λ i. Some (shape (empty_typed t i) (empty_short t i)) ∷ empty_shapes fs i

pub empty_struct_node : (ty : DataType) (fs : Fields) (m : Nullability) (xs : List (Option Tree)) → ty ≡ type.struct fs m → slots_of xs ≡ empty_fields fs
    → IsNode ty 0 (enc.composed layout.Struct) (shapes (slots_of xs))
empty_struct_node ty fs m xs typed made = (fs, m, None, typed, ap shapes made ∙ empty_shapes fs, tt)

pub empty_struct_is : (ty : DataType) (fs : Fields) (m : Nullability) (xs : List (Option Tree)) → ty ≡ type.struct fs m → slots_of xs ≡ empty_fields fs
    → node ty 0 (enc.composed layout.Struct) (slots_of xs) ≡ empty_of ty
empty_struct_is ty fs m xs typed made =
    (λ i. node (typed i) 0 (enc.composed layout.Struct) (made i)) ∙ sym (ap empty_of typed)

pub empty_struct_columns : (ty : DataType) (fs : Fields) (m : Nullability) → ty ≡ type.struct fs m → have_columns fs ≡ true → has_columns ty ≡ true
empty_struct_columns ty fs m typed h = ap has_columns typed ∙ h

-- slots in front of others
abbrev pub prepended : List (Option Tree) → Slots → Slots
prepended [] ss = ss
prepended (None ∷ xs) ss = absent (prepended xs ss)
prepended (Some t ∷ xs) ss = slot t (prepended xs ss)

prepended_more : (xs : List (Option Tree)) (t : Tree) (ss : Slots) → prepended (xs ++ Some t ∷ []) ss ≡ prepended xs (slot t ss)
prepended_more [] t ss = refl
prepended_more (None ∷ xs) t ss = ap absent (prepended_more xs t ss)
prepended_more (Some u ∷ xs) t ss = ap (slot u) (prepended_more xs t ss)

prepended_last : (xs : List (Option Tree)) → slots_of (xs ++ None ∷ []) ≡ prepended xs (absent no_slots)
prepended_last [] = refl
prepended_last (None ∷ xs) = ap absent (prepended_last xs)
prepended_last (Some u ∷ xs) = ap (slot u) (prepended_last xs)

module _ (fs : List Field) (i : ℕ) (f : Field) (h : i < length fs) (is : f ≡ get_or fs i f) where
  cut : fields_of (drop i fs) ≡ type.field f.name (type_of f.dtype) (fields_of (drop (i + 1) fs))
  cut = ap fields_of (drop_more fs i f h) ∙ ap (λ g. type.field (Field.name g) (type_of (Field.dtype g)) (fields_of (drop (i + 1) fs))) (sym is)

  -- the next field has columns, and so have those after it
  pub next_columns : have_columns (fields_of (drop i fs)) ≡ true → (has_columns (type_of f.dtype) ≡ true) × (have_columns (fields_of (drop (i + 1) fs)) ≡ true)
  next_columns all =
      let both : have_columns (type.field f.name (type_of f.dtype) (fields_of (drop (i + 1) fs))) ≡ true = sym (ap have_columns cut) ∙ all in
      (first_columns f.name (type_of f.dtype) (fields_of (drop (i + 1) fs)) both, other_columns f.name (type_of f.dtype) (fields_of (drop (i + 1) fs)) both)

  -- its empty column is the next slot
  pub next_slot : (xs ys : List (Option Tree)) (t : Tree) → prepended xs (empty_fields (fields_of (drop i fs))) ≡ empty_fields (fields_of fs)
      → t ≡ empty_of (type_of f.dtype) → ys ≡ xs ++ Some t ∷ [] → prepended ys (empty_fields (fields_of (drop (i + 1) fs))) ≡ empty_fields (fields_of fs)
  next_slot xs ys t so made grown =
      ap (λ zs. prepended zs (empty_fields (fields_of (drop (i + 1) fs)))) grown
      ∙ prepended_more xs t (empty_fields (fields_of (drop (i + 1) fs)))
      ∙ ap (λ u. prepended xs (slot u (empty_fields (fields_of (drop (i + 1) fs))))) made
      ∙ sym (ap (λ gs. prepended xs (empty_fields gs)) cut) ∙ so

-- behind them stands the validity's, which is absent
pub last_slot : (fs : List Field) (i : ℕ) (xs ys : List (Option Tree)) → length fs ≤ i → prepended xs (empty_fields (fields_of (drop i fs))) ≡ empty_fields (fields_of fs)
    → ys ≡ xs ++ None ∷ [] → slots_of ys ≡ empty_fields (fields_of fs)
last_slot fs i xs ys past so grown =
    ap slots_of grown ∙ prepended_last xs ∙ sym (ap (λ gs. prepended xs (empty_fields (fields_of gs))) (drop_all i fs past)) ∙ so

-- a field is no higher than all of them
pub field_height : (fs : List Field) (i : ℕ) (f : Field) → i < length fs → f ≡ get_or fs i f → height (type_of f.dtype) ≤ fields_height (fields_of fs)
field_height [] i f h is = absurd (omega arith)
field_height (g ∷ fs) zero f h is =
    let same : height (type_of f.dtype) ≡ height (type_of g.dtype) = ap (λ x. height (type_of (Field.dtype x))) is in omega (arith, same)
field_height (g ∷ fs) (suc i) f h is = let below : height (type_of f.dtype) ≤ fields_height (fields_of fs) = field_height fs i f (omega arith) is in omega (arith, below)

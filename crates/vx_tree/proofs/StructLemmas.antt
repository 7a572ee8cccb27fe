-- Columns of structs: their parts, and which of their rows are null.
use Rattle.std.proofs.Common.{◌≡◌, ℕ, zero, suc, ◌+◌, List, [], ◌∷◌, ◌++◌, length, map, replicate, take, drop, true, false, Option, Some, None, refl, sym, ap, subst, ◌∙◌, arith}
use Rattle.std.specs.Prelude.{option_map}
use Rattle.std.specs.Cmp.{unsigned_Decides}
use Rattle.vx_value.specs.Types as type
use Rattle.vx_value.specs.Types.{DataType, Fields, nullability_of, same_type_Decides}
use Rattle.vx_value.specs.Nested.{fields_count}
use Rattle.vx_value.specs.Values.{null, boolean, fields}
use Rattle.vx_value.specs.Cell.{Cell, value}
use Rattle.vx_value.specs.declared.dtype.Nullability.TheVariants.{Nullable}
use Rattle.vx_value.specs.declared.error.VortexError.TheVariants.{InvalidArgument}
use Rattle.vx_value.specs.declared.error.ArgKind.TheVariants.{SlotCount}
use Rattle.vx_tree.specs.Tree as enc
use Rattle.vx_tree.specs.Tree.{Tree, Slots, node, no_slots, absent, slot, slots_of, len}
use Rattle.vx_tree.specs.Tree.{IsStruct, fields_shapes, after_fields, fields_refusal, struct_refusal, with_field, without_fields, struct_row, last_tree}
use Rattle.vx_tree.specs.Well.{Shape, shape, shape_of, shapes, IsValidity, AreWell}
use Rattle.vx_tree.specs.Cells.{slots_rows, shown_cell, AreClean}
use Rattle.vx_tree.specs.Layouts.{heads, tails, row_by_row}
use Rattle.vx_tree.specs.Keeps.{CellKeeps, RowsKeep}
use Rattle.vx_tree.specs.SlotRefusals.{validity_type_refusal, validity_len_refusal}
use Rattle.vx_tree.specs.SlotShapes.{kept_refusal, first_refusal}
use Rattle.vx_tree.specs.Validities.{validity_of, valid_rows}
use Rattle.vx_tree.specs.declared.array.layout.Layout.TheVariants as layout
use Rattle.vx_tree.specs.declared.replace.Kept.{Kept}
use Rattle.vx_tree.specs.declared.replace.Kept.TheVariants.{Presence, Dtype, Len}
use Rattle.vx_tree.specs.declared.validity.Validity.TheVariants as validity
use Rattle.vx_tree.proofs.ConditionsLemmas.{none_refused, first_none, second_none, unless_none, none_unless}
use Rattle.vx_tree.proofs.KindsLemmas.{type_in, len_in}
use Rattle.vx_tree.proofs.RefusalsLemmas.{validity_kept, validity_taken}
use Rattle.vx_tree.proofs.ReplacementsLemmas.{same_shape}
use Rattle.vx_tree.proofs.CellsLemmas.{rows_counted}
use Rattle.vx_tree.proofs.TellsLemmas.{Tells, slot_sized, slot_nullable, slot_clean}
use Rattle.vx_tree.proofs.ValiditiesLemmas.{told as slot_cells, told_back}

-- ---- its parts, which aren't refused if they meet its conditions, and else are

-- slots that aren't refused are those of the fields, and one behind them
fields_kept : (fs : Fields) (n i : ℕ) (ss : List (Option Shape)) → length ss ≡ fields_count fs + 1 → first_refusal Presence i (fields_shapes n fs) ss ≡ None
    → first_refusal Dtype i (fields_shapes n fs) ss ≡ None → first_refusal Len i (fields_shapes n fs) ss ≡ None
    → ss ≡ fields_shapes n fs ++ after_fields fs ss ∷ []
fields_kept type.no_fields n i [] e p d l = absurd (omega arith)
fields_kept type.no_fields n i (s ∷ []) e p d l = refl
fields_kept type.no_fields n i (s ∷ r ∷ ss) e p d l = absurd (omega arith)
fields_kept (type.field name t fs) n i [] e p d l = absurd (omega arith)
fields_kept (type.field name t fs) n i (s ∷ ss) e p d l =
    let here : Some (shape t n) ≡ s = same_shape i (Some (shape t n)) s (first_none _ _ p) (first_none _ _ d) (first_none _ _ l) in
    let more = fields_kept fs n (i + 1) ss (omega arith) (second_none _ _ p) (second_none _ _ d) (second_none _ _ l) in
    λ j. sym here j ∷ more j

pub kept : (ty : DataType) (n : ℕ) (ss : List (Option Shape)) → struct_refusal ty n ss ≡ None → IsStruct ty n ss
kept (type.struct fs m) n ss h =
    let counted : length ss ≡ fields_count fs + 1 = (unsigned_Decides _ _).0 (unless_none _ _ (first_none _ _ h)) in
    let each = second_none _ _ h in
    let types = second_none _ _ each in
    let valid = second_none _ _ types in
    let lengths = second_none _ _ valid in
    let v = after_fields fs ss in (
      fs,
      m,
      v,
      refl,
      fields_kept fs n 0 ss counted (first_none _ _ each) (first_none _ _ types) (first_none _ _ lengths),
      validity_kept (fields_count fs) m n v (first_none _ _ valid) (second_none _ _ lengths),
    )
kept _ n ss h = absurd (cc)

field_taken : (k : Kept) (i : ℕ) (t : DataType) (n : ℕ) → kept_refusal k i (Some (shape t n)) (Some (shape t n)) ≡ None
field_taken Presence i t n = refl
field_taken Dtype i t n = none_unless _ _ ((same_type_Decides t t).1 refl)
field_taken Len i t n = none_unless _ _ ((unsigned_Decides n n).1 refl)

fields_taken : (k : Kept) (fs : Fields) (n i : ℕ) (v : Option Shape) → first_refusal k i (fields_shapes n fs) (fields_shapes n fs ++ v ∷ []) ≡ None
fields_taken k type.no_fields n i v = refl
fields_taken k (type.field name t fs) n i v = none_refused _ _ (field_taken k i t n) (fields_taken k fs n (i + 1) v)

pub fields_counted : (fs : Fields) (n : ℕ) (v : Option Shape) → length (fields_shapes n fs ++ v ∷ []) ≡ fields_count fs + 1
fields_counted type.no_fields n v = refl
fields_counted (type.field name t fs) n v = omega (arith, fields_counted fs n v)

pub behind_fields : (fs : Fields) (n : ℕ) (v : Option Shape) → after_fields fs (fields_shapes n fs ++ v ∷ []) ≡ v
behind_fields type.no_fields n v = refl
behind_fields (type.field name t fs) n v = behind_fields fs n v

pub taken : (ty : DataType) (n : ℕ) (ss : List (Option Shape)) → IsStruct ty n ss → struct_refusal ty n ss ≡ None
taken ty n ss h =
    let fs = h.0 in
    let m = h.1 in
    let v = h.2 in
    let rs = fields_shapes n fs ++ v ∷ [] in
    let counted = none_unless _ (InvalidArgument SlotCount) ((unsigned_Decides (length rs) (fields_count fs + 1)).1 (fields_counted fs n v)) in
    let valid = validity_taken (fields_count fs) m n v h.5 in
    let typed : validity_type_refusal (fields_count fs) m (after_fields fs rs) ≡ None = ap (validity_type_refusal (fields_count fs) m) (behind_fields fs n v) ∙ valid.0 in
    let long : validity_len_refusal (fields_count fs) n (after_fields fs rs) ≡ None = ap (validity_len_refusal (fields_count fs) n) (behind_fields fs n v) ∙ valid.1 in
    let each : fields_refusal fs m n rs (after_fields fs rs) ≡ None =
    none_refused _ _ (fields_taken Presence fs n 0 v)
    (none_refused _ _ (fields_taken Dtype fs n 0 v) (none_refused _ _ typed (none_refused _ _ (fields_taken Len fs n 0 v) long))) in
    let e : struct_refusal (type.struct fs m) n rs ≡ None = none_refused _ _ counted each in
    subst (λ x. x) (λ i. struct_refusal (sym h.3 i) n (sym h.4 i) ≡ None) e

-- ---- which of its rows are null

-- the last slot's cells
abbrev last_cells : List (List Cell) → List Cell
last_cells [] = []
last_cells (cs ∷ []) = cs
last_cells (cs ∷ ds ∷ css) = last_cells (ds ∷ css)

-- the first of a validity's cells; without a validity, no row is null
abbrev first_told : List Cell → Cell
first_told [] = value (boolean true)
first_told (v ∷ vs) = v

abbrev told_rows : ℕ → List Cell → List Cell
told_rows zero vs = []
told_rows (suc n) vs = first_told (take 1 vs) ∷ told_rows n (drop 1 vs)

-- a row is null only if the validity says so
without_fields_told : (vs : List Cell) → CellKeeps (shown_cell (without_fields vs)) (first_told vs)
without_fields_told [] = refl
without_fields_told (value (boolean true) ∷ vs) = refl
without_fields_told (value (boolean false) ∷ vs) = refl
without_fields_told (_ ∷ vs) = tt

with_field_told : (cs : List Cell) (x v : Cell) → CellKeeps (shown_cell x) v → CellKeeps (shown_cell (with_field cs x)) v
with_field_told (value w ∷ []) (value (fields vs)) v h = h
with_field_told (value w ∷ []) (value null) v h = h
with_field_told _ _ v h = tt

row_told : (css : List (List Cell)) → CellKeeps (shown_cell (struct_row css)) (first_told (last_cells css))
row_told [] = tt
row_told (vs ∷ []) = without_fields_told vs
row_told (cs ∷ ds ∷ css) = with_field_told cs _ _ (row_told (ds ∷ css))

last_heads : (css : List (List Cell)) → last_cells (heads css) ≡ take 1 (last_cells css)
last_heads [] = refl
last_heads (cs ∷ []) = refl
last_heads (cs ∷ ds ∷ css) = last_heads (ds ∷ css)

last_tails : (css : List (List Cell)) → last_cells (tails css) ≡ drop 1 (last_cells css)
last_tails [] = refl
last_tails (cs ∷ []) = refl
last_tails (cs ∷ ds ∷ css) = last_tails (ds ∷ css)

rows_told : (n : ℕ) (css : List (List Cell)) → RowsKeep (map shown_cell (row_by_row struct_row n css)) (told_rows n (last_cells css))
rows_told zero css = tt
rows_told (suc n) css = (
  subst (λ vs. CellKeeps (shown_cell (struct_row (heads css))) (first_told vs)) (last_heads css) (row_told (heads css)),
  subst (λ vs. RowsKeep (map shown_cell (row_by_row struct_row n (tails css))) (told_rows n vs)) (last_tails css) (rows_told n (tails css)),
)

none_told : (n : ℕ) → told_rows n [] ≡ replicate n (value (boolean true))
none_told zero = refl
none_told (suc n) = ap (λ vs. value (boolean true) ∷ vs) (none_told n)

all_told : (n : ℕ) (vs : List Cell) → length vs ≡ n → told_rows n vs ≡ vs
all_told zero [] h = refl
all_told zero (v ∷ vs) h = absurd (omega arith)
all_told (suc n) [] h = absurd (omega arith)
all_told (suc n) (v ∷ vs) h = ap (λ l. v ∷ l) (all_told n vs (omega arith))

-- ---- the last slot's tree

last_rows : (ss : Slots) → last_cells (slots_rows ss) ≡ slot_cells (last_tree ss)
last_rows no_slots = refl
last_rows (absent no_slots) = refl
last_rows (absent (absent ss)) = last_rows (absent ss)
last_rows (absent (slot t ss)) = last_rows (slot t ss)
last_rows (slot t no_slots) = refl
last_rows (slot t (absent ss)) = last_rows (absent ss)
last_rows (slot t (slot u ss)) = last_rows (slot u ss)

last_well : (ss : Slots) → AreWell ss → AreWell (slots_of (last_tree ss ∷ []))
last_well no_slots h = tt
last_well (absent no_slots) h = tt
last_well (absent (absent ss)) h = last_well (absent ss) h
last_well (absent (slot t ss)) h = last_well (slot t ss) h
last_well (slot t no_slots) h = h
last_well (slot t (absent ss)) h = last_well (absent ss) h.1
last_well (slot t (slot u ss)) h = last_well (slot u ss) h.1

last_clean : (ss : Slots) → AreClean ss → AreClean (slots_of (last_tree ss ∷ []))
last_clean no_slots h = tt
last_clean (absent no_slots) h = tt
last_clean (absent (absent ss)) h = last_clean (absent ss) h
last_clean (absent (slot t ss)) h = last_clean (slot t ss) h
last_clean (slot t no_slots) h = h
last_clean (slot t (absent ss)) h = last_clean (absent ss) h.1
last_clean (slot t (slot u ss)) h = last_clean (slot u ss) h.1

-- of a list, it is the last
last_more : (x y : Option Tree) (xs : List (Option Tree)) → last_tree (slots_of (x ∷ y ∷ xs)) ≡ last_tree (slots_of (y ∷ xs))
last_more None None xs = refl
last_more None (Some u) xs = refl
last_more (Some t) None xs = refl
last_more (Some t) (Some u) xs = refl

last_of : (xs : List (Option Tree)) (v : Option Tree) → last_tree (slots_of (xs ++ v ∷ [])) ≡ v
last_of [] None = refl
last_of [] (Some t) = refl
last_of (x ∷ []) v = last_more x v [] ∙ last_of [] v
last_of (x ∷ y ∷ xs) v = last_more x y (xs ++ v ∷ []) ∙ last_of (y ∷ xs) v

pub last_is : (xs rest : List (Option Tree)) (v : Option Tree) → xs ≡ rest ++ v ∷ [] → last_tree (slots_of xs) ≡ v
last_is xs rest v e = ap (λ ys. last_tree (slots_of ys)) e ∙ last_of rest v

-- it is the validity's
last_shape : (fs : Fields) (n : ℕ) (v : Option Shape) (ss : Slots) → shapes ss ≡ fields_shapes n fs ++ v ∷ [] → option_map shape_of (last_tree ss) ≡ v
last_shape fs n v no_slots h = absurd (empty fs h)
  where
    empty : (fs : Fields) → [] ≡ fields_shapes n fs ++ v ∷ [] → ⊥
    empty type.no_fields h = absurd (cc)
    empty (type.field name t fs) h = absurd (cc)
last_shape type.no_fields n v (absent no_slots) h = cc
last_shape type.no_fields n v (absent (absent ss)) h = absurd (cc)
last_shape type.no_fields n v (absent (slot t ss)) h = absurd (cc)
last_shape type.no_fields n v (slot t no_slots) h = cc
last_shape type.no_fields n v (slot t (absent ss)) h = absurd (cc)
last_shape type.no_fields n v (slot t (slot u ss)) h = absurd (cc)
last_shape (type.field name s fs) n v (absent ss) h = absurd (cc)
last_shape (type.field name s fs) n v (slot t no_slots) h = absurd (empty fs (cc))
  where
    empty : (fs : Fields) → [] ≡ fields_shapes n fs ++ v ∷ [] → ⊥
    empty type.no_fields h = absurd (cc)
    empty (type.field name t fs) h = absurd (cc)
last_shape (type.field name s fs) n v (slot t (absent ss)) h = last_shape fs n v (absent ss) (cc)
last_shape (type.field name s fs) n v (slot t (slot u ss)) h = last_shape fs n v (slot u ss) (cc)

told_by : (w : Option Tree) (n : ℕ) → IsValidity Nullable n (option_map shape_of w) → AreWell (slots_of (w ∷ []))
    → told_rows n (slot_cells w) ≡ valid_rows (validity_of Nullable w) n
told_by None n h k = none_told n
told_by (Some t) n h k =
    let counted : len t ≡ n = ap len_in h in
    all_told n _ (rows_counted t k.0 ∙ counted) ∙ sym (told_back (validity.Array t) n (k.0, ap type_in h, counted))

pub struct_node : (ty : DataType) (n : ℕ) (ss : Slots) → IsStruct ty n (shapes ss) → AreWell ss → nullability_of ty ≡ Nullable
    → Tells (node ty n (enc.composed layout.Struct) ss) (validity_of Nullable (last_tree ss))
struct_node ty n ss h k e =
    let w = last_tree ss in
    let nullable : h.1 ≡ Nullable = sym (ap nullability_of h.3) ∙ e in
    let valid : IsValidity Nullable n (option_map shape_of w) =
    subst (λ x. x) (λ i. IsValidity (nullable i) n (sym (last_shape h.0 n h.2 ss h.4) i)) h.5 in
    let well = last_well ss k in
    record {
      nullable = slot_nullable w ∙ sym e;
      sized = slot_sized w n valid well;
      told =
          subst (RowsKeep (map shown_cell (row_by_row struct_row n (slots_rows ss)))) (ap (told_rows n) (last_rows ss) ∙ told_by w n valid well)
          (rows_told n (slots_rows ss));
      clean = λ c. slot_clean w (last_clean ss c.1);
    }

-- Casts of columns of structs, field by field.
use Rattle.std.proofs.Common.{◌≡◌, ℕ, zero, suc, ◌+◌, ◌<◌, List, [], ◌∷◌, ◌++◌, length, map, take, drop, get_or, Bool, true, false, ◌||◌, ◌&&◌, Option, Some, None, Result, Ok, Err, if◌then◌else◌, refl, sym, ap, subst, ◌∙◌, arith}
use Rattle.std.specs.List.{range_with_len}
use Rattle.std.specs.Option.{is_some}
use Rattle.std.specs.Str.{bytes_eq}
use Rattle.std.specs.Cmp.{first_so, second_so}
use Rattle.std.proofs.lemmas.Bool.{false≢true}
use Rattle.std.proofs.lemmas.Option.{slice_get-get_or}
use Rattle.std.proofs.lemmas.List.FromFn.{get_or-map-range_with_len, length-range_with_len}
use Rattle.std.proofs.lemmas.List.{length-map}
use Rattle.vx_value.specs.Types as type
use Rattle.vx_value.specs.Types.{DataType, Fields}
use Rattle.vx_value.specs.Nested.{bare}
use Rattle.vx_value.specs.Nullabilities.{same_but_nullability, same_but_nullability_Decides}
use Rattle.vx_value.specs.Supported.{has_columns, have_columns}
use Rattle.vx_value.specs.View.{type_of, fields_of}
use Rattle.vx_value.specs.Casts.{has_cast, have_rows, has_other_row, joined, fields_cell, cast_to, each_into}
use Rattle.vx_value.specs.Values.{Values, fields, no_values}
use Rattle.vx_value.specs.Cell.{Cell, value, fault}
use Rattle.vx_value.specs.declared.dtype.DType.{DType}
use Rattle.vx_value.specs.declared.dtype.DType.TheVariants as dtypes
use Rattle.vx_value.specs.declared.dtype.Nullability.{Nullability}
use Rattle.vx_value.specs.declared.dtype.Nullability.TheVariants.{NonNullable}
use Rattle.vx_value.specs.declared.error.VortexError.{VortexError}
use Rattle.vx_value.specs.declared.nested.Field.{Field}
use Rattle.vx_value.proofs.CastsLemmas.{cast_to_self}
use Rattle.vx_value.proofs.SupportedLemmas.{first_columns, other_columns}
use Rattle.vx_fn.specs.Apply.{apply}
use Rattle.vx_fn.specs.ReturnTypes.{return_type}
use Rattle.vx_fn.specs.declared.function.ScalarFnRef.{ScalarFnRef}
use Rattle.vx_fn.specs.declared.function.ScalarFnRef.TheVariants as fn_of
use Rattle.vx_tree.specs.Tree as enc
use Rattle.vx_tree.specs.Tree.{Tree, Data, Slots, node, no_slots, absent, slot, slots, slots_of, dtype, len, datum, is_struct, fields_shapes, IsStruct, with_field, without_fields, struct_row, types_in}
use Rattle.vx_tree.specs.Slots.{HasSlot, HoldsAt, IsPresentAt, IsPresent, present_from}
use Rattle.vx_tree.specs.Layouts.{row_by_row}
use Rattle.vx_tree.specs.Cells.{rows, slots_rows, row_at, HasNoFault, IsClean, AreClean}
use Rattle.vx_tree.specs.Keeps.{Keeps}
use Rattle.vx_tree.specs.Well.{Shape, shape_of, shapes, IsNode, IsWell, AreWell}
use Rattle.vx_tree.specs.declared.array.layout.Layout.TheVariants as layout
use Rattle.vx_tree.proofs.CellsLemmas.{rows_counted, no_fault_at}
use Rattle.vx_tree.proofs.LayoutsLemmas.{cells_in, made_row, made_counted}
use Rattle.vx_rule.specs.Tags.{applies}
use Rattle.vx_rule.specs.Rules.{ArePresent}
use Rattle.vx_rule.specs.Builtins.{IsCastTo, AreCastTo, is_struct_cast, Builtin, cast_of_structs, BuiltinAnswers}
use Rattle.vx_rule.specs.StructCasts.{IsCastable, IsSlotCast, AreCastable, AreFirstCast, AreFieldsCast}
use Rattle.vx_rule.specs.declared.builtins.builtin.BuiltinKind.TheVariants.{StructCast}
use Rattle.vx_rule.specs.declared.raw_node.RawNode.{RawNode}
use Rattle.vx_rule.specs.Answers.{IsRaw}
use Rattle.vx_rule.proofs.FunctionsLemmas.{one_argument}
use Rattle.vx_rule.proofs.SlotsLemmas.{one_argument as only_argument}
use Rattle.vx_rule.proofs.StructsLemmas.{struct_shape}
use Rattle.vx_rule.proofs.PicksLemmas.{rows_are, exactly_by, slots_long}
use Rattle.vx_rule.proofs.StructRowsLemmas.{one_cell}

-- ---- no answer

no_cast : (i : ℕ) (t : Tree) (u : Tree) (os : List ℕ) → applies is_struct_cast (datum t) ≡ false → Builtin StructCast i t u os → ⊥
no_cast i t u os e (cast_of_structs ty sty n k fs m cs ds h) = false≢true (sym e)

no_structs : (i : ℕ) (t c : Tree) (u : Tree) (os : List ℕ) → HasSlot i c t → is_struct (datum c) ≡ false → Builtin StructCast i t u os → ⊥
no_structs i t c u os w e (cast_of_structs ty sty n k fs m cs ds h) =
    false≢true (sym e ∙ ap (λ x. is_struct (datum x)) (sym w))

none_given : (i : ℕ) (t : Tree) → ((u : Tree) (os : List ℕ) → Builtin StructCast i t u os → ⊥) → BuiltinAnswers StructCast i t (Ok None)
none_given i t h = record { answer = h; stands = tt; err = tt }

pub casts_other : (i : ℕ) (t : Tree) → applies is_struct_cast (datum t) ≡ false → BuiltinAnswers StructCast i t (Ok None)
casts_other i t e = none_given i t (λ u os. no_cast i t u os e)

pub casts_no_structs : (i : ℕ) (t c : Tree) → HasSlot i c t → is_struct (datum c) ≡ false → BuiltinAnswers StructCast i t (Ok None)
casts_no_structs i t c w e = none_given i t (λ u os. no_structs i t c u os w e)

pub ruleset casts_quiet = (casts_other, casts_no_structs)

-- ---- the slots of the fields

-- each field has a cast to the other's type
abbrev HaveCasts : Fields → Fields → Type 0
HaveCasts type.no_fields type.no_fields = Unit {0}
HaveCasts (type.field i s gs) (type.field j t fs) = (has_cast s t ≡ true) × HaveCasts gs fs
HaveCasts gs fs = ⊥

casts_by_rows : (gs fs : Fields) → have_rows gs fs ≡ true → HaveCasts gs fs
casts_by_rows type.no_fields type.no_fields h = tt
casts_by_rows type.no_fields (type.field j t fs) h = absurd (cc (h))
casts_by_rows (type.field i s gs) type.no_fields h = absurd (cc (h))
casts_by_rows (type.field i s gs) (type.field j t fs) h =
    let castable = same_but_nullability s t || has_other_row s (bare t) in (
      second_so (bytes_eq i j) castable (first_so (bytes_eq i j && castable) (have_rows gs fs) h),
      casts_by_rows gs fs (second_so (bytes_eq i j && castable) (have_rows gs fs) h),
    )

casts_to_self : (fs : Fields) → HaveCasts fs fs
casts_to_self type.no_fields = tt
casts_to_self (type.field i t fs) = (cast_to_self t, casts_to_self fs)

struct_casts : (gs fs : Fields) (k m : Nullability) → has_cast (type.struct gs k) (type.struct fs m) ≡ true → HaveCasts gs fs
struct_casts gs fs k m h = by_test (same_but_nullability (type.struct gs k) (type.struct fs m)) refl h
  where
    by_test : (b : Bool) → same_but_nullability (type.struct gs k) (type.struct fs m) ≡ b → b || have_rows gs fs ≡ true → HaveCasts gs fs
    by_test true e h =
        let same : type.struct gs NonNullable ≡ type.struct fs NonNullable = (same_but_nullability_Decides (type.struct gs k) (type.struct fs m)).0 e in
        let fields_same : gs ≡ fs = cc in
        subst (λ x. HaveCasts x fs) (sym fields_same) (casts_to_self fs)
    by_test false e h = casts_by_rows gs fs h

-- a column for each field, and one slot more
columns_castable : (n : ℕ) (gs : Fields) (v : Option Shape) (fl : List Field) (xs : List (Option Tree)) (z : Option Tree)
    → shapes (slots_of (xs ++ z ∷ [])) ≡ fields_shapes n gs ++ v ∷ [] → HaveCasts gs (fields_of fl) → have_columns (fields_of fl) ≡ true
    → AreCastable fl xs
columns_castable n type.no_fields v [] [] z e h k = tt
columns_castable n type.no_fields v [] (None ∷ []) None e h k = absurd (cc (e))
columns_castable n type.no_fields v [] (None ∷ []) (Some y) e h k = absurd (cc (e))
columns_castable n type.no_fields v [] (None ∷ None ∷ xs) z e h k = absurd (cc (e))
columns_castable n type.no_fields v [] (None ∷ Some y ∷ xs) z e h k = absurd (cc (e))
columns_castable n type.no_fields v [] (Some x ∷ []) None e h k = absurd (cc (e))
columns_castable n type.no_fields v [] (Some x ∷ []) (Some y) e h k = absurd (cc (e))
columns_castable n type.no_fields v [] (Some x ∷ None ∷ xs) z e h k = absurd (cc (e))
columns_castable n type.no_fields v [] (Some x ∷ Some y ∷ xs) z e h k = absurd (cc (e))
columns_castable n type.no_fields v (f ∷ fl) xs z e h k = absurd h
columns_castable n (type.field i s gs) v [] xs z e h k = absurd h
columns_castable n (type.field i s type.no_fields) v (f ∷ fl) [] None e h k = absurd (cc (e))
columns_castable n (type.field i s type.no_fields) v (f ∷ fl) [] (Some y) e h k = absurd (cc (e))
columns_castable n (type.field i s (type.field j r gs)) v (f ∷ fl) [] None e h k = absurd (cc (e))
columns_castable n (type.field i s (type.field j r gs)) v (f ∷ fl) [] (Some y) e h k = absurd (cc (e))
columns_castable n (type.field i s gs) v (f ∷ fl) (None ∷ xs) z e h k = absurd (cc (e))
columns_castable n (type.field i s gs) v (f ∷ fl) (Some c ∷ xs) z e h k =
    let typed : s ≡ dtype c = cc (e) in
    let rest : shapes (slots_of (xs ++ z ∷ [])) ≡ fields_shapes n gs ++ v ∷ [] = cc (e) in (
      (ap (λ y. has_cast y (type_of f.dtype)) (sym typed) ∙ h.0, first_columns f.name (type_of f.dtype) (fields_of fl) k),
      columns_castable n gs v fl xs z rest h.1 (other_columns f.name (type_of f.dtype) (fields_of fl) k),
    )

-- the slots of their casts
columns_cast : (n : ℕ) (gs : Fields) (v : Option Shape) (fl : List Field) (xs ys : List (Option Tree))
    → shapes (slots_of (xs ++ None ∷ [])) ≡ fields_shapes n gs ++ v ∷ [] → HaveCasts gs (fields_of fl) → AreFieldsCast fl xs ys
    → AreCastTo (fields_of fl) n (slots_of (xs ++ None ∷ [])) (slots_of ys)
columns_cast n gs v [] [] (None ∷ []) e h a = tt
columns_cast n gs v [] [] [] e h a = absurd a
columns_cast n gs v [] [] (None ∷ y ∷ ys) e h a = absurd a
columns_cast n gs v [] [] (Some y ∷ ys) e h a = absurd a
columns_cast n gs v [] (x ∷ xs) ys e h a = absurd a
columns_cast n gs v (f ∷ fl) [] ys e h a = absurd a
columns_cast n gs v (f ∷ fl) (x ∷ xs) [] e h a = absurd a
columns_cast n gs v (f ∷ fl) (None ∷ xs) (y ∷ ys) e h a = absurd a.0
columns_cast n gs v (f ∷ fl) (Some c ∷ xs) (None ∷ ys) e h a = absurd a.0
columns_cast n type.no_fields v (f ∷ fl) (Some c ∷ xs) (Some d ∷ ys) e h a = absurd h
columns_cast n (type.field i s gs) v (f ∷ fl) (Some c ∷ xs) (Some d ∷ ys) e h a =
    let sized : len c ≡ n = cc (e) in
    let rest : shapes (slots_of (xs ++ None ∷ [])) ≡ fields_shapes n gs ++ v ∷ [] = cc (e) in
    (subst (λ k. IsCastTo (type_of f.dtype) k c d) sized a.0, columns_cast n gs v fl xs ys rest h.1 a.1)

-- are those of structs of the other type
cast_shapes : (n : ℕ) (fs : Fields) (cs ds : Slots) → AreCastTo fs n cs ds → shapes ds ≡ fields_shapes n fs ++ None ∷ []
cast_shapes n type.no_fields (absent no_slots) (absent no_slots) h = refl
cast_shapes n type.no_fields no_slots ds h = absurd h
cast_shapes n type.no_fields (slot c cs) ds h = absurd h
cast_shapes n type.no_fields (absent (absent cs)) ds h = absurd h
cast_shapes n type.no_fields (absent (slot c cs)) ds h = absurd h
cast_shapes n type.no_fields (absent no_slots) no_slots h = absurd h
cast_shapes n type.no_fields (absent no_slots) (slot d ds) h = absurd h
cast_shapes n type.no_fields (absent no_slots) (absent (absent ds)) h = absurd h
cast_shapes n type.no_fields (absent no_slots) (absent (slot d ds)) h = absurd h
cast_shapes n (type.field name t fs) no_slots ds h = absurd h
cast_shapes n (type.field name t fs) (absent cs) ds h = absurd h
cast_shapes n (type.field name t fs) (slot c cs) no_slots h = absurd h
cast_shapes n (type.field name t fs) (slot c cs) (absent ds) h = absurd h
cast_shapes n (type.field name t fs) (slot c cs) (slot d ds) h =
    λ i. Some (shape_of (h.0.2 i)) ∷ cast_shapes n fs cs ds h.1 i

-- ---- one row

-- the row of these fields, a fault if one of them is
abbrev row_of : List Cell → Option Values
row_of [] = Some no_values
row_of (c ∷ cs) = joined c (row_of cs)

fields_row : (cs : List Cell) → struct_row (map (λ c. c ∷ []) cs ++ [] ∷ []) ≡ fields_cell (row_of cs)
fields_row [] = refl
fields_row (c ∷ []) = one c
  where
    one : (c : Cell) → with_field (c ∷ []) (value (fields no_values)) ≡ fields_cell (joined c (Some no_values))
    one (value v) = refl
    one fault = refl
fields_row (c ∷ d ∷ cs) = ap (with_field (c ∷ [])) (fields_row (d ∷ cs)) ∙ more c (row_of (d ∷ cs))
  where
    more : (c : Cell) (o : Option Values) → with_field (c ∷ []) (fields_cell o) ≡ fields_cell (joined c o)
    more (value v) (Some vs) = refl
    more (value v) None = refl
    more fault (Some vs) = refl
    more fault None = refl

-- a cell, cast
abbrev cast_cell : DataType → Cell → Cell
cast_cell t (value v) = cast_to t v
cast_cell t fault = fault

abbrev cast_cells : Fields → List Cell → List Cell
cast_cells (type.field name t fs) (c ∷ cs) = cast_cell t c ∷ cast_cells fs cs
cast_cells fs cs = []

-- one for each field
abbrev AreCells : Fields → List Cell → Type 0
AreCells type.no_fields [] = Unit {0}
AreCells (type.field name t fs) (c ∷ cs) = AreCells fs cs
AreCells fs cs = ⊥

abbrev each_cast : Fields → Option Values → Option Values
each_cast fs (Some vs) = each_into fs vs
each_cast fs None = None

row_cast : (fs : Fields) (cs : List Cell) → AreCells fs cs → each_cast fs (row_of cs) ≡ row_of (cast_cells fs cs)
row_cast type.no_fields [] h = refl
row_cast type.no_fields (c ∷ cs) h = absurd h
row_cast (type.field name t fs) [] h = absurd h
row_cast (type.field name t fs) (c ∷ cs) h = more c (row_of cs) ∙ ap (joined (cast_cell t c)) (row_cast fs cs h)
  where
    none : (c : Cell) → joined c None ≡ None
    none (value v) = refl
    none fault = refl

    more : (c : Cell) (o : Option Values) → each_cast (type.field name t fs) (joined c o) ≡ joined (cast_cell t c) (each_cast fs o)
    more (value v) (Some vs) = refl
    more (value v) None = sym (none (cast_to t v))
    more fault (Some vs) = refl
    more fault None = refl

fields_cast : (fs : Fields) (m : Nullability) (o : Option Values) → cast_cell (type.struct fs m) (fields_cell o) ≡ fields_cell (each_cast fs o)
fields_cast fs m (Some vs) = refl
fields_cast fs m None = refl

-- ---- the rows of the slots

abbrev cells_of : ℕ → Slots → List Cell
cells_of i no_slots = []
cells_of i (absent ss) = cells_of i ss
cells_of i (slot t ss) = get_or (rows t) i fault ∷ cells_of i ss

-- a tree of n rows, cast
cast_rows : (t : DataType) (n : ℕ) (c d : Tree) → IsCastTo t n c d → rows d ≡ map (λ i. cast_cell t (get_or (rows c) i fault)) (range_with_len 0 n)
cast_rows t n c d h =
    ap rows h.2 ∙ by_cells (range_with_len 0 n)
  where
    one : (x : Cell) → apply (fn_of.Cast h.0) (dtype c ∷ []) t (x ∷ []) ≡ cast_cell t x
    one (value v) = refl
    one fault = refl

    by_cells : (is : List ℕ) → map (λ i. apply (fn_of.Cast h.0) (dtype c ∷ []) t (row_at (rows c ∷ []) i)) is ≡ map (λ i. cast_cell t (get_or (rows c) i fault)) is
    by_cells [] = refl
    by_cells (i ∷ is) = λ j. one (get_or (rows c) i fault) j ∷ by_cells is j

-- trees of n rows, in the slots of fields
abbrev AreColumns : ℕ → Fields → Slots → Type 0
AreColumns n type.no_fields (absent no_slots) = Unit {0}
AreColumns n (type.field name t fs) (slot c cs) = (length (rows c) ≡ n) × AreColumns n fs cs
AreColumns n fs cs = ⊥

cells_single : (n i : ℕ) (fs : Fields) (cs : Slots) → AreColumns n fs cs → i < n → cells_in i (slots_rows cs) ≡ map (λ c. c ∷ []) (cells_of i cs) ++ [] ∷ []
cells_single n i type.no_fields (absent no_slots) h l = ap (λ y. take 1 y ∷ []) (drop_none i)
  where
    drop_none : (i : ℕ) → drop {A = Cell} i [] ≡ []
    drop_none zero = refl
    drop_none (suc i) = refl
cells_single n i type.no_fields no_slots h l = absurd h
cells_single n i type.no_fields (slot c cs) h l = absurd h
cells_single n i type.no_fields (absent (absent cs)) h l = absurd h
cells_single n i type.no_fields (absent (slot c cs)) h l = absurd h
cells_single n i (type.field name t fs) no_slots h l = absurd h
cells_single n i (type.field name t fs) (absent cs) h l = absurd h
cells_single n i (type.field name t fs) (slot c cs) h l =
    λ j. one_cell (rows c) i (subst (λ m. i < m) (sym h.0) l) j ∷ cells_single n i fs cs h.1 l j

are_cells : (n i : ℕ) (fs : Fields) (cs : Slots) → AreColumns n fs cs → AreCells fs (cells_of i cs)
are_cells n i type.no_fields (absent no_slots) h = tt
are_cells n i type.no_fields no_slots h = absurd h
are_cells n i type.no_fields (slot c cs) h = absurd h
are_cells n i type.no_fields (absent (absent cs)) h = absurd h
are_cells n i type.no_fields (absent (slot c cs)) h = absurd h
are_cells n i (type.field name t fs) no_slots h = absurd h
are_cells n i (type.field name t fs) (absent cs) h = absurd h
are_cells n i (type.field name t fs) (slot c cs) h = are_cells n i fs cs h.1

-- the casts are columns too, and their cells are cast
columns_are : (n : ℕ) (fs : Fields) (cs ds : Slots) → AreCastTo fs n cs ds → AreWell cs → ((i : ℕ) → i < n → cells_of i ds ≡ cast_cells fs (cells_of i cs)) × AreColumns n fs ds
columns_are n type.no_fields (absent no_slots) (absent no_slots) h w = ((λ i l. refl), tt)
columns_are n type.no_fields no_slots ds h w = absurd h
columns_are n type.no_fields (slot c cs) ds h w = absurd h
columns_are n type.no_fields (absent (absent cs)) ds h w = absurd h
columns_are n type.no_fields (absent (slot c cs)) ds h w = absurd h
columns_are n type.no_fields (absent no_slots) no_slots h w = absurd h
columns_are n type.no_fields (absent no_slots) (slot d ds) h w = absurd h
columns_are n type.no_fields (absent no_slots) (absent (absent ds)) h w = absurd h
columns_are n type.no_fields (absent no_slots) (absent (slot d ds)) h w = absurd h
columns_are n (type.field name t fs) no_slots ds h w = absurd h
columns_are n (type.field name t fs) (absent cs) ds h w = absurd h
columns_are n (type.field name t fs) (slot c cs) no_slots h w = absurd h
columns_are n (type.field name t fs) (slot c cs) (absent ds) h w = absurd h
columns_are n (type.field name t fs) (slot c cs) (slot d ds) h w =
    let rest = columns_are n fs cs ds h.1 w.1 in
    let call = λ (i : ℕ). cast_cell t (get_or (rows c) i fault) in
    let is = cast_rows t n c d h.0 in
    let long : length (rows d) ≡ n = ap length is ∙ length-map (range_with_len 0 n) call ∙ length-range_with_len 0 n in
    ((λ i l. λ j. (ap (λ x. get_or x i fault) is ∙ get_or-map-range_with_len call 0 n i i fault l (omega arith)) j ∷ rest.0 i l j), (long, rest.1))

-- the columns that are cast
source_columns : (n : ℕ) (gs fs : Fields) (v : Option Shape) (cs ds : Slots) → shapes cs ≡ fields_shapes n gs ++ v ∷ [] → HaveCasts gs fs → AreCastTo fs n cs ds
    → AreWell cs → AreColumns n fs cs
source_columns n gs type.no_fields v (absent no_slots) ds e h a w = tt
source_columns n gs type.no_fields v no_slots ds e h a w = absurd a
source_columns n gs type.no_fields v (slot c cs) ds e h a w = absurd a
source_columns n gs type.no_fields v (absent (absent cs)) ds e h a w = absurd a
source_columns n gs type.no_fields v (absent (slot c cs)) ds e h a w = absurd a
source_columns n gs (type.field name t fs) v no_slots ds e h a w = absurd a
source_columns n gs (type.field name t fs) v (absent cs) ds e h a w = absurd a
source_columns n gs (type.field name t fs) v (slot c cs) no_slots e h a w = absurd a
source_columns n gs (type.field name t fs) v (slot c cs) (absent ds) e h a w = absurd a
source_columns n type.no_fields (type.field name t fs) v (slot c cs) (slot d ds) e h a w = absurd h
source_columns n (type.field i s gs) (type.field name t fs) v (slot c cs) (slot d ds) e h a w =
    let sized : len c ≡ n = cc (e) in
    let rest : shapes cs ≡ fields_shapes n gs ++ v ∷ [] = cc (e) in
    (rows_counted c w.0 ∙ sized, source_columns n gs fs v cs ds rest h.1 a.1 w.1)

-- a cell of rows that are made
made_cell : (made : List (List Cell) → Cell) (n i : ℕ) (css : List (List Cell)) → i < n → get_or (row_by_row made n css) i fault ≡ made (cells_in i css)
made_cell made n i css l =
    let there = slice_get-get_or (row_by_row made n css) i fault (subst (λ m. i < m) (sym (made_counted made n css)) l) in
    let row = made_row made n i css l in
    cc (there, row)

struct_cell : (n i : ℕ) (fs : Fields) (cs : Slots) → AreColumns n fs cs → i < n → get_or (row_by_row struct_row n (slots_rows cs)) i fault ≡ fields_cell (row_of (cells_of i cs))
struct_cell n i fs cs h l =
    made_cell struct_row n i (slots_rows cs) l ∙ ap struct_row (cells_single n i fs cs h l) ∙ fields_row (cells_of i cs)

-- ---- without faults

no_fault_from : (cs : List Cell) → ((i : ℕ) → i < length cs → get_or cs i fault ≡ fault → ⊥) → HasNoFault cs
no_fault_from [] h = tt
no_fault_from (value v ∷ cs) h = no_fault_from cs (λ i l. h (suc i) (omega arith))
no_fault_from (fault ∷ cs) h = h 0 (omega arith) refl

columns_clean : (n : ℕ) (fs : Fields) (cs ds : Slots) → AreCastTo fs n cs ds → AreColumns n fs ds → AreClean cs
    → ((i : ℕ) → i < n → row_of (cells_of i ds) ≡ None → ⊥) → AreClean ds
columns_clean n type.no_fields (absent no_slots) (absent no_slots) a h c f = tt
columns_clean n type.no_fields no_slots ds a h c f = absurd a
columns_clean n type.no_fields (slot x cs) ds a h c f = absurd a
columns_clean n type.no_fields (absent (absent cs)) ds a h c f = absurd a
columns_clean n type.no_fields (absent (slot x cs)) ds a h c f = absurd a
columns_clean n type.no_fields (absent no_slots) no_slots a h c f = absurd a
columns_clean n type.no_fields (absent no_slots) (slot d ds) a h c f = absurd a
columns_clean n type.no_fields (absent no_slots) (absent (absent ds)) a h c f = absurd a
columns_clean n type.no_fields (absent no_slots) (absent (slot d ds)) a h c f = absurd a
columns_clean n (type.field name t fs) no_slots ds a h c f = absurd a
columns_clean n (type.field name t fs) (absent cs) ds a h c f = absurd a
columns_clean n (type.field name t fs) (slot x cs) no_slots a h c f = absurd a
columns_clean n (type.field name t fs) (slot x cs) (absent ds) a h c f = absurd a
columns_clean n (type.field name t fs) (slot x cs) (slot d ds) a h c f =
    let none : (y : Cell) → joined y None ≡ None = none_joined in
    let first : HasNoFault (rows d) = no_fault_from (rows d) (λ i l e.
    f i (subst (λ m. i < m) h.0 l) (ap (λ y. joined y (row_of (cells_of i ds))) e)) in (
      subst IsClean (sym a.0.2) (subst HasNoFault (ap rows a.0.2) first, (c.0, tt)),
      columns_clean n fs cs ds a.1 h.1 c.1 (λ i l e. f i l (ap (joined (get_or (rows d) i fault)) e ∙ none (get_or (rows d) i fault))),
    )
  where
    none_joined : (y : Cell) → joined y None ≡ None
    none_joined (value v) = refl
    none_joined fault = refl

-- ---- a cast of structs that aren't null

-- a cast that is typed
typed_cast : (b : Bool) (x ty : DataType) → (if b then Some x else None) ≡ Some ty → (b ≡ true) × (ty ≡ x)
typed_cast true x ty e = (refl, cc)
typed_cast false x ty e = absurd (cc)

module _ (ty sty : DataType) (n k : ℕ) (fs : Fields) (m : Nullability) (cs : Slots)
    (w : IsWell (node ty n (enc.function (fn_of.Cast (dtypes.Struct fs m))) (slot (node sty k (enc.composed layout.Struct) cs) no_slots))) where
  abbrev child : Tree
  child = node sty k (enc.composed layout.Struct) cs

  abbrev whole : Tree
  whole = node ty n (enc.function (fn_of.Cast (dtypes.Struct fs m))) (slot child no_slots)

  typed : (has_cast sty (type.struct fs m) ≡ true) × (ty ≡ type.struct fs m)
  typed =
      let given : return_type (fn_of.Cast (dtypes.Struct fs m)) (sty ∷ []) ≡ Some ty =
      subst (λ tys. return_type (fn_of.Cast (dtypes.Struct fs m)) tys ≡ Some ty) (one_argument n w.0.0 child w.0.1) w.0.2 in
      typed_cast (has_cast sty (type.struct fs m)) (type.struct fs m) ty given

  pub casts_have : HaveCasts w.1.0.0.0 fs
  casts_have =
      struct_casts w.1.0.0.0 fs w.1.0.0.1 m (subst (λ s. has_cast s (type.struct fs m) ≡ true) w.1.0.0.3 typed.0)

  sized : k ≡ n
  sized = sym (rows_counted child w.1.0) ∙ (slots_long n w.0.0 (slot child no_slots) w.0.1 w.1).0

  module _ (ds : Slots) (a : AreCastTo fs k cs ds) where
    abbrev answer : Tree
    answer = node ty k (enc.composed layout.Struct) ds

    before : AreColumns k fs cs
    before = source_columns k w.1.0.0.0 fs w.1.0.0.2 cs ds w.1.0.0.4 casts_have a w.1.0.1

    after : ((i : ℕ) → i < k → cells_of i ds ≡ cast_cells fs (cells_of i cs)) × AreColumns k fs ds
    after = columns_are k fs cs ds a w.1.0.1

    applied : (s : DataType) (x : Cell) → s ≡ type.struct fs m → apply (fn_of.Cast (dtypes.Struct fs m)) (sty ∷ []) s (x ∷ []) ≡ cast_cell (type.struct fs m) x
    applied s (value v) e = ap (λ r. cast_to r v) e
    applied s fault e = refl

    cell_is : (i : ℕ) → i < k → apply (fn_of.Cast (dtypes.Struct fs m)) (sty ∷ []) ty (get_or (rows child) i fault ∷ []) ≡ get_or (rows answer) i fault
    cell_is i l =
        applied ty (get_or (rows child) i fault) typed.1 ∙ ap (cast_cell (type.struct fs m)) (struct_cell k i fs cs before l)
        ∙ fields_cast fs m (row_of (cells_of i cs)) ∙ ap fields_cell (row_cast fs (cells_of i cs) (are_cells k i fs cs before))
        ∙ ap (λ y. fields_cell (row_of y)) (sym (after.0 i l)) ∙ sym (struct_cell k i fs ds after.1 l)

    same_rows : rows whole ≡ rows answer
    same_rows =
        subst (λ j. map (λ i. apply (fn_of.Cast (dtypes.Struct fs m)) (sty ∷ []) ty (get_or (rows child) i fault ∷ [])) (range_with_len 0 j) ≡ rows answer) sized
        (rows_are (λ i. apply (fn_of.Cast (dtypes.Struct fs m)) (sty ∷ []) ty (get_or (rows child) i fault ∷ [])) k (rows answer)
        (made_counted struct_row k (slots_rows ds)) cell_is)

    still_clean : IsClean whole → IsClean answer
    still_clean c =
        let fine : HasNoFault (rows answer) = subst HasNoFault same_rows c.0 in
        let there = λ (i : ℕ) (l : i < k) (e : row_of (cells_of i ds) ≡ None).
        no_fault_at (rows answer) i fine
        (slice_get-get_or (rows answer) i fault (subst (λ j. i < j) (sym (made_counted struct_row k (slots_rows ds))) l)
        ∙ ap Some (struct_cell k i fs ds after.1 l ∙ ap fields_cell e)) in
        (fine, columns_clean k fs cs ds a after.1 c.1.0.1 there)

    pub cast_keeps : Keeps whole answer
    cast_keeps = (exactly_by whole answer refl (sym sized) same_rows still_clean).keeps

    pub cast_node_is : IsNode ty k (enc.composed layout.Struct) (shapes ds)
    cast_node_is = (fs, m, None, typed.1, cast_shapes k fs cs ds a, tt)

-- ---- the answer, by its parts

-- what is present among slots
all_present : (k : ℕ) (ss : Slots) (t : Tree) → ((j : ℕ) → IsPresentAt j ss → IsPresent (k + j) t) → ArePresent (present_from k ss) t
all_present k no_slots t f = tt
all_present k (absent ss) t f =
    all_present (k + 1) ss t (λ j h. let e : k + suc j ≡ k + 1 + j = omega arith in subst (λ i. IsPresent i t) e (f (suc j) h))
all_present k (slot u ss) t f =
    let here : k + 0 ≡ k = omega arith in (
      subst (λ i. IsPresent i t) here (f 0 tt),
      all_present (k + 1) ss t (λ j h. let e : k + suc j ≡ k + 1 + j = omega arith in subst (λ i. IsPresent i t) e (f (suc j) h)),
    )

present_here : (ty : DataType) (n : ℕ) (d : Data) (ss : Slots) → ArePresent (present_from 0 ss) (node ty n d ss)
present_here ty n d ss = all_present 0 ss (node ty n d ss) (λ j h. let e : j ≡ 0 + j = omega arith in subst (λ i. IsPresentAt i ss) e h)

-- p casts c, in slot i, to a struct
module _ (i : ℕ) (c p : Tree) (fs : Fields) (m : Nullability) (xs ys : List (Option Tree))
    (is : p ≡ node (dtype p) (len p) (enc.function (fn_of.Cast (dtypes.Struct fs m))) (slots_of xs))
    (ok : IsNode (dtype p) (len p) (enc.function (fn_of.Cast (dtypes.Struct fs m))) (shapes (slots_of xs)))
    (well : IsWell p) (held : HasSlot i c p) (structs : is_struct (datum c) ≡ true) (columns : slots_of ys ≡ slots c) where
  abbrev f : ScalarFnRef
  f = fn_of.Cast (dtypes.Struct fs m)

  at : (o : Option Tree) → HoldsAt i c (slots_of (o ∷ [])) → (i ≡ 0) × (o ≡ Some c)
  at o h = by_slot i o h
    where
      by_slot : (j : ℕ) (o : Option Tree) → HoldsAt j c (slots_of (o ∷ [])) → (j ≡ 0) × (o ≡ Some c)
      by_slot zero None h = absurd h
      by_slot zero (Some x) h = (refl, ap Some h)
      by_slot (suc j) None h = absurd h
      by_slot (suc j) (Some x) h = absurd h

  one : (x : Tree) × (xs ≡ Some x ∷ [])
  one = only_argument (dtype p) (len p) f xs ok refl

  found : (i ≡ 0) × (Some one.0 ≡ Some c)
  found = at (Some one.0) (subst (λ l. HoldsAt i c (slots_of l)) one.1 (subst (HasSlot i c) is held))

  c_is : c ≡ node (dtype c) (len c) (enc.composed layout.Struct) (slots_of ys)
  c_is = struct_shape c ys structs columns

  pub whole_is : p ≡ node (dtype p) (len p) (enc.function f) (slot (node (dtype c) (len c) (enc.composed layout.Struct) (slots_of ys)) no_slots)
  whole_is =
      is ∙ ap (λ l. node (dtype p) (len p) (enc.function f) (slots_of l)) (one.1 ∙ ap (λ o. o ∷ []) found.1)
      ∙ ap (λ x. node (dtype p) (len p) (enc.function f) (slot x no_slots)) c_is

  pub whole_well : IsWell (node (dtype p) (len p) (enc.function f) (slot (node (dtype c) (len c) (enc.composed layout.Struct) (slots_of ys)) no_slots))
  whole_well = subst IsWell whole_is well

  -- its first columns, without the slot of the validity
  pub castable : (fl : List Field) (zs : List (Option Tree)) (z : Option Tree) → fields_of fl ≡ fs → ys ≡ zs ++ z ∷ [] → has_columns (dtype p) ≡ true
      → AreCastable fl zs
  castable fl zs z e split k =
      let w = whole_well in
      let st = w.1.0.0 in
      columns_castable (len c) st.0 st.2 fl zs z (ap (λ l. shapes (slots_of l)) (sym split) ∙ st.4)
      (subst (HaveCasts st.0) (sym e) (casts_have (dtype p) (dtype c) (len p) (len c) fs m (slots_of ys) w))
      (ap have_columns e ∙ ap has_columns (sym (typed (dtype p) (dtype c) (len p) (len c) fs m (slots_of ys) w).1) ∙ k)

  -- they are cast
  module _ (fl : List Field) (zs us : List (Option Tree)) (e : fields_of fl ≡ fs) (split : ys ≡ zs ++ None ∷ []) (cast : AreFieldsCast fl zs us) where
    pub casts_are : AreCastTo fs (len c) (slots_of ys) (slots_of us)
    casts_are =
        let w = whole_well in
        let st = w.1.0.0 in
        subst (λ g. AreCastTo g (len c) (slots_of ys) (slots_of us)) e
        (subst (λ l. AreCastTo (fields_of fl) (len c) (slots_of l) (slots_of us)) (sym split)
        (columns_cast (len c) st.0 st.2 fl zs us (ap (λ l. shapes (slots_of l)) (sym split) ∙ st.4)
        (subst (HaveCasts st.0) (sym e) (casts_have (dtype p) (dtype c) (len p) (len c) fs m (slots_of ys) w)) cast))

    pub casts_node : IsNode (dtype p) (len c) (enc.composed layout.Struct) (shapes (slots_of us))
    casts_node = cast_node_is (dtype p) (dtype c) (len p) (len c) fs m (slots_of ys) whole_well (slots_of us) casts_are

    pub casts_answer : (u : Tree) (r : Result (Option RawNode) VortexError) → u ≡ node (dtype p) (len c) (enc.composed layout.Struct) (slots_of us)
        → IsRaw u r → BuiltinAnswers StructCast i p r
    casts_answer u (Ok None) made h = absurd h
    casts_answer u (Ok (Some x)) made h =
        let v = node (dtype p) (len c) (enc.composed layout.Struct) (slots_of us) in
        let tree : x.tree ≡ v = h.0 ∙ made in
        let marked : x.optimize.items ≡ present_from 0 (slots_of us) = h.1 ∙ ap (λ y. present_from 0 (slots y)) made in
        let row : Builtin StructCast 0 (node (dtype p) (len p) (enc.function f) (slot (node (dtype c) (len c) (enc.composed layout.Struct) (slots_of ys)) no_slots)) v
        (present_from 0 (slots_of us)) =
        cast_of_structs (dtype p) (dtype c) (len p) (len c) fs m (slots_of ys) (slots_of us) casts_are in
        record {
          answer =
              subst (λ y. Builtin StructCast i p y x.optimize.items) (sym tree) (subst (Builtin StructCast i p v) (sym marked)
              (subst (λ j. Builtin StructCast j p v (present_from 0 (slots_of us))) (sym found.0)
              (subst (λ y. Builtin StructCast 0 y v (present_from 0 (slots_of us))) (sym whole_is) row)));
          stands = (
            subst (Keeps p) (sym tree) (subst (λ y. Keeps y v) (sym whole_is)
                (cast_keeps (dtype p) (dtype c) (len p) (len c) fs m (slots_of ys) whole_well (slots_of us) casts_are)),
            subst (λ y. ArePresent x.optimize.items y) (sym tree) (subst (λ l. ArePresent l v) (sym marked)
                (present_here (dtype p) (len c) (enc.composed layout.Struct) (slots_of us))),
          );
          err = tt;
        }
    casts_answer u (Err e) made h = record { answer = tt; stands = tt; err = h }

  -- there is a validity, or no slot at all
  pub casts_none : ((zs : List (Option Tree)) → ys ≡ zs ++ None ∷ [] → ⊥) → BuiltinAnswers StructCast i p (Ok None)
  casts_none none = none_given i p (λ u os b. none_cast u os (subst (λ y. Builtin StructCast i y u os) whole_is b))
    where
      -- slots that are cast end with an absent one
      ending : (n : ℕ) (fs : Fields) (ys : List (Option Tree)) (ds : Slots) → AreCastTo fs n (slots_of ys) ds → (zs : List (Option Tree)) × (ys ≡ zs ++ None ∷ [])
      ending n type.no_fields [] ds a = absurd a
      ending n type.no_fields (None ∷ []) ds a = ([], refl)
      ending n type.no_fields (None ∷ None ∷ ys) ds a = absurd a
      ending n type.no_fields (None ∷ Some y ∷ ys) ds a = absurd a
      ending n type.no_fields (Some y ∷ ys) ds a = absurd a
      ending n (type.field name t fs) [] ds a = absurd a
      ending n (type.field name t fs) (None ∷ ys) ds a = absurd a
      ending n (type.field name t fs) (Some y ∷ ys) no_slots a = absurd a
      ending n (type.field name t fs) (Some y ∷ ys) (absent ds) a = absurd a
      ending n (type.field name t fs) (Some y ∷ ys) (slot d ds) a =
          let r = ending n fs ys ds a.1 in (Some y ∷ r.0, ap (λ l. Some y ∷ l) r.1)

      by_row : (x : Tree) (j : ℕ) (u : Tree) (os : List ℕ) → x ≡ node (dtype p) (len p) (enc.function f) (slot (node (dtype c) (len c) (enc.composed layout.Struct) (slots_of ys)) no_slots)
          → Builtin StructCast j x u os → ⊥
      by_row x j u os e (cast_of_structs ty sty n k gs m' cs ds a) =
          let same : slots_of ys ≡ cs = cc (e) in
          let r = ending k gs ys ds (subst (λ s. AreCastTo gs k s ds) (sym same) a) in
          none r.0 r.1

      none_cast : (u : Tree) (os : List ℕ)
          → Builtin StructCast i (node (dtype p) (len p) (enc.function f) (slot (node (dtype c) (len c) (enc.composed layout.Struct) (slots_of ys)) no_slots)) u os → ⊥
      none_cast u os b = by_row _ i u os refl b

-- ---- the node of a cast

pub cast_made : (t : Tree) (target : DType) (ty : DataType) (n : ℕ) (f : ScalarFnRef) (xs : List (Option Tree)) → has_cast (dtype t) (type_of target) ≡ true
    → ty ≡ type_of target → n ≡ len t → f ≡ fn_of.Cast target → xs ≡ Some t ∷ [] → IsNode ty n (enc.function f) (shapes (slots_of xs))
cast_made t target ty n f xs h a b c d = subst (λ x. x) (λ i. IsNode (sym a i) (sym b i) (enc.function (sym c i)) (shapes (slots_of (sym d i)))) here
  where
    here : IsNode (type_of target) (len t) (enc.function (fn_of.Cast target)) (shapes (slots_of (Some t ∷ [])))
    here = (dtype t ∷ [], refl, ap (λ b. if b then Some (type_of target) else None) h)

-- ---- the casts, one after another

pub castable_long : (fl : List Field) (xs : List (Option Tree)) → AreCastable fl xs → length fl ≡ length xs
castable_long [] [] h = refl
castable_long [] (x ∷ xs) h = absurd h
castable_long (f ∷ fl) [] h = absurd h
castable_long (f ∷ fl) (x ∷ xs) h = omega (arith, castable_long fl xs h.1)

pub castable_at : (fl : List Field) (xs : List (Option Tree)) (i : ℕ) (d : Field) (e : Option Tree) → AreCastable fl xs → i < length xs
    → IsCastable (get_or fl i d).dtype (get_or xs i e)
castable_at [] [] i d e h l = absurd (omega arith)
castable_at [] (x ∷ xs) i d e h l = absurd h
castable_at (f ∷ fl) [] i d e h l = absurd h
castable_at (f ∷ fl) (x ∷ xs) zero d e h l = h.0
castable_at (f ∷ fl) (x ∷ xs) (suc i) d e h l = castable_at fl xs i d e h.1 (omega arith)

pub cast_more : (fl : List Field) (xs ys : List (Option Tree)) (i : ℕ) (d : Field) (e y : Option Tree) → AreCastable fl xs → AreFirstCast fl xs ys
    → length ys ≡ i → i < length xs → IsSlotCast (get_or fl i d).dtype (get_or xs i e) y → AreFirstCast fl xs (ys ++ y ∷ [])
cast_more [] [] ys i d e y h a n l s = absurd (omega arith)
cast_more [] (x ∷ xs) ys i d e y h a n l s = absurd h
cast_more (f ∷ fl) [] ys i d e y h a n l s = absurd h
cast_more (f ∷ fl) (x ∷ xs) [] zero d e y h a n l s = (s, tt)
cast_more (f ∷ fl) (x ∷ xs) [] (suc i) d e y h a n l s = absurd (omega arith)
cast_more (f ∷ fl) (x ∷ xs) (z ∷ ys) zero d e y h a n l s = absurd (omega arith)
cast_more (f ∷ fl) (x ∷ xs) (z ∷ ys) (suc i) d e y h a n l s = (a.0, cast_more fl xs ys i d e y h.1 a.1 (omega arith) (omega arith) s)

pub cast_end : (fl : List Field) (xs ys : List (Option Tree)) → AreCastable fl xs → AreFirstCast fl xs ys → length ys ≡ length xs
    → AreFieldsCast fl xs (ys ++ None ∷ [])
cast_end [] [] [] h a n = tt
cast_end [] [] (y ∷ ys) h a n = absurd (omega arith)
cast_end [] (x ∷ xs) ys h a n = absurd h
cast_end (f ∷ fl) [] ys h a n = absurd h
cast_end (f ∷ fl) (x ∷ xs) [] h a n = absurd (omega arith)
cast_end (f ∷ fl) (x ∷ xs) (y ∷ ys) h a n = (a.0, cast_end fl xs ys h.1 a.1 (omega arith))

-- ---- the slot behind the columns

last_same : (xs ys : List (Option Tree)) (x y : Option Tree) → xs ++ x ∷ [] ≡ ys ++ y ∷ [] → x ≡ y
last_same [] [] x y e = cc (e)
last_same [] (v ∷ []) x y e = absurd (cc (e))
last_same [] (v ∷ w ∷ ys) x y e = absurd (cc (e))
last_same (u ∷ []) [] x y e = absurd (cc (e))
last_same (u ∷ w ∷ xs) [] x y e = absurd (cc (e))
last_same (u ∷ xs) (v ∷ ys) x y e = let rest : xs ++ x ∷ [] ≡ ys ++ y ∷ [] = cc (e) in last_same xs ys x y rest

pub ends_otherwise : (ys rest zs : List (Option Tree)) (x : Option Tree) → ys ≡ rest ++ x ∷ [] → (x ≡ None → ⊥) → ys ≡ zs ++ None ∷ [] → ⊥
ends_otherwise ys rest zs x e none h = none (last_same rest zs x None (sym e ∙ h))

pub ends_nowhere : (ys zs : List (Option Tree)) → length ys ≡ 0 → ys ≡ zs ++ None ∷ [] → ⊥
ends_nowhere [] [] n h = absurd (cc (h))
ends_nowhere [] (z ∷ zs) n h = absurd (cc (h))
ends_nowhere (y ∷ ys) zs n h = absurd (omega arith)

pub absent_is : (o : Option Tree) → false ≡ is_some o → o ≡ None
absent_is None e = refl
absent_is (Some t) e = absurd (false≢true e)

pub present_is : (o : Option Tree) → true ≡ is_some o → o ≡ None → ⊥
present_is None e h = false≢true (sym e)
present_is (Some t) e h = absurd (cc (h))

-- Rows of structs: the field that one has, and the row that arguments make.
use Rattle.std.proofs.Common.{◌≡◌, ℕ, suc, ◌<◌, List, [], ◌∷◌, ◌++◌, length, map, take, drop, get_or, Bool, true, false, if◌then◌else◌}
use Rattle.std.proofs.Common.{Option, Some, None, refl, sym, ap, subst, ◌∙◌}
use Rattle.std.specs.Prelude.{option_map}
use Rattle.std.specs.Str.{bytes_eq}
use Rattle.std.proofs.Math.Seq.{drop-nil}
use Rattle.std.proofs.lemmas.Option.{slice_get-get_or}
use Rattle.vx_value.specs.Types as type
use Rattle.vx_value.specs.Types.{DataType, Fields}
use Rattle.vx_value.specs.Nested.{field_type, field_place}
use Rattle.vx_value.specs.Values.{Value, Values, null, boolean, fields, item}
use Rattle.vx_value.specs.Cell.{Cell, value, fault}
use Rattle.vx_value.specs.declared.dtype.Nullability.{Nullability}
use Rattle.vx_fn.specs.Apply.{apply, on_values}
use Rattle.vx_fn.specs.GetItem.{value_at_place}
use Rattle.vx_fn.specs.Pack.{in_order}
use Rattle.vx_fn.specs.declared.function.ScalarFnRef.TheVariants as fn_of
use Rattle.vx_tree.specs.Tree.{Tree, Slots, no_slots, absent, slot, dtype, len, fields_shapes, with_field, without_fields, struct_row, last_tree}
use Rattle.vx_tree.specs.Layouts.{row_by_row}
use Rattle.vx_tree.specs.Cells.{rows, slots_rows, row_at, valid_cell}
use Rattle.vx_tree.specs.Keeps.{CellKeeps}
use Rattle.vx_tree.specs.Well.{Shape, shape, shape_of, shapes}
use Rattle.vx_tree.proofs.LayoutsLemmas.{cells_in, made_row, made_counted, cell_in}
use Rattle.vx_rule.specs.Rules.{field_in, with_absent}
use Rattle.vx_rule.proofs.PicksLemmas.{AllLong}

-- ---- what a validity tells of a row

-- a cell, by the validity's cell in its row; itself if there is none
abbrev pub told_by : List Cell → Cell → Cell
told_by [] c = c
told_by (v ∷ vs) c = valid_cell v c

-- a row that isn't null is told to be valid, and a null row isn't
abbrev IsTold : List Cell → Cell → Type 0
IsTold ws (value (fields vs)) = (c : Cell) → told_by ws c ≡ c
IsTold ws (value null) = (x : Value) → told_by ws (value x) ≡ value null
IsTold ws _ = Unit {0}

-- the cells in the last slot
abbrev pub last_cells : List (List Cell) → List Cell
last_cells [] = []
last_cells (cs ∷ []) = cs
last_cells (cs ∷ ds ∷ css) = last_cells (ds ∷ css)

without_told : (ws : List Cell) → IsTold ws (without_fields ws)
without_told [] = λ c. refl
without_told (value (boolean true) ∷ ws) = λ c. refl
without_told (value (boolean false) ∷ ws) = λ x. refl
without_told (value _ ∷ ws) = tt
without_told (fault ∷ ws) = tt

with_told : (cs ws : List Cell) (r : Cell) → IsTold ws r → IsTold ws (with_field cs r)
with_told (value v ∷ []) ws (value (fields vs)) h = h
with_told (value v ∷ []) ws (value null) h = h
with_told (value v ∷ []) ws (value _) h = tt
with_told (value v ∷ []) ws fault h = tt
with_told [] ws r h = tt
with_told (fault ∷ cs) ws r h = tt
with_told (value v ∷ c ∷ cs) ws r h = tt

told_row : (css : List (List Cell)) → IsTold (last_cells css) (struct_row css)
told_row [] = tt
told_row (ws ∷ []) = without_told ws
told_row (cs ∷ ds ∷ css) = with_told cs (last_cells (ds ∷ css)) (struct_row (ds ∷ css)) (told_row (ds ∷ css))

-- ---- the field of a row

-- the value at a place of a row, null in a null row
abbrev item_at : Option ℕ → Cell → Cell
item_at place (value null) = value null
item_at place (value (fields vs)) = value_at_place place vs
item_at place c = fault

-- the field of this name of a row
abbrev pub item_in : List ℕ → Fields → Cell → Cell
item_in name fs c = item_at (field_place name fs) c

pub item_applied : (name : List ℕ) (fs : Fields) (m : Nullability) (ty : DataType) (c : Cell)
    → apply (fn_of.GetItem name) (type.struct fs m ∷ []) ty (c ∷ []) ≡ item_in name fs c
item_applied name fs m ty fault = refl
item_applied name fs m ty (value null) = refl
item_applied name fs m ty (value (fields vs)) = refl
item_applied name fs m ty (value _) = refl

-- the cells in the slot of the field of this name
abbrev field_cells : List ℕ → Fields → List (List Cell) → List Cell
field_cells name (type.field other t fs) (cs ∷ css) = if bytes_eq name other then cs else field_cells name fs css
field_cells name fs css = []

-- a slot for each field, and one behind them
abbrev AreSlots : Fields → List (List Cell) → Type 0
AreSlots fs [] = ⊥
AreSlots type.no_fields (cs ∷ css) = Unit {0}
AreSlots (type.field name t fs) (cs ∷ css) = AreSlots fs css

first_item : (c r : Cell) (ws : List Cell) → IsTold ws r → CellKeeps (item_at (Some 0) (with_field (c ∷ []) r)) (told_by ws c)
first_item (value v) (value (fields vs)) ws h = h (value v)
first_item (value v) (value null) ws h = h v
first_item (value v) (value _) ws h = tt
first_item (value v) fault ws h = tt
first_item fault r ws h = tt

later_item : (o : Option ℕ) (cs : List Cell) (r d : Cell) → CellKeeps (item_at o r) d → CellKeeps (item_at (option_map suc o) (with_field cs r)) d
later_item (Some place) (value v ∷ []) (value (fields vs)) d h = h
later_item None (value v ∷ []) (value (fields vs)) d h = tt
later_item o (value v ∷ []) (value null) d h = h
later_item o (value v ∷ []) (value _) d h = tt
later_item o (value v ∷ []) fault d h = tt
later_item o [] r d h = tt
later_item o (fault ∷ cs) r d h = tt
later_item o (value v ∷ c ∷ cs) r d h = tt

-- it is the cell in its slot, null if the validity says so
pub item_row : (name : List ℕ) (fs : Fields) (css : List (List Cell)) (c : Cell) → AreSlots fs css → field_cells name fs css ≡ c ∷ []
    → CellKeeps (item_in name fs (struct_row css)) (told_by (last_cells css) c)
item_row name type.no_fields css c h e = absurd (cc)
item_row name (type.field other t fs) [] c h e = absurd h
item_row name (type.field other t fs) (cs ∷ []) c h e = absurd h
item_row name (type.field other t fs) (cs ∷ ds ∷ css) c h e = by_test (bytes_eq name other) (item_row name fs (ds ∷ css) c h) e
  where
    rest : Cell
    rest = struct_row (ds ∷ css)

    ws : List Cell
    ws = last_cells (ds ∷ css)

    by_test : (b : Bool) → (field_cells name fs (ds ∷ css) ≡ c ∷ [] → CellKeeps (item_in name fs rest) (told_by ws c))
        → (if b then cs else field_cells name fs (ds ∷ css)) ≡ c ∷ []
        → CellKeeps (item_at (if b then Some 0 else option_map suc (field_place name fs)) (with_field cs rest)) (told_by ws c)
    by_test true later e = subst (λ x. CellKeeps (item_at (Some 0) (with_field x rest)) (told_by ws c)) (sym e) (first_item c rest ws (told_row (ds ∷ css)))
    by_test false later e = later_item (field_place name fs) cs rest (told_by ws c) (later e)

-- ---- the slots of a column of structs

pub are_slots : (n i : ℕ) (fs : Fields) (v : Option Shape) (ss : Slots) → shapes ss ≡ fields_shapes n fs ++ v ∷ [] → AreSlots fs (cells_in i (slots_rows ss))
are_slots n i type.no_fields v no_slots e = absurd (cc)
are_slots n i type.no_fields v (absent ss) e = tt
are_slots n i type.no_fields v (slot u ss) e = tt
are_slots n i (type.field name t fs) v no_slots e = absurd (cc)
are_slots n i (type.field name t fs) v (absent ss) e = absurd (cc)
are_slots n i (type.field name t fs) v (slot u ss) e =
    let rest : shapes ss ≡ fields_shapes n fs ++ v ∷ [] = cc in
    are_slots n i fs v ss rest

-- the field's tree has its type and the column's length
pub field_shape : (name : List ℕ) (n : ℕ) (fs : Fields) (v : Option Shape) (ss : Slots) (c : Tree) → field_in name fs ss ≡ Some c
    → shapes ss ≡ fields_shapes n fs ++ v ∷ []
    → (field_type name fs ≡ Some (dtype c)) × (len c ≡ n)
field_shape name n type.no_fields v ss c e h = absurd (cc)
field_shape name n (type.field other t fs) v no_slots c e h = absurd (cc)
field_shape name n (type.field other t fs) v (absent ss) c e h = absurd (cc)
field_shape name n (type.field other t fs) v (slot u ss) c e h =
    let first : shape_of u ≡ shape t n = cc in
    let rest : shapes ss ≡ fields_shapes n fs ++ v ∷ [] = cc in
    by_test (bytes_eq name other) first (λ e. field_shape name n fs v ss c e rest) e
  where
    by_test : (b : Bool) → shape_of u ≡ shape t n → (field_in name fs ss ≡ Some c → (field_type name fs ≡ Some (dtype c)) × (len c ≡ n))
        → (if b then Some u else field_in name fs ss) ≡ Some c
        → ((if b then Some t else field_type name fs) ≡ Some (dtype c)) × (len c ≡ n)
    by_test true first later e =
        let same : u ≡ c = cc in
        let typed : t ≡ dtype u = cc in
        let sized : len u ≡ n = cc in
        (ap Some (typed ∙ ap dtype same), sym (ap len same) ∙ sized)
    by_test false first later e = later e

-- its cell in a row
field_there : (name : List ℕ) (i : ℕ) (fs : Fields) (ss : Slots) (c : Tree) → field_in name fs ss ≡ Some c
    → field_cells name fs (cells_in i (slots_rows ss)) ≡ take 1 (drop i (rows c))
field_there name i type.no_fields ss c e = absurd (cc)
field_there name i (type.field other t fs) no_slots c e = absurd (cc)
field_there name i (type.field other t fs) (absent ss) c e = absurd (cc)
field_there name i (type.field other t fs) (slot u ss) c e = by_test (bytes_eq name other) (field_there name i fs ss c) e
  where
    by_test : (b : Bool) → (field_in name fs ss ≡ Some c → field_cells name fs (cells_in i (slots_rows ss)) ≡ take 1 (drop i (rows c)))
        → (if b then Some u else field_in name fs ss) ≡ Some c
        → (if b then take 1 (drop i (rows u)) else field_cells name fs (cells_in i (slots_rows ss))) ≡ take 1 (drop i (rows c))
    by_test true later e = let same : u ≡ c = cc in ap (λ x. take 1 (drop i (rows x))) same
    by_test false later e = later e

pub one_cell : (cs : List Cell) (i : ℕ) → i < length cs → take 1 (drop i cs) ≡ get_or cs i fault ∷ []
one_cell cs i lt = cell_in cs i (get_or cs i fault) (slice_get-get_or cs i fault lt)

pub field_cell : (name : List ℕ) (i : ℕ) (fs : Fields) (ss : Slots) (c : Tree) → field_in name fs ss ≡ Some c → i < length (rows c)
    → field_cells name fs (cells_in i (slots_rows ss)) ≡ get_or (rows c) i fault ∷ []
field_cell name i fs ss c e lt = field_there name i fs ss c e ∙ one_cell (rows c) i lt

-- the rows of a validity's tree; none if there is none
abbrev pub told_rows : Option Tree → List Cell
told_rows None = []
told_rows (Some u) = rows u

pub last_told : (i : ℕ) (ss : Slots) → last_cells (cells_in i (slots_rows ss)) ≡ take 1 (drop i (told_rows (last_tree ss)))
last_told i no_slots = sym (ap (take 1) (drop-nil i))
last_told i (absent no_slots) = refl
last_told i (slot t no_slots) = refl
last_told i (absent (absent ss)) = last_told i (absent ss)
last_told i (absent (slot u ss)) = last_told i (slot u ss)
last_told i (slot t (absent ss)) = last_told i (absent ss)
last_told i (slot t (slot u ss)) = last_told i (slot u ss)

-- ---- a row made of arguments

-- with one argument more before them
more_row : (cs : List Cell) (css : List (List Cell)) (ws : List Cell) → struct_row (cs ∷ css ++ ws ∷ []) ≡ with_field cs (struct_row (css ++ ws ∷ []))
more_row cs [] ws = refl
more_row cs (ds ∷ css) ws = refl

in_front : (v : Value) (g : List Value → Values) (cs : List Cell)
    → on_values (λ vs. value (fields (item v (g vs)))) cs ≡ with_field (value v ∷ []) (on_values (λ vs. value (fields (g vs))) cs)
in_front v g [] = refl
in_front v g (value w ∷ cs) = in_front v (λ vs. g (w ∷ vs)) cs
in_front v g (fault ∷ cs) = refl

packed_row : (cs : List Cell) → struct_row (map (λ c. c ∷ []) cs ++ [] ∷ []) ≡ on_values (λ vs. value (fields (in_order vs))) cs
packed_row [] = refl
packed_row (value v ∷ cs) =
    more_row (value v ∷ []) (map (λ c. c ∷ []) cs) [] ∙ ap (with_field (value v ∷ [])) (packed_row cs) ∙ sym (in_front v in_order cs)
packed_row (fault ∷ cs) = more_row (fault ∷ []) (map (λ c. c ∷ []) cs) []

each_one : (n i : ℕ) (css : List (List Cell)) → AllLong n css → i < n → cells_in i css ≡ map (λ c. c ∷ []) (row_at css i)
each_one n i [] h lt = refl
each_one n i (cs ∷ css) h lt = λ j. one_cell cs i (subst (λ m. i < m) (sym h.0) lt) j ∷ each_one n i css h.1 lt j

cells_behind : (i : ℕ) (css : List (List Cell)) → cells_in i (css ++ [] ∷ []) ≡ cells_in i css ++ [] ∷ []
cells_behind i [] = ap (λ cs. take 1 cs ∷ []) (drop-nil i)
cells_behind i (cs ∷ css) = ap (λ l. take 1 (drop i cs) ∷ l) (cells_behind i css)

absent_rows : (ss : Slots) → slots_rows (with_absent ss) ≡ slots_rows ss ++ [] ∷ []
absent_rows no_slots = refl
absent_rows (absent ss) = ap (λ l. [] ∷ l) (absent_rows ss)
absent_rows (slot t ss) = ap (λ l. rows t ∷ l) (absent_rows ss)

pub absent_shapes : (ss : Slots) → shapes (with_absent ss) ≡ shapes ss ++ None ∷ []
absent_shapes no_slots = refl
absent_shapes (absent ss) = ap (λ l. None ∷ l) (absent_shapes ss)
absent_shapes (slot t ss) = ap (λ l. Some (shape_of t) ∷ l) (absent_shapes ss)

-- row i of the column of the arguments
pub packed_at : (n i : ℕ) (ss : Slots) → AllLong n (slots_rows ss) → i < n
    → get_or (row_by_row struct_row n (slots_rows (with_absent ss))) i fault ≡ on_values (λ vs. value (fields (in_order vs))) (row_at (slots_rows ss) i)
packed_at n i ss h lt =
    let css = slots_rows (with_absent ss) in
    let there = slice_get-get_or (row_by_row struct_row n css) i fault (subst (λ m. i < m) (sym (made_counted struct_row n css)) lt) in
    let made = made_row struct_row n i css lt in
    let first : get_or (row_by_row struct_row n css) i fault ≡ struct_row (cells_in i css) = cc in
    first ∙ ap struct_row (ap (cells_in i) (absent_rows ss) ∙ cells_behind i (slots_rows ss) ∙ ap (λ l. l ++ [] ∷ []) (each_one n i (slots_rows ss) h lt))
    ∙ packed_row (row_at (slots_rows ss) i)

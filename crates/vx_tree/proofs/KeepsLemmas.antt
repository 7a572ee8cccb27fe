-- `Keeps` is a preorder that is kept in a slot; `KeepsExactly` as well.
use Rattle.std.proofs.Common.{◌≡◌, ℕ, pos, zero, suc, ◌-◌, Bool, true, false, List, [], ◌∷◌, ◌++◌, take, drop, map, replicate, get_or, refl, ◌∙◌, ap, subst}
use Rattle.std.specs.List.{range_with_len}
use Rattle.vx_value.specs.Types.{DataType}
use Rattle.vx_value.specs.Values.{Value, null, boolean, integer, fields}
use Rattle.vx_tree.specs.Tree as enc
use Rattle.vx_tree.specs.Tree.{Tree, Data, Slots, node, no_slots, absent, slot, dtype, len, types_in, laid_out, with_field, without_fields, struct_row, extension_row}
use Rattle.vx_tree.specs.Layouts.{heads, tails, row_by_row}
use Rattle.vx_tree.specs.declared.array.layout.Layout.{Layout}
use Rattle.vx_tree.specs.declared.array.layout.Layout.TheVariants as layout
use Rattle.vx_value.specs.Cell.{Cell, value, fault}
use Rattle.vx_mask.specs.Places.{chosen}
use Rattle.vx_fn.specs.Apply.{on_values, value_of}
use Rattle.vx_tree.specs.Lookups.{taken, taken_cells, paired, paired_cells}
use Rattle.vx_tree.specs.Well.{shapes}
use Rattle.vx_tree.specs.Cells.{chained, row_at, rows, slots_rows, node_cells, cells_at, valid_cell, valid_cells, shown_cell, IsClean, AreClean, HasNoFault}
use Rattle.vx_tree.specs.Slots.{set_slot, put}
use Rattle.vx_tree.specs.Keeps.{CellKeeps, RowsKeep, Keeps, KeepsExactly}

-- slot by slot
abbrev pub AllKeep : List (List Cell) → List (List Cell) → Type 0
AllKeep [] [] = Unit {0}
AllKeep [] (d ∷ ds) = ⊥
AllKeep (c ∷ cs) [] = ⊥
AllKeep (c ∷ cs) (d ∷ ds) = RowsKeep c d × AllKeep cs ds

cell_refl : (c : Cell) → CellKeeps c c
cell_refl (value v) = refl
cell_refl fault = tt

pub rows_refl : (cs : List Cell) → RowsKeep cs cs
rows_refl [] = tt
rows_refl (c ∷ cs) = (cell_refl c, rows_refl cs)

pub rows_equal : (cs ds : List Cell) → cs ≡ ds → RowsKeep cs ds
rows_equal cs ds e = subst (RowsKeep cs) e (rows_refl cs)

cell_trans : (a b c : Cell) → CellKeeps a b → CellKeeps b c → CellKeeps a c
cell_trans fault b c p q = tt
cell_trans (value v) b c p q = let r : CellKeeps (value v) c = rw p at q in r

rows_trans : (aa bb cs : List Cell) → RowsKeep aa bb → RowsKeep bb cs → RowsKeep aa cs
rows_trans [] [] cs p q = q
rows_trans [] (b ∷ bb) cs p q = absurd p
rows_trans (a ∷ aa) [] cs p q = absurd p
rows_trans (a ∷ aa) (b ∷ bb) [] p q = absurd q
rows_trans (a ∷ aa) (b ∷ bb) (c ∷ cs) p q = (cell_trans a b c p.0 q.0, rows_trans aa bb cs p.1 q.1)

pub no_fault_kept : (aa bb : List Cell) → RowsKeep aa bb → HasNoFault aa → HasNoFault bb
no_fault_kept [] [] k h = tt
no_fault_kept [] (b ∷ bb) k h = absurd k
no_fault_kept (a ∷ aa) [] k h = absurd k
no_fault_kept (fault ∷ aa) (b ∷ bb) k h = absurd h
no_fault_kept (value v ∷ aa) (b ∷ bb) k h = rw k.0 (no_fault_kept aa bb k.1 h)

-- what the encodings' operations need

at_keep : (css dss : List (List Cell)) (k : ℕ) → AllKeep css dss → RowsKeep (cells_at css k) (cells_at dss k)
at_keep [] [] k h = tt
at_keep [] (d ∷ ds) k h = absurd h
at_keep (c ∷ cs) [] k h = absurd h
at_keep (c ∷ cs) (d ∷ ds) zero h = h.0
at_keep (c ∷ cs) (d ∷ ds) (suc k) h = at_keep cs ds k h.1

pub take_keep : (k : ℕ) (cs ds : List Cell) → RowsKeep cs ds → RowsKeep (take k cs) (take k ds)
take_keep zero cs ds h = tt
take_keep (suc k) [] [] h = tt
take_keep (suc k) [] (d ∷ ds) h = absurd h
take_keep (suc k) (c ∷ cs) [] h = absurd h
take_keep (suc k) (c ∷ cs) (d ∷ ds) h = (h.0, take_keep k cs ds h.1)

pub drop_keep : (k : ℕ) (cs ds : List Cell) → RowsKeep cs ds → RowsKeep (drop k cs) (drop k ds)
drop_keep zero cs ds h = h
drop_keep (suc k) [] [] h = tt
drop_keep (suc k) [] (d ∷ ds) h = absurd h
drop_keep (suc k) (c ∷ cs) [] h = absurd h
drop_keep (suc k) (c ∷ cs) (d ∷ ds) h = drop_keep k cs ds h.1

cell_keep : (i : ℕ) (cs ds : List Cell) → RowsKeep cs ds → CellKeeps (get_or cs i fault) (get_or ds i fault)
cell_keep i [] [] h = tt
cell_keep i [] (d ∷ ds) h = absurd h
cell_keep i (c ∷ cs) [] h = absurd h
cell_keep zero (c ∷ cs) (d ∷ ds) h = h.0
cell_keep (suc i) (c ∷ cs) (d ∷ ds) h = cell_keep i cs ds h.1

row_keep : (i : ℕ) (css dss : List (List Cell)) → AllKeep css dss → RowsKeep (row_at css i) (row_at dss i)
row_keep i [] [] h = tt
row_keep i [] (d ∷ ds) h = absurd h
row_keep i (c ∷ cs) [] h = absurd h
row_keep i (c ∷ cs) (d ∷ ds) h = (cell_keep i c d h.0, row_keep i cs ds h.1)

-- whatever the function
values_keep : (f : List Value → Cell) (cs ds : List Cell) → RowsKeep cs ds → CellKeeps (on_values f cs) (on_values f ds)
values_keep f [] [] h = cell_refl (f [])
values_keep f [] (d ∷ ds) h = absurd h
values_keep f (c ∷ cs) [] h = absurd h
values_keep f (value v ∷ cs) (d ∷ ds) h = rw h.0 (values_keep (λ vs. f (v ∷ vs)) cs ds h.1)
values_keep f (fault ∷ cs) (d ∷ ds) h = tt

map_keep : (f g : ℕ → Cell) (is : List ℕ) → ((i : ℕ) → CellKeeps (f i) (g i)) → RowsKeep (map f is) (map g is)
map_keep f g [] h = tt
map_keep f g (i ∷ is) h = (h i, map_keep f g is h)

-- of a mask
pub chosen_keep : (bits : List Bool) (cs ds : List Cell) → RowsKeep cs ds → RowsKeep (chosen bits cs) (chosen bits ds)
unfolding chosen
chosen_keep [] cs ds h = tt
chosen_keep (b ∷ bits) [] [] h = tt
chosen_keep (b ∷ bits) [] (d ∷ ds) h = absurd h
chosen_keep (b ∷ bits) (c ∷ cs) [] h = absurd h
chosen_keep (true ∷ bits) (c ∷ cs) (d ∷ ds) h = (h.0, chosen_keep bits cs ds h.1)
chosen_keep (false ∷ bits) (c ∷ cs) (d ∷ ds) h = chosen_keep bits cs ds h.1

-- of a validity
masked_cell_keep : (v c d : Cell) → CellKeeps c d → CellKeeps (valid_cell v c) (valid_cell v d)
masked_cell_keep (value (boolean true)) c d h = h
masked_cell_keep (value (boolean false)) (value x) d h = rw h refl
masked_cell_keep (value (boolean false)) fault d h = tt
masked_cell_keep _ c d h = tt

valid_cell_keep : (v w c d : Cell) → CellKeeps v w → CellKeeps c d → CellKeeps (valid_cell v c) (valid_cell w d)
valid_cell_keep (value v) w c d h k = rw h (masked_cell_keep (value v) c d k)
valid_cell_keep fault w c d h k = tt

valid_keep : (vs ws cs ds : List Cell) → RowsKeep vs ws → RowsKeep cs ds → RowsKeep (valid_cells vs cs) (valid_cells ws ds)
valid_keep [] [] cs ds h k = k
valid_keep [] (w ∷ ws) cs ds h k = absurd h
valid_keep (v ∷ vs) [] cs ds h k = absurd h
valid_keep (v ∷ vs) (w ∷ ws) [] [] h k = tt
valid_keep (v ∷ vs) (w ∷ ws) [] (d ∷ ds) h k = absurd k
valid_keep (v ∷ vs) (w ∷ ws) (c ∷ cs) [] h k = absurd k
valid_keep (v ∷ vs) (w ∷ ws) (c ∷ cs) (d ∷ ds) h k = (valid_cell_keep v w c d h.0 k.0, valid_keep vs ws cs ds h.1 k.1)

-- of a column's
column_keep : (css dss : List (List Cell)) (cs : List Cell) → AllKeep css dss → RowsKeep (valid_cells (cells_at css 0) cs) (valid_cells (cells_at dss 0) cs)
column_keep css dss cs h = valid_keep _ _ cs cs (at_keep css dss 0 h) (rows_refl cs)

-- of a test for null
shown_cell_keep : (c d : Cell) → CellKeeps c d → CellKeeps (shown_cell c) (shown_cell d)
shown_cell_keep (value v) d h = rw h (cell_refl (shown_cell (value v)))
shown_cell_keep fault d h = tt

shown_keep : (cs ds : List Cell) → RowsKeep cs ds → RowsKeep (map shown_cell cs) (map shown_cell ds)
shown_keep [] [] h = tt
shown_keep [] (d ∷ ds) h = absurd h
shown_keep (c ∷ cs) [] h = absurd h
shown_keep (c ∷ cs) (d ∷ ds) h = (shown_cell_keep c d h.0, shown_keep cs ds h.1)

-- of codes and values
taken_cell_keep : (vs ws : List Cell) (c d : Cell) → RowsKeep vs ws → CellKeeps c d → CellKeeps (taken vs c) (taken ws d)
taken_cell_keep vs ws (value (integer (pos k))) d h e = rw e (cell_keep k vs ws h)
taken_cell_keep vs ws (value null) d h e = rw e refl
taken_cell_keep vs ws _ d h e = tt

taken_keep : (cs ds vs ws : List Cell) → RowsKeep cs ds → RowsKeep vs ws → RowsKeep (taken_cells cs vs) (taken_cells ds ws)
taken_keep [] [] vs ws h k = tt
taken_keep [] (d ∷ ds) vs ws h k = absurd h
taken_keep (c ∷ cs) [] vs ws h k = absurd h
taken_keep (c ∷ cs) (d ∷ ds) vs ws h k = (taken_cell_keep vs ws c d k h.0, taken_keep cs ds vs ws h.1 k)

-- of chunks
append_keep : (aa bb cs ds : List Cell) → RowsKeep aa bb → RowsKeep cs ds → RowsKeep (aa ++ cs) (bb ++ ds)
append_keep [] [] cs ds h k = k
append_keep [] (b ∷ bb) cs ds h k = absurd h
append_keep (a ∷ aa) [] cs ds h k = absurd h
append_keep (a ∷ aa) (b ∷ bb) cs ds h k = (h.0, append_keep aa bb cs ds h.1 k)

chained_keep : (css dss : List (List Cell)) → AllKeep css dss → RowsKeep (chained css) (chained dss)
chained_keep [] [] h = tt
chained_keep [] (d ∷ ds) h = absurd h
chained_keep (c ∷ cs) [] h = absurd h
chained_keep (c ∷ cs) (d ∷ ds) h = append_keep c d (chained cs) (chained ds) h.0 (chained_keep cs ds h.1)

-- of pairs of indices
paired_cell_keep : (css dss : List (List Cell)) (i j k l : Cell) → AllKeep css dss → CellKeeps i j → CellKeeps k l → CellKeeps (paired css i k) (paired dss j l)
paired_cell_keep css dss (value (integer (pos i))) j (value (integer (pos k))) l h e f = rw (e, f) (cell_keep k _ _ (at_keep css dss i h))
paired_cell_keep css dss _ j _ l h e f = tt

paired_keep : (css dss : List (List Cell)) (is js ks ls : List Cell) → AllKeep css dss → RowsKeep is js → RowsKeep ks ls
    → RowsKeep (paired_cells css is ks) (paired_cells dss js ls)
paired_keep css dss [] [] ks ls h e f = tt
paired_keep css dss [] (j ∷ js) ks ls h e f = absurd e
paired_keep css dss (i ∷ is) [] ks ls h e f = absurd e
paired_keep css dss (i ∷ is) (j ∷ js) [] [] h e f = tt
paired_keep css dss (i ∷ is) (j ∷ js) [] (l ∷ ls) h e f = absurd f
paired_keep css dss (i ∷ is) (j ∷ js) (k ∷ ks) [] h e f = absurd f
paired_keep css dss (i ∷ is) (j ∷ js) (k ∷ ks) (l ∷ ls) h e f = (paired_cell_keep css dss i j k l h e.0 f.0, paired_keep css dss is js ks ls h e.1 f.1)

drop_all_keep : (k : ℕ) (css dss : List (List Cell)) → AllKeep css dss → AllKeep (drop k css) (drop k dss)
drop_all_keep zero css dss h = h
drop_all_keep (suc k) [] [] h = tt
drop_all_keep (suc k) [] (d ∷ ds) h = absurd h
drop_all_keep (suc k) (c ∷ cs) [] h = absurd h
drop_all_keep (suc k) (c ∷ cs) (d ∷ ds) h = drop_all_keep k cs ds h.1

-- of rows that are made of the slots' rows
heads_keep : (css dss : List (List Cell)) → AllKeep css dss → AllKeep (heads css) (heads dss)
heads_keep [] [] h = tt
heads_keep [] (d ∷ ds) h = absurd h
heads_keep (c ∷ cs) [] h = absurd h
heads_keep (c ∷ cs) (d ∷ ds) h = (take_keep 1 c d h.0, heads_keep cs ds h.1)

tails_keep : (css dss : List (List Cell)) → AllKeep css dss → AllKeep (tails css) (tails dss)
tails_keep [] [] h = tt
tails_keep [] (d ∷ ds) h = absurd h
tails_keep (c ∷ cs) [] h = absurd h
tails_keep (c ∷ cs) (d ∷ ds) h = (drop_keep 1 c d h.0, tails_keep cs ds h.1)

abbrev RowKeeps : (List (List Cell) → Cell) → Type 0
RowKeeps made = (css dss : List (List Cell)) → AllKeep css dss → CellKeeps (made css) (made dss)

made_keep : (made : List (List Cell) → Cell) → RowKeeps made → (n : ℕ) (css dss : List (List Cell)) → AllKeep css dss
    → RowsKeep (row_by_row made n css) (row_by_row made n dss)
made_keep made k zero css dss h = tt
made_keep made k (suc n) css dss h =
    (k (heads css) (heads dss) (heads_keep css dss h), made_keep made k n (tails css) (tails dss) (tails_keep css dss h))

-- of fields and a validity
one_kept : (v : Value) (ds : List Cell) → RowsKeep (value v ∷ []) ds → ds ≡ value v ∷ []
one_kept v [] h = absurd h
one_kept v (d ∷ []) h = ap (λ c. c ∷ []) h.0
one_kept v (d ∷ e ∷ ds) h = absurd h.1

with_field_keep : (cs ds : List Cell) (x y : Cell) → RowsKeep cs ds → CellKeeps x y → CellKeeps (with_field cs x) (with_field ds y)
with_field_keep (value v ∷ []) ds (value (fields vs)) y h k = λ i. with_field (one_kept v ds h i) (k i)
with_field_keep (value v ∷ []) ds (value null) y h k = λ i. with_field (one_kept v ds h i) (k i)
with_field_keep _ ds _ y h k = tt

without_fields_keep : (vs ws : List Cell) → RowsKeep vs ws → CellKeeps (without_fields vs) (without_fields ws)
without_fields_keep [] [] h = refl
without_fields_keep [] (w ∷ ws) h = absurd h
without_fields_keep (v ∷ vs) [] h = absurd h
without_fields_keep (v ∷ vs) (w ∷ ws) h = valid_cell_keep v w _ _ h.0 refl

struct_row_keep : RowKeeps struct_row
struct_row_keep [] dss h = tt
struct_row_keep (c ∷ css) [] h = absurd h
struct_row_keep (c ∷ []) (d ∷ []) h = without_fields_keep c d h.0
struct_row_keep (c ∷ []) (d ∷ e ∷ dss) h = absurd h.1
struct_row_keep (c ∷ b ∷ css) (d ∷ []) h = absurd h.1
struct_row_keep (c ∷ b ∷ css) (d ∷ e ∷ dss) h = with_field_keep c d _ _ h.0 (struct_row_keep (b ∷ css) (e ∷ dss) h.1)

-- of a storage
extension_row_keep : RowKeeps extension_row
extension_row_keep [] dss h = tt
extension_row_keep ([] ∷ css) dss h = tt
extension_row_keep ((c ∷ cs) ∷ css) [] h = absurd h
extension_row_keep ((c ∷ cs) ∷ css) ([] ∷ dss) h = absurd h.0
extension_row_keep ((c ∷ cs) ∷ css) ((d ∷ ds) ∷ dss) h = h.0.0

-- a line for each layout
layout_row_keep : (l : Layout) → RowKeeps (laid_out l).row
layout_row_keep layout.Struct = struct_row_keep
layout_row_keep layout.Extension = extension_row_keep

-- a node keeps what its slots keep: a line for each encoding, and one for those that hold their rows themselves
pub node_mono : (ty : DataType) (n : ℕ) (d : Data) (tys : List DataType) (css dss : List (List Cell)) → AllKeep css dss
    → RowsKeep (node_cells ty n d tys css) (node_cells ty n d tys dss)
node_mono ty n (enc.constant v) tys css dss h = rows_refl (replicate n (value v.value))
node_mono ty n (enc.slice a b) tys css dss h = take_keep (b - a) _ _ (drop_keep a _ _ (at_keep css dss 0 h))
node_mono ty n (enc.filter bits) tys css dss h = chosen_keep bits _ _ (at_keep css dss 0 h)
node_mono ty n enc.masked tys css dss h = valid_keep _ _ _ _ (at_keep css dss 1 h) (at_keep css dss 0 h)
node_mono ty n enc.is_valid tys css dss h = shown_keep _ _ (at_keep css dss 0 h)
node_mono ty n (enc.function f) tys css dss h =
    map_keep _ _ (range_with_len 0 n) (λ i. values_keep (value_of f tys ty) _ _ (row_keep i css dss h))
node_mono ty n enc.dict tys css dss h = taken_keep _ _ _ _ (at_keep css dss 0 h) (at_keep css dss 1 h)
node_mono ty n enc.chunked tys css dss h = chained_keep css dss h
node_mono ty n enc.interleave tys css dss h =
    paired_keep _ _ _ _ _ _ (drop_all_keep 2 css dss h) (at_keep css dss 0 h) (at_keep css dss 1 h)
node_mono ty n enc.nulls tys css dss h = rows_refl (replicate n (value null))
node_mono ty n (enc.composed l) tys css dss h = made_keep (laid_out l).row (layout_row_keep l) n css dss h
node_mono ty n _ tys css dss h = column_keep css dss _ h

-- the laws, whatever the encodings

pub keeps_refl : (t : Tree) → Keeps t t
keeps_refl t = record { same_type = refl; same_len = refl; same_rows = rows_refl (rows t); still_clean = λ h. h }

pub keeps_trans : (t u v : Tree) → Keeps t u → Keeps u v → Keeps t v
keeps_trans t u v p q =
    record {
      same_type = p.same_type ∙ q.same_type;
      same_len = p.same_len ∙ q.same_len;
      same_rows = rows_trans _ _ _ p.same_rows q.same_rows;
      still_clean = λ h. q.still_clean (p.still_clean h);
    }

all_refl : (ss : List (List Cell)) → AllKeep ss ss
all_refl [] = tt
all_refl (c ∷ cs) = (rows_refl c, all_refl cs)

put_rows : (i : ℕ) (t u : Tree) (ss : Slots) → Keeps t u → AllKeep (slots_rows (set_slot i t ss)) (slots_rows (set_slot i u ss))
put_rows i t u no_slots h = tt
put_rows zero t u (absent ss) h = (h.same_rows, all_refl (slots_rows ss))
put_rows zero t u (slot s ss) h = (h.same_rows, all_refl (slots_rows ss))
put_rows (suc i) t u (absent ss) h = (tt, put_rows i t u ss h)
put_rows (suc i) t u (slot s ss) h = (rows_refl (rows s), put_rows i t u ss h)

put_clean : (i : ℕ) (t u : Tree) (ss : Slots) → Keeps t u → AreClean (set_slot i t ss) → AreClean (set_slot i u ss)
put_clean i t u no_slots h c = tt
put_clean zero t u (absent ss) h c = (h.still_clean c.0, c.1)
put_clean zero t u (slot s ss) h c = (h.still_clean c.0, c.1)
put_clean (suc i) t u (absent ss) h c = put_clean i t u ss h c
put_clean (suc i) t u (slot s ss) h c = (c.0, put_clean i t u ss h c.1)

-- trees of one type leave the types of the slots as they are
pub put_types : (i : ℕ) (t u : Tree) (ss : Slots) → dtype t ≡ dtype u → types_in (shapes (set_slot i t ss)) ≡ types_in (shapes (set_slot i u ss))
put_types i t u no_slots e = refl
put_types zero t u (absent ss) e = ap (λ ty. ty ∷ types_in (shapes ss)) e
put_types zero t u (slot s ss) e = ap (λ ty. ty ∷ types_in (shapes ss)) e
put_types (suc i) t u (absent ss) e = put_types i t u ss e
put_types (suc i) t u (slot s ss) e = ap (λ tys. dtype s ∷ tys) (put_types i t u ss e)

pub put_keeps : (i : ℕ) (t u p : Tree) → Keeps t u → Keeps (put i t p) (put i u p)
put_keeps i t u (node ty n d ss) h =
    let r : RowsKeep (rows (put i t (node ty n d ss))) (rows (put i u (node ty n d ss))) =
    subst (λ tys. RowsKeep (rows (put i t (node ty n d ss))) (node_cells ty n d tys (slots_rows (set_slot i u ss)))) (put_types i t u ss h.same_type)
    (node_mono ty n d _ _ _ (put_rows i t u ss h)) in
    record { same_type = refl; same_len = refl; same_rows = r; still_clean = λ c. (no_fault_kept _ _ r c.0, put_clean i t u ss h c.1) }

equal_in_slots : (i : ℕ) (t u : Tree) (ss : Slots) → rows t ≡ rows u → slots_rows (set_slot i t ss) ≡ slots_rows (set_slot i u ss)
equal_in_slots i t u no_slots h = refl
equal_in_slots zero t u (absent ss) h = ap (λ c. c ∷ slots_rows ss) h
equal_in_slots zero t u (slot s ss) h = ap (λ c. c ∷ slots_rows ss) h
equal_in_slots (suc i) t u (absent ss) h = ap (λ css. [] ∷ css) (equal_in_slots i t u ss h)
equal_in_slots (suc i) t u (slot s ss) h = ap (λ css. rows s ∷ css) (equal_in_slots i t u ss h)

put_equal : (i : ℕ) (t u p : Tree) → dtype t ≡ dtype u → rows t ≡ rows u → rows (put i t p) ≡ rows (put i u p)
put_equal i t u (node ty n d ss) e h = λ j. node_cells ty n d (put_types i t u ss e j) (equal_in_slots i t u ss h j)

pub exactly_refl : (t : Tree) → KeepsExactly t t
exactly_refl t = record { keeps = keeps_refl t; equal = refl }

pub exactly_trans : (t u v : Tree) → KeepsExactly t u → KeepsExactly u v → KeepsExactly t v
exactly_trans t u v p q = record { keeps = keeps_trans t u v p.keeps q.keeps; equal = p.equal ∙ q.equal }

pub put_exactly : (i : ℕ) (t u p : Tree) → KeepsExactly t u → KeepsExactly (put i t p) (put i u p)
put_exactly i t u p h = record { keeps = put_keeps i t u p h.keeps; equal = put_equal i t u p h.keeps.same_type h.equal }

-- columns of the same type, length and rows keep each other exactly
pub exactly_of_rows : (ty : DataType) (n : ℕ) (d e : Data) (ss ts : Slots) →
    node_cells ty n d (types_in (shapes ss)) (slots_rows ss) ≡ node_cells ty n e (types_in (shapes ts)) (slots_rows ts) → (AreClean ss → AreClean ts) → KeepsExactly (node ty n d ss) (node ty n e ts)
exactly_of_rows ty n d e ss ts r c = record {
  keeps = record { same_type = refl; same_len = refl; same_rows = rows_equal _ _ r; still_clean = λ h. (subst HasNoFault r h.0, c h.1) };
  equal = r;
}

-- a tree without faults stands exactly for each tree of its type, length and rows
pub column_exactly : (t u : Tree) → dtype t ≡ dtype u → len t ≡ len u → rows t ≡ rows u → IsClean u → KeepsExactly t u
column_exactly t u typed counted shown clean = record {
  keeps = record { same_type = typed; same_len = counted; same_rows = rows_equal _ _ shown; still_clean = λ c. clean };
  equal = shown;
}

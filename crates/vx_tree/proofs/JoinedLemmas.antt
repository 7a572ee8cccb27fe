-- Rows that are null where either of two validities says so.
use Rattle.std.proofs.Common.{◌≡◌, ℕ, zero, suc, ◌+◌, List, [], ◌∷◌, length, map, replicate, get_or, Bool, true, false, ◌&&◌, Some, None, refl, sym, ap, subst, ◌∙◌, arith}
use Rattle.std.specs.Prelude.{option_map}
use Rattle.std.specs.Cmp.{unsigned_Decides}
use Rattle.std.specs.List.{range_with_len}
use Rattle.std.proofs.lemmas.List.{length-replicate}
use Rattle.vx_value.specs.Types as type
use Rattle.vx_value.specs.Values.{null, boolean}
use Rattle.vx_value.specs.Cell.{Cell, value, fault}
use Rattle.vx_value.specs.declared.dtype.Nullability.TheVariants.{NonNullable, Nullable}
use Rattle.vx_fn.specs.Apply.{apply}
use Rattle.vx_fn.specs.ReturnTypes.{return_type}
use Rattle.vx_fn.specs.declared.function.Operator.TheVariants.{And}
use Rattle.vx_fn.specs.declared.function.ScalarFnRef.TheVariants.{Binary}
use Rattle.vx_tree.specs.Tree.{Tree, dtype, len, call_of}
use Rattle.vx_tree.specs.Well.{shape}
use Rattle.vx_tree.specs.Cells.{rows, valid_cell, valid_cells, shown_cell, HasNoFault}
use Rattle.vx_tree.specs.Keeps.{CellKeeps, RowsKeep}
use Rattle.vx_tree.specs.Calls.{call_refusal, called, row_refusal}
use Rattle.vx_tree.specs.Validities.{nullability_by, valid_rows, HasRows}
use Rattle.vx_tree.specs.NodeValidities.{both_of, joined, IsCleanValidity}
use Rattle.vx_tree.specs.declared.validity.Validity.{Validity}
use Rattle.vx_tree.specs.declared.validity.Validity.TheVariants as validity
use Rattle.vx_tree.proofs.CellsLemmas.{rows_counted}
use Rattle.vx_tree.proofs.ConditionsLemmas.{none_refused, none_unless}
use Rattle.vx_tree.proofs.ValiditiesLemmas.{whole}

-- ---- the conjunction of two trees of booleans

module _ (t u : Tree) (n : ℕ) (first : HasRows (validity.Array t) n) (second : HasRows (validity.Array u) n) where
  returned : return_type (Binary And) (map dtype (t ∷ u ∷ [])) ≡ Some (type.bool NonNullable)
  returned = λ i. return_type (Binary And) (first.1 i ∷ second.1 i ∷ [])

  pub and_taken : call_refusal (Binary And) (t ∷ u ∷ []) n ≡ None
  and_taken =
      none_refused _ _ refl
      (none_refused _ _ (none_unless _ _ (λ i. (unsigned_Decides (len t) n).1 first.2 i && ((unsigned_Decides (len u) n).1 second.2 i && true)))
      (ap row_refusal returned))

  pub and_made : called (Binary And) (t ∷ u ∷ []) n ≡ Some (both_of n t u)
  and_made = ap (option_map (λ ty. call_of (Binary And) ty n (t ∷ u ∷ []))) returned

  and_sized : HasRows (validity.Array (both_of n t u)) n
  and_sized = (
    ((dtype t ∷ dtype u ∷ [], (λ i. Some (shape (dtype t) (first.2 i)) ∷ Some (shape (dtype u) (second.2 i)) ∷ []), returned), (first.0, (second.0, tt))),
    refl,
    refl,
  )

abbrev pub and_cell : Cell → Cell → Cell
and_cell c d = apply (Binary And) (type.bool NonNullable ∷ type.bool NonNullable ∷ []) (type.bool NonNullable) (c ∷ d ∷ [])

abbrev pub and_cells : List Cell → List Cell → List Cell
and_cells [] ds = []
and_cells (c ∷ cs) [] = []
and_cells (c ∷ cs) (d ∷ ds) = and_cell c d ∷ and_cells cs ds

and_from : (s : ℕ) (cs ds : List Cell) (f : ℕ → Cell) → length cs ≡ length ds → ((i : ℕ) → f (s + i) ≡ and_cell (get_or cs i fault) (get_or ds i fault))
    → map f (range_with_len s (length cs)) ≡ and_cells cs ds
and_from s [] ds f long h = refl
and_from s (c ∷ cs) [] f long h = absurd (omega arith)
and_from s (c ∷ cs) (d ∷ ds) f long h =
    let here : s ≡ s + 0 = omega arith in
    let first : f s ≡ and_cell c d = ap f here ∙ h 0 in
    let later : (i : ℕ) → s + 1 + i ≡ s + suc i = λ i. omega arith in
    λ j. first j ∷ and_from (s + 1) cs ds f (omega arith) (λ i. ap f (later i) ∙ h (suc i)) j

pub and_rows : (t u : Tree) (n : ℕ) → length (rows t) ≡ n → length (rows u) ≡ n → rows (both_of n t u) ≡ and_cells (rows t) (rows u)
and_rows t u n first second =
    let f = λ (i : ℕ). and_cell (get_or (rows t) i fault) (get_or (rows u) i fault) in
    ap (λ k. map f (range_with_len 0 k)) (sym first) ∙ and_from 0 (rows t) (rows u) f (first ∙ sym second) (λ i. ap f (omega arith))

pub and_clean : (cs ds : List Cell) → HasNoFault cs → HasNoFault ds → HasNoFault (and_cells cs ds)
and_clean [] ds h k = tt
and_clean (c ∷ cs) [] h k = tt
and_clean (value v ∷ cs) (value w ∷ ds) h k = and_clean cs ds h k
and_clean (value v ∷ cs) (fault ∷ ds) h k = absurd k
and_clean (fault ∷ cs) (d ∷ ds) h k = absurd h

-- ---- rows that are null where either validity says so, as far as none is a fault

and_shown : (v c w : Cell) → CellKeeps (shown_cell c) w → CellKeeps (shown_cell (valid_cell v c)) (and_cell v w)
and_shown (value (boolean true)) (value null) w h = ap (and_cell (value (boolean true))) h
and_shown (value (boolean true)) (value _) w h = ap (and_cell (value (boolean true))) h
and_shown (value (boolean false)) (value null) w h = ap (and_cell (value (boolean false))) h
and_shown (value (boolean false)) (value _) w h = ap (and_cell (value (boolean false))) h
and_shown (value (boolean b)) fault w h = by_truth b
  where
    by_truth : (b : Bool) → CellKeeps (shown_cell (valid_cell (value (boolean b)) fault)) (and_cell (value (boolean b)) w)
    by_truth true = tt
    by_truth false = tt
and_shown _ c w h = tt

and_told : (vs cs ws : List Cell) → length vs ≡ length cs → RowsKeep (map shown_cell cs) ws → RowsKeep (map shown_cell (valid_cells vs cs)) (and_cells vs ws)
and_told [] [] ws e h = tt
and_told [] (c ∷ cs) ws e h = absurd (omega arith)
and_told (v ∷ vs) [] ws e h = absurd (omega arith)
and_told (v ∷ vs) (c ∷ cs) [] e h = absurd h
and_told (v ∷ vs) (c ∷ cs) (w ∷ ws) e h = (and_shown v c w h.0, and_told vs cs ws (omega arith) h.1)

-- by a validity, of rows that aren't null
own_shown : (v c : Cell) → CellKeeps (shown_cell c) (value (boolean true)) → CellKeeps (shown_cell (valid_cell v c)) v
own_shown (value (boolean true)) c h = h
own_shown (value (boolean false)) (value x) h = refl
own_shown (value (boolean false)) fault h = tt
own_shown _ c h = tt

pub own_told : (vs cs : List Cell) → length vs ≡ length cs → RowsKeep (map shown_cell cs) (replicate (length cs) (value (boolean true)))
    → RowsKeep (map shown_cell (valid_cells vs cs)) vs
own_told [] [] e h = tt
own_told [] (c ∷ cs) e h = absurd (omega arith)
own_told (v ∷ vs) [] e h = absurd (omega arith)
own_told (v ∷ vs) (c ∷ cs) e h = (own_shown v c h.0, own_told vs cs (omega arith) h.1)

-- of rows that are all null
null_shown : (v c : Cell) → CellKeeps (shown_cell c) (value (boolean false)) → CellKeeps (shown_cell (valid_cell v c)) (value (boolean false))
null_shown (value (boolean true)) c h = h
null_shown (value (boolean false)) (value x) h = refl
null_shown (value (boolean false)) fault h = tt
null_shown _ c h = tt

null_told : (vs cs : List Cell) → length vs ≡ length cs → RowsKeep (map shown_cell cs) (replicate (length cs) (value (boolean false)))
    → RowsKeep (map shown_cell (valid_cells vs cs)) (replicate (length cs) (value (boolean false)))
null_told [] [] e h = tt
null_told [] (c ∷ cs) e h = absurd (omega arith)
null_told (v ∷ vs) [] e h = absurd (omega arith)
null_told (v ∷ vs) (c ∷ cs) e h = (null_shown v c h.0, null_told vs cs (omega arith) h.1)

-- by one that makes all null, and by one that makes none
none_told : (cs : List Cell) → RowsKeep (map shown_cell (valid_cells (replicate (length cs) (value (boolean false))) cs))
    (replicate (length cs) (value (boolean false)))
none_told [] = tt
none_told (value x ∷ cs) = (refl, none_told cs)
none_told (fault ∷ cs) = (tt, none_told cs)

pub all_valid : (n : ℕ) (cs : List Cell) → length cs ≡ n → valid_cells (replicate n (value (boolean true))) cs ≡ cs
all_valid zero cs e = refl
all_valid (suc n) [] e = refl
all_valid (suc n) (c ∷ cs) e = ap (λ l. c ∷ l) (all_valid n cs (omega arith))

-- ---- what a validity says

pub cells_sized : (v : Validity) (n : ℕ) → HasRows v n → length (valid_rows v n) ≡ n
cells_sized validity.NonNullable n h = length-replicate n (value (boolean true))
cells_sized validity.AllValid n h = length-replicate n (value (boolean true))
cells_sized validity.AllInvalid n h = length-replicate n (value (boolean false))
cells_sized (validity.Array t) n h = rows_counted t h.0 ∙ h.2

pub joined_sized : (n : ℕ) (v w : Validity) → HasRows v n → HasRows w n → HasRows (joined n v w) n
joined_sized n validity.AllInvalid w h k = tt
joined_sized n (validity.Array t) validity.AllInvalid h k = tt
joined_sized n (validity.Array t) (validity.Array u) h k = and_sized t u n h k
joined_sized n (validity.Array t) _ h k = h
joined_sized n _ validity.AllInvalid h k = tt
joined_sized n _ (validity.Array u) h k = k
joined_sized n _ _ h k = tt

pub joined_nullable : (n : ℕ) (v w : Validity) → nullability_by (joined n v w) ≡ Nullable
joined_nullable n validity.AllInvalid w = refl
joined_nullable n (validity.Array t) validity.AllInvalid = refl
joined_nullable n (validity.Array t) (validity.Array u) = refl
joined_nullable n (validity.Array t) _ = refl
joined_nullable n _ validity.AllInvalid = refl
joined_nullable n _ (validity.Array u) = refl
joined_nullable n _ _ = refl

pub joined_clean : (n : ℕ) (v w : Validity) → HasRows v n → HasRows w n → IsCleanValidity v → IsCleanValidity w → IsCleanValidity (joined n v w)
joined_clean n validity.AllInvalid w h k c d = tt
joined_clean n (validity.Array t) validity.AllInvalid h k c d = tt
joined_clean n (validity.Array t) (validity.Array u) h k c d =
    let cells = and_rows t u n (rows_counted t h.0 ∙ h.2) (rows_counted u k.0 ∙ k.2) in
    (subst HasNoFault (sym cells) (and_clean (rows t) (rows u) (whole t c) (whole u d)), (c, (d, tt)))
joined_clean n (validity.Array t) _ h k c d = c
joined_clean n _ validity.AllInvalid h k c d = tt
joined_clean n _ (validity.Array u) h k c d = d
joined_clean n _ _ h k c d = tt

joined_valid : (w : Validity) (n : ℕ) → valid_rows (joined n validity.AllValid w) n ≡ valid_rows w n
joined_valid validity.AllInvalid n = refl
joined_valid (validity.Array u) n = refl
joined_valid _ n = refl

pub joined_told : (v w : Validity) (cs : List Cell) → nullability_by v ≡ Nullable → HasRows v (length cs) → HasRows w (length cs)
    → RowsKeep (map shown_cell cs) (valid_rows w (length cs))
    → RowsKeep (map shown_cell (valid_cells (valid_rows v (length cs)) cs)) (valid_rows (joined (length cs) v w) (length cs))
joined_told validity.NonNullable w cs m h k e = absurd (cc)
joined_told validity.AllInvalid w cs m h k e = none_told cs
joined_told validity.AllValid w cs m h k e =
    let told = subst (RowsKeep (map shown_cell cs)) (sym (joined_valid w (length cs))) e in
    subst (λ x. RowsKeep (map shown_cell x) (valid_rows (joined (length cs) validity.AllValid w) (length cs))) (sym (all_valid (length cs) cs refl)) told
joined_told (validity.Array t) validity.AllInvalid cs m h k e = null_told (rows t) cs (rows_counted t h.0 ∙ h.2) e
joined_told (validity.Array t) (validity.Array u) cs m h k e =
    let first : length (rows t) ≡ length cs = rows_counted t h.0 ∙ h.2 in
    let second : length (rows u) ≡ length cs = rows_counted u k.0 ∙ k.2 in
    subst (RowsKeep (map shown_cell (valid_cells (rows t) cs))) (sym (and_rows t u (length cs) first second)) (and_told (rows t) cs (rows u) first e)
joined_told (validity.Array t) _ cs m h k e = own_told (rows t) cs (rows_counted t h.0 ∙ h.2) e

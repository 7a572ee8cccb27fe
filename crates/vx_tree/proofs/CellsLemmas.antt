-- A well-formed tree has a cell for each row; and rows without a fault.
use Rattle.std.proofs.Common.{ℤ, ◌≡◌, ℕ, zero, suc, ◌-◌, ◌≤◌, Bool, List, [], ◌∷◌, length, map, take, drop, slice_get, Option, Some, None}
use Rattle.std.proofs.Common.{refl, sym, ap, ◌∙◌, subst, arith, length-drop}
use Rattle.std.specs.Prelude.{sum}
use Rattle.std.proofs.lemmas.List.Sums.{sum_by-cons}
use Rattle.std.proofs.lemmas.List.{length-append, length-take, length-map, length-replicate}
use Rattle.std.proofs.lemmas.List.FromFn.{length-map-range_with_len}
use Rattle.vx_value.specs.Types.{DataType, bool, primitive, nullability_of}
use Rattle.vx_value.specs.declared.dtype.Nullability.{Nullability}
use Rattle.vx_value.specs.declared.dtype.Nullability.TheVariants.{NonNullable, Nullable}
use Rattle.vx_value.specs.Values.{null, boolean, integer, bytes, decimal}
use Rattle.vx_value.specs.Storage.{storage_of}
use Rattle.vx_tree.specs.ColumnTypes.{bytes_type, scale_of, decimal_type}
use Rattle.vx_tree.specs.Tree as enc
use Rattle.vx_tree.specs.Tree.{Tree, Data, Slots, node, no_slots, absent, slot, len, types_in, laid_out}
use Rattle.vx_value.specs.Cell.{Cell, value, fault}
use Rattle.vx_mask.specs.Places.{true_count, chosen}
use Rattle.vx_mask.proofs.PlacesLemmas.{length-chosen}
use Rattle.vx_fn.specs.Apply.{apply}
use Rattle.vx_tree.specs.Lookups.{taken, paired_cells}
use Rattle.vx_tree.specs.SlotTypes.{of_lengths}
use Rattle.vx_tree.specs.Cells.{chained, row_at, rows, slots_rows, node_cells, cells_at, shown_cell, valid_cells, HasNoFault}
use Rattle.vx_tree.specs.Views.{bytes_at}
use Rattle.vx_tree.specs.declared.views.view.View.{View}
use Rattle.vx_tree.specs.Well.{Shape, shape, shapes, IsValidity, IsFlat, IsNode, IsWell, AreWell}
use Rattle.vx_tree.proofs.LayoutsLemmas.{made_counted}

-- of each slot that holds a tree, as many cells as it has rows; of one that doesn't, none
abbrev AreCounted : List (List Cell) → List (Option Shape) → Type 0
AreCounted [] [] = Unit {0}
AreCounted [] (s ∷ ss) = ⊥
AreCounted (cs ∷ css) [] = ⊥
AreCounted (cs ∷ css) (None ∷ ss) = (cs ≡ []) × AreCounted css ss
AreCounted (cs ∷ css) (Some (shape ty m) ∷ ss) = (length cs ≡ m) × AreCounted css ss

one_counted : (css : List (List Cell)) (ty : DataType) (m : ℕ) → AreCounted css (Some (shape ty m) ∷ []) → length (cells_at css 0) ≡ m
one_counted [] ty m h = absurd h
one_counted (cs ∷ css) ty m h = h.0

cut_counted : (a b m : ℕ) (cs : List Cell) → length cs ≡ m → a ≤ b → b ≤ m → length (take (b - a) (drop a cs)) ≡ b - a
cut_counted a b m cs e h k = simp (length-take, length-drop) (omega arith)

-- the rows of the one slot from a to b
part_counted : (ty : DataType) (n a b : ℕ) (css : List (List Cell)) (ss : List (Option Shape)) →
    (m : ℕ) × (ss ≡ Some (shape ty m) ∷ []) × (a ≤ b) × (b ≤ m) × (n ≡ b - a) → AreCounted css ss → length (take (b - a) (drop a (cells_at css 0))) ≡ n
part_counted ty n a b css ss h k =
    cut_counted a b h.0 (cells_at css 0) (one_counted css ty h.0 (subst (AreCounted css) h.1 k)) h.2 h.3 ∙ sym h.4

-- the values of a column, by its validity
valid_counted : (vs cs : List Cell) → length vs ≡ length cs → length (valid_cells vs cs) ≡ length cs
valid_counted [] cs h = refl
valid_counted (v ∷ vs) [] h = absurd (omega arith)
valid_counted (v ∷ vs) (c ∷ cs) h = ap suc (valid_counted vs cs (omega arith))

by_validity : (m : Nullability) (n : ℕ) (v : Option Shape) (css : List (List Cell)) (cs : List Cell) → IsValidity m n v → AreCounted css (v ∷ [])
    → length cs ≡ n
    → length (valid_cells (cells_at css 0) cs) ≡ n
by_validity m n v [] cs h k e = absurd (none v k)
  where
    none : (v : Option Shape) → AreCounted [] (v ∷ []) → ⊥
    none v k = k
by_validity m n None (vs ∷ css) cs h k e = ap (λ l. length (valid_cells l cs)) k.0 ∙ e
by_validity NonNullable n (Some s) (vs ∷ css) cs h k e = absurd h
by_validity Nullable n (Some s) (vs ∷ css) cs h k e =
    let counted : length vs ≡ n = (subst (λ x. AreCounted (vs ∷ css) (Some x ∷ [])) h k).0 in
    valid_counted vs cs (counted ∙ sym e) ∙ e

flat_counted : (of_type : DataType) (k : ℕ) (ty : DataType) (n : ℕ) (css : List (List Cell)) (ss : List (Option Shape)) (cs : List Cell) →
    IsFlat of_type k ty n ss → AreCounted css ss → length cs ≡ k → length (valid_cells (cells_at css 0) cs) ≡ n
flat_counted of_type k ty n css ss cs h c e = by_validity (nullability_of ty) n h.0 css cs h.4 (subst (AreCounted css) h.3 c) (e ∙ sym h.2)

-- the chosen rows of the one slot
choice_counted : (ty : DataType) (n : ℕ) (bits : List Bool) (css : List (List Cell)) (ss : List (Option Shape)) →
    (ss ≡ Some (shape ty (length bits)) ∷ []) × (n ≡ true_count bits) → AreCounted css ss → length (chosen bits (cells_at css 0)) ≡ n
choice_counted ty n bits css ss h k =
    let counted : length (cells_at css 0) ≡ length bits = one_counted css ty (length bits) (subst (AreCounted css) h.0 k) in
    length-chosen bits (cells_at css 0) (omega (arith, counted)) ∙ sym h.1

-- the rows of the first slot, by the validity in the second
mask_counted : (s : DataType) (n : ℕ) (v : Option Shape) (css : List (List Cell)) → IsValidity Nullable n v → AreCounted css (Some (shape s n) ∷ v ∷ [])
    → length (valid_cells (cells_at css 1) (cells_at css 0)) ≡ n
mask_counted s n v [] h k = absurd k
mask_counted s n v (cs ∷ vss) h k = by_validity Nullable n v vss cs h k.1 k.0

-- the first of several slots
head_counted : (css : List (List Cell)) (ty : DataType) (m : ℕ) (ss : List (Option Shape)) → AreCounted css (Some (shape ty m) ∷ ss) → length (cells_at css 0) ≡ m
head_counted [] ty m ss h = absurd h
head_counted (cs ∷ css) ty m ss h = h.0

next_counted : (css : List (List Cell)) (s ty : DataType) (m n : ℕ) (ss : List (Option Shape))
    → AreCounted css (Some (shape s m) ∷ Some (shape ty n) ∷ ss) → length (cells_at css 1) ≡ n
next_counted [] s ty m n ss h = absurd h
next_counted (cs ∷ css) s ty m n ss h = head_counted css ty n ss h.1

-- the rows of chunks
chunks_counted : (css : List (List Cell)) (ty : DataType) (ms : List ℕ) → AreCounted css (of_lengths ty ms) → length (chained css) ≡ sum ms
chunks_counted [] ty [] h = refl
chunks_counted [] ty (m ∷ ms) h = absurd h
chunks_counted (cs ∷ css) ty [] h = absurd h
chunks_counted (cs ∷ css) ty (m ∷ ms) h =
    omega (arith, length-append cs (chained css), h.0, chunks_counted css ty ms h.1, sum_by-cons (λ x. x) m ms)

-- the rows that pairs of indices name
pairs_counted : (css : List (List Cell)) (is ks : List Cell) (n : ℕ) → length is ≡ n → length ks ≡ n → length (paired_cells css is ks) ≡ n
pairs_counted css [] ks n h k = h
pairs_counted css (i ∷ is) [] n h k = absurd (omega (arith, h, k))
pairs_counted css (i ∷ is) (j ∷ ks) zero h k = absurd (omega (arith, h))
pairs_counted css (i ∷ is) (j ∷ ks) (suc n) h k = ap suc (pairs_counted css is ks n (omega (arith, h)) (omega (arith, k)))

-- a line for each encoding
node_counted : (ty : DataType) (n : ℕ) (d : Data) (css : List (List Cell)) (ss : List (Option Shape)) →
    IsNode ty n d ss → AreCounted css ss → length (node_cells ty n d (types_in ss) css) ≡ n
node_counted ty n (enc.constant v) css ss h k = length-replicate n (value v.value)
node_counted ty n (enc.slice a b) css ss h k = part_counted ty n a b css ss h k
node_counted ty n (enc.filter bits) css ss h k = choice_counted ty n bits css ss h k
node_counted ty n enc.masked css ss h k = mask_counted h.0 n h.1 css h.4 (subst (AreCounted css) h.2 k)
node_counted ty n enc.is_valid css ss h k = length-map (cells_at css 0) shown_cell ∙ one_counted css h.0 n (subst (AreCounted css) h.1 k)
node_counted ty n (enc.function f) css ss h k = length-map-range_with_len (λ i. apply f (types_in ss) ty (row_at css i)) 0 n
node_counted ty n enc.dict css ss h k =
    length-map (cells_at css 0) (taken (cells_at css 1)) ∙ head_counted css h.0 n (Some (shape h.1 h.2) ∷ []) (subst (AreCounted css) h.3 k)
node_counted ty n enc.chunked css ss h k = chunks_counted css ty h.0 (subst (AreCounted css) h.1 k) ∙ sym h.2
node_counted ty n enc.interleave css ss h k =
    let more = of_lengths ty (h.2 ∷ h.3) in
    let counted = subst (AreCounted css) h.4 k in
    pairs_counted (drop 2 css) (cells_at css 0) (cells_at css 1) n (head_counted css h.0 n (Some (shape h.1 n) ∷ more) counted)
    (next_counted css h.0 h.1 n n more counted)
node_counted ty n enc.nulls css ss h k = length-replicate n (value null)
node_counted ty n (enc.bool bs) css ss h k = flat_counted (bool NonNullable) _ ty n css ss (map (λ b. value (boolean b)) bs) h k
    (length-map bs (λ b. value (boolean b)))
node_counted ty n (enc.primitive p zs) css ss h k = flat_counted (primitive p NonNullable) _ ty n css ss (map (λ z. value (integer z)) zs) h k
    (length-map zs (λ z. value (integer z)))
node_counted ty n (enc.decimals w zs) css ss h k =
    let cell : ℤ → Cell = λ z. value (decimal z (scale_of (storage_of ty))) in
    flat_counted (decimal_type (storage_of ty)) _ ty n css ss (map cell zs) h.0 k (length-map zs cell)
node_counted ty n (enc.views rs) css ss h k =
    let cell : View → Cell = λ v. value (bytes (bytes_at rs.buffers v)) in
    flat_counted (bytes_type (storage_of ty)) _ ty n css ss (map cell rs.views) h.0 k (length-map rs.views cell)
node_counted ty n (enc.composed l) css ss h k = made_counted (laid_out l).row n css

mutual
  pub rows_counted : (t : Tree) → IsWell t → length (rows t) ≡ len t
  rows_counted (node ty n d ss) w = node_counted ty n d (slots_rows ss) (shapes ss) w.0 (slots_counted ss w.1)

  slots_counted : (ss : Slots) → AreWell ss → AreCounted (slots_rows ss) (shapes ss)
  slots_counted no_slots w = tt
  slots_counted (absent ss) w = (refl, slots_counted ss w)
  slots_counted (slot t ss) w = (rows_counted t w.0, slots_counted ss w.1)

-- where there is no fault, no row is one
pub no_fault_at : (cs : List Cell) (i : ℕ) → HasNoFault cs → slice_get cs i ≡ Some fault → ⊥
no_fault_at [] i h e = absurd (cc)
no_fault_at (value v ∷ cs) zero h e = absurd (cc)
no_fault_at (value v ∷ cs) (suc i) h e = no_fault_at cs i h e
no_fault_at (fault ∷ cs) i h e = h

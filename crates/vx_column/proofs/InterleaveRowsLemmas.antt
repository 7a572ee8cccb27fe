-- Rows of interleaved arrays.
use Rattle.std.proofs.Common.{◌≡◌, ℕ, zero, suc, ◌-◌, ◌<◌, ◌≤◌, pos, List, [], ◌∷◌, length, get_or, take, drop, Option, Some, None, refl, sym, ap, subst, ◌∙◌, arith}
use Rattle.std.specs.Prelude.{slice_get}
use Rattle.std.proofs.lemmas.List.{get_or_past, take_all}
use Rattle.std.proofs.lemmas.Option.{slice_get-get_or}
use Rattle.vx_value.specs.Types.{DataType}
use Rattle.vx_value.specs.Typed.{Typed}
use Rattle.vx_value.specs.Values.{Value, integer}
use Rattle.vx_value.specs.Cell.{Cell, value, fault}
use Rattle.vx_value.specs.Parts.{integer_in}
use Rattle.vx_tree.specs.Tree as enc
use Rattle.vx_tree.specs.Tree.{Tree, node, slots_of, dtype, len, height, slots_height}
use Rattle.vx_tree.specs.Cells.{cells_at, rows, slots_rows}
use Rattle.vx_tree.specs.Lookups.{paired, paired_cells}
use Rattle.vx_tree.specs.SlotTypes.{of_lengths, missing_refusal}
use Rattle.vx_tree.specs.Well.{shape, shape_of, shapes, IsNode}
use Rattle.vx_tree.proofs.SlotTypesLemmas.{none_missing}
use Rattle.vx_tree.proofs.SlotsLemmas.{count_slots}
use Rattle.vx_column.specs.Read.{IsRow}

-- ---- a pair of cells

pair_get : (css : List (List Cell)) (is ks : List Cell) (n : ℕ) (a b : Cell) → slice_get is n ≡ Some a → slice_get ks n ≡ Some b
    → slice_get (paired_cells css is ks) n ≡ Some (paired css a b)
pair_get css [] ks n a b h k = absurd (cc)
pair_get css (i ∷ is) [] n a b h k = absurd (cc)
pair_get css (i ∷ is) (k ∷ ks) zero a b h g =
    let left : i ≡ a = cc in
    let right : k ≡ b = cc in
    λ j. Some (paired css (left j) (right j))
pair_get css (i ∷ is) (k ∷ ks) (suc n) a b h g = pair_get css is ks n a b h g

-- an index that is a fault
second_fault : (css : List (List Cell)) (a : Cell) → paired css a fault ≡ fault
second_fault css (value (integer (pos i))) = refl
second_fault css _ = refl

pair_first : (css : List (List Cell)) (is ks : List Cell) (n : ℕ) → n < length (paired_cells css is ks) → slice_get is n ≡ Some fault
    → slice_get (paired_cells css is ks) n ≡ Some fault
pair_first css [] ks n lt h = absurd (cc)
pair_first css (i ∷ is) [] n lt h = absurd (omega arith)
pair_first css (i ∷ is) (k ∷ ks) zero lt h = let same : i ≡ fault = cc in ap (λ c. Some (paired css c k)) same
pair_first css (i ∷ is) (k ∷ ks) (suc n) lt h = pair_first css is ks n (omega arith) h

pair_second : (css : List (List Cell)) (is ks : List Cell) (n : ℕ) → n < length (paired_cells css is ks) → slice_get ks n ≡ Some fault
    → slice_get (paired_cells css is ks) n ≡ Some fault
pair_second css [] ks n lt h = absurd (omega arith)
pair_second css (i ∷ is) [] n lt h = absurd (cc)
pair_second css (i ∷ is) (k ∷ ks) zero lt h = let same : k ≡ fault = cc in ap (λ c. Some (paired css i c)) same ∙ ap Some (second_fault css i)
pair_second css (i ∷ is) (k ∷ ks) (suc n) lt h = pair_second css is ks n (omega arith) h

cells_past : (css : List (List Cell)) (i : ℕ) → length css ≤ i → cells_at css i ≡ []
cells_past [] i h = refl
cells_past (cs ∷ css) zero h = absurd (omega arith)
cells_past (cs ∷ css) (suc i) h = cells_past css i (omega arith)

-- the first index names none of the lists
pair_no_list : (css : List (List Cell)) (v w : Value) → ((i : ℕ) → integer_in v ≡ Some (pos i) → length css ≤ i) → paired css (value v) (value w) ≡ fault
pair_no_list css (integer (pos i)) (integer (pos k)) h = ap (λ cs. get_or cs k fault) (cells_past css i (h i refl))
pair_no_list css (integer (pos i)) _ h = refl
pair_no_list css _ w h = refl

-- the second names no row of the list
pair_no_row : (css : List (List Cell)) (v w : Value) (i : ℕ) → integer_in v ≡ Some (pos i)
    → ((k : ℕ) → integer_in w ≡ Some (pos k) → length (cells_at css i) ≤ k) → paired css (value v) (value w) ≡ fault
pair_no_row css (integer (pos j)) (integer (pos k)) i e h =
    let same : i ≡ j = cc in ap (λ n. get_or (cells_at css n) k fault) (sym same) ∙ get_or_past (cells_at css i) k fault (h k refl)
pair_no_row css (integer (pos j)) _ i e h = refl
pair_no_row css _ w i e h = refl

pair_found : (css : List (List Cell)) (v w : Value) (i k : ℕ) → integer_in v ≡ Some (pos i) → integer_in w ≡ Some (pos k)
    → paired css (value v) (value w) ≡ get_or (cells_at css i) k fault
pair_found css (integer (pos j)) (integer (pos l)) i k e f =
    let first : j ≡ i = cc in
    let second : l ≡ k = cc in
    λ n. get_or (cells_at css (first n)) (second n) fault
pair_found css (integer (pos j)) _ i k e f = absurd (cc)
pair_found css _ w i k e f = absurd (cc)

-- ---- of the slots

slot_cells : (ys : List (Option Tree)) (k : ℕ) (c : Tree) → k < length ys → Some c ≡ get_or ys k (Some c) → cells_at (slots_rows (slots_of ys)) k ≡ rows c
slot_cells [] k c lt e = absurd (omega arith)
slot_cells (None ∷ ys) zero c lt e = absurd (cc)
slot_cells (Some t ∷ ys) zero c lt e = let same : t ≡ c = cc in ap rows same
slot_cells (None ∷ ys) (suc k) c lt e = slot_cells ys k c (omega arith) e
slot_cells (Some t ∷ ys) (suc k) c lt e = slot_cells ys k c (omega arith) e

-- it holds a tree of the type, at most h high
abbrev pub IsOfType : DataType → ℕ → Option Tree → Type 0
IsOfType ty h None = ⊥
IsOfType ty h (Some t) = (dtype t ≡ ty) × (height t ≤ h)

slot_typed : (ty : DataType) (ys : List (Option Tree)) (ms : List ℕ) (k h : ℕ) (d : Option Tree) → shapes (slots_of ys) ≡ of_lengths ty ms
    → slots_height (slots_of ys) ≤ h → k < length ys → IsOfType ty h (get_or ys k d)
slot_typed ty [] ms k h d e low lt = absurd (omega arith)
slot_typed ty (None ∷ ys) [] k h d e low lt = absurd (cc)
slot_typed ty (None ∷ ys) (m ∷ ms) k h d e low lt = absurd (cc)
slot_typed ty (Some t ∷ ys) [] k h d e low lt = absurd (cc)
slot_typed ty (Some t ∷ ys) (m ∷ ms) zero h d e low lt = let typed : dtype t ≡ ty = cc in (typed, omega arith)
slot_typed ty (Some t ∷ ys) (m ∷ ms) (suc k) h d e low lt =
    let rest : shapes (slots_of ys) ≡ of_lengths ty ms = cc in slot_typed ty ys ms k h d rest (omega arith) (omega arith)

-- the tree that is read from a slot
pub child_there : (ys : List (Option Tree)) (k : ℕ) (x : Option Tree) (c : Tree) → x ≡ get_or ys k x → x ≡ Some c → Some c ≡ get_or ys k (Some c)
child_there ys k x c e is = subst (λ z. z ≡ get_or ys k z) is e

slots_counted : (ys : List (Option Tree)) → length (slots_rows (slots_of ys)) ≡ length ys
slots_counted [] = refl
slots_counted (None ∷ ys) = ap suc (slots_counted ys)
slots_counted (Some t ∷ ys) = ap suc (slots_counted ys)

-- ---- of a node whose slots are these indices, and the trees that they name

module _ (t a r : Tree) (ys : List (Option Tree)) (n : ℕ) (shown : t ≡ node (dtype t) (len t) enc.interleave (slots_of (Some a ∷ Some r ∷ ys))) where
  rows_are : rows t ≡ paired_cells (slots_rows (slots_of ys)) (rows a) (rows r)
  rows_are = ap rows shown

  pub arrays_fault : length (rows t) ≡ len t → n < len t → slice_get (rows a) n ≡ Some fault → slice_get (rows t) n ≡ Some fault
  arrays_fault counted lt h =
      ap (λ cs. slice_get cs n) rows_are
      ∙ pair_first (slots_rows (slots_of ys)) (rows a) (rows r) n (omega (arith, ap length rows_are, counted, lt)) h

  pub rows_fault : length (rows t) ≡ len t → n < len t → slice_get (rows r) n ≡ Some fault → slice_get (rows t) n ≡ Some fault
  rows_fault counted lt h =
      ap (λ cs. slice_get cs n) rows_are
      ∙ pair_second (slots_rows (slots_of ys)) (rows a) (rows r) n (omega (arith, ap length rows_are, counted, lt)) h

  -- once the indices are read
  module _ (s q : Typed) (first : IsRow a n s) (second : IsRow r n q) where
    pair_is : slice_get (rows t) n ≡ Some (paired (slots_rows (slots_of ys)) (value s.value) (value q.value))
    pair_is = ap (λ cs. slice_get cs n) rows_are ∙ pair_get (slots_rows (slots_of ys)) (rows a) (rows r) n (value s.value) (value q.value) first.0 second.0

    pub tree_unnamed : ((i : ℕ) → integer_in s.value ≡ Some (pos i) → length ys ≤ i) → slice_get (rows t) n ≡ Some fault
    tree_unnamed h =
        pair_is
        ∙ ap Some (pair_no_list (slots_rows (slots_of ys)) s.value q.value (λ i e. omega (arith, slots_counted ys, h i e)))

    -- and name this tree
    module _ (i : ℕ) (c : Tree) (named : integer_in s.value ≡ Some (pos i)) (lt : i < length ys) (there : Some c ≡ get_or ys i (Some c)) where
      pub row_unnamed : length (rows c) ≡ len c → ((k : ℕ) → integer_in q.value ≡ Some (pos k) → len c ≤ k) → slice_get (rows t) n ≡ Some fault
      row_unnamed counted h =
          pair_is
          ∙ ap Some (pair_no_row (slots_rows (slots_of ys)) s.value q.value i named
          (λ k e. omega (arith, ap length (slot_cells ys i c lt there), counted, h k e)))

      pub pair_row : (k : ℕ) → integer_in q.value ≡ Some (pos k) → length (rows c) ≡ len c → k < len c → slice_get (rows t) n ≡ slice_get (rows c) k
      pair_row k e counted below =
          pair_is
          ∙ ap Some (pair_found (slots_rows (slots_of ys)) s.value q.value i k named e ∙ ap (λ cs. get_or cs k fault) (slot_cells ys i c lt there))
          ∙ sym (slice_get-get_or (rows c) k fault (omega (arith, counted, below)))

-- ---- of the slots as a list

pub slots_listed : (xs : List (Option Tree)) (x y : Option Tree) (a r : Tree) → 2 ≤ length xs → x ≡ get_or xs 0 x → x ≡ Some a → y ≡ get_or xs 1 y → y ≡ Some r
    → xs ≡ Some a ∷ Some r ∷ take (length xs - 2) (drop 2 xs)
slots_listed [] x y a r many e f g h = absurd (omega (arith, many))
slots_listed (z ∷ []) x y a r many e f g h = absurd (omega (arith, many))
slots_listed (z ∷ w ∷ zs) x y a r many e f g h =
    let first : z ≡ Some a = sym e ∙ f in
    let second : w ≡ Some r = sym g ∙ h in
    let counted : length (z ∷ w ∷ zs) - 2 ≡ length zs = omega arith in
    let rest : zs ≡ take (length (z ∷ w ∷ zs) - 2) zs = sym (ap (λ k. take k zs) counted ∙ take_all (length zs) zs (omega arith)) in
    λ j. first j ∷ second j ∷ rest j

module _ (ty : DataType) (n : ℕ) (xs : List (Option Tree)) (well : IsNode ty n enc.interleave (shapes (slots_of xs))) where
  pub slots_many : 2 ≤ length xs
  slots_many = omega (arith, count_slots xs, ap length well.4)

  pub slots_present : missing_refusal 0 (shapes (slots_of xs)) ≡ None
  slots_present = ap (missing_refusal 0) well.4 ∙ none_missing ty 2 (well.2 ∷ well.3)

module _ (xs ys : List (Option Tree)) (a r : Tree) (listed : xs ≡ Some a ∷ Some r ∷ ys) where
  pub slots_low : (height a ≤ slots_height (slots_of xs)) × (height r ≤ slots_height (slots_of xs)) × (slots_height (slots_of ys) ≤ slots_height (slots_of xs))
  slots_low = let e = ap (λ l. slots_height (slots_of l)) listed in (omega (arith, e), omega (arith, e), omega (arith, e))

  pub shown_by : (t : Tree) → t ≡ node (dtype t) (len t) enc.interleave (slots_of xs) → t ≡ node (dtype t) (len t) enc.interleave (slots_of (Some a ∷ Some r ∷ ys))
  shown_by t shown = shown ∙ ap (λ l. node (dtype t) (len t) enc.interleave (slots_of l)) listed

-- the lengths of its indices, and the type of each tree that they name
module _ (ty : DataType) (n : ℕ) (xs ys : List (Option Tree)) (a r : Tree) (listed : xs ≡ Some a ∷ Some r ∷ ys)
    (well : IsNode ty n enc.interleave (shapes (slots_of xs))) where
  same : Some (shape_of a) ∷ Some (shape_of r) ∷ shapes (slots_of ys) ≡ Some (shape well.0 n) ∷ Some (shape well.1 n) ∷ of_lengths ty (well.2 ∷ well.3)
  same = ap (λ l. shapes (slots_of l)) (sym listed) ∙ well.4

  pub arrays_long : len a ≡ n
  arrays_long = let e = same in cc

  pub rows_long : len r ≡ n
  rows_long = let e = same in cc

  pub named_typed : (k : ℕ) (d : Option Tree) → k < length ys → IsOfType ty (slots_height (slots_of ys)) (get_or ys k d)
  named_typed k d lt =
      let e = same in
      let typed : shapes (slots_of ys) ≡ of_lengths ty (well.2 ∷ well.3) = cc in
      slot_typed ty ys (well.2 ∷ well.3) k (slots_height (slots_of ys)) d typed (omega arith) lt

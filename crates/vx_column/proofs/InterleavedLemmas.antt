-- Rows that pairs of indices name.
use Rattle.std.proofs.Common.{◌≡◌, ◌⊎◌, ◌<◌, ◌≤◌, ◌+◌, inl, inr, ℕ, zero, suc, pos, Bool, true, false, if◌then◌else◌, List, [], ◌∷◌, length, map, get_or, replicate}
use Rattle.std.proofs.Common.{Some, refl, sym, ap, ◌∙◌, subst, arith}
use Rattle.std.specs.Prelude.{◌&&◌, nat_lt, slice_get}
use Rattle.std.specs.List.{range_with_len}
use Rattle.std.proofs.lemmas.Bool.Decides.{nat_tests}
use Rattle.std.proofs.lemmas.List.{length-map}
use Rattle.std.proofs.lemmas.Option.{get_or_from_slice_get}
use Rattle.std.proofs.Math.ListN.{get_or-map as get_or_mapped}
use Rattle.vx_value.specs.Supported.{has_columns}
use Rattle.vx_value.specs.Types.{DataType, primitive, nullability_of}
use Rattle.vx_value.specs.Typed.{Typed}
use Rattle.vx_value.specs.Values.{Value, integer}
use Rattle.vx_value.specs.Cell.{Cell, value, fault}
use Rattle.vx_value.specs.declared.error.VortexError.{VortexError}
use Rattle.vx_value.specs.declared.error.VortexError.TheVariants.{OutOfMemory, Fault, OutOfBounds}
use Rattle.vx_tree.specs.Canonicals.{columnar_tree}
use Rattle.vx_tree.specs.Cells.{rows, cells_at, HasNoFault}
use Rattle.vx_tree.specs.Columns.{empty_of}
use Rattle.vx_tree.specs.Lookups.{paired, paired_cells}
use Rattle.vx_tree.specs.Tree.{Tree, dtype, len, datum, is_constant, constant_of}
use Rattle.vx_tree.specs.Well.{IsWell}
use Rattle.vx_tree.specs.declared.canonical.columnar.Columnar.{Columnar}
use Rattle.vx_tree.proofs.CellsLemmas.{rows_counted}
use Rattle.vx_column.specs.Applied.{Repeats}
use Rattle.vx_column.specs.Casts.{IsIntegerType}
use Rattle.vx_column.specs.Interleaved.{IsNotPaired, IsIndexType, first_type, AreOfType, IsInterleaving, IsNotInterleaving, pair_cell, pair_cells, cells_interleaved}
use Rattle.vx_column.specs.Read.{IsUnreadRow}
use Rattle.vx_column.specs.LookedUp.{place_cell, IsCanonicalOf, IsLookedUp, IsNotLookedUp}
use Rattle.vx_column.proofs.ComputedLemmas.{fault_among}
use Rattle.vx_column.proofs.FormedLemmas.{constant_formed}
use Rattle.vx_column.proofs.KeepsLemmas.{copies_clean}
use Rattle.vx_column.proofs.LookedUpLemmas.{place_known, canonical_found, empty_found}

pub index_integer : (ty : DataType) → IsIndexType ty → IsIntegerType ty
index_integer ty h = (h.0, h.1 ∙ ap (primitive h.0) (sym (ap nullability_of h.1)))

-- ---- one pair

pub rows_at : (ts : List Tree) (a : ℕ) (d : Tree) → a < length ts → cells_at (map rows ts) a ≡ rows (get_or ts a d)
rows_at [] a d lt = absurd (omega arith)
rows_at (t ∷ ts) zero d lt = refl
rows_at (t ∷ ts) (suc a) d lt = rows_at ts a d (omega arith)

pub type_at : (ty : DataType) (ts : List Tree) (a : ℕ) (d : Tree) → AreOfType ty ts → a < length ts → dtype (get_or ts a d) ≡ ty
type_at ty [] a d h lt = absurd (omega arith)
type_at ty (t ∷ ts) zero d h lt = h.0
type_at ty (t ∷ ts) (suc a) d h lt = type_at ty ts a d h.1 (omega arith)

past_lists : (css : List (List Cell)) (a : ℕ) → length css ≤ a → cells_at css a ≡ []
past_lists [] a h = refl
past_lists (cs ∷ css) zero h = absurd (omega arith)
past_lists (cs ∷ css) (suc a) h = past_lists css a (omega arith)

past_cells : (cs : List Cell) (k : ℕ) → length cs ≤ k → get_or cs k fault ≡ fault
past_cells [] k h = refl
past_cells (c ∷ cs) zero h = absurd (omega arith)
past_cells (c ∷ cs) (suc k) h = past_cells cs k (omega arith)

-- an integer that names none of n
far : (n k : ℕ) → place_cell n (integer (pos k)) ≡ fault → n ≤ k
far n k e = by_test (nat_lt k n) refl e
  where
    by_test : (b : Bool) → nat_lt k n ≡ b → (if b then value (integer (pos k)) else fault) ≡ fault → n ≤ k
    by_test true h e = absurd (cc (e))
    by_test false h e = grind (arith, nat_tests)

pub paired_known : (css : List (List Cell)) (v w : Value) (a k m n : ℕ) → value (integer (pos a)) ≡ place_cell m v → value (integer (pos k)) ≡ place_cell n w
    → paired css (value v) (value w) ≡ get_or (cells_at css a) k fault
paired_known css v w a k m n first second =
    (λ j. paired css (value ((place_known m v a first).0 j)) (value ((place_known n w k second).0 j)))

-- an index that is a fault
pub no_first : (css : List (List Cell)) (c d : Cell) → c ≡ fault → paired css c d ≡ fault
no_first css c d e = ap (λ x. paired css x d) e

pub no_second : (css : List (List Cell)) (c d : Cell) → d ≡ fault → paired css c d ≡ fault
no_second css c d e = ap (paired css c) e ∙ always c
  where
    always : (c : Cell) → paired css c fault ≡ fault
    always (value (integer (pos i))) = refl
    always _ = refl

-- one that names no list
pub no_list : (css : List (List Cell)) (v : Value) (d : Cell) → place_cell (length css) v ≡ fault → paired css (value v) d ≡ fault
no_list css (integer (pos i)) (value (integer (pos k))) e = ap (λ cs. get_or cs k fault) (past_lists css i (far (length css) i e))
no_list css (integer (pos i)) _ e = refl
no_list css _ d e = refl

-- one that names no row
pub no_row : (css : List (List Cell)) (v w : Value) (a m : ℕ) → value (integer (pos a)) ≡ place_cell m v → place_cell (length (cells_at css a)) w ≡ fault
    → paired css (value v) (value w) ≡ fault
no_row css v w a m first e = ap (λ x. paired css (value x) (value w)) (place_known m v a first).0 ∙ by_value w e
  where
    by_value : (w : Value) → place_cell (length (cells_at css a)) w ≡ fault → paired css (value (integer (pos a))) (value w) ≡ fault
    by_value (integer (pos k)) e = past_cells (cells_at css a) k (far (length (cells_at css a)) k e)
    by_value _ e = refl

-- ---- all pairs

pairs_from : (css : List (List Cell)) (s : ℕ) (is ks : List Cell) (f g : ℕ → Cell) → length ks ≡ length is
    → ((i : ℕ) → f (s + i) ≡ get_or is i fault) → ((i : ℕ) → g (s + i) ≡ get_or ks i fault)
    → map (λ i. paired css (f i) (g i)) (range_with_len s (length is)) ≡ paired_cells css is ks
pairs_from css s [] ks f g long first second = refl
pairs_from css s (i ∷ is) [] f g long first second = absurd (omega arith)
pairs_from css s (i ∷ is) (k ∷ ks) f g long first second =
    let here : s + 0 ≡ s = omega arith in
    let later : (j : ℕ) → s + 1 + j ≡ s + suc j = λ j. omega arith in
    let head : paired css (f s) (g s) ≡ paired css i k = λ j. paired css ((ap f (sym here) ∙ first 0) j) ((ap g (sym here) ∙ second 0) j) in
    λ j. head j ∷ pairs_from css (s + 1) is ks f g (omega arith) (λ x. ap f (later x) ∙ first (suc x)) (λ x. ap g (later x) ∙ second (suc x)) j

pub all_pairs : (arrays places : Tree) (values : List Tree) → IsWell arrays → IsWell places → len places ≡ len arrays
    → pair_cells arrays places values (len arrays) ≡ cells_interleaved arrays places values
all_pairs arrays places values well wells long =
    let is = rows arrays in
    let ks = rows places in
    let counted = rows_counted arrays well in
    let same : length ks ≡ length is = rows_counted places wells ∙ long ∙ sym counted in
    ap (pair_cells arrays places values) (sym counted)
    ∙ pairs_from (map rows values) 0 is ks (λ i. get_or is i fault) (λ i. get_or ks i fault) same (λ i. ap (λ x. get_or is x fault) (zero_plus i))
    (λ i. ap (λ x. get_or ks x fault) (zero_plus i))
  where
    zero_plus : (i : ℕ) → 0 + i ≡ i
    zero_plus i = omega arith

-- one of them that is a fault
pub pair_missed : (arrays places : Tree) (values : List Tree) (n i : ℕ) (e : VortexError) → i < n
    → (e ≡ OutOfMemory) ⊎ ((e ≡ Fault) × (pair_cell arrays places values i ≡ fault)) → IsNotLookedUp (pair_cells arrays places values n) e
pair_missed arrays places values n i e lt (inl memory) = inl memory
pair_missed arrays places values n i e lt (inr h) = inr (h.0, fault_among (pair_cell arrays places values) n i lt h.1)

-- ---- whole columns

pub pairs_found : (arrays places : Tree) (values : List Tree) (u : Tree) → IsWell arrays → IsWell places → IsWell u → len places ≡ len arrays
    → (is_constant (datum arrays) && is_constant (datum places)) ≡ false
    → IsCanonicalOf (first_type values) (len arrays) (pair_cells arrays places values (len arrays)) u → IsInterleaving arrays places values u
pairs_found arrays places values u well wells whole long other h =
    subst (λ cs. IsLookedUp (first_type values) (len arrays) cs (is_constant (datum arrays) && is_constant (datum places)) u)
    (all_pairs arrays places values well wells long)
    (canonical_found (first_type values) (len arrays) _ (is_constant (datum arrays) && is_constant (datum places)) u whole
    (neither (nat_lt 0 (len arrays)) _ other) h)
  where
    neither : (b d : Bool) → d ≡ false → (b && d) ≡ false
    neither true d h = h
    neither false d h = refl

pub pairs_missed : (arrays places : Tree) (values : List Tree) (e : VortexError) → IsWell arrays → IsWell places → len places ≡ len arrays
    → IsNotLookedUp (pair_cells arrays places values (len arrays)) e → IsNotInterleaving arrays places values e
pairs_missed arrays places values e well wells long h = subst (λ cs. IsNotLookedUp cs e) (all_pairs arrays places values well wells long) h

no_cells : {X : Type 0} (xs : List X) → length xs ≡ 0 → xs ≡ []
no_cells [] h = refl
no_cells (x ∷ xs) h = absurd (omega arith)

-- the first column's type
pub first_typed : (xs : List Columnar) (x : Columnar) → 0 < length (map columnar_tree xs) → x ≡ get_or xs 0 x
    → dtype (columnar_tree x) ≡ first_type (map columnar_tree xs)
first_typed [] x h e = absurd (omega arith)
first_typed (y ∷ ys) x h e = ap (λ z. dtype (columnar_tree z)) e

pub no_pairs : (arrays places : Tree) (values : List Tree) (u : Tree) → has_columns (first_type values) ≡ true → IsWell arrays → len arrays ≡ 0 → u ≡ empty_of (first_type values)
    → IsInterleaving arrays places values u
no_pairs arrays places values u columns well none new =
    let constant = is_constant (datum arrays) && is_constant (datum places) in
    let cells : cells_interleaved arrays places values ≡ [] =
    ap (λ is. paired_cells (map rows values) is (rows places)) (no_cells (rows arrays) (rows_counted arrays well ∙ none)) in
    subst (λ n. IsLookedUp (first_type values) n (cells_interleaved arrays places values) constant u) (sym none)
    (subst (λ cs. IsLookedUp (first_type values) 0 cs constant u) (sym cells)
    (subst (IsLookedUp (first_type values) 0 [] constant) (sym new) (empty_found (first_type values) constant columns)))

-- ---- one pair for every row

pairs_copied : (css : List (List Cell)) (c d : Cell) (n : ℕ) → paired_cells css (replicate n c) (replicate n d) ≡ replicate n (paired css c d)
pairs_copied css c d zero = refl
pairs_copied css c d (suc n) = ap (λ cs. paired css c d ∷ cs) (pairs_copied css c d n)

fault_copies : (n : ℕ) → 0 < n → ¬ (HasNoFault (replicate n fault))
fault_copies zero lt = absurd (omega arith)
fault_copies (suc n) lt = λ h. h

pub pair_found : (ty : DataType) (n : ℕ) (css : List (List Cell)) (v w : Value) (s : Typed) (u : Tree) → 0 < n
    → paired css (value v) (value w) ≡ value s.value → s.of_type ≡ ty → u ≡ constant_of s n
    → IsLookedUp ty n (paired_cells css (replicate n (value v)) (replicate n (value w))) true u
pair_found ty n css v w s u some found typed new =
    let above : nat_lt 0 n ≡ true = grind (arith, nat_tests) in
    subst (IsLookedUp ty n (paired_cells css (replicate n (value v)) (replicate n (value w))) true) (sym new) (record {
      typed = typed;
      counted = refl;
      shown = sym (pairs_copied css (value v) (value w) n ∙ ap (replicate n) found);
      clean = (copies_clean n s.value, tt);
      constant_kept = ap (λ b. b && true) (sym above);
      formed = constant_formed (constant_of s n) refl;
    })

pub pair_refused : (n : ℕ) (css : List (List Cell)) (v w : Value) (e : VortexError) → 0 < n
    → (e ≡ OutOfMemory) ⊎ ((e ≡ Fault) × (paired css (value v) (value w) ≡ fault))
    → IsNotLookedUp (paired_cells css (replicate n (value v)) (replicate n (value w))) e
pair_refused n css v w e some (inl memory) = inl memory
pair_refused n css v w e some (inr h) =
    inr (h.0, λ none. fault_copies n some (subst HasNoFault (pairs_copied css (value v) (value w) n ∙ ap (replicate n) h.1) none))

-- columns of indices that are constants
pub constants_found : (c d : Columnar) (s r : Typed) (values : List Tree) (u : Tree) → Repeats c s → Repeats d r → len (columnar_tree d) ≡ len (columnar_tree c)
    → IsLookedUp (first_type values) (len (columnar_tree c))
    (paired_cells (map rows values) (replicate (len (columnar_tree c)) (value s.value)) (replicate (len (columnar_tree c)) (value r.value))) true u
    → IsInterleaving (columnar_tree c) (columnar_tree d) values u
constants_found c d s r values u first second long h =
    let n = len (columnar_tree c) in
    let second_n : constant_of r n ≡ columnar_tree d = sym (second ∙ ap (constant_of r) long) in
    subst (λ t. IsLookedUp (first_type values) n (paired_cells (map rows values) (rows t) (rows (columnar_tree d)))
    (is_constant (datum t) && is_constant (datum (columnar_tree d))) u) (sym first)
    (subst (λ t. IsLookedUp (first_type values) n (paired_cells (map rows values) (replicate n (value s.value)) (rows t))
    (true && is_constant (datum t)) u) second_n h)

pub constants_refused : (c d : Columnar) (s r : Typed) (values : List Tree) (e : VortexError) → Repeats c s → Repeats d r
    → len (columnar_tree d) ≡ len (columnar_tree c)
    → IsNotLookedUp (paired_cells (map rows values) (replicate (len (columnar_tree c)) (value s.value)) (replicate (len (columnar_tree c)) (value r.value))) e
    → IsNotInterleaving (columnar_tree c) (columnar_tree d) values e
constants_refused c d s r values e first second long h =
    let n = len (columnar_tree c) in
    let second_n : constant_of r n ≡ columnar_tree d = sym (second ∙ ap (constant_of r) long) in
    subst (λ t. IsNotLookedUp (paired_cells (map rows values) (rows t) (rows (columnar_tree d))) e) (sym first)
    (subst (λ t. IsNotLookedUp (paired_cells (map rows values) (replicate n (value s.value)) (rows t)) e) second_n h)

-- ---- one of the columns

module _ (values : List Columnar) (a : ℕ) (x : Columnar) (t : Tree) (lt : a < length values) (item : x ≡ get_or values a x) (of : t ≡ columnar_tree x) where
  same_tree : get_or (map columnar_tree values) a (columnar_tree x) ≡ t
  same_tree = get_or_mapped columnar_tree values a x ∙ ap columnar_tree (sym item) ∙ sym of

  below : a < length (map columnar_tree values)
  below = subst (λ n. a < n) (sym (length-map values columnar_tree)) lt

  pub column_at : cells_at (map rows (map columnar_tree values)) a ≡ rows t
  column_at = rows_at (map columnar_tree values) a (columnar_tree x) below ∙ ap rows same_tree

  pub column_type : AreOfType (first_type (map columnar_tree values)) (map columnar_tree values) → dtype t ≡ first_type (map columnar_tree values)
  column_type h = ap dtype (sym same_tree) ∙ type_at (first_type (map columnar_tree values)) (map columnar_tree values) a (columnar_tree x) h below

pub lists_counted : (values : List Columnar) → length (map rows (map columnar_tree values)) ≡ length values
lists_counted values = length-map (map columnar_tree values) rows ∙ length-map values columnar_tree

-- the row of a column that exists
pub row_unread : (t : Tree) (k : ℕ) (e : VortexError) → k < len t → ((e ≡ OutOfBounds k k (len t)) × (len t ≤ k)) ⊎ IsUnreadRow t k e
    → (e ≡ OutOfMemory) ⊎ ((e ≡ Fault) × (get_or (rows t) k fault ≡ fault))
row_unread t k e lt (inl h) = let far = h.1 in absurd (omega (arith, lt, far))
row_unread t k e lt (inr (inl memory)) = inl memory
row_unread t k e lt (inr (inr h)) = inr (h.0, get_or_from_slice_get (rows t) k fault fault h.1)

-- a pair of indices, one of which can't be read
module _ (arrays places : Tree) (values : List Tree) (t : Tree) (i : ℕ) (e : VortexError) (lt : i < len arrays) where
  pub first_unread : t ≡ arrays → ((e ≡ OutOfBounds i i (len t)) × (len t ≤ i)) ⊎ IsUnreadRow t i e → IsNotLookedUp (pair_cells arrays places values (len arrays)) e
  first_unread of h =
      elim (row_unread t i e (subst (λ u. i < len u) (sym of) lt) h) [
        | inl memory ↦ inl memory
        | inr k ↦
            pair_missed arrays places values (len arrays) i e lt
            (inr (k.0, no_first (map rows values) _ _ (ap (λ u. get_or (rows u) i fault) (sym of) ∙ k.1)))
      ]

  pub second_unread : t ≡ places → len places ≡ len arrays → ((e ≡ OutOfBounds i i (len t)) × (len t ≤ i)) ⊎ IsUnreadRow t i e
      → IsNotLookedUp (pair_cells arrays places values (len arrays)) e
  second_unread of long h =
      elim (row_unread t i e (subst (λ n. i < n) (sym (ap len of ∙ long)) lt) h) [
        | inl memory ↦ inl memory
        | inr k ↦
            pair_missed arrays places values (len arrays) i e lt
            (inr (k.0, no_second (map rows values) _ _ (ap (λ u. get_or (rows u) i fault) (sym of) ∙ k.1)))
      ]

-- a pair that is read
pub pair_read : (arrays places : Tree) (values : List Tree) (s t : Tree) (i : ℕ) (a b : Value) → s ≡ arrays → t ≡ places → slice_get (rows s) i ≡ Some (value a)
    → slice_get (rows t) i ≡ Some (value b) → pair_cell arrays places values i ≡ paired (map rows values) (value a) (value b)
pair_read arrays places values s t i a b first second one two =
    let left : get_or (rows arrays) i fault ≡ value a = ap (λ u. get_or (rows u) i fault) (sym first) ∙ get_or_from_slice_get (rows s) i (value a) fault one in
    let right : get_or (rows places) i fault ≡ value b = ap (λ u. get_or (rows u) i fault) (sym second) ∙ get_or_from_slice_get (rows t) i (value b) fault two in
    λ j. paired (map rows values) (left j) (right j)

pub pair_unread : (arrays places : Tree) (values : List Tree) (s t : Tree) (i : ℕ) (a b : Typed) (e : VortexError) → i < len arrays → s ≡ arrays → t ≡ places
    → slice_get (rows s) i ≡ Some (value a.value) → slice_get (rows t) i ≡ Some (value b.value) → IsNotPaired values a b e
    → IsNotLookedUp (pair_cells arrays places values (len arrays)) e
pair_unread arrays places values s t i a b e lt first second one two (inl memory) = inl memory
pair_unread arrays places values s t i a b e lt first second one two (inr h) =
    pair_missed arrays places values (len arrays) i e lt
    (inr (h.0, pair_read arrays places values s t i a.value b.value first second one two ∙ h.1))

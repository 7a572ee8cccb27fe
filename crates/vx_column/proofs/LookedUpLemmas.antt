-- Rows that codes name: the places that they tell, and the cells at these.
use Rattle.std.proofs.Common.{◌≡◌, ◌<◌, inl, inr, ℕ, zero, suc, ℤ, pos, Bool, true, false, if◌then◌else◌, List, [], ◌∷◌, ◌++◌, length, map, get_or, replicate, Some}
use Rattle.std.proofs.Common.{◌≤◌, None, refl, sym, ap, ◌∙◌, subst, arith}
use Rattle.std.specs.Prelude.{◌&&◌, nat_lt, slice_get}
use Rattle.std.specs.List.{range_with_len}
use Rattle.std.proofs.lemmas.Bool.Decides.{nat_tests}
use Rattle.std.proofs.lemmas.Bool.{false≢true}
use Rattle.std.proofs.lemmas.List.{length-map}
use Rattle.std.proofs.lemmas.Simd.{map-map}
use Rattle.std.proofs.Math.ListN.{get_or-map as get_or_mapped}
use Rattle.vx_value.specs.Storage.{is_nested}
use Rattle.vx_value.specs.Supported.{has_columns, have_columns}
use Rattle.vx_value.specs.Types as type
use Rattle.vx_value.specs.Types.{DataType, Fields, primitive, nullability_of}
use Rattle.vx_value.specs.IsOf.{is_of}
use Rattle.vx_value.specs.Parts.{integer_in as integer_value}
use Rattle.vx_value.specs.Typed.{Typed}
use Rattle.vx_value.specs.Values.{Value, null, integer}
use Rattle.vx_value.specs.Cell.{Cell, value, fault}
use Rattle.vx_value.specs.Nullabilities.{with_nullability, union}
use Rattle.vx_value.proofs.NullabilitiesLemmas.{nested_kept}
use Rattle.vx_value.proofs.SupportedLemmas.{first_columns, other_columns}
use Rattle.vx_value.specs.declared.dtype.Nullability.{Nullability}
use Rattle.vx_value.specs.declared.dtype.Nullability.TheVariants.{NonNullable, Nullable}
use Rattle.vx_value.specs.declared.dtype.PType.{PType}
use Rattle.vx_value.specs.declared.error.VortexError.{VortexError}
use Rattle.vx_fn.specs.Meanings.{widen}
use Rattle.vx_mask.proofs.Lists.{same_below}
use Rattle.vx_tree.specs.Canonicals.{columnar_tree}
use Rattle.vx_tree.specs.Cells.{rows, HasNoFault}
use Rattle.vx_tree.specs.Columns.{empty_of, empty_fields}
use Rattle.vx_tree.specs.Lookups.{taken, taken_cells}
use Rattle.vx_tree.specs.Tree.{Tree, node, composed, slot, no_slots, slots_of, dtype, len, datum, is_constant}
use Rattle.vx_tree.specs.declared.array.layout.Layout.TheVariants.{Struct, Extension}
use Rattle.vx_tree.specs.Well.{IsWell}
use Rattle.vx_tree.specs.declared.canonical.columnar.Columnar.{Columnar}
use Rattle.vx_tree.proofs.CellsLemmas.{rows_counted}
use Rattle.vx_tree.proofs.ColumnsLemmas.{canonical_open}
use Rattle.vx_column.specs.Applied.{Repeats}
use Rattle.vx_value.specs.declared.dtype.Storage.{Storage}
use Rattle.vx_value.specs.declared.dtype.Storage.TheVariants.{Text}
use Rattle.vx_tree.specs.ColumnTypes.{bytes_type}
use Rattle.vx_column.specs.Arguments.{type_of_rows, plain_type, value_at, cell_at, integer_in, type_of_argument, IsArgument, IsSized, IsUnread}
use Rattle.vx_column.specs.Casts.{IsIntegerType}
use Rattle.vx_column.specs.LookedUp.{place_cell, place_at, place_if, AreNamed, cell_named, named_cells, argument_cells, named_type, AreNamedRows, AreWithin, IsGathered}
use Rattle.vx_column.specs.LookedUp.{IsCanonicalOf, IsLookedUp, IsNotLookedUp, AreTaken, AreNotTaken}
use Rattle.vx_column.specs.Operands.{calculated_rows, zero_unless, IsFaultyRow}
use Rattle.vx_column.specs.ValidRows.{is_valid, nullability_in, null_unless}
use Rattle.vx_column.specs.ValueColumns.{column_of, field_columns}
use Rattle.vx_column.specs.declared.rows.argument.Argument.{Argument}
use Rattle.vx_column.specs.declared.rows.argument.ArgumentRows.{ArgumentRows}
use Rattle.vx_column.specs.declared.rows.argument.ArgumentRows.TheVariants as stored
use Rattle.vx_column.specs.declared.rows.argument.IntegerOperand.{IntegerOperand}
use Rattle.vx_column.specs.declared.rows.valid.ValidRows.{ValidRows}
use Rattle.vx_column.proofs.ComputedLemmas.{calculated_long, calculated_at, fault_among}
use Rattle.vx_column.proofs.EachLemmas.{column_found}
use Rattle.vx_column.proofs.KeepsLemmas.{whole_clean}
use Rattle.vx_column.proofs.KernelArgumentsLemmas.{argument_type, argument_nullability, set_again, rows_unnested}
use Rattle.vx_column.proofs.ValidRowsLemmas.{by_rows}
use Rattle.vx_column.proofs.WholeLemmas.{canonical_told}

-- ---- places

-- an integer as the number of a row
pub place_known : (n : ℕ) (v : Value) (k : ℕ) → value (integer (pos k)) ≡ place_cell n v → (v ≡ integer (pos k)) × (k < n)
place_known n (integer (pos j)) k e = by_test (nat_lt j n) refl e
  where
    by_test : (b : Bool) → nat_lt j n ≡ b → value (integer (pos k)) ≡ (if b then value (integer (pos j)) else fault)
        → (integer (pos j) ≡ integer (pos k)) × (k < n)
    by_test true h e =
        let same : j ≡ k = cc (e) in
        (ap (λ x. integer (pos x)) same, subst (λ x. x < n) same (grind (arith, nat_tests)))
    by_test false h e = absurd (cc (e))
place_known n _ k e = absurd (cc (e))

-- an integer that names no row
pub place_unknown : (vs : List Cell) (z : ℤ) → place_cell (length vs) (integer z) ≡ fault → taken vs (value (integer z)) ≡ fault
place_unknown vs (pos k) e = by_test (nat_lt k (length vs)) refl e
  where
    past : (vs : List Cell) (k : ℕ) → length vs ≤ k → get_or vs k fault ≡ fault
    past [] k h = refl
    past (v ∷ vs) zero h = absurd (omega arith)
    past (v ∷ vs) (suc k) h = past vs k (omega arith)

    by_test : (b : Bool) → nat_lt k (length vs) ≡ b → (if b then value (integer (pos k)) else fault) ≡ fault → get_or vs k fault ≡ fault
    by_test true h e = absurd (cc (e))
    by_test false h e = let far : length vs ≤ k = grind (arith, nat_tests) in past vs k far
place_unknown vs _ e = refl

-- places that are calculated
pub places_named : (codes : ArgumentRows) (z : ℕ → ℤ) (valid : ValidRows) (bound n : ℕ) (places : List ℕ)
    → ((i : ℕ) → value_at codes i ≡ integer (z i))
    → map (λ x. value (integer (pos x))) places ≡ calculated_rows (integer (pos 0)) (is_valid valid) (λ i. place_cell bound (integer (z i))) n
    → AreNamed codes valid bound n places
places_named codes z valid bound n places are made =
    let cell : ℕ → Cell = λ i. place_cell bound (integer (z i)) in
    let long : length (map pos places) ≡ n = calculated_long pos integer valid cell n places (map pos places) refl made in
    record {
      counted = sym (length-map places pos) ∙ long;
      named = λ i lt here.
          ap (λ x. value (integer x)) (sym (get_or_mapped pos places i 0))
          ∙ calculated_at pos integer valid cell n places (map pos places) refl made i lt
          ∙ ap (λ b. shown b (cell i)) here
          ∙ ap (place_cell bound) (sym (are i));
    }
  where
    shown : Bool → Cell → Cell
    shown = zero_unless (integer (pos 0))

pub within : (codes : ArgumentRows) (valid : ValidRows) (bound n : ℕ) (places : List ℕ) (t : Tree) → bound ≡ len t → AreNamed codes valid bound n places
    → AreWithin valid places t n
within codes valid bound n places t long h =
    λ i lt here. subst (λ m. place_at places i < m) long (place_known bound (value_at codes i) (place_at places i) (h.named i lt here)).1

-- ---- codes

-- an argument of integers
pub integers_shown : (a : Argument) → IsIntegerType (type_of_argument a) → (zs : IntegerOperand) × (a.rows ≡ stored.Integers zs)
integers_shown a h = by_rows a.rows refl
  where
    other : (st : Storage) (m : Nullability) → with_nullability m (bytes_type st) ≡ primitive h.0 (nullability_of (type_of_argument a)) → ⊥
    other Text m e = absurd (cc (e))
    other _ m e = absurd (cc (e))

    by_rows : (r : ArgumentRows) → a.rows ≡ r → (zs : IntegerOperand) × (a.rows ≡ stored.Integers zs)
    by_rows (stored.Integers zs) e = (zs, e)
    by_rows (stored.Bytes bs) e = absurd (other bs.storage (nullability_in a.valid) (ap (type_of_rows (nullability_in a.valid)) (sym e) ∙ h.1))
    by_rows _ e = absurd (cc)

-- ---- the cells of an argument

pub all_shown : (c : Columnar) (a : Argument) → IsWell (columnar_tree c) → IsArgument c a
    → rows (columnar_tree c) ≡ map (cell_at a) (range_with_len 0 (len (columnar_tree c)))
all_shown c a well h =
    by_rows (rows (columnar_tree c)) fault (len (columnar_tree c)) (rows_counted (columnar_tree c) well)
    ∙ same_below (len (columnar_tree c)) _ _ h.shown

-- the cell of a value that a code names
code_named : (vs : List Cell) (b : Bool) (v : Value) (k n : ℕ) → (b ≡ true → value (integer (pos k)) ≡ place_cell n v)
    → taken vs (null_unless b (value v)) ≡ cell_named vs (place_if b k)
code_named vs true v k n h = ap (λ x. taken vs (value x)) (place_known n v k (h refl)).0
code_named vs false v k n h = refl

module _ (c : Columnar) (a : Argument) (well : IsWell (columnar_tree c)) (shown : IsArgument c a) (vs : List Cell) where
  abbrev n : ℕ
  n = len (columnar_tree c)

  all_taken : taken_cells (rows (columnar_tree c)) vs ≡ map (λ i. taken vs (cell_at a i)) (range_with_len 0 n)
  all_taken = ap (map (taken vs)) (all_shown c a well shown) ∙ map-map (taken vs) (cell_at a) (range_with_len 0 n)

  pub taken_named : (bound : ℕ) (places : List ℕ) → AreNamed a.rows a.valid bound n places → named_cells a.valid places vs n ≡ taken_cells (rows (columnar_tree c)) vs
  taken_named bound places h =
      same_below n _ _ (λ i lt. sym (code_named vs (is_valid a.valid i) (value_at a.rows i) (place_at places i) bound (h.named i lt)))
      ∙ sym all_taken

  -- a code that names no row
  pub code_unknown : (zs : IntegerOperand) (bound : ℕ) (e : VortexError) → a.rows ≡ stored.Integers zs → length vs ≡ bound
      → IsFaultyRow (is_valid a.valid) (λ i. place_cell bound (value_at a.rows i)) n e → IsNotLookedUp (taken_cells (rows (columnar_tree c)) vs) e
  code_unknown zs bound e is long (inl memory) = inl memory
  code_unknown zs bound e is long (inr h) =
      let i = h.1 in
      let missed : place_cell (length vs) (integer (integer_in zs i)) ≡ fault =
      ap (λ k. place_cell k (integer (integer_in zs i))) long ∙ ap (λ r. place_cell bound (value_at r i)) (sym is) ∙ h.4 in
      let found : taken vs (cell_at a i) ≡ fault =
      ap (λ b. taken vs (null_unless b (value (value_at a.rows i)))) h.3 ∙ ap (λ r. taken vs (value (value_at r i))) is ∙ place_unknown vs (integer_in zs i) missed in
      inr (h.0, λ none. fault_among (λ j. taken vs (cell_at a j)) n i h.2 found (subst HasNoFault all_taken none))

-- a code that is a fault
fault_taken : (vs cs : List Cell) (i : ℕ) → slice_get cs i ≡ Some fault → HasNoFault (taken_cells cs vs) → ⊥
fault_taken vs [] i e h = absurd (cc)
fault_taken vs (c ∷ cs) zero e h = let same : c ≡ fault = cc in absurd (subst (λ x. HasNoFault (taken vs x ∷ taken_cells cs vs)) same h)
fault_taken vs (c ∷ cs) (suc i) e h = fault_taken vs cs i e (later (taken vs c) (taken_cells cs vs) h)
  where
    later : (x : Cell) (xs : List Cell) → HasNoFault (x ∷ xs) → HasNoFault xs
    later (value v) xs h = h
    later fault xs h = absurd h

pub code_unread : (t : Tree) (vs : List Cell) (e : VortexError) → IsUnread t e → IsNotLookedUp (taken_cells (rows t) vs) e
code_unread t vs e (inl memory) = inl memory
code_unread t vs e (inr h) = inr (h.0, fault_taken vs (rows t) h.1 h.3)

-- ---- the values of an argument

-- rows that are gathered, null where the value is
valid_twice : (v c w : Bool) (x : Cell) → v ≡ (c && w) → null_unless v x ≡ null_unless c (null_unless w x)
valid_twice v true w x e = ap (λ b. null_unless b x) e
valid_twice v false w x e = ap (λ b. null_unless b x) e

-- an argument's rows aren't of a nested type
rows_plain : (m : Nullability) (r : ArgumentRows) → is_nested (with_nullability m (plain_type r)) ≡ false
rows_plain m r = nested_kept m (plain_type r) ∙ rows_unnested r

pub argument_gathered : (codes valid : ValidRows) (a : Argument) (places : List ℕ) (n : ℕ) (u : Tree)
    → ((i : ℕ) → i < n → is_valid valid i ≡ (is_valid codes i && is_valid a.valid (place_at places i)))
    → nullability_in valid ≡ union (nullability_in codes) (nullability_in a.valid) → IsGathered a.rows places valid n u
    → IsCanonicalOf (with_nullability (union (nullability_in codes) (nullability_in a.valid)) (plain_type a.rows)) n (argument_cells codes places a n) u
argument_gathered codes valid a places n u both nullability h = record {
  typed = h.0 ∙ ap (λ m. with_nullability m (plain_type a.rows)) nullability;
  counted = h.1.counted;
  shown = h.1.shown ∙ same_below n _ _
      (λ i lt. valid_twice (is_valid valid i) (is_valid codes i) (is_valid a.valid (place_at places i)) (value (value_at a.rows (place_at places i))) (both i lt));
  clean = h.1.clean;
  canonical = h.1.canonical;
  told = λ k. absurd (false≢true (sym (rows_plain (union (nullability_in codes) (nullability_in a.valid)) a.rows) ∙ k));
  formed = h.1.formed;
}

-- the cell that an argument shows is the column's
cell_shown : (c : Columnar) (a : Argument) (b : Bool) (k : ℕ) → IsArgument c a → (b ≡ true → k < len (columnar_tree c))
    → null_unless b (cell_at a k) ≡ cell_named (rows (columnar_tree c)) (place_if b k)
cell_shown c a true k h lt = sym (h.shown k (lt refl))
cell_shown c a false k h lt = refl

argument_widened : (n : ℕ) (a : Argument) (m : Nullability) → IsSized n a
    → with_nullability (union m (nullability_in a.valid)) (plain_type a.rows) ≡ named_type m (type_of_argument a)
argument_widened n a m sized =
    sym (set_again (union m (nullability_in a.valid)) (nullability_in a.valid) a.rows)
    ∙ (λ j. with_nullability (union m (sym (argument_nullability n a sized) j)) (sym (argument_type n a sized) j))

pub rows_named : (c : Columnar) (a : Argument) (codes : ValidRows) (places : List ℕ) (n : ℕ) (u : Tree) → IsArgument c a
    → AreWithin codes places (columnar_tree c) n
    → IsCanonicalOf (with_nullability (union (nullability_in codes) (nullability_in a.valid)) (plain_type a.rows)) n (argument_cells codes places a n) u
    → AreNamedRows codes places (columnar_tree c) n u
rows_named c a codes places n u shown lies h = record {
  typed = h.typed ∙ argument_widened (len (columnar_tree c)) a (nullability_in codes) shown.sized ∙ ap (named_type (nullability_in codes)) (sym shown.typed);
  counted = h.counted;
  shown = h.shown ∙ same_below n _ _ (λ i lt. cell_shown c a (is_valid codes i) (place_at places i) shown (lies i lt));
  clean = h.clean;
  canonical = h.canonical;
  told = λ k. absurd (false≢true (sym (rows_plain (union (nullability_in codes) (nullability_in a.valid)) a.rows)
      ∙ ap is_nested (argument_widened (len (columnar_tree c)) a (nullability_in codes) shown.sized ∙ ap (named_type (nullability_in codes)) (sym shown.typed)) ∙ k));
  formed = h.formed;
}

-- ---- whole columns

-- a canonical column of the cells
pub canonical_found : (ty : DataType) (n : ℕ) (cells : List Cell) (constant : Bool) (u : Tree) → IsWell u → (nat_lt 0 n && constant) ≡ false → IsCanonicalOf ty n cells u
    → IsLookedUp ty n cells constant u
canonical_found ty n cells constant u well other h = record {
  typed = h.typed;
  counted = h.counted;
  shown = h.shown;
  clean = whole_clean u h.clean (canonical_told u well h.canonical h.clean
      (λ nested. subst HasNoFault (sym h.shown) (h.told (ap is_nested (sym h.typed) ∙ nested))));
  constant_kept = canonical_open (datum u) h.canonical ∙ sym other;
  formed = h.formed;
}

-- ---- no rows

mutual
  empty_column : (ty : DataType) → has_columns ty ≡ true → empty_of ty ≡ column_of ty []
  empty_column type.null h = refl
  empty_column (type.bool m) h = refl
  empty_column (type.primitive p m) h = refl
  empty_column (type.decimal p s m) h = refl
  empty_column (type.utf8 m) h = refl
  empty_column (type.binary m) h = refl
  empty_column (type.struct fs m) h = λ i. node (type.struct fs m) 0 (composed Struct) (empty_parts fs h i)
  empty_column (type.extension id t) h = λ i. node (type.extension id t) 0 (composed Extension) (slot (empty_column t h i) no_slots)
  empty_column _ h = absurd (false≢true h)

  empty_parts : (fs : Fields) → have_columns fs ≡ true → empty_fields fs ≡ slots_of (map Some (field_columns fs []) ++ None ∷ [])
  empty_parts type.no_fields h = refl
  empty_parts (type.field name t fs) h =
      λ i. slot (empty_column t (first_columns name t fs h) i) (empty_parts fs (other_columns name t fs h) i)

pub empty_found : (ty : DataType) (constant : Bool) → has_columns ty ≡ true → IsLookedUp ty 0 [] constant (empty_of ty)
empty_found ty constant columns =
    let h = column_found ty [] 0 [] columns refl refl refl in
    subst (IsLookedUp ty 0 [] constant) (sym (empty_column ty columns)) (record {
      typed = h.typed;
      counted = h.counted;
      shown = h.shown;
      clean = whole_clean (column_of ty []) h.clean (subst HasNoFault (sym h.shown) tt);
      constant_kept = canonical_open (datum (column_of ty [])) h.canonical;
      formed = h.formed;
    })

no_cells : {X : Type 0} (xs : List X) → length xs ≡ 0 → xs ≡ []
no_cells [] h = refl
no_cells (x ∷ xs) h = absurd (omega arith)

pub none_found : (ty : DataType) (t : Tree) (vs : List Cell) (u : Tree) → has_columns ty ≡ true → IsWell t → len t ≡ 0 → u ≡ empty_of ty
    → IsLookedUp ty (len t) (taken_cells (rows t) vs) (is_constant (datum t)) u
none_found ty t vs u columns well none new =
    let cells : rows t ≡ [] = no_cells (rows t) (rows_counted t well ∙ none) in
    subst (λ n. IsLookedUp ty n (taken_cells (rows t) vs) (is_constant (datum t)) u) (sym none)
    (subst (λ cs. IsLookedUp ty 0 (taken_cells cs vs) (is_constant (datum t)) u) (sym cells)
    (subst (IsLookedUp ty 0 [] (is_constant (datum t))) (sym new) (empty_found ty (is_constant (datum t)) columns)))

-- ---- a code that is a constant

-- the codes' cells and their type
pub constant_found : (c : Columnar) (s : Typed) (values u : Tree) → Repeats c s
    → IsLookedUp (widen s.of_type (dtype values)) (len (columnar_tree c)) (taken_cells (replicate (len (columnar_tree c)) (value s.value)) (rows values)) true u
    → AreTaken (columnar_tree c) values u
constant_found c s values u is h =
    let n = len (columnar_tree c) in
    subst (λ t. IsLookedUp (widen (dtype t) (dtype values)) n (taken_cells (rows t) (rows values)) (is_constant (datum t)) u) (sym is) h

pub constant_missed : (c : Columnar) (s : Typed) (values : Tree) (e : VortexError) → Repeats c s
    → IsNotLookedUp (taken_cells (replicate (len (columnar_tree c)) (value s.value)) (rows values)) e → AreNotTaken (columnar_tree c) values e
constant_missed c s values e is h = subst (λ t. IsNotLookedUp (taken_cells (rows t) (rows values)) e) (sym is) h

-- ---- a column of codes

module _ (c v : Columnar) (a : Argument) (bound n : ℕ) (well : IsWell (columnar_tree c)) (shown : IsArgument c a) (counted : n ≡ len (columnar_tree c)) where
  abbrev vs : List Cell
  vs = rows (columnar_tree v)

  pub code_missed : (e : VortexError) → IsWell (columnar_tree v) → IsIntegerType (dtype (columnar_tree c)) → bound ≡ len (columnar_tree v)
      → IsFaultyRow (is_valid a.valid) (λ i. place_cell bound (value_at a.rows i)) n e → AreNotTaken (columnar_tree c) (columnar_tree v) e
  code_missed e whole integers long h =
      let zs = integers_shown a (subst IsIntegerType shown.typed integers) in
      code_unknown c a well shown vs zs.0 bound e zs.1 (rows_counted (columnar_tree v) whole ∙ sym long)
      (subst (λ m. IsFaultyRow (is_valid a.valid) (λ i. place_cell bound (value_at a.rows i)) m e) counted h)

  cells_same : (places : List ℕ) → AreNamed a.rows a.valid bound n places → named_cells a.valid places vs n ≡ taken_cells (rows (columnar_tree c)) vs
  cells_same places h =
      ap (named_cells a.valid places vs) counted
      ∙ taken_named c a well shown vs bound places (subst (λ m. AreNamed a.rows a.valid bound m places) counted h)

  pub named_missed : (places : List ℕ) (e : VortexError) → AreNamed a.rows a.valid bound n places → IsNotLookedUp (named_cells a.valid places vs n) e
      → AreNotTaken (columnar_tree c) (columnar_tree v) e
  named_missed places e h k = subst (λ cs. IsNotLookedUp cs e) (cells_same places h) k

  type_same : named_type (nullability_in a.valid) (dtype (columnar_tree v)) ≡ widen (dtype (columnar_tree c)) (dtype (columnar_tree v))
  type_same =
      ap (λ m. named_type m (dtype (columnar_tree v)))
      (sym (argument_nullability (len (columnar_tree c)) a shown.sized) ∙ ap nullability_of (sym shown.typed))

  pub named_found : (places : List ℕ) (u : Tree) → IsWell u → AreNamed a.rows a.valid bound n places → is_constant (datum (columnar_tree c)) ≡ false
      → AreNamedRows a.valid places (columnar_tree v) n u → AreTaken (columnar_tree c) (columnar_tree v) u
  named_found places u whole h other k =
      let ty = widen (dtype (columnar_tree c)) (dtype (columnar_tree v)) in
      let same : IsCanonicalOf ty n (taken_cells (rows (columnar_tree c)) vs) u =
      subst (λ t. IsCanonicalOf t n (taken_cells (rows (columnar_tree c)) vs) u) type_same
      (subst (λ cs. IsCanonicalOf (named_type (nullability_in a.valid) (dtype (columnar_tree v))) n cs u) (cells_same places h) k) in
      subst (λ m. IsLookedUp ty m (taken_cells (rows (columnar_tree c)) vs) (is_constant (datum (columnar_tree c))) u) counted
      (canonical_found ty n _ (is_constant (datum (columnar_tree c))) u whole (neither (nat_lt 0 n) _ other) same)
    where
      neither : (b d : Bool) → d ≡ false → (b && d) ≡ false
      neither true d h = h
      neither false d h = refl

-- ---- a code that is a constant

-- a code that names no row
pub constant_unknown : (vs : List Cell) (v : Value) (z : ℤ) (n : ℕ) → Some z ≡ integer_value v → length vs ≡ n → place_cell n (integer z) ≡ fault
    → taken vs (value v) ≡ fault
constant_unknown vs (integer y) z n is long h =
    let same : z ≡ y = cc (is) in
    subst (λ x. taken vs (value (integer x)) ≡ fault) same (place_unknown vs z (ap (λ m. place_cell m (integer z)) long ∙ h))
constant_unknown vs _ z n is long h = absurd (cc (is))

-- one that names a row
pub constant_known : (vs : List Cell) (v : Value) (z : ℤ) (k n : ℕ) → Some z ≡ integer_value v → place_cell n (integer z) ≡ value (integer (pos k))
    → taken vs (value v) ≡ cell_named vs (Some k)
constant_known vs (integer y) z k n is h =
    let same : z ≡ y = cc (is) in
    let known : integer z ≡ integer (pos k) = (place_known n (integer z) k (sym h)).0 in
    subst (λ x. taken vs (value (integer x)) ≡ cell_named vs (Some k)) same (ap (λ x. taken vs (value x)) known)
constant_known vs _ z k n is h = absurd (cc (is))

-- null, of a type of integers
pub constant_null : (vs : List Cell) (v : Value) (m : Nullability) (p : PType) → None ≡ integer_value v → is_of (primitive p m) v ≡ true
    → taken vs (value v) ≡ cell_named vs None
constant_null vs null m p is h = refl
constant_null vs (integer z) m p is h = absurd (cc (is))
constant_null vs _ m p is h = absurd (false≢true h)

-- a null needs a nullable type
pub null_needs : (v : Value) (m : Nullability) (p : PType) → None ≡ integer_value v → is_of (primitive p m) v ≡ true → m ≡ Nullable
null_needs null Nullable p is h = refl
null_needs null NonNullable p is h = absurd (false≢true h)
null_needs (integer z) m p is h = absurd (cc (is))
null_needs _ m p is h = absurd (false≢true h)

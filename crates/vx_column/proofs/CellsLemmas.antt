-- One row of a node.
use Rattle.std.proofs.Common.{◌≡◌, inl, inr, ℕ, zero, suc, ◌+◌, ◌≤◌, ◌<◌, List, [], ◌∷◌, length, map, replicate, get_or, take, ◌++◌, Bool, Option, Some, None, refl, sym, ◌∙◌, ap, subst, arith, true, false}
use Rattle.std.specs.Prelude.{slice_get, slice_index_or, is_some, IsSome, Result, Ok, Err}
use Rattle.std.specs.List.{AllZip, range_with_len, list_all}
use Rattle.std.specs.Option.{option_map}
use Rattle.std.proofs.lemmas.Result.{IfOk-weaker}
use Rattle.vx_value.specs.declared.error.VortexError.{VortexError}
use Rattle.std.proofs.lemmas.List.{take_all, take_more, map-append, length-map, length-replicate, get_or-replicate}
use Rattle.std.proofs.lemmas.List.FromFn.{get_or-map-range_with_len, length-map-range_with_len}
use Rattle.std.proofs.lemmas.Option.{slice_get-get_or, slice_get-map, get_or_from_slice_get}
use Rattle.vx_value.specs.Types.{DataType}
use Rattle.vx_value.specs.Typed.{Typed}
use Rattle.vx_value.specs.Values.{Value, null, boolean}
use Rattle.vx_value.specs.Cell.{Cell, value, fault}
use Rattle.vx_fn.specs.Apply.{apply, on_values, value_of}
use Rattle.vx_fn.specs.ReturnTypes.{return_type}
use Rattle.vx_fn.specs.declared.function.ScalarFnRef.{ScalarFnRef}
use Rattle.vx_tree.specs.Tree.{Tree, Data, node, function, bool, column, nulls_of, constant_of, slots_of, dtype, len, slots_height, masked_of}
use Rattle.vx_tree.specs.Tree.{types_in}
use Rattle.vx_tree.specs.Cells.{row_at, rows, node_cells, cells_at, slots_rows, valid_cell, valid_cells}
use Rattle.vx_tree.specs.Well.{shapes, IsNode, IsWell}
use Rattle.vx_tree.proofs.CellsLemmas.{rows_counted}
use Rattle.vx_tree.proofs.SlotsLemmas.{IsBelow, slot_below}
use Rattle.vx_tree.proofs.RefusalsLemmas.{types_back}
use Rattle.vx_column.specs.Arguments.{types_of_scalars, cells_of_scalars}
use Rattle.vx_column.specs.Nulls.{IsRowBy, validity_cells}
use Rattle.vx_column.specs.Read.{IsRow, IsUnreadRow}
use Rattle.vx_column.specs.ValidRows.{null_unless}
use Rattle.vx_column.proofs.ValidRowsLemmas.{filled_cell, one_slot}
use Rattle.vx_tree.proofs.NativesLemmas.{map_copies}
use Rattle.std.specs.Cmp.{first_so, second_so}
use Rattle.std.specs.Result.{IfOk}

-- ---- a row of a constant

constant_row_of : (t : Tree) (v : Value) (i : ℕ) → rows t ≡ replicate (len t) (value v) → i < len t → slice_get (rows t) i ≡ Some (value v)
constant_row_of t v i e h =
    let copies = replicate (len t) (value v) in
    let long = length-replicate (len t) (value v) in
    ap (λ cs. slice_get cs i) e ∙ slice_get-get_or copies i fault (omega (arith, long)) ∙ ap Some (get_or-replicate (len t) i (value v) fault h)

pub constant_row : (t : Tree) (s : Typed) (i : ℕ) → t ≡ constant_of s (len t) → i < len t → slice_get (rows t) i ≡ Some (value s.value)
constant_row t s i e h = constant_row_of t s.value i (ap rows e) h

pub nulls_row : (t : Tree) (i : ℕ) → t ≡ nulls_of (len t) → i < len t → slice_get (rows t) i ≡ Some (value null)
nulls_row t i e h = constant_row_of t null i (ap rows e) h

pub ruleset constant_rows = (constant_row, nulls_row)

-- ---- of a column

valid_get : (vs cs : List Cell) (i : ℕ) (v c : Cell) → slice_get vs i ≡ Some v → slice_get cs i ≡ Some c
    → slice_get (valid_cells vs cs) i ≡ Some (valid_cell v c)
valid_get [] cs i v c h k = absurd (cc)
valid_get (w ∷ vs) [] i v c h k = absurd (cc)
valid_get (w ∷ vs) (d ∷ cs) zero v c h k =
    let left : w ≡ v = cc in
    let right : d ≡ c = cc in
    λ i. Some (valid_cell (left i) (right i))
valid_get (w ∷ vs) (d ∷ cs) (suc i) v c h k = valid_get vs cs i v c h k

-- what a validity's tree tells of a row
pub row_told : (validity : Option Tree) (t : Tree) (i : ℕ) (v stored : Cell) → validity ≡ Some t → slice_get (rows t) i ≡ Some v
    → IsRowBy validity i stored (valid_cell v stored)
row_told validity t i v stored is told =
    subst (λ w. IsRowBy w i stored (valid_cell v stored)) (sym is) (λ cs there. valid_get (rows t) cs i v stored told there)

-- what a truth value in it makes of a stored value
pub row_known : (validity : Option Tree) (t : Tree) (i : ℕ) (b : Bool) (stored : Value) → validity ≡ Some t → slice_get (rows t) i ≡ Some (value (boolean b))
    → IsRowBy validity i (value stored) (null_unless b (value stored))
row_known validity t i b stored is told =
    subst (IsRowBy validity i (value stored)) (filled_cell b stored) (row_told validity t i (value (boolean b)) (value stored) is told)

-- ---- of a column of booleans

pub bits_row : (t : Tree) (v : Option Tree) (bits : List Bool) (i : ℕ) (b : Bool) → t ≡ column (dtype t) (len t) (bool bits) v → v ≡ None
    → slice_get bits i ≡ Some b
    → slice_get (rows t) i ≡ Some (value (boolean b))
bits_row t v bits i b is none there =
    ap (λ u. slice_get (rows u) i) (is ∙ ap (column (dtype t) (len t) (bool bits)) none) ∙ slice_get-map (λ x. value (boolean x)) bits i
    ∙ ap (option_map (λ x. value (boolean x))) there

-- a constant
pub constant_truths : (t : Tree) (s : Typed) (b : Bool) (bits : List Bool) → t ≡ constant_of s (len t) → s.value ≡ boolean b → bits ≡ replicate (len t) b
    → rows t ≡ map (λ x. value (boolean x)) bits
constant_truths t s b bits is truth made =
    ap rows is ∙ ap (λ v. replicate (len t) (value v)) truth ∙ sym (map_copies (λ x. value (boolean x)) (len t) b)
    ∙ ap (map (λ x. value (boolean x))) (sym made)

-- a row that isn't null, of a column of any values
pub valid_row : {X : Type 0} (read : X → Value) (of_items : List X → Data) (t : Tree)
    → ((n : ℕ) (xs : List X) (tys : List DataType) (css : List (List Cell)) → node_cells (dtype t) n (of_items xs) tys css ≡ valid_cells (cells_at css 0) (map (λ x. value (read x)) xs))
    → (v : Option Tree) (xs : List X) (i : ℕ) (b : Bool) (s : Typed) → t ≡ column (dtype t) (len t) (of_items xs) v
    → slice_get (map (λ x. value (read x)) xs) i ≡ Some (value s.value) → ((w : Value) → IsRowBy v i (value w) (null_unless b (value w))) → b ≡ true
    → slice_get (rows t) i ≡ Some (value s.value)
valid_row read of_items t cells v xs i b s is there told here =
    let stored = map (λ x. value (read x)) xs in
    let shown : rows t ≡ valid_cells (validity_cells v) stored =
    ap rows is ∙ cells (len t) xs _ (slots_rows (slots_of (v ∷ []))) ∙ ap (λ css. valid_cells (cells_at css 0) stored) (one_slot v) in
    ap (λ cs. slice_get cs i) shown ∙ told s.value stored there ∙ ap (λ x. Some (null_unless x (value s.value))) here

-- null of a type
abbrev pub null_typed : DataType → Typed
null_typed ty = record { of_type = ty; value = null }

-- a row that is null, of a column of any values
pub null_row : {X : Type 0} (read : X → Value) (of_items : List X → Data) (d : X) (t : Tree)
    → ((n : ℕ) (xs : List X) (tys : List DataType) (css : List (List Cell)) → node_cells (dtype t) n (of_items xs) tys css ≡ valid_cells (cells_at css 0) (map (λ x. value (read x)) xs))
    → (v : Option Tree) (xs : List X) (i : ℕ) (b : Bool) (s : Typed) → t ≡ column (dtype t) (len t) (of_items xs) v → length xs ≡ len t → i < len t
    → ((w : Value) → IsRowBy v i (value w) (null_unless b (value w))) → b ≡ false → s ≡ null_typed (dtype t)
    → IsRow t i s
null_row read of_items d t cells v xs i b s is long lt told none made =
    let stored = map (λ x. value (read x)) xs in
    let w = read (get_or xs i d) in
    let there : slice_get stored i ≡ Some (value w) =
    slice_get-map (λ x. value (read x)) xs i ∙ ap (option_map (λ x. value (read x))) (slice_get-get_or xs i d (omega (arith, long))) in
    let shown : rows t ≡ valid_cells (validity_cells v) stored =
    ap rows is ∙ cells (len t) xs _ (slots_rows (slots_of (v ∷ []))) ∙ ap (λ css. valid_cells (cells_at css 0) stored) (one_slot v) in (
      ap (λ cs. slice_get cs i) shown ∙ told w stored there ∙ ap (λ x. Some (null_unless x (value w))) none ∙ ap (λ x. Some (value x.value)) (sym made),
      ap (λ x. x.of_type) made,
    )

-- a row that another tree's row tells
module _ (t c : Tree) (i j : ℕ) where
  pub row_by : slice_get (rows t) i ≡ slice_get (rows c) j → dtype t ≡ dtype c → (r : Result Typed VortexError) → IfOk r (IsRow c j) → IfOk r (IsRow t i)
  row_by same typed r = IfOk-weaker r _ _ (λ s h. (same ∙ h.0, h.1 ∙ sym typed))

  pub unread_by : (slice_get (rows c) j ≡ Some fault → slice_get (rows t) i ≡ Some fault) → (e : VortexError) → IsUnreadRow c j e → IsUnreadRow t i e
  unread_by faulted e (inl m) = inl m
  unread_by faulted e (inr m) = inr (m.0, faulted m.1)

-- two facts of an answer, put together
pub IfOk-both : {X Y : Type 0} (r : Result X Y) {P Q R : X → Type 0} → ((x : X) → P x → Q x → R x) → IfOk r P → IfOk r Q → IfOk r R
IfOk-both (Ok x) f p q = f x p q
IfOk-both (Err y) f p q = tt

-- what all pass, each does
pub passes_at : {X : Type 0} (test : X → Bool) (xs : List X) (i : ℕ) (x : X) → list_all test xs ≡ true → slice_get xs i ≡ Some x → test x ≡ true
passes_at test [] i x h e = absurd (cc)
passes_at test (y ∷ xs) zero x h e = let same : y ≡ x = cc in subst (λ z. test z ≡ true) same (first_so (test y) _ h)
passes_at test (y ∷ xs) (suc i) x h e = passes_at test xs i x (second_so (test y) _ h) e

-- ---- of a masked node

-- a fault stays one, whatever the validity
pub fault_cell : (v : Cell) → valid_cell v fault ≡ fault
fault_cell (value (boolean true)) = refl
fault_cell (value (boolean false)) = refl
fault_cell _ = refl

pub masked_rows : (t c : Tree) (v : Option Tree) → t ≡ masked_of c v → rows t ≡ valid_cells (validity_cells v) (rows c)
masked_rows t c None e = ap rows e
masked_rows t c (Some u) e = ap rows e

-- ---- of booleans that are told by bits
pub bits_long : (t : Tree) (bits : List Bool) → length (rows t) ≡ len t → rows t ≡ map (λ b. value (boolean b)) bits → length bits ≡ len t
bits_long t bits counted e = sym (length-map bits (λ b. value (boolean b))) ∙ ap length (sym e) ∙ counted

-- read up to a row
pub truths_more : (t : Tree) (i : ℕ) (v : Value) (bits : List Bool) (b : Bool) → IsWell t → i < len t → slice_get (rows t) i ≡ Some (value v) → v ≡ boolean b
    → take i (rows t) ≡ map (λ b. value (boolean b)) bits → take (i + 1) (rows t) ≡ map (λ b. value (boolean b)) (bits ++ b ∷ [])
truths_more t i v bits b well lt there is h =
    take_more (rows t) i fault (omega (arith, rows_counted t well))
    ∙ ap (λ cs. cs ++ get_or (rows t) i fault ∷ []) h
    ∙ ap (λ c. map (λ b. value (boolean b)) bits ++ c ∷ []) (get_or_from_slice_get (rows t) i (value v) fault there ∙ ap value is)
    ∙ sym (map-append (λ b. value (boolean b)) bits (b ∷ []))

-- ---- of a function

-- the slot holds a tree of which s is row i
abbrev pub IsRead : ℕ → Option Tree → Typed → Type 0
IsRead i None s = ⊥
IsRead i (Some t) s = IsRow t i s

read_types : (i : ℕ) (xs : List (Option Tree)) (ss : List Typed) → AllZip (IsRead i) xs ss → types_in (shapes (slots_of xs)) ≡ types_of_scalars ss
read_types i [] [] h = refl
read_types i [] (s ∷ ss) h = absurd h
read_types i (x ∷ xs) [] h = absurd h
read_types i (None ∷ xs) (s ∷ ss) h = absurd h.0
read_types i (Some t ∷ xs) (s ∷ ss) h = λ j. sym h.0.1 j ∷ read_types i xs ss h.1 j

read_cells : (i : ℕ) (xs : List (Option Tree)) (ss : List Typed) → AllZip (IsRead i) xs ss → row_at (slots_rows (slots_of xs)) i ≡ cells_of_scalars ss
read_cells i [] [] h = refl
read_cells i [] (s ∷ ss) h = absurd h
read_cells i (x ∷ xs) [] h = absurd h
read_cells i (None ∷ xs) (s ∷ ss) h = absurd h.0
read_cells i (Some t ∷ xs) (s ∷ ss) h = λ j. get_or_from_slice_get (rows t) i (value s.value) fault h.0.0 j ∷ read_cells i xs ss h.1 j

-- a fault in any argument is a fault
pub later_fault : (g : List Value → Cell) (c : Cell) (cs : List Cell) → ((g : List Value → Cell) → on_values g cs ≡ fault) → on_values g (c ∷ cs) ≡ fault
later_fault g (value v) cs h = h (λ vs. g (v ∷ vs))
later_fault g fault cs h = refl

argument_fault : (i : ℕ) (xs : List (Option Tree)) (k : ℕ) (c : Tree) (g : List Value → Cell) →
    k < length xs → Some c ≡ get_or xs k (Some c) → slice_get (rows c) i ≡ Some fault → on_values g (row_at (slots_rows (slots_of xs)) i) ≡ fault
argument_fault i [] k c g lt e h = absurd (omega arith)
argument_fault i (None ∷ xs) k c g lt e h = refl
argument_fault i (Some t ∷ xs) zero c g lt e h =
    let same : t ≡ c = cc in
    ap (λ x. on_values g (x ∷ row_at (slots_rows (slots_of xs)) i)) (get_or_from_slice_get (rows t) i fault fault (ap (λ u. slice_get (rows u) i) same ∙ h))
argument_fault i (Some t ∷ xs) (suc k) c g lt e h =
    later_fault g (slice_index_or (rows t) i fault) (row_at (slots_rows (slots_of xs)) i) (λ g. argument_fault i xs k c g (omega arith) e h)

module _ (t : Tree) (f : ScalarFnRef) (xs : List (Option Tree)) (i : ℕ)
    (shown : t ≡ node (dtype t) (len t) (function f) (slots_of xs)) (well : IsNode (dtype t) (len t) (function f) (shapes (slots_of xs))) where
  typed : return_type f (types_in (shapes (slots_of xs))) ≡ Some (dtype t)
  typed = ap (return_type f) (ap types_in well.1 ∙ types_back (len t) well.0) ∙ well.2

  row_is : i < len t → slice_get (rows t) i ≡ Some (apply f (types_in (shapes (slots_of xs))) (dtype t) (row_at (slots_rows (slots_of xs)) i))
  row_is lt =
      let cell = λ (j : ℕ). apply f (types_in (shapes (slots_of xs))) (dtype t) (row_at (slots_rows (slots_of xs)) j) in
      let l = length-map-range_with_len cell 0 (len t) in
      ap (λ u. slice_get (rows u) i) shown ∙ slice_get-get_or (map cell (range_with_len 0 (len t))) i fault (omega (arith, l))
      ∙ ap Some (get_or-map-range_with_len cell 0 (len t) i i fault lt (omega arith))

  pub child_below : (k : ℕ) (d : Option Tree) → k < length xs → IsBelow (len t) (slots_height (slots_of xs) + 1) (get_or xs k d)
  child_below k d lt = slot_below (len t) xs well.0 k d (slots_height (slots_of xs) + 1) well.1 (omega arith) lt

  pub child_faulted : (k : ℕ) (c : Tree) → i < len t → k < length xs → Some c ≡ get_or xs k (Some c) → slice_get (rows c) i ≡ Some fault
      → slice_get (rows t) i ≡ Some fault
  child_faulted k c lt there e h = row_is lt ∙ ap Some (argument_fault i xs k c (value_of f (types_in (shapes (slots_of xs))) (dtype t)) there e h)

  -- once all slots are read
  module _ (k : ℕ) (scalars ss : List Typed) (all : length xs ≤ k) (same : ss ≡ scalars) (first : AllZip (IsRead i) (take k xs) scalars) where
    read : AllZip (IsRead i) xs ss
    read = rw (sym (take_all k xs all), same) first

    types_are : return_type f (types_of_scalars ss) ≡ Some (dtype t)
    types_are = ap (return_type f) (sym (read_types i xs ss read)) ∙ typed

    pub function_taken : IsSome (return_type f (types_of_scalars ss))
    function_taken = ap is_some types_are

    cells_are : i < len t → slice_get (rows t) i ≡ Some (apply f (types_of_scalars ss) (dtype t) (cells_of_scalars ss))
    cells_are lt = row_is lt ∙ (λ j. Some (apply f (read_types i xs ss read j) (dtype t) (read_cells i xs ss read j)))

    pub function_row : (s : Typed) → i < len t → return_type f (types_of_scalars ss) ≡ Some s.of_type
        → apply f (types_of_scalars ss) s.of_type (cells_of_scalars ss) ≡ value s.value → IsRow t i s
    function_row s lt r given =
        let known = types_are in
        let typed : s.of_type ≡ dtype t = cc in
        (cells_are lt ∙ ap (λ ty. Some (apply f (types_of_scalars ss) ty (cells_of_scalars ss))) (sym typed) ∙ ap Some given, typed)

    pub function_faulted : i < len t → ((ty : DataType) → return_type f (types_of_scalars ss) ≡ Some ty → apply f (types_of_scalars ss) ty (cells_of_scalars ss) ≡ fault) →
        slice_get (rows t) i ≡ Some fault
    function_faulted lt h = cells_are lt ∙ ap Some (h (dtype t) types_are)

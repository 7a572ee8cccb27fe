-- Columns of a nested type that a builder keeps: their own validities, as bits, and their slots.
use Rattle.std.proofs.Common.{◌≡◌, ◌⊎◌, inl, inr, ℕ, zero, suc, ◌+◌, ◌-◌, ◌<◌, ◌≤◌, ◌^◌, List, [], ◌∷◌, ◌++◌, length, map, take, drop, get_or, replicate, Bool, true, false, Option, Some, None, if◌then◌else◌, refl, sym, ap, subst, ◌∙◌, arith}
use Rattle.std.specs.Prelude.{sum, slice_get, option_map}
use Rattle.std.specs.List.{All, AllByRecursion}
use Rattle.std.proofs.lemmas.Bool.{false≢true}
use Rattle.std.proofs.lemmas.List.{map-append, append-nil, append_assoc, length-append, length-replicate, get_or-replicate, get_or_past, replicate-append-replicate, take_more, take_all, drop_more, drop_all}
use Rattle.std.proofs.lemmas.List.Elements.{recursion_from_All, All-map, All-weaker}
use Rattle.std.proofs.lemmas.List.Sums.{sum_by-append, sum_by-cons}
use Rattle.vx_value.specs.Types as type
use Rattle.vx_value.specs.Types.{DataType, Fields, nullability_of}
use Rattle.vx_value.specs.Values.{boolean}
use Rattle.vx_value.specs.Cell.{value, fault}
use Rattle.vx_value.specs.Storage.{is_nested}
use Rattle.vx_value.specs.Supported.{has_columns, have_columns}
use Rattle.vx_value.specs.View.{type_of, fields_of}
use Rattle.vx_value.specs.declared.dtype.DType.{DType}
use Rattle.vx_value.specs.declared.dtype.DType.TheVariants as kind
use Rattle.vx_value.specs.declared.dtype.Nullability.{Nullability}
use Rattle.vx_value.specs.declared.dtype.Nullability.TheVariants.{NonNullable, Nullable}
use Rattle.vx_value.specs.declared.error.ArgKind.TheVariants.{BadType}
use Rattle.vx_value.specs.declared.error.VortexError.{VortexError}
use Rattle.vx_value.specs.declared.error.VortexError.TheVariants.{OutOfMemory, Fault, InvalidArgument}
use Rattle.vx_value.specs.declared.nested.Field.{Field}
use Rattle.vx_value.proofs.SupportedLemmas.{first_columns, other_columns}
use Rattle.vx_mask.specs.Logic.{bit_row}
use Rattle.vx_mask.specs.Masks.{is_all_true, is_all_false}
use Rattle.vx_mask.proofs.Lists.{same_below}
use Rattle.vx_tree.specs.Conditions.{first_of_both}
use Rattle.vx_tree.specs.Tree.{Tree, Slots, node, no_slots, absent, slot, composed, slots_of, filled_slots, booleans, dtype, len, datum, slots, is_composed, IsStruct, fields_shapes, last_tree, joined_refusal, chunks_refusal}
use Rattle.vx_tree.specs.SlotTypes.{of_lengths, lengths_in, type_refusal}
use Rattle.vx_tree.specs.Well.{Shape, shape, shape_of, shapes, IsNode, IsValidity, IsWell}
use Rattle.vx_tree.specs.Cells.{rows, HasNoFault}
use Rattle.vx_tree.specs.Validities.{nullability_by, child_of, child_by, truths, HasRows}
use Rattle.vx_tree.specs.declared.array.layout.Layout.{Layout}
use Rattle.vx_tree.specs.declared.array.layout.Layout.TheVariants.{Struct, Extension}
use Rattle.vx_tree.specs.declared.validity.Validity.{Validity}
use Rattle.vx_tree.specs.declared.validity.Validity.TheVariants as validity
use Rattle.vx_tree.proofs.CellsLemmas.{no_fault_at}
use Rattle.vx_tree.proofs.SlotTypesLemmas.{none_other, lengths_back, lengths_filled, joined_past}
use Rattle.vx_tree.proofs.StructLemmas.{last_is}
use Rattle.vx_column.specs.Arguments.{AreUnread}
use Rattle.vx_column.specs.Grown.{IsPiece, cells_read}
use Rattle.vx_column.specs.Growing.{padded, told_more, told_rows}
use Rattle.vx_column.specs.Joined.{tree_in, slot_of_each, joined_slot, joined_fields, says_valid, told_valid, all_valid, joined}
use Rattle.vx_column.specs.Nulls.{validity_cells}
use Rattle.vx_column.specs.Pieces.{columns_in, own_validity, IsPieceOf, IsNoPiece}
use Rattle.vx_column.specs.ValidRows.{is_valid, HasValidity, IsValidityOf, AreTold, TellsRows, child_in, nullability_in}
use Rattle.vx_column.specs.declared.builder.join.Piece.{Piece}
use Rattle.vx_column.specs.declared.rows.valid.ValidRows.{ValidRows}
use Rattle.vx_column.specs.declared.rows.valid.ValidRows.TheVariants as rows_valid
use Rattle.vx_column.proofs.ComposedLemmas.{validity_of_told}
use Rattle.vx_column.proofs.GrowingLemmas.{length-padded}
use Rattle.vx_column.proofs.JoinedLemmas.{own_told, joined_long, joined_shapes, field_shape, storage_shape, joined_storage}
use Rattle.vx_column.proofs.MaskedLemmas.{tells_child}
use Rattle.vx_column.proofs.NestedLemmas.{composed_nested}
use Rattle.vx_column.proofs.ValidRowsLemmas.{by_rows}

-- ---- a column's own validity

-- why it can't be read
unread : (n : ℕ) (w : Option Tree) (e : VortexError) → AreUnread n w e → (e ≡ OutOfMemory) ⊎ ((e ≡ Fault) × (HasNoFault (validity_cells w) → ⊥))
unread n None e h = inl h
unread n (Some t) e (inl h) = inl h
unread n (Some t) e (inr h) = inr (h.0, λ whole. no_fault_at (rows t) h.1 whole h.3)

-- of a column of structs, in its last slot
module _ (t : Tree) (l : Layout) (ss : List (Option Tree)) (structs : l ≡ Struct) (is : t ≡ node (dtype t) (len t) (composed l) (slots_of ss))
    (fits : IsNode (dtype t) (len t) (composed l) (shapes (slots_of ss))) where
  pub are_structs : IsStruct (dtype t) (len t) (shapes (slots_of ss))
  are_structs = subst (λ k. IsNode (dtype t) (len t) (composed k) (shapes (slots_of ss))) structs fits

module _ (t : Tree) (l : Layout) (ss rest : List (Option Tree)) (w : Option Tree) (structs : l ≡ Struct)
    (is : t ≡ node (dtype t) (len t) (composed l) (slots_of ss)) (fits : IsNode (dtype t) (len t) (composed l) (shapes (slots_of ss))) (well : IsWell t)
    (split : ss ≡ rest ++ w ∷ []) where
  abbrev h : IsStruct (dtype t) (len t) (shapes (slots_of ss))
  h = are_structs t l ss structs is fits

  last_own : last_tree (slots t) ≡ w
  last_own = ap (λ u. last_tree (slots u)) is ∙ last_is ss rest w split

  pub own_is : own_validity (dtype t) t ≡ w
  own_is = ap (λ ty. own_validity ty t) h.3 ∙ last_own

  pub tells_own : TellsRows (nullability_of (dtype t)) (len t) w
  tells_own =
      subst (λ x. x) (λ i. TellsRows (nullability_of (sym h.3 i)) (len t) (last_own i))
      (own_told h.0 h.1 t h.3 (ap (λ u. is_composed (datum u)) is) well)

  pub own_unread : (e : VortexError) → AreUnread (len t) w e → IsNoPiece (dtype t) t e
  own_unread e u =
      let read : cells_read (dtype t) t ≡ validity_cells w = ap (λ ty. cells_read ty t) h.3 ∙ ap validity_cells last_own in
      subst (λ cs. (e ≡ OutOfMemory) ⊎ ((e ≡ Fault) × (HasNoFault cs → ⊥))) (sym read) (unread (len t) w e u)

-- one that is read has no fault
truths_whole : (bits : List Bool) → HasNoFault (map (λ b. value (boolean b)) bits)
truths_whole [] = tt
truths_whole (b ∷ bits) = truths_whole bits

told_whole : (n : ℕ) (w : Option Tree) (valid : ValidRows) → AreTold n w valid → HasNoFault (validity_cells w)
told_whole n None valid h = tt
told_whole n (Some t) valid h = subst HasNoFault (sym h.2) (truths_whole h.0)

pub piece_told : (t : Tree) (valid : ValidRows) → is_composed (datum t) ≡ true → IsWell t → AreTold (len t) (own_validity (dtype t) t) valid
    → HasNoFault (cells_read (dtype t) t)
piece_told (node ty n (composed Struct) ss) valid kind well told =
    let t = node ty n (composed Struct) ss in
    let own = subst (λ s. AreTold n (own_validity s t) valid) well.0.3 told in
    subst (λ s. HasNoFault (cells_read s t)) (sym well.0.3) (told_whole n (last_tree ss) valid own)
piece_told (node ty n (composed Extension) ss) valid kind well told =
    subst (λ s. HasNoFault (cells_read s (node ty n (composed Extension) ss))) (sym well.0.2) tt
piece_told (node ty n d ss) valid kind well told = absurd (false≢true kind)

-- ---- the rows that aren't null, as bits

abbrev valid_bits : ℕ → ValidRows → List Bool
valid_bits n (rows_valid.All m) = replicate n true
valid_bits n (rows_valid.Bits bits) = bits

bits_counted : (n : ℕ) (valid : ValidRows) → HasValidity valid n → length (valid_bits n valid) ≡ n
bits_counted n (rows_valid.All m) h = length-replicate n true
bits_counted n (rows_valid.Bits bits) h = h

bits_told : (n : ℕ) (valid : ValidRows) (i : ℕ) → i < n → bit_row (valid_bits n valid) i ≡ is_valid valid i
bits_told n (rows_valid.All m) i lt = get_or-replicate n i true false lt
bits_told n (rows_valid.Bits bits) i lt = refl

same_bits : (xs ys : List Bool) (n : ℕ) → length xs ≡ n → length ys ≡ n → ((i : ℕ) → i < n → bit_row xs i ≡ bit_row ys i) → xs ≡ ys
same_bits xs ys n h k e = by_rows xs false n h ∙ same_below n (bit_row xs) (bit_row ys) e ∙ sym (by_rows ys false n k)

says_back : (bits : List Bool) → map says_valid (map (λ b. value (boolean b)) bits) ≡ bits
says_back [] = refl
says_back (b ∷ bits) = ap (λ l. b ∷ l) (says_back bits)

bits_own : (n : ℕ) (w : Option Tree) (valid : ValidRows) → HasValidity valid n → AreTold n w valid → valid_bits n valid ≡ told_valid n w
bits_own n None (rows_valid.All m) s h = refl
bits_own n None (rows_valid.Bits bits) s h = absurd (false≢true (sym (get_or_past bits (length bits) false (omega arith)) ∙ h (length bits)))
bits_own n (Some t) valid s h =
    same_bits (valid_bits n valid) h.0 n (bits_counted n valid s) h.1 (λ i lt. bits_told n valid i lt ∙ h.3 i lt)
    ∙ sym (says_back h.0) ∙ sym (ap (map says_valid) h.2)

-- ---- of several pieces, one after the other

all_valid-append : (ts us : List Tree) → all_valid (ts ++ us) ≡ all_valid ts ++ all_valid us
all_valid-append [] us = refl
all_valid-append (t ∷ ts) us =
    let first = told_valid (len t) (last_tree (slots t)) in
    ap (λ l. first ++ l) (all_valid-append ts us) ∙ sym (append_assoc first (all_valid ts) (all_valid us))

padded_more : (n k : ℕ) (bits : List Bool) (valid : ValidRows) → length bits ≤ n → HasValidity valid k
    → padded (n + k) (told_more n bits valid) ≡ padded n bits ++ valid_bits k valid
padded_more n k bits (rows_valid.All m) h s =
    let count : n + k - length bits ≡ (n - length bits) + k = omega (arith, h) in
    ap (λ j. bits ++ replicate j true) count
    ∙ ap (λ l. bits ++ l) (sym (replicate-append-replicate (n - length bits) k true))
    ∙ sym (append_assoc bits (replicate (n - length bits) true) (replicate k true))
padded_more n k bits (rows_valid.Bits more) h s =
    let whole = padded n bits ++ more in
    let none : n + k - length whole ≡ 0 = omega (arith, length-append (padded n bits) more, length-padded n bits h, s) in
    ap (λ j. whole ++ replicate j true) none ∙ append-nil whole

-- the bits of n rows, those of the pieces: fewer, if the last aren't null
pub record ArePassed (m : Nullability) (ps : List Piece) (n : ℕ) (bits : List Bool) : Type 0 where
  pub counted : n ≡ sum (map len (columns_in ps))
  pub within : length bits ≤ n
  pub told : padded n bits ≡ all_valid (columns_in ps)
  pub nullable : 0 < length bits → m ≡ Nullable

module _ (fs : Fields) (m : Nullability) (ps : List Piece) (n : ℕ) (bits : List Bool) (p : Piece) (h : ArePassed m ps n bits)
    (piece : IsPieceOf (type.struct fs m) p) where
  more_within : (valid : ValidRows) → HasValidity valid (len p.column) → length (told_more n bits valid) ≤ n + len p.column
  more_within (rows_valid.All k) s = omega (arith, h.within)
  more_within (rows_valid.Bits more) s = omega (arith, s, length-append (padded n bits) more, length-padded n bits h.within)

  more_nullable : (valid : ValidRows) → nullability_in valid ≡ m → 0 < length (told_more n bits valid) → m ≡ Nullable
  more_nullable (rows_valid.All k) e some = h.nullable some
  more_nullable (rows_valid.Bits more) e some = sym e

  pub passed_more : ArePassed m (ps ++ p ∷ []) (n + len p.column) (told_more n bits p.valid)
  passed_more =
      let k = len p.column in
      let columns : columns_in (ps ++ p ∷ []) ≡ columns_in ps ++ p.column ∷ [] = map-append (λ (q : Piece). q.column) ps (p ∷ []) in
      record {
        counted = omega (
          arith,
          h.counted,
          ap (λ ts. sum (map len ts)) columns,
          ap sum (map-append len (columns_in ps) (p.column ∷ [])),
          sum_by-append (λ x. x) (map len (columns_in ps)) (k ∷ []),
          sum_by-cons (λ x. x) k [],
        );
        within = more_within p.valid piece.sized;
        told = padded_more n k bits p.valid h.within piece.sized
            ∙ (λ i. h.told i ++ bits_own k (last_tree (slots p.column)) p.valid piece.sized piece.valid i)
            ∙ ap (λ l. all_valid (columns_in ps) ++ l) (sym (append-nil (told_valid k (last_tree (slots p.column)))))
            ∙ sym (all_valid-append (columns_in ps) (p.column ∷ []))
            ∙ sym (ap all_valid columns);
        nullable = more_nullable p.valid piece.nullability;
      }

-- once all are passed
all_true : (n : ℕ) → is_all_true (replicate n true) ≡ true
all_true zero = refl
all_true (suc n) = all_true n

none_null : (n : ℕ) → child_by (replicate n true) ≡ None
none_null n = by_test (is_all_true (replicate n true)) (all_true n)
  where
    by_test : (b : Bool) → b ≡ true → (if b then None else (if is_all_false (replicate n true) then Some (truths false (length (replicate n true))) else Some (booleans (replicate n true)))) ≡ None
    by_test true h = refl
    by_test false h = absurd (false≢true h)

module _ (m : Nullability) (ps : List Piece) (i n k : ℕ) (bits : List Bool) (past : length ps ≤ i) (passed : ArePassed m (take i ps) n bits)
    (counted : k ≡ sum (map len (columns_in ps))) where
  whole : ArePassed m ps k bits
  whole =
      let all : take i ps ≡ ps = take_all i ps past in
      let same : n ≡ k = passed.counted ∙ ap (λ qs. sum (map len (columns_in qs))) all ∙ sym counted in
      subst (λ x. x) (λ j. ArePassed m (all j) (same j) bits) passed

  pub passed_all : (valid : ValidRows) → valid ≡ told_rows m k bits → child_in valid ≡ child_by (all_valid (columns_in ps))
  passed_all valid made = ap child_in made ∙ by_bits bits whole.told
    where
      by_bits : (bits : List Bool) → padded k bits ≡ all_valid (columns_in ps) → child_in (told_rows m k bits) ≡ child_by (all_valid (columns_in ps))
      by_bits [] told = sym (none_null (k - 0)) ∙ ap child_by told
      by_bits (b ∷ bits) told = ap child_by told

-- the next one
pub rows_within : (ps : List Piece) (i : ℕ) (p : Piece) → i < length ps → p ≡ get_or ps i p
    → sum (map len (columns_in (take i ps))) + len p.column ≤ sum (map len (columns_in ps))
rows_within [] i p lt is = absurd (omega arith)
rows_within (q ∷ ps) zero p lt is =
    omega (arith, ap (λ (x : Piece). len x.column) is, sum_by-cons (λ x. x) (len q.column) (map len (columns_in ps)))
rows_within (q ∷ ps) (suc i) p lt is =
    omega (
      arith,
      rows_within ps i p (omega arith) is,
      sum_by-cons (λ x. x) (len q.column) (map len (columns_in ps)),
      sum_by-cons (λ x. x) (len q.column) (map len (columns_in (take i ps))),
    )

pub passed_at : (fs : Fields) (m : Nullability) (ps : List Piece) (i : ℕ) (p : Piece) (n k : ℕ) (bits new : List Bool) → i < length ps → p ≡ get_or ps i p
    → All (IsPieceOf (type.struct fs m)) ps → ArePassed m (take i ps) n bits → k ≡ len p.column → new ≡ told_more n bits p.valid
    → ArePassed m (take (i + 1) ps) (n + k) new
passed_at fs m ps i p n k bits new lt is pieces passed long made =
    let more : take (i + 1) ps ≡ take i ps ++ p ∷ [] = take_more ps i p lt ∙ ap (λ q. take i ps ++ q ∷ []) (sym is) in
    let piece = subst (IsPieceOf (type.struct fs m)) (sym is) (pieces i p lt) in
    subst (λ x. x) (λ j. ArePassed m (sym more j) (n + sym long j) (sym made j)) (passed_more fs m (take i ps) n bits p passed piece)

-- ---- the trees in one slot of each

-- a slot that has a shape holds a tree
slot_there : (xs : List (Option Tree)) (i : ℕ) (s : Shape) → slice_get (shapes (slots_of xs)) i ≡ Some (Some s)
    → (i < length xs) × ((d : Option Tree) → get_or xs i d ≡ Some (tree_in (slots_of xs) i))
slot_there [] i s h = absurd (cc)
slot_there (None ∷ xs) zero s h = absurd (cc)
slot_there (None ∷ xs) (suc i) s h = let later = slot_there xs i s h in (omega (arith, later.0), later.1)
slot_there (Some t ∷ xs) zero s h = (omega arith, λ d. refl)
slot_there (Some t ∷ xs) (suc i) s h = let later = slot_there xs i s h in (omega (arith, later.0), later.1)

slot_shaped : (ss : Slots) (i : ℕ) (s : Shape) → slice_get (shapes ss) i ≡ Some (Some s) → shape_of (tree_in ss i) ≡ s
slot_shaped no_slots i s h = absurd (cc)
slot_shaped (absent ss) zero s h = absurd (cc)
slot_shaped (absent ss) (suc i) s h = slot_shaped ss i s h
slot_shaped (slot t ss) zero s h = cc
slot_shaped (slot t ss) (suc i) s h = slot_shaped ss i s h

-- slot i holds a tree of this type, with as many rows
abbrev pub HasTree : ℕ → DataType → Piece → Type 0
HasTree i t p = slice_get (shapes (slots p.column)) i ≡ Some (Some (shape t (len p.column)))

abbrev tree_at : ℕ → Piece → Tree
tree_at i p = tree_in (slots p.column) i

each_tree : (i : ℕ) (ps : List Piece) → slot_of_each i (columns_in ps) ≡ map (tree_at i) ps
each_tree i [] = refl
each_tree i (p ∷ ps) = ap (λ l. tree_at i p ∷ l) (each_tree i ps)

same_tree : (a b : Tree) → Some a ≡ Some b → a ≡ b
same_tree a b e = cc

module _ (ps : List Piece) (i k : ℕ) (p : Piece) (xs : List (Option Tree)) (have : All (λ p. (t : DataType) × HasTree i t p) ps) (lt : k < length ps)
    (is : p ≡ get_or ps k p) (shown : slots_of xs ≡ slots p.column) where
  there : (i < length xs) × ((d : Option Tree) → get_or xs i d ≡ Some (tree_at i p))
  there =
      let here = subst (λ q. (t : DataType) × HasTree i t q) (sym is) (have k p lt) in
      let found = slot_there xs i (shape here.0 (len p.column)) (ap (λ ss. slice_get (shapes ss) i) shown ∙ here.1) in
      (found.0, λ d. found.1 d ∙ ap (λ ss. Some (tree_in ss i)) shown)

  pub slot_within : i < length xs
  slot_within = there.0

  pub slot_holds : (x : Option Tree) → x ≡ get_or xs i x → x ≡ None → ⊥
  slot_holds x at none = let e : Some (tree_at i p) ≡ None = sym (there.1 x) ∙ sym at ∙ none in cc

  pub slots_more : (x : Option Tree) (t u : Tree) (ts us : List Tree) → x ≡ get_or xs i x → x ≡ Some t → u ≡ t
      → ts ≡ slot_of_each i (columns_in (take k ps)) → us ≡ ts ++ u ∷ [] → us ≡ slot_of_each i (columns_in (take (k + 1) ps))
  slots_more x t u ts us at some copied so grown =
      let tree : u ≡ tree_at i p = copied ∙ same_tree t (tree_at i p) (sym some ∙ at ∙ there.1 x) in
      let more : take (k + 1) ps ≡ take k ps ++ p ∷ [] = take_more ps k p lt ∙ ap (λ q. take k ps ++ q ∷ []) (sym is) in
      grown ∙ (λ j. (so ∙ each_tree i (take k ps)) j ++ tree j ∷ []) ∙ sym (map-append (tree_at i) (take k ps) (p ∷ [])) ∙ ap (map (tree_at i)) (sym more)
      ∙ sym (each_tree i (take (k + 1) ps))

-- ---- as chunks

module _ (ty : DataType) (i : ℕ) where
  filled_shapes : (ps : List Piece) → AllByRecursion (HasTree i ty) ps
      → shapes (filled_slots (slot_of_each i (columns_in ps))) ≡ of_lengths ty (map len (columns_in ps))
  filled_shapes [] h = refl
  filled_shapes (p ∷ ps) h = λ j. Some (slot_shaped (slots p.column) i (shape ty (len p.column)) h.0 j) ∷ filled_shapes ps h.1 j

  not_refused : (ps : List Piece) (e : VortexError) → All (HasTree i ty) ps → sum (map len (columns_in ps)) < 2 ^ 64
      → chunks_refusal ty (slot_of_each i (columns_in ps)) ≡ Some e → ⊥
  not_refused ps e have fits h =
      let ts = slot_of_each i (columns_in ps) in
      let ms = map len (columns_in ps) in
      let shaped = filled_shapes ps (recursion_from_All (HasTree i ty) ps have) in
      let lengths : map len ts ≡ ms = sym (lengths_filled ts) ∙ ap lengths_in shaped ∙ lengths_back ty ms in
      let typed : type_refusal ty 0 (shapes (filled_slots ts)) ≡ None = ap (type_refusal ty 0) shaped ∙ none_other ty 0 ms in
      let past = joined_past 0 ms e (sym (λ j. first_of_both (typed j) (joined_refusal 0 (lengths j))) ∙ h) in
      omega (arith, past, fits)

  pub only_memory : (ps : List Piece) (s : DataType) (ts : List Tree) (e : VortexError) → All (HasTree i ty) ps → has_columns ty ≡ true
      → sum (map len (columns_in ps)) < 2 ^ 64 → s ≡ ty → ts ≡ slot_of_each i (columns_in ps)
      → (e ≡ OutOfMemory) ⊎ ((e ≡ InvalidArgument BadType) × (has_columns s ≡ false)) ⊎ (chunks_refusal s ts ≡ Some e) → e ≡ OutOfMemory
  only_memory ps s ts e have columns fits same chunks (inl h) = h
  only_memory ps s ts e have columns fits same chunks (inr (inl h)) = absurd (false≢true (sym h.1 ∙ ap has_columns same ∙ columns))
  only_memory ps s ts e have columns fits same chunks (inr (inr h)) =
      absurd (not_refused ps e have fits (sym (λ j. chunks_refusal (same j) (chunks j)) ∙ h))

-- ---- columns of structs and of extensions

-- a field of structs with columns has columns
pub field_columns : (fs : List Field) (i : ℕ) (f : Field) → i < length fs → have_columns (fields_of fs) ≡ true → has_columns (type_of (get_or fs i f).dtype) ≡ true
field_columns [] i f lt h = absurd (omega arith)
field_columns (g ∷ fs) zero f lt h = first_columns g.name (type_of g.dtype) (fields_of fs) h
field_columns (g ∷ fs) (suc i) f lt h = field_columns fs i f (omega arith) (other_columns g.name (type_of g.dtype) (fields_of fs) h)

columns_are : (ty : DataType) (ps : List Piece) → All (IsPieceOf ty) ps → All (IsPiece ty) (columns_in ps)
columns_are ty ps h = All-map (IsPiece ty) (λ (p : Piece). p.column) ps (All-weaker (IsPieceOf ty) (λ p. IsPiece ty p.column) (λ p k. k.column) ps h)

pub field_there : (ty : DataType) (fs : List Field) (m : Nullability) (ps : List Piece) (i : ℕ) (f : Field) → ty ≡ type.struct (fields_of fs) m
    → All (IsPieceOf ty) ps → i < length fs → All (HasTree i (type_of (get_or fs i f).dtype)) ps
field_there ty fs m ps i f typed h lt k d below = field_shape fs m (get_or ps k d).column i f (subst (λ s. IsPieceOf s (get_or ps k d)) typed (h k d below)).column lt

pub storage_there : (ty : DataType) (id : List ℕ) (s : DataType) (ps : List Piece) → ty ≡ type.extension id s → All (IsPieceOf ty) ps → All (HasTree 0 s) ps
storage_there ty id s ps typed h k d below = storage_shape id s (get_or ps k d).column (subst (λ r. IsPieceOf r (get_or ps k d)) typed (h k d below)).column

-- the slots of the fields so far, those to come behind them
pub fields_more : (fs : List Field) (i : ℕ) (f : Field) (ts : List Tree) (all xs ys : List (Option Tree)) (t : Tree) → i < length fs
    → xs ++ map Some (joined_fields i (fields_of (drop i fs)) ts) ≡ all → t ≡ joined_slot (type_of (get_or fs i f).dtype) (slot_of_each i ts)
    → ys ≡ xs ++ Some t ∷ [] → ys ++ map Some (joined_fields (i + 1) (fields_of (drop (i + 1) fs)) ts) ≡ all
fields_more fs i f ts all xs ys t lt so made grown =
    let next : i + 1 ≡ suc i = omega arith in
    let rest = map Some (joined_fields (i + 1) (fields_of (drop (i + 1) fs)) ts) in
    ap (λ l. l ++ rest) grown ∙ append_assoc xs (Some t ∷ []) rest
    ∙ (λ j. xs ++ Some (made j) ∷ map Some (joined_fields (next j) (fields_of (drop (i + 1) fs)) ts))
    ∙ sym (ap (λ gs. xs ++ map Some (joined_fields i (fields_of gs) ts)) (drop_more fs i f lt)) ∙ so

-- the slot of a validity of n rows
validity_fits : (m : Nullability) (n : ℕ) (v : Validity) (w : Option Tree) → w ≡ child_of v n → nullability_by v ≡ m → HasRows v n
    → IsValidity m n (option_map shape_of w)
validity_fits NonNullable n validity.NonNullable w e same has = subst (λ x. IsValidity NonNullable n (option_map shape_of x)) (sym e) tt
validity_fits NonNullable n validity.AllValid w e same has = absurd (cc)
validity_fits NonNullable n validity.AllInvalid w e same has = absurd (cc)
validity_fits NonNullable n (validity.Array t) w e same has = absurd (cc)
validity_fits Nullable n v w e same has = validity_of_told n w (tells_child n n v w e refl has)

-- the column of structs of these slots
module _ (ty : DataType) (fs : List Field) (m : Nullability) (ps : List Piece) (n : ℕ) (typed : ty ≡ type.struct (fields_of fs) m)
    (pieces : All (IsPieceOf ty) ps) (counted : n ≡ sum (map len (columns_in ps))) (i : ℕ) (past : length fs ≤ i) (xs ys : List (Option Tree))
    (so : xs ++ map Some (joined_fields i (fields_of (drop i fs)) (columns_in ps)) ≡ map Some (joined_fields 0 (fields_of fs) (columns_in ps)))
    (valid : ValidRows) (v : Validity) (w : Option Tree) (of : nullability_in valid ≡ m) (is : IsValidityOf valid n v) (child : w ≡ child_of v n)
    (grown : ys ≡ xs ++ w ∷ []) where
  are : All (IsPiece (type.struct (fields_of fs) m)) (columns_in ps)
  are = columns_are (type.struct (fields_of fs) m) ps (subst (λ s. All (IsPieceOf s) ps) typed pieces)

  made : ys ≡ map Some (joined_fields 0 (fields_of fs) (columns_in ps)) ++ w ∷ []
  made =
      let none : xs ≡ map Some (joined_fields 0 (fields_of fs) (columns_in ps)) =
      sym (append-nil xs) ∙ sym (ap (λ gs. xs ++ map Some (joined_fields i (fields_of gs) (columns_in ps))) (drop_all i fs past)) ∙ so in
      grown ∙ ap (λ l. l ++ w ∷ []) none

  pub structs_fit : (s : DataType) → s ≡ ty → IsNode s n (composed Struct) (shapes (slots_of ys))
  structs_fit s same = (
    fields_of fs,
    m,
    option_map shape_of w,
    same ∙ typed,
    ap (λ l. shapes (slots_of l)) made ∙ joined_shapes (fields_of fs) m (columns_in ps) w are
        ∙ ap (λ k. fields_shapes k (fields_of fs) ++ option_map shape_of w ∷ []) (sym counted),
    validity_fits m n v w child (is.0 ∙ of) is.2,
  )

  pub structs_joined : (s : DataType) (u : Tree) → s ≡ ty → child_in valid ≡ child_by (all_valid (columns_in ps)) → has_columns ty ≡ true
      → u ≡ node s n (composed Struct) (slots_of ys) → u ≡ joined ty (columns_in ps)
  structs_joined s u same told columns new =
      let whole : ys ≡ map Some (joined_fields 0 (fields_of fs) (columns_in ps)) ++ child_by (all_valid (columns_in ps)) ∷ [] =
      made ∙ ap (λ x. map Some (joined_fields 0 (fields_of fs) (columns_in ps)) ++ x ∷ []) (child ∙ is.1 ∙ told) in
      let long : n ≡ length (all_valid (columns_in ps)) =
      counted ∙ sym (joined_long (type.struct (fields_of fs) m) (columns_in ps) refl (ap has_columns (sym typed) ∙ columns) are) in
      new ∙ (λ j. node ((same ∙ typed) j) (long j) (composed Struct) (slots_of (whole j))) ∙ sym (ap (λ r. joined r (columns_in ps)) typed)

-- the storage of a column of an extension type
pub storage_fits : (ty s : DataType) (id : List ℕ) (of : DataType) (ps : List Piece) (n : ℕ) (t : Tree) (xs : List (Option Tree)) → ty ≡ type.extension id of
    → s ≡ ty → All (IsPieceOf ty) ps → n ≡ sum (map len (columns_in ps)) → t ≡ joined_slot of (slot_of_each 0 (columns_in ps)) → xs ≡ Some t ∷ []
    → IsNode s n (composed Extension) (shapes (slots_of xs))
storage_fits ty s id of ps n t xs typed same pieces counted stored made =
    let are = columns_are (type.extension id of) ps (subst (λ r. All (IsPieceOf r) ps) typed pieces) in (
      id,
      of,
      same ∙ typed,
      ap (λ l. shapes (slots_of l)) made
          ∙ ap (λ x. Some x ∷ []) (ap shape_of stored ∙ joined_storage id of (columns_in ps) are ∙ ap (shape of) (sym counted)),
    )

-- pieces have no other types
by_type : (d : DType) → is_nested (type_of d) ≡ true → has_columns (type_of d) ≡ true → ((fs : Fields) (m : Nullability) → d ≡ kind.Struct fs m → ⊥)
    → ((e : List ℕ × DataType) → d ≡ kind.Extension e → ⊥) → ⊥
by_type (kind.Struct fs m) nested columns f g = f fs m refl
by_type (kind.Extension e) nested columns f g = g e refl
by_type (kind.List t m) nested columns f g = false≢true columns
by_type (kind.FixedSizeList t n m) nested columns f g = false≢true columns
by_type (kind.Map p m) nested columns f g = false≢true columns
by_type (kind.Union us m) nested columns f g = false≢true columns
by_type (kind.Variant m) nested columns f g = false≢true columns
by_type _ nested columns f g = false≢true nested

piece_nested : (ty : DataType) (t : Tree) → IsPiece ty t → is_nested ty ≡ true
piece_nested ty (node s n (composed l) ss) p = ap is_nested (sym p.typed) ∙ composed_nested l s n (shapes ss) p.well.0
piece_nested ty (node s n d ss) p = absurd (false≢true p.composed)

pub other_type : (d : DType) (ps : List Piece) → All (IsPieceOf (type_of d)) ps → has_columns (type_of d) ≡ true → 0 < length ps
    → ((fs : Fields) (m : Nullability) → d ≡ kind.Struct fs m → ⊥) → ((e : List ℕ × DataType) → d ≡ kind.Extension e → ⊥) → ⊥
other_type d [] pieces columns some f g = omega arith
other_type d (p ∷ ps) pieces columns some f g = by_type d (piece_nested (type_of d) p.column (pieces 0 p (omega arith)).column) columns f g

-- Columns of a nested type joined to one: its type, its rows, and what is clean.
use Rattle.std.proofs.Common.{◌≡◌, ℕ, zero, suc, ◌+◌, ◌<◌, ◌≤◌, List, [], ◌∷◌, ◌++◌, length, map, get_or, Bool, true, false, if◌then◌else◌, Option, Some, None, refl, sym, ap, subst, ◌∙◌, arith}
use Rattle.std.specs.Prelude.{sum, option_map, slice_get}
use Rattle.std.specs.List.{All, AllByRecursion}
use Rattle.std.proofs.lemmas.Bool.{false≢true}
use Rattle.std.proofs.lemmas.List.{map-append, append-nil, length-append, length-map, length-replicate, take-append-le, take_all}
use Rattle.std.proofs.lemmas.List.Elements.{All-from_recursion, recursion_from_All, All-append, All-take, All-weaker}
use Rattle.std.proofs.lemmas.List.Sums.{sum_by-cons}
use Rattle.vx_value.specs.Types as type
use Rattle.vx_value.specs.Types.{DataType, Fields}
use Rattle.vx_value.specs.Values.{boolean}
use Rattle.vx_value.specs.Cell.{Cell, value, fault}
use Rattle.vx_value.specs.Storage.{is_nested}
use Rattle.vx_value.specs.Supported.{has_columns}
use Rattle.vx_value.specs.View.{type_of, fields_of}
use Rattle.vx_value.specs.declared.nested.Field.{Field}
use Rattle.vx_value.specs.declared.dtype.Nullability.{Nullability}
use Rattle.vx_value.specs.declared.dtype.Nullability.TheVariants.{NonNullable, Nullable}
use Rattle.vx_mask.specs.Masks.{is_all_true, is_all_false}
use Rattle.vx_tree.specs.Tree.{Tree, Slots, node, no_slots, absent, slot, slots_of, filled_slots, dtype, len, datum, slots, booleans, composed, is_composed, fields_shapes, struct_row, last_tree}
use Rattle.vx_tree.specs.Layouts.{row_by_row}
use Rattle.vx_tree.specs.Well.{Shape, shape, shape_of, shapes, IsValidity, IsWell, AreWell}
use Rattle.vx_tree.specs.Cells.{rows, slots_rows, chained, valid_cells, HasNoFault, IsClean, AreClean}
use Rattle.vx_tree.specs.Cost.{cost}
use Rattle.vx_tree.specs.Validities.{child_by, truths}
use Rattle.vx_tree.specs.declared.array.layout.Layout.TheVariants.{Struct, Extension}
use Rattle.vx_tree.proofs.CellsLemmas.{rows_counted}
use Rattle.vx_tree.proofs.CostLemmas.{column_cost}
use Rattle.vx_tree.proofs.ExtensionLemmas.{stored_rows}
use Rattle.vx_tree.proofs.JoinedLemmas.{all_valid as all_shown}
use Rattle.vx_tree.proofs.KindsLemmas.{type_in, len_in}
use Rattle.vx_tree.proofs.LayoutsLemmas.{made_counted}
use Rattle.vx_tree.proofs.NativesLemmas.{map_copies}
use Rattle.vx_tree.proofs.StructLemmas.{last_is}
use Rattle.vx_tree.proofs.TypedLemmas.{AllFit, rows_fit}
use Rattle.vx_tree.proofs.ValiditiesLemmas.{whole}
use Rattle.vx_column.specs.Grown.{IsPiece, cells_in, cells_read}
use Rattle.vx_column.specs.Joined.{tree_in, slot_of_each, joined_slot, joined_fields, says_valid, told_valid, all_valid, joined}
use Rattle.vx_column.specs.Masked.{TellsAll}
use Rattle.vx_column.specs.Nulls.{validity_cells}
use Rattle.vx_column.specs.ValidRows.{TellsRows}
use Rattle.vx_column.specs.declared.rows.valid.ValidRows.TheVariants as rows_valid
use Rattle.vx_column.proofs.ComposedLemmas.{struct_rows}
use Rattle.vx_column.proofs.LayoutsLemmas.{AreLong, both, made_both}
use Rattle.vx_column.proofs.ValidRowsLemmas.{child_told, filled_clean}

-- ---- validities as bits

abbrev truth : Bool → Cell
truth b = value (boolean b)

-- the cells of a validity are its bits, if none is a fault
truths_back : (cs : List Cell) → HasNoFault cs → AllFit (type.bool NonNullable) cs → map truth (map says_valid cs) ≡ cs
truths_back [] h k = refl
truths_back (value (boolean b) ∷ cs) h k = ap (λ l. truth b ∷ l) (truths_back cs h k.1)
truths_back (value _ ∷ cs) h k = absurd (false≢true k.0)
truths_back (fault ∷ cs) h k = absurd h

told_cells : (n : ℕ) (w : Option Tree) → TellsAll n w → HasNoFault (validity_cells w) → (cs : List Cell) → length cs ≡ n
    → valid_cells (validity_cells w) cs ≡ valid_cells (map truth (told_valid n w)) cs
told_cells n None h k cs e = sym (ap (λ vs. valid_cells vs cs) (map_copies truth n true) ∙ all_shown n cs e)
told_cells n (Some t) h k cs e = ap (λ vs. valid_cells vs cs) (sym (truths_back (rows t) k (subst (λ ty. AllFit ty (rows t)) h.1 (rows_fit t h.0))))

told_counted : (n : ℕ) (w : Option Tree) → TellsAll n w → length (told_valid n w) ≡ n
told_counted n None h = length-replicate n true
told_counted n (Some t) h = length-map (rows t) says_valid ∙ rows_counted t h.0 ∙ h.2

-- bits are the validity of as many rows
bits_tell : (bits : List Bool) → TellsAll (length bits) (child_by bits)
bits_tell bits = by_tests (is_all_true bits) (is_all_false bits)
  where
    by_tests : (a b : Bool) → TellsAll (length bits) (if a then None else (if b then Some (truths false (length bits)) else Some (booleans bits)))
    by_tests true b = tt
    by_tests false true = (((refl, refl, refl), tt), refl, refl)
    by_tests false false = (((None, refl, refl, refl, tt), tt), refl, refl)

-- ---- the slots of structs: those of the fields, and that of the validity behind them

abbrev struct_slots : List Tree → Option Tree → Slots
struct_slots us w = slots_of (map Some us ++ w ∷ [])

last_in : (us : List Tree) (w : Option Tree) → last_tree (struct_slots us w) ≡ w
last_in us w = last_is (map Some us ++ w ∷ []) (map Some us) w refl

bits_rows : (us : List Tree) (bits : List Bool) → slots_rows (struct_slots us (Some (booleans bits))) ≡ map rows us ++ map truth bits ∷ []
bits_rows [] bits = refl
bits_rows (u ∷ us) bits = ap (λ l. rows u ∷ l) (bits_rows us bits)

-- the rows of structs, by the bits of the validity
rows_by_bits : (n : ℕ) (us : List Tree) (w : Option Tree) (bits : List Bool) → TellsAll n w → length bits ≡ n
    → ((cs : List Cell) → length cs ≡ n → valid_cells (validity_cells w) cs ≡ valid_cells (map truth bits) cs)
    → row_by_row struct_row n (slots_rows (struct_slots us w)) ≡ row_by_row struct_row n (map rows us ++ map truth bits ∷ [])
rows_by_bits n us w bits h long same =
    let xs = map Some us in
    let css = map validity_cells xs ++ [] ∷ [] in
    struct_rows n xs w h ∙ same (row_by_row struct_row n css) (made_counted struct_row n css)
    ∙ sym (struct_rows n xs (Some (booleans bits)) (((None, refl, refl, refl, tt), tt), refl, long))
    ∙ ap (row_by_row struct_row n) (bits_rows us bits)

-- ---- a column of structs, as it is appended

-- the trees of the fields
abbrev AreFields : ℕ → Fields → List Tree → Type 0
AreFields n type.no_fields [] = Unit {0}
AreFields n (type.field name s fs) (u ∷ us) = (dtype u ≡ s) × (len u ≡ n) × IsWell u × AreFields n fs us
AreFields n fs us = ⊥

first_shape : (name : List ℕ) (s : DataType) (fs : Fields) (n : ℕ) (v : Option Shape) (t : Tree) (ss : Slots)
    → shapes (slot t ss) ≡ fields_shapes n (type.field name s fs) ++ v ∷ [] → (shape_of t ≡ shape s n) × (shapes ss ≡ fields_shapes n fs ++ v ∷ [])
first_shape name s fs n v t ss h = (cc, cc)

slots_back : (fs : Fields) (n : ℕ) (v : Option Shape) (ss : Slots) → shapes ss ≡ fields_shapes n fs ++ v ∷ [] → AreWell ss
    → (us : List Tree) × (w : Option Tree) × (ss ≡ struct_slots us w) × AreFields n fs us × (option_map shape_of w ≡ v) × AreWell (slots_of (w ∷ []))
slots_back type.no_fields n v no_slots h k = absurd (cc)
slots_back type.no_fields n v (absent no_slots) h k = ([], None, refl, tt, cc, tt)
slots_back type.no_fields n v (absent (absent ss)) h k = absurd (cc)
slots_back type.no_fields n v (absent (slot t ss)) h k = absurd (cc)
slots_back type.no_fields n v (slot t no_slots) h k = ([], Some t, refl, tt, cc, k)
slots_back type.no_fields n v (slot t (absent ss)) h k = absurd (cc)
slots_back type.no_fields n v (slot t (slot u ss)) h k = absurd (cc)
slots_back (type.field name s fs) n v no_slots h k = absurd (cc)
slots_back (type.field name s fs) n v (absent ss) h k = absurd (cc)
slots_back (type.field name s fs) n v (slot t ss) h k =
    let parts = first_shape name s fs n v t ss h in
    let rest = slots_back fs n v ss parts.1 k.1 in
    (t ∷ rest.0, rest.1, ap (slot t) rest.2, (ap type_in parts.0, ap len_in parts.0, k.0, rest.3), rest.4, rest.5)

validity_tells : (m : Nullability) (n : ℕ) (w : Option Tree) → IsValidity m n (option_map shape_of w) → TellsRows m n w
validity_tells m n None h = tt
validity_tells NonNullable n (Some t) h = absurd h
validity_tells Nullable n (Some t) h = (refl, ap type_in h, ap len_in h)

tells_all : (m : Nullability) (n : ℕ) (w : Option Tree) → TellsRows m n w → AreWell (slots_of (w ∷ [])) → TellsAll n w
tells_all m n None h k = tt
tells_all m n (Some t) h k = (k.0, h.1, h.2)

record IsStructColumn (fs : Fields) (m : Nullability) (t : Tree) : Type 0 where
  fields : List Tree
  validity : Option Tree
  is : t ≡ node (type.struct fs m) (len t) (composed Struct) (struct_slots fields validity)
  shaped : AreFields (len t) fs fields
  tells : TellsRows m (len t) validity
  formed : AreWell (slots_of (validity ∷ []))

same_parts : (fs gs : Fields) (m k : Nullability) → type.struct fs m ≡ type.struct gs k → (fs ≡ gs) × (m ≡ k)
same_parts fs gs m k e = (cc, cc)

struct_column : (fs : Fields) (m : Nullability) (t : Tree) → dtype t ≡ type.struct fs m → is_composed (datum t) ≡ true → IsWell t → IsStructColumn fs m t
struct_column fs m (node ty n (composed Struct) ss) typed kind well =
    let h = well.0 in
    let same = same_parts h.0 fs h.1 m (sym h.3 ∙ typed) in
    let back = slots_back fs n h.2 ss (h.4 ∙ ap (λ gs. fields_shapes n gs ++ h.2 ∷ []) same.0) well.1 in
    record {
      fields = back.0;
      validity = back.1;
      is = λ i. node (typed i) n (composed Struct) (back.2 i);
      shaped = back.3;
      tells = validity_tells m n back.1 (subst (λ x. x) (λ i. IsValidity (same.1 i) n (sym back.4 i)) h.5);
      formed = back.5;
    }
struct_column fs m (node ty n (composed Extension) ss) typed kind well =
    let e : type.extension well.0.0 well.0.1 ≡ type.struct fs m = sym well.0.2 ∙ typed in absurd (cc)
struct_column fs m (node ty n d ss) typed kind well = absurd (false≢true kind)

module _ (fs : Fields) (m : Nullability) (t : Tree) (typed : dtype t ≡ type.struct fs m) (kind : is_composed (datum t) ≡ true) (well : IsWell t) where
  abbrev known : IsStructColumn fs m t
  known = struct_column fs m t typed kind well

  last_own : last_tree (slots t) ≡ known.validity
  last_own = ap (λ u. last_tree (slots u)) known.is ∙ last_in known.fields known.validity

  -- its own validity
  pub own_told : TellsRows m (len t) (last_tree (slots t))
  own_told = subst (TellsRows m (len t)) (sym last_own) known.tells

  own_tells : TellsAll (len t) (last_tree (slots t))
  own_tells = subst (TellsAll (len t)) (sym last_own) (tells_all m (len t) known.validity known.tells known.formed)

-- the cells of its fields, from slot i on, and of its validity
abbrev own_cells : ℕ → ℕ → Fields → Slots → List (List Cell)
own_cells n i type.no_fields ss = map truth (told_valid n (last_tree ss)) ∷ []
own_cells n i (type.field name s fs) ss = rows (tree_in ss i) ∷ own_cells n (suc i) fs ss

cells_behind : (n i : ℕ) (fs : Fields) (u : Tree) (us : List Tree) (w : Option Tree)
    → own_cells n (suc i) fs (struct_slots (u ∷ us) w) ≡ own_cells n i fs (struct_slots us w)
cells_behind n i type.no_fields u us w = ap (λ v. map truth (told_valid n v) ∷ []) (last_in (u ∷ us) w ∙ sym (last_in us w))
cells_behind n i (type.field name s fs) u us w = ap (λ l. rows (tree_in (struct_slots us w) i) ∷ l) (cells_behind n (suc i) fs u us w)

cells_back : (n : ℕ) (fs : Fields) (us : List Tree) (w : Option Tree) → AreFields n fs us
    → map rows us ++ map truth (told_valid n w) ∷ [] ≡ own_cells n 0 fs (struct_slots us w)
cells_back n type.no_fields [] w h = ap (λ v. map truth (told_valid n v) ∷ []) (sym (last_in [] w))
cells_back n type.no_fields (u ∷ us) w h = absurd h
cells_back n (type.field name s fs) [] w h = absurd h
cells_back n (type.field name s fs) (u ∷ us) w h = ap (λ l. rows u ∷ l) (cells_back n fs us w h.3 ∙ sym (cells_behind n 0 fs u us w))

cells_long : (n : ℕ) (fs : Fields) (us : List Tree) (w : Option Tree) → AreFields n fs us → TellsAll n w
    → AreLong n (map rows us ++ map truth (told_valid n w) ∷ [])
cells_long n type.no_fields [] w h k = (length-map (told_valid n w) truth ∙ told_counted n w k, tt)
cells_long n type.no_fields (u ∷ us) w h k = absurd h
cells_long n (type.field name s fs) [] w h k = absurd h
cells_long n (type.field name s fs) (u ∷ us) w h k = (rows_counted u h.2 ∙ h.1, cells_long n fs us w h.3 k)

module _ (fs : Fields) (m : Nullability) (t : Tree) (p : IsPiece (type.struct fs m) t) where
  abbrev piece : IsStructColumn fs m t
  piece = struct_column fs m t p.typed p.composed p.well

  tells : TellsAll (len t) piece.validity
  tells = tells_all m (len t) piece.validity piece.tells piece.formed

  told : HasNoFault (validity_cells piece.validity)
  told =
      subst (λ w. HasNoFault (validity_cells w)) (last_own fs m t p.typed p.composed p.well) p.told

  cells_own : map rows piece.fields ++ map truth (told_valid (len t) piece.validity) ∷ [] ≡ own_cells (len t) 0 fs (slots t)
  cells_own = cells_back (len t) fs piece.fields piece.validity piece.shaped ∙ ap (own_cells (len t) 0 fs) (sym (ap slots piece.is))

  own_long : AreLong (len t) (own_cells (len t) 0 fs (slots t))
  own_long = subst (AreLong (len t)) cells_own (cells_long (len t) fs piece.fields piece.validity piece.shaped tells)

  own_rows : rows t ≡ row_by_row struct_row (len t) (own_cells (len t) 0 fs (slots t))
  own_rows =
      ap rows piece.is
      ∙ rows_by_bits (len t) piece.fields piece.validity (told_valid (len t) piece.validity) tells (told_counted (len t) piece.validity tells)
      (told_cells (len t) piece.validity tells told)
      ∙ ap (row_by_row struct_row (len t)) cells_own

-- ---- the rows of columns of structs

-- the cells of the fields, from slot i on, and of the validity, in all columns
abbrev all_cells : ℕ → Fields → List Tree → List (List Cell)
all_cells i type.no_fields ts = map truth (all_valid ts) ∷ []
all_cells i (type.field name s fs) ts = chained (map rows (slot_of_each i ts)) ∷ all_cells (suc i) fs ts

all_more : (i : ℕ) (fs : Fields) (t : Tree) (ts : List Tree) → all_cells i fs (t ∷ ts) ≡ both (own_cells (len t) i fs (slots t)) (all_cells i fs ts)
all_more i type.no_fields t ts = ap (λ l. l ∷ []) (map-append truth (told_valid (len t) (last_tree (slots t))) (all_valid ts))
all_more i (type.field name s fs) t ts = ap (λ l. chained (map rows (slot_of_each i (t ∷ ts))) ∷ l) (all_more (suc i) fs t ts)

same_slots : (n i : ℕ) (fs : Fields) (ss : Slots) (ts : List Tree) → length (own_cells n i fs ss) ≡ length (all_cells i fs ts)
same_slots n i type.no_fields ss ts = refl
same_slots n i (type.field name s fs) ss ts = ap suc (same_slots n (suc i) fs ss ts)

module _ (fs : Fields) (m : Nullability) where
  all_rows : (ts : List Tree) → AllByRecursion (IsPiece (type.struct fs m)) ts
      → row_by_row struct_row (sum (map len ts)) (all_cells 0 fs ts) ≡ cells_in ts
  all_rows [] h = refl
  all_rows (t ∷ ts) h =
      (λ i. row_by_row struct_row (sum_by-cons (λ x. x) (len t) (map len ts) i) (all_more 0 fs t ts i))
      ∙ made_both struct_row (len t) (sum (map len ts)) (own_cells (len t) 0 fs (slots t)) (all_cells 0 fs ts) (own_long fs m t h.0)
      (same_slots (len t) 0 fs (slots t) ts)
      ∙ (λ i. sym (own_rows fs m t h.0) i ++ all_rows ts h.1 i)

  valid_counted : (ts : List Tree) → AllByRecursion (IsPiece (type.struct fs m)) ts → length (all_valid ts) ≡ sum (map len ts)
  valid_counted [] h = refl
  valid_counted (t ∷ ts) h =
      let w = last_tree (slots t) in
      omega (
        arith,
        length-append (told_valid (len t) w) (all_valid ts),
        told_counted (len t) w (own_tells fs m t h.0.typed h.0.composed h.0.well),
        valid_counted ts h.1,
        sum_by-cons (λ x. x) (len t) (map len ts),
      )

-- ---- one slot of all

filled_rows : (ts : List Tree) → slots_rows (filled_slots ts) ≡ map rows ts
filled_rows [] = refl
filled_rows (t ∷ ts) = ap (λ l. rows t ∷ l) (filled_rows ts)

slot_rows : (s : DataType) (ps : List Tree) → rows (joined_slot s ps) ≡ chained (map rows ps)
slot_rows s [] = refl
slot_rows s (p ∷ []) = sym (append-nil (rows p))
slot_rows s (p ∷ q ∷ ps) = ap chained (filled_rows (p ∷ q ∷ ps))

fields_rows : (i : ℕ) (fs : Fields) (ts : List Tree) → map rows (joined_fields i fs ts) ++ map truth (all_valid ts) ∷ [] ≡ all_cells i fs ts
fields_rows i type.no_fields ts = refl
fields_rows i (type.field name s fs) ts = λ j. slot_rows s (slot_of_each i ts) j ∷ fields_rows (suc i) fs ts j

-- ---- a column of an extension type, as it is appended

one_slot : (s : Shape) (ss : Slots) → shapes ss ≡ Some s ∷ [] → AreWell ss → (c : Tree) × (ss ≡ slot c no_slots) × (shape_of c ≡ s) × IsWell c
one_slot s no_slots h k = absurd (cc)
one_slot s (absent ss) h k = absurd (cc)
one_slot s (slot c no_slots) h k = (c, refl, cc, k.0)
one_slot s (slot c (absent ss)) h k = absurd (cc)
one_slot s (slot c (slot d ss)) h k = absurd (cc)

same_storage : (id other : List ℕ) (s r : DataType) → type.extension id s ≡ type.extension other r → s ≡ r
same_storage id other s r e = cc

module _ (id : List ℕ) (s : DataType) where
  storage : (t : Tree) → IsPiece (type.extension id s) t
      → (c : Tree) × (t ≡ node (type.extension id s) (len t) (composed Extension) (slot c no_slots)) × (shape_of c ≡ shape s (len t)) × IsWell c
  storage (node ty n (composed Extension) ss) p =
      let h = p.well.0 in
      let one = one_slot (shape h.1 n) ss h.3 p.well.1 in
      let same = same_storage h.0 id h.1 s (sym h.2 ∙ p.typed) in
      (one.0, (λ i. node (p.typed i) n (composed Extension) (one.1 i)), one.2 ∙ ap (λ r. shape r n) same, one.3)
  storage (node ty n (composed Struct) ss) p =
      let e : type.struct p.well.0.0 p.well.0.1 ≡ type.extension id s = sym p.well.0.3 ∙ p.typed in absurd (cc)
  storage (node ty n d ss) p = absurd (false≢true p.composed)

  module _ (t : Tree) (p : IsPiece (type.extension id s) t) where
    stored_in : tree_in (slots t) 0 ≡ (storage t p).0
    stored_in = ap (λ u. tree_in (slots u) 0) (storage t p).1

    stored_shape : shape_of (tree_in (slots t) 0) ≡ shape s (len t)
    stored_shape = ap shape_of stored_in ∙ (storage t p).2

    stored_own : rows t ≡ rows (tree_in (slots t) 0)
    stored_own =
        let c = storage t p in
        ap rows c.1 ∙ stored_rows (len t) (rows c.0) (rows_counted c.0 c.3 ∙ ap len_in c.2) ∙ ap rows (sym stored_in)

  stored_all : (ts : List Tree) → AllByRecursion (IsPiece (type.extension id s)) ts → chained (map rows (slot_of_each 0 ts)) ≡ cells_in ts
  stored_all [] h = refl
  stored_all (t ∷ ts) h = λ i. sym (stored_own t h.0) i ++ stored_all ts h.1 i

cells_counted : (ty : DataType) (ts : List Tree) → AllByRecursion (IsPiece ty) ts → length (cells_in ts) ≡ sum (map len ts)
cells_counted ty [] h = refl
cells_counted ty (t ∷ ts) h =
    omega (arith, length-append (rows t) (cells_in ts), rows_counted t h.0.well, cells_counted ty ts h.1, sum_by-cons (λ x. x) (len t) (map len ts))

-- ---- the types and lengths of the slots

-- of each tree
weaker : (P Q : Tree → Type 0) → ((t : Tree) → P t → Q t) → (ts : List Tree) → AllByRecursion P ts → AllByRecursion Q ts
weaker P Q f [] h = tt
weaker P Q f (t ∷ ts) h = (f t h.0, weaker P Q f ts h.1)

slot_shape : (s : DataType) (i : ℕ) (ts : List Tree) → AllByRecursion (λ t. shape_of (tree_in (slots t) i) ≡ shape s (len t)) ts
    → shape_of (joined_slot s (slot_of_each i ts)) ≡ shape s (sum (map len ts))
slot_shape s i ts h = λ j. shape (typed ts h j) (long j)
  where
    typed : (ts : List Tree) → AllByRecursion (λ t. shape_of (tree_in (slots t) i) ≡ shape s (len t)) ts → dtype (joined_slot s (slot_of_each i ts)) ≡ s
    typed [] h = refl
    typed (t ∷ []) h = ap type_in h.0
    typed (t ∷ u ∷ ts) h = refl

    lengths : (ts : List Tree) → AllByRecursion (λ t. shape_of (tree_in (slots t) i) ≡ shape s (len t)) ts → map len (slot_of_each i ts) ≡ map len ts
    lengths [] h = refl
    lengths (t ∷ ts) h = λ j. len_in (h.0 j) ∷ lengths ts h.1 j

    summed : (ps : List Tree) → len (joined_slot s ps) ≡ sum (map len ps)
    summed [] = refl
    summed (p ∷ []) = omega (arith, sum_by-cons (λ x. x) (len p) [])
    summed (p ∷ q ∷ ps) = refl

    long : len (joined_slot s (slot_of_each i ts)) ≡ sum (map len ts)
    long = summed (slot_of_each i ts) ∙ ap sum (lengths ts h)

-- the trees of the fields, from slot i on, have n rows
abbrev AreFieldsAt : ℕ → ℕ → Fields → Slots → Type 0
AreFieldsAt n i type.no_fields ss = Unit {0}
AreFieldsAt n i (type.field name s fs) ss = (shape_of (tree_in ss i) ≡ shape s n) × AreFieldsAt n (suc i) fs ss

fields_behind : (n i : ℕ) (fs : Fields) (u : Tree) (ss : Slots) → AreFieldsAt n i fs ss → AreFieldsAt n (suc i) fs (slot u ss)
fields_behind n i type.no_fields u ss h = tt
fields_behind n i (type.field name s fs) u ss h = (h.0, fields_behind n (suc i) fs u ss h.1)

fields_at : (n : ℕ) (fs : Fields) (us : List Tree) (w : Option Tree) → AreFields n fs us → AreFieldsAt n 0 fs (struct_slots us w)
fields_at n type.no_fields us w h = tt
fields_at n (type.field name s fs) [] w h = absurd h
fields_at n (type.field name s fs) (u ∷ us) w h =
    ((λ j. shape (h.0 j) (h.1 j)), fields_behind n 0 fs u (struct_slots us w) (fields_at n fs us w h.3))

fields_joined : (i : ℕ) (fs : Fields) (ts : List Tree) (w : Option Tree) → AllByRecursion (λ t. AreFieldsAt (len t) i fs (slots t)) ts
    → shapes (struct_slots (joined_fields i fs ts) w) ≡ fields_shapes (sum (map len ts)) fs ++ option_map shape_of w ∷ []
fields_joined i type.no_fields ts None h = refl
fields_joined i type.no_fields ts (Some t) h = refl
fields_joined i (type.field name s fs) ts w h =
    let first = slot_shape s i ts (weaker (λ t. AreFieldsAt (len t) i (type.field name s fs) (slots t)) (λ t. shape_of (tree_in (slots t) i) ≡ shape s (len t)) (λ t k. k.0) ts h) in
    let rest = weaker (λ t. AreFieldsAt (len t) i (type.field name s fs) (slots t)) (λ t. AreFieldsAt (len t) (suc i) fs (slots t)) (λ t k. k.1) ts h in
    λ j. Some (first j) ∷ fields_joined (suc i) fs ts w rest j

-- those of columns of structs that are joined, and of one of them
module _ (fs : Fields) (m : Nullability) where
  piece_fields : (t : Tree) → IsPiece (type.struct fs m) t → AreFieldsAt (len t) 0 fs (slots t)
  piece_fields t p =
      let c = struct_column fs m t p.typed p.composed p.well in
      subst (AreFieldsAt (len t) 0 fs) (sym (ap slots c.is)) (fields_at (len t) fs c.fields c.validity c.shaped)

  pub joined_shapes : (ts : List Tree) (w : Option Tree) → All (IsPiece (type.struct fs m)) ts
      → shapes (slots_of (map Some (joined_fields 0 fs ts) ++ w ∷ [])) ≡ fields_shapes (sum (map len ts)) fs ++ option_map shape_of w ∷ []
  joined_shapes ts w h =
      fields_joined 0 fs ts w
      (weaker (IsPiece (type.struct fs m)) (λ t. AreFieldsAt (len t) 0 fs (slots t)) piece_fields ts (recursion_from_All (IsPiece (type.struct fs m)) ts h))

field_at : (fs : List Field) (n : ℕ) (us : List Tree) (w : Option Tree) (i : ℕ) (f : Field) → AreFields n (fields_of fs) us → i < length fs
    → slice_get (shapes (struct_slots us w)) i ≡ Some (Some (shape (type_of (get_or fs i f).dtype) n))
field_at [] n us w i f h lt = absurd (omega arith)
field_at (g ∷ fs) n [] w i f h lt = absurd h
field_at (g ∷ fs) n (u ∷ us) w zero f h lt = λ j. Some (Some (shape (h.0 j) (h.1 j)))
field_at (g ∷ fs) n (u ∷ us) w (suc i) f h lt = field_at fs n us w i f h.3 (omega arith)

pub field_shape : (fs : List Field) (m : Nullability) (t : Tree) (i : ℕ) (f : Field) → IsPiece (type.struct (fields_of fs) m) t → i < length fs
    → slice_get (shapes (slots t)) i ≡ Some (Some (shape (type_of (get_or fs i f).dtype) (len t)))
field_shape fs m t i f p lt =
    let c = struct_column (fields_of fs) m t p.typed p.composed p.well in
    ap (λ u. slice_get (shapes (slots u)) i) c.is ∙ field_at fs (len t) c.fields c.validity i f c.shaped lt

-- and of columns of an extension type
pub storage_shape : (id : List ℕ) (s : DataType) (t : Tree) → IsPiece (type.extension id s) t → slice_get (shapes (slots t)) 0 ≡ Some (Some (shape s (len t)))
storage_shape id s t p =
    let c = storage id s t p in ap (λ u. slice_get (shapes (slots u)) 0) c.1 ∙ ap (λ x. Some (Some x)) c.2

pub joined_storage : (id : List ℕ) (s : DataType) (ts : List Tree) → All (IsPiece (type.extension id s)) ts
    → shape_of (joined_slot s (slot_of_each 0 ts)) ≡ shape s (sum (map len ts))
joined_storage id s ts h =
    slot_shape s 0 ts
    (weaker (IsPiece (type.extension id s)) (λ t. shape_of (tree_in (slots t) 0) ≡ shape s (len t)) (stored_shape id s) ts
    (recursion_from_All (IsPiece (type.extension id s)) ts h))

-- ---- by layout: of the nested types, structs and extensions have columns

by_layout : (P : DataType → Type 0) → ((fs : Fields) (m : Nullability) → P (type.struct fs m)) → ((id : List ℕ) (s : DataType) → P (type.extension id s))
    → (ty : DataType) → is_nested ty ≡ true → has_columns ty ≡ true → P ty
by_layout P f g (type.struct fs m) h k = f fs m
by_layout P f g (type.extension id s) h k = g id s
by_layout P f g (type.list t m) h k = absurd (false≢true k)
by_layout P f g (type.fixed_size_list t n m) h k = absurd (false≢true k)
by_layout P f g (type.map t u m) h k = absurd (false≢true k)
by_layout P f g (type.union us m) h k = absurd (false≢true k)
by_layout P f g (type.variant m) h k = absurd (false≢true k)
by_layout P f g _ h k = absurd (false≢true h)

pub joined_typed : (ty : DataType) (ts : List Tree) → is_nested ty ≡ true → has_columns ty ≡ true → dtype (joined ty ts) ≡ ty
joined_typed ty ts = by_layout (λ ty. dtype (joined ty ts) ≡ ty) (λ fs m. refl) (λ id s. refl) ty

pub joined_composed : (ty : DataType) (ts : List Tree) → is_nested ty ≡ true → has_columns ty ≡ true → is_composed (datum (joined ty ts)) ≡ true
joined_composed ty ts = by_layout (λ ty. is_composed (datum (joined ty ts)) ≡ true) (λ fs m. refl) (λ id s. refl) ty

pub joined_long : (ty : DataType) (ts : List Tree) → is_nested ty ≡ true → has_columns ty ≡ true → All (IsPiece ty) ts
    → len (joined ty ts) ≡ sum (map len ts)
joined_long ty ts =
    by_layout (λ ty. All (IsPiece ty) ts → len (joined ty ts) ≡ sum (map len ts))
    (λ fs m h. valid_counted fs m ts (recursion_from_All (IsPiece (type.struct fs m)) ts h)) (λ id s h. refl) ty

-- ---- its rows

struct_joined : (fs : Fields) (m : Nullability) (ts : List Tree) → AllByRecursion (IsPiece (type.struct fs m)) ts
    → rows (joined (type.struct fs m) ts) ≡ cells_in ts
struct_joined fs m ts h =
    let bits = all_valid ts in
    rows_by_bits (length bits) (joined_fields 0 fs ts) (child_by bits) bits (bits_tell bits) refl (child_told bits)
    ∙ (λ i. row_by_row struct_row (valid_counted fs m ts h i) (fields_rows 0 fs ts i))
    ∙ all_rows fs m ts h

extension_joined : (id : List ℕ) (s : DataType) (ts : List Tree) → AllByRecursion (IsPiece (type.extension id s)) ts
    → rows (joined (type.extension id s) ts) ≡ cells_in ts
extension_joined id s ts h =
    let shown = slot_rows s (slot_of_each 0 ts) ∙ stored_all id s ts h in
    stored_rows (sum (map len ts)) (rows (joined_slot s (slot_of_each 0 ts))) (ap length shown ∙ cells_counted (type.extension id s) ts h) ∙ shown

pub joined_rows : (ty : DataType) (ts : List Tree) → is_nested ty ≡ true → has_columns ty ≡ true → All (IsPiece ty) ts → 0 < length ts
    → rows (joined ty ts) ≡ cells_in ts
joined_rows ty ts nested columns pieces some =
    by_layout (λ ty. All (IsPiece ty) ts → rows (joined ty ts) ≡ cells_in ts)
    (λ fs m h. struct_joined fs m ts (recursion_from_All (IsPiece (type.struct fs m)) ts h))
    (λ id s h. extension_joined id s ts (recursion_from_All (IsPiece (type.extension id s)) ts h)) ty nested columns pieces

told_bits : (w : Option Tree) → AreClean (slots_of (w ∷ [])) → HasNoFault (validity_cells w)
told_bits None h = tt
told_bits (Some t) h = whole t h.0

pub joined_told : (ty : DataType) (ts : List Tree) → is_nested ty ≡ true → has_columns ty ≡ true → All (IsPiece ty) ts → 0 < length ts
    → HasNoFault (cells_read ty (joined ty ts))
joined_told ty ts nested columns pieces some =
    by_layout (λ ty. HasNoFault (cells_read ty (joined ty ts)))
    (λ fs m. subst (λ w. HasNoFault (validity_cells w)) (sym (last_in (joined_fields 0 fs ts) (child_by (all_valid ts))))
    (told_bits (child_by (all_valid ts)) (filled_clean (rows_valid.Bits (all_valid ts))))) (λ id s. tt) ty nested columns

-- ---- what is clean

-- the trees in the slots of the fields, from slot i on, are clean
abbrev pub AreCleanFields : ℕ → Fields → Slots → Type 0
AreCleanFields i type.no_fields ss = Unit {0}
AreCleanFields i (type.field name s fs) ss = IsClean (tree_in ss i) × AreCleanFields (suc i) fs ss

-- none of the rows of a column of the type is a fault, and the trees in its slots are clean, that of the validity apart
abbrev pub IsCleanPiece : DataType → Tree → Type 0
IsCleanPiece (type.struct fs m) t = HasNoFault (rows t) × AreCleanFields 0 fs (slots t)
IsCleanPiece (type.extension id s) t = HasNoFault (rows t) × IsClean (tree_in (slots t) 0)
IsCleanPiece ty t = Unit {0}

slot_clean : (ss : Slots) (i : ℕ) → AreClean ss → IsClean (tree_in ss i)
slot_clean no_slots zero h = (tt, tt)
slot_clean no_slots (suc i) h = (tt, tt)
slot_clean (absent ss) zero h = (tt, tt)
slot_clean (absent ss) (suc i) h = slot_clean ss i h
slot_clean (slot t ss) zero h = h.0
slot_clean (slot t ss) (suc i) h = slot_clean ss i h.1

fields_clean : (i : ℕ) (fs : Fields) (ss : Slots) → AreClean ss → AreCleanFields i fs ss
fields_clean i type.no_fields ss h = tt
fields_clean i (type.field name s fs) ss h = (slot_clean ss i h, fields_clean (suc i) fs ss h)

slots_clean : (t : Tree) → IsClean t → AreClean (slots t)
slots_clean (node ty n d ss) h = h.1

-- a clean column is one
pub clean_piece : (ty : DataType) (t : Tree) → IsClean t → IsCleanPiece ty t
clean_piece (type.struct fs m) t h = (whole t h, fields_clean 0 fs (slots t) (slots_clean t h))
clean_piece (type.extension id s) t h = (whole t h, slot_clean (slots t) 0 (slots_clean t h))
clean_piece _ t h = tt

-- ---- rows without a fault, one after the other

both_whole : (cs ds : List Cell) → HasNoFault cs → HasNoFault ds → HasNoFault (cs ++ ds)
both_whole [] ds h k = k
both_whole (value v ∷ cs) ds h k = both_whole cs ds h k
both_whole (fault ∷ cs) ds h k = absurd h

whole_parts : (cs ds : List Cell) → HasNoFault (cs ++ ds) → HasNoFault cs × HasNoFault ds
whole_parts [] ds h = (tt, h)
whole_parts (value v ∷ cs) ds h = whole_parts cs ds h
whole_parts (fault ∷ cs) ds h = absurd h

all_whole : (ts : List Tree) → AllByRecursion (λ t. HasNoFault (rows t)) ts → HasNoFault (cells_in ts)
all_whole [] h = tt
all_whole (t ∷ ts) h = both_whole (rows t) (cells_in ts) h.0 (all_whole ts h.1)

whole_all : (ts : List Tree) → HasNoFault (cells_in ts) → AllByRecursion (λ t. HasNoFault (rows t)) ts
whole_all [] h = tt
whole_all (t ∷ ts) h = let parts = whole_parts (rows t) (cells_in ts) h in (parts.0, whole_all ts parts.1)

-- ---- one slot of all is clean exactly if each is

chunks_whole : (ps : List Tree) → AllByRecursion IsClean ps → HasNoFault (chained (slots_rows (filled_slots ps)))
chunks_whole [] h = tt
chunks_whole (p ∷ ps) h = both_whole (rows p) (chained (slots_rows (filled_slots ps))) (whole p h.0) (chunks_whole ps h.1)

chunks_clean : (ps : List Tree) → AllByRecursion IsClean ps → AreClean (filled_slots ps)
chunks_clean [] h = tt
chunks_clean (p ∷ ps) h = (h.0, chunks_clean ps h.1)

clean_chunks : (ps : List Tree) → AreClean (filled_slots ps) → AllByRecursion IsClean ps
clean_chunks [] h = tt
clean_chunks (p ∷ ps) h = (h.0, clean_chunks ps h.1)

slots_joined : (s : DataType) (ps : List Tree) → AllByRecursion IsClean ps → IsClean (joined_slot s ps)
slots_joined s [] h = (tt, tt)
slots_joined s (p ∷ []) h = h.0
slots_joined s (p ∷ q ∷ ps) h = (chunks_whole (p ∷ q ∷ ps) h, chunks_clean (p ∷ q ∷ ps) h)

joined_slots : (s : DataType) (ps : List Tree) → IsClean (joined_slot s ps) → AllByRecursion IsClean ps
joined_slots s [] h = tt
joined_slots s (p ∷ []) h = (h, tt)
joined_slots s (p ∷ q ∷ ps) h = clean_chunks (p ∷ q ∷ ps) h.1

-- of each tree
together : (P Q : Tree → Type 0) (ts : List Tree) → AllByRecursion P ts → AllByRecursion Q ts → AllByRecursion (λ t. P t × Q t) ts
together P Q [] h k = tt
together P Q (t ∷ ts) h k = ((h.0, k.0), together P Q ts h.1 k.1)

abbrev CleanAt : ℕ → Tree → Type 0
CleanAt i t = IsClean (tree_in (slots t) i)

abbrev CleanFrom : ℕ → Fields → Tree → Type 0
CleanFrom i fs t = AreCleanFields i fs (slots t)

slots_of_each : (i : ℕ) (ts : List Tree) → AllByRecursion (CleanAt i) ts → AllByRecursion IsClean (slot_of_each i ts)
slots_of_each i [] h = tt
slots_of_each i (t ∷ ts) h = (h.0, slots_of_each i ts h.1)

each_of_slots : (i : ℕ) (ts : List Tree) → AllByRecursion IsClean (slot_of_each i ts) → AllByRecursion (CleanAt i) ts
each_of_slots i [] h = tt
each_of_slots i (t ∷ ts) h = (h.0, each_of_slots i ts h.1)

clean_joined : (i : ℕ) (fs : Fields) (ts : List Tree) (w : Option Tree) → AllByRecursion (CleanFrom i fs) ts → AreClean (slots_of (w ∷ []))
    → AreClean (struct_slots (joined_fields i fs ts) w)
clean_joined i type.no_fields ts w h k = k
clean_joined i (type.field name s fs) ts w h k = (
  slots_joined s (slot_of_each i ts) (slots_of_each i ts (weaker (CleanFrom i (type.field name s fs)) (CleanAt i) (λ t k. k.0) ts h)),
  clean_joined (suc i) fs ts w (weaker (CleanFrom i (type.field name s fs)) (CleanFrom (suc i) fs) (λ t k. k.1) ts h) k,
)

joined_each : (i : ℕ) (fs : Fields) (ts : List Tree) (w : Option Tree) → AreClean (struct_slots (joined_fields i fs ts) w)
    → AllByRecursion (CleanFrom i fs) ts
joined_each i type.no_fields [] w h = tt
joined_each i type.no_fields (t ∷ ts) w h = (tt, joined_each i type.no_fields ts w h)
joined_each i (type.field name s fs) ts w h =
    together (CleanAt i) (CleanFrom (suc i) fs) ts (each_of_slots i ts (joined_slots s (slot_of_each i ts) h.0)) (joined_each (suc i) fs ts w h.1)

-- ---- the column is clean exactly if each piece is, the trees of their validities apart

pub joined_of_pieces : (ty : DataType) (ts : List Tree) → is_nested ty ≡ true → has_columns ty ≡ true → All (IsPiece ty) ts → All (IsCleanPiece ty) ts
    → IsClean (joined ty ts)
joined_of_pieces ty ts =
    by_layout (λ ty. All (IsPiece ty) ts → All (IsCleanPiece ty) ts → IsClean (joined ty ts))
    (λ fs m pieces clean.
    let each = recursion_from_All (IsCleanPiece (type.struct fs m)) ts clean in
    let whole_rows = all_whole ts (weaker (IsCleanPiece (type.struct fs m)) (λ t. HasNoFault (rows t)) (λ t k. k.0) ts each) in
    let shown = struct_joined fs m ts (recursion_from_All (IsPiece (type.struct fs m)) ts pieces) in (
      subst HasNoFault (sym shown) whole_rows,
      clean_joined 0 fs ts (child_by (all_valid ts)) (weaker (IsCleanPiece (type.struct fs m)) (CleanFrom 0 fs) (λ t k. k.1) ts each)
          (filled_clean (rows_valid.Bits (all_valid ts))),
    ))
    (λ id s pieces clean.
    let each = recursion_from_All (IsCleanPiece (type.extension id s)) ts clean in
    let whole_rows = all_whole ts (weaker (IsCleanPiece (type.extension id s)) (λ t. HasNoFault (rows t)) (λ t k. k.0) ts each) in
    let shown = extension_joined id s ts (recursion_from_All (IsPiece (type.extension id s)) ts pieces) in (
      subst HasNoFault (sym shown) whole_rows,
      (slots_joined s (slot_of_each 0 ts) (slots_of_each 0 ts (weaker (IsCleanPiece (type.extension id s)) (CleanAt 0) (λ t k. k.1) ts each)), tt),
    ))
    ty

pub cleans_joined : (ty : DataType) (ts : List Tree) → is_nested ty ≡ true → has_columns ty ≡ true → All (IsPiece ty) ts → 0 < length ts
    → IsClean (joined ty ts) → All (IsCleanPiece ty) ts
cleans_joined ty ts nested columns pieces some =
    by_layout (λ ty. All (IsPiece ty) ts → IsClean (joined ty ts) → All (IsCleanPiece ty) ts)
    (λ fs m pieces clean.
    let shown = struct_joined fs m ts (recursion_from_All (IsPiece (type.struct fs m)) ts pieces) in
    All-from_recursion (IsCleanPiece (type.struct fs m)) ts
    (together (λ t. HasNoFault (rows t)) (CleanFrom 0 fs) ts (whole_all ts (subst HasNoFault shown clean.0))
    (joined_each 0 fs ts (child_by (all_valid ts)) clean.1)))
    (λ id s pieces clean.
    let shown = extension_joined id s ts (recursion_from_All (IsPiece (type.extension id s)) ts pieces) in
    All-from_recursion (IsCleanPiece (type.extension id s)) ts
    (together (λ t. HasNoFault (rows t)) (CleanAt 0) ts (whole_all ts (subst HasNoFault shown clean.0))
    (each_of_slots 0 ts (joined_slots s (slot_of_each 0 ts) clean.1.0))))
    ty nested columns pieces

pub joined_clean : (ty : DataType) (ts : List Tree) → is_nested ty ≡ true → has_columns ty ≡ true → All (IsPiece ty) ts → 0 < length ts
    → All IsClean ts → IsClean (joined ty ts)
joined_clean ty ts nested columns pieces some clean =
    joined_of_pieces ty ts nested columns pieces (All-weaker IsClean (IsCleanPiece ty) (clean_piece ty) ts clean)

-- with other pieces behind the first ones
pub joined_again : (ty : DataType) (ts us vs : List Tree) → is_nested ty ≡ true → has_columns ty ≡ true → All (IsPiece ty) (ts ++ us)
    → All (IsPiece ty) (ts ++ vs) → 0 < length (ts ++ us) → IsClean (joined ty (ts ++ us)) → All IsClean vs → IsClean (joined ty (ts ++ vs))
joined_again ty ts us vs nested columns pieces others some clean more =
    let each = cleans_joined ty (ts ++ us) nested columns pieces some clean in
    let before : All (IsCleanPiece ty) ts =
    subst (All (IsCleanPiece ty)) (take-append-le (length ts) ts us (omega arith) ∙ take_all (length ts) ts (omega arith))
    (All-take (IsCleanPiece ty) (length ts) (ts ++ us) each) in
    joined_of_pieces ty (ts ++ vs) nested columns others
    (All-append (IsCleanPiece ty) ts vs before (All-weaker IsClean (IsCleanPiece ty) (clean_piece ty) vs more))

-- ---- what it costs

pub joined_cost : (ty : DataType) (ts : List Tree) → cost (joined ty ts) ≤ 1
joined_cost (type.struct fs m) ts = omega (arith, column_cost (type.struct fs m) (length (all_valid ts)) (composed Struct) (struct_slots (joined_fields 0 fs ts) (child_by (all_valid ts))) refl)
joined_cost (type.extension id s) ts = omega (arith, column_cost (type.extension id s) (sum (map len ts)) (composed Extension) (slot (joined_slot s (slot_of_each 0 ts)) no_slots) refl)
joined_cost _ ts = omega arith

-- What the rows of slices keep: S1 to S6.
use Rattle.std.proofs.Common.{◌≡◌, ℕ, zero, suc, ◌+◌, ◌-◌, ◌≤◌, List, [], ◌∷◌, length, map, take, drop, Option, Some, None, true, refl}
use Rattle.std.proofs.Common.{sym}
use Rattle.std.proofs.Common.{ap}
use Rattle.std.proofs.Common.{subst}
use Rattle.std.proofs.Common.{◌∙◌}
use Rattle.std.proofs.Common.{arith}
use Rattle.std.specs.Prelude.{option_map}
use Rattle.std.specs.List.{range_with_len}
use Rattle.std.proofs.lemmas.List.{take-map, drop-map, take_all, length-take-le, length-drop}
use Rattle.std.proofs.lemmas.List.FromFn.{length-range_with_len}
use Rattle.vx_value.specs.Types as type
use Rattle.vx_value.specs.Types.{DataType, Fields}
use Rattle.vx_value.specs.Typed.{Typed}
use Rattle.vx_value.specs.Cell.{Cell}
use Rattle.vx_fn.specs.declared.function.ScalarFnRef.{ScalarFnRef}
use Rattle.vx_tree.specs.Tree as enc
use Rattle.vx_tree.specs.Tree.{Tree, Data, Slots, node, no_slots, absent, slot, slots_of, dtype, len, datum, slots, column, constant_of}
use Rattle.vx_tree.specs.Tree.{slice_of}
use Rattle.vx_tree.specs.Tree.{is_canonical}
use Rattle.vx_tree.specs.Tree.{is_flat}
use Rattle.vx_tree.specs.Slots.{map_slots}
use Rattle.vx_tree.specs.Parts.{part_of, column_range}
use Rattle.vx_tree.specs.Columns.{empty_of, empty_fields}
use Rattle.vx_tree.specs.Cells.{rows, slots_rows, cells_at, HasNoFault, IsClean, AreClean}
use Rattle.vx_tree.specs.Lookups.{taken}
use Rattle.vx_tree.specs.Keeps.{KeepsExactly}
use Rattle.vx_tree.specs.Well.{Shape, shape, shape_of, shapes, IsNode, IsNodeOf, IsWell}
use Rattle.vx_tree.proofs.CellsLemmas.{rows_counted}
use Rattle.vx_tree.proofs.ChoicesLemmas.{slice_twice}
use Rattle.vx_tree.proofs.ComposedLemmas.{composed_part}
use Rattle.vx_tree.proofs.FlatLemmas.{flat_range_kept}
use Rattle.vx_tree.proofs.KindsLemmas.{type_in, len_in}
use Rattle.vx_tree.proofs.NullsLemmas.{nulls_part, nulls_range}
use Rattle.vx_tree.proofs.PartsLemmas.{part_exact, slot_part, flat_range_is}
use Rattle.vx_tree.proofs.SlotsLemmas.{no_shapes}
use Rattle.vx_tree.proofs.ValiditiesLemmas.{part_clean}
use Rattle.vx_rule.proofs.PicksLemmas.{first_of, exactly_by, map_clean, function_picked, masked_picked}

-- ---- what every row needs

-- a column without rows
empty_rows : (ty : DataType) → (dtype (empty_of ty) ≡ ty) × (len (empty_of ty) ≡ 0) × (rows (empty_of ty) ≡ [])
empty_rows type.null = (refl, refl, refl)
empty_rows _ = (refl, refl, refl)

mutual
  empty_clean : (ty : DataType) → IsClean (empty_of ty)
  empty_clean (type.struct fs m) = (tt, fields_clean fs)
  empty_clean (type.extension id t) = (tt, (empty_clean t, tt))
  empty_clean type.null = (tt, tt)
  empty_clean _ = (tt, tt)

  fields_clean : (fs : Fields) → AreClean (empty_fields fs)
  fields_clean type.no_fields = tt
  fields_clean (type.field name t fs) = (empty_clean t, fields_clean fs)

pub empty_known : (ty : DataType) → (dtype (empty_of ty) ≡ ty) × (len (empty_of ty) ≡ 0) × (rows (empty_of ty) ≡ []) × IsClean (empty_of ty)
empty_known ty = let known = empty_rows ty in (known.0, known.1, known.2, empty_clean ty)

-- the one slot
only : (ss : Slots) (s : Option Shape) → shapes ss ≡ s ∷ [] → (v : Option Tree) × (ss ≡ slots_of (v ∷ []))
only no_slots s h = absurd (cc)
only (absent ss) s h = let none : shapes ss ≡ [] = cc in (None, ap absent (no_shapes ss none))
only (slot t ss) s h = let none : shapes ss ≡ [] = cc in (Some t, ap (slot t) (no_shapes ss none))

pub slice_bounds : (ty : DataType) (n a b : ℕ) (c : Tree) → IsNode ty n (enc.slice a b) (shapes (slot c no_slots))
    → (ty ≡ dtype c) × (n ≡ b - a) × (a ≤ b) × (b ≤ len c)
slice_bounds ty n a b c h =
    let is : shape_of c ≡ shape ty h.0 = first_of h.1 in
    (sym (ap type_in is), h.4, h.2, subst (λ m. b ≤ m) (sym (ap len_in is)) h.3)

-- a well-formed slice of c is `slice_of`
of_slice : (ty : DataType) (n a b : ℕ) (c u : Tree) → IsWell (node ty n (enc.slice a b) (slot c no_slots))
    → (a ≤ b → b ≤ len c → KeepsExactly (slice_of a b c) u) → KeepsExactly (node ty n (enc.slice a b) (slot c no_slots)) u
of_slice ty n a b c u w h =
    let s = slice_bounds ty n a b c w.0 in
    subst (λ t. KeepsExactly t u) (λ i. node (sym s.0 i) (sym s.1 i) (enc.slice a b) (slot c no_slots)) (h s.2 s.3)

-- ---- all rows, and none

pub S_whole_keeps : (ty : DataType) (n a b : ℕ) (c : Tree) → IsWell (node ty n (enc.slice a b) (slot c no_slots)) → a ≡ 0 → b ≡ len c
    → KeepsExactly (node ty n (enc.slice a b) (slot c no_slots)) c
S_whole_keeps ty n a b c w z e = of_slice ty n a b c c w (λ h k.
    exactly_by (slice_of a b c) c refl (omega (arith, z, e))
    (ap (λ x. take (b - x) (drop x (rows c))) z ∙ take_all (b - 0) (rows c) (omega (arith, e, rows_counted c w.1.0))) (λ d. d.1.0))

pub S_empty_keeps : (ty : DataType) (n a b : ℕ) (c : Tree) → IsWell (node ty n (enc.slice a b) (slot c no_slots)) → a ≡ b
    → KeepsExactly (node ty n (enc.slice a b) (slot c no_slots)) (empty_of (dtype c))
S_empty_keeps ty n a b c w e = of_slice ty n a b c (empty_of (dtype c)) w (λ h k.
    let known = empty_known (dtype c) in
    let none : b - a ≡ 0 = omega (arith, e) in
    exactly_by (slice_of a b c) (empty_of (dtype c)) (sym known.0) (none ∙ sym known.1) (ap (λ x. take x (drop a (rows c))) none ∙ sym known.2) (λ d. known.3))

-- ---- of a slice, and of a constant

pub S1_keeps : (ty sty : DataType) (n a b k s t : ℕ) (c : Tree)
    → IsWell (node ty n (enc.slice a b) (slot (node sty k (enc.slice s t) (slot c no_slots)) no_slots))
    → KeepsExactly (node ty n (enc.slice a b) (slot (node sty k (enc.slice s t) (slot c no_slots)) no_slots)) (slice_of (s + a) (s + b) c)
S1_keeps ty sty n a b k s t c w =
    let child = node sty k (enc.slice s t) (slot c no_slots) in
    let u = slice_of (s + a) (s + b) c in
    let inner = slice_bounds sty k s t c w.1.0.0 in
    of_slice ty n a b child u w (λ h l.
    let shown : rows (slice_of a b child) ≡ rows u = slice_twice c s t a b inner.2 inner.3 h (omega (arith, l, inner.1)) in
    exactly_by (slice_of a b child) u inner.0 (omega arith) shown (λ d. (subst HasNoFault shown d.0, d.1.0.1)))

pub S2_keeps : (ty cty : DataType) (n a b k : ℕ) (v : Typed) → IsWell (node ty n (enc.slice a b) (slot (node cty k (enc.constant v) no_slots) no_slots))
    → KeepsExactly (node ty n (enc.slice a b) (slot (node cty k (enc.constant v) no_slots) no_slots)) (constant_of v (b - a))
S2_keeps ty cty n a b k v w =
    let child = node cty k (enc.constant v) no_slots in
    of_slice ty n a b child (constant_of v (b - a)) w (λ h l. part_exact a b child w.1.0 h l)

-- ---- of a column

-- it has one slot: a line for each
flat_slots : (t : Tree) → IsNodeOf t → is_flat (datum t) ≡ true → (v : Option Tree) × (slots t ≡ slots_of (v ∷ []))
flat_slots (node ty n (enc.bool bs) ss) w h = only ss w.0 w.3
flat_slots (node ty n (enc.primitive p zs) ss) w h = only ss w.0 w.3
flat_slots (node ty n (enc.decimals d zs) ss) w h = only ss w.0.0 w.0.3
flat_slots (node ty n (enc.views rs) ss) w h = only ss w.0.0 w.0.3
flat_slots _ w h = absurd (cc)

flat_kept : (cty : DataType) (k : ℕ) (d : Data) (ss : Slots) (a b : ℕ) → IsWell (node cty k d ss) → is_flat d ≡ true → a ≤ b → b ≤ k
    → KeepsExactly (slice_of a b (node cty k d ss)) (column_range a b (node cty k d ss))
flat_kept cty k d ss a b w flat h l =
    let t = node cty k d ss in
    let o = flat_slots t w.0 flat in
    let part = slot_part a b o.0 (option_map (part_of a b) o.0) t w o.1 h l flat refl in
    subst (KeepsExactly (slice_of a b t)) (flat_range_is a b o.0 (option_map (part_of a b) o.0) t o.1 refl)
    (flat_range_kept t o.0 (option_map (part_of a b) o.0) a b w flat o.1 l part).1

canonical_kept : (cty : DataType) (k : ℕ) (d : Data) (ss : Slots) (a b : ℕ) → IsWell (node cty k d ss) → is_canonical d ≡ true → a ≤ b → b ≤ k
    → KeepsExactly (slice_of a b (node cty k d ss)) (column_range a b (node cty k d ss))
canonical_kept cty k enc.nulls ss a b w e h l =
    let t = node cty k enc.nulls ss in
    subst (KeepsExactly (slice_of a b t)) (nulls_range t a b w refl) (nulls_part t a b w refl h l)
canonical_kept cty k (enc.bool bs) ss a b w e h l = flat_kept cty k (enc.bool bs) ss a b w refl h l
canonical_kept cty k (enc.primitive p zs) ss a b w e h l = flat_kept cty k (enc.primitive p zs) ss a b w refl h l
canonical_kept cty k (enc.decimals d zs) ss a b w e h l = flat_kept cty k (enc.decimals d zs) ss a b w refl h l
canonical_kept cty k (enc.views rs) ss a b w e h l = flat_kept cty k (enc.views rs) ss a b w refl h l
canonical_kept cty k (enc.composed m) ss a b w e h l = (composed_part m cty k a b ss w h l).1
canonical_kept cty k _ ss a b w e h l = absurd (cc (e))

pub S3_keeps : (ty cty : DataType) (n a b k : ℕ) (d : Data) (ss : Slots) → IsWell (node ty n (enc.slice a b) (slot (node cty k d ss) no_slots))
    → is_canonical d ≡ true
    → KeepsExactly (node ty n (enc.slice a b) (slot (node cty k d ss) no_slots)) (column_range a b (node cty k d ss))
S3_keeps ty cty n a b k d ss w e =
    of_slice ty n a b (node cty k d ss) (column_range a b (node cty k d ss)) w (λ h l. canonical_kept cty k d ss a b w.1.0 e h l)

-- ---- of a function, and of a masked array

pub part_natural : (a b : ℕ) (f : ℕ → Cell) (is : List ℕ) → take (b - a) (drop a (map f is)) ≡ map f (take (b - a) (drop a is))
part_natural a b f is = ap (take (b - a)) (drop-map f a is) ∙ take-map f (b - a) (drop a is)

pub part_count : (a b k : ℕ) → a ≤ b → b ≤ k → length (take (b - a) (drop a (range_with_len 0 k))) ≡ b - a
part_count a b k h l =
    let all = range_with_len 0 k in
    length-take-le (b - a) (drop a all) (omega (arith, length-drop a all, length-range_with_len 0 k))

pub S4_keeps : (ty fty : DataType) (n a b k : ℕ) (f : ScalarFnRef) (ss : Slots)
    → IsWell (node ty n (enc.slice a b) (slot (node fty k (enc.function f) ss) no_slots))
    → KeepsExactly (node ty n (enc.slice a b) (slot (node fty k (enc.function f) ss) no_slots))
    (node fty (b - a) (enc.function f) (map_slots (slice_of a b) ss))
S4_keeps ty fty n a b k f ss w =
    let child = node fty k (enc.function f) ss in
    let u = node fty (b - a) (enc.function f) (map_slots (slice_of a b) ss) in
    of_slice ty n a b child u w (λ h l.
    let shown : rows (slice_of a b child) ≡ rows u =
    function_picked (λ is. take (b - a) (drop a is)) (λ cs. take (b - a) (drop a cs)) (part_natural a b) k (b - a) (part_count a b k h l) (slice_of a b)
    (λ t well long. refl) (λ t well long. refl) f fty ss w.1.0 in
    exactly_by (slice_of a b child) u refl refl shown (λ d. (subst HasNoFault shown d.0, map_clean (slice_of a b) ss (part_clean a b) d.1.0.1)))

-- a clean tree's rows are clean, put off or not
pub copies_clean : (v : Typed) (n : ℕ) → IsClean (constant_of v n)
copies_clean v zero = (tt, tt)
copies_clean v (suc n) = copies_clean v n

pub part_of_clean : (a b : ℕ) (t : Tree) → IsClean t → IsClean (part_of a b t)
part_of_clean a b (node ty n (enc.constant v) ss) c = copies_clean v (b - a)
part_of_clean a b (node ty n (enc.slice s e) ss) c = part_clean a b (node ty n (enc.slice s e) ss) c
part_of_clean a b t c = part_clean a b t c

pub S5_keeps : (ty mty : DataType) (n a b k : ℕ) (c : Tree) (vs : Slots)
    → IsWell (node ty n (enc.slice a b) (slot (node mty k enc.masked (slot c vs)) no_slots))
    → KeepsExactly (node ty n (enc.slice a b) (slot (node mty k enc.masked (slot c vs)) no_slots))
    (node mty (b - a) enc.masked (slot (slice_of a b c) (map_slots (part_of a b) vs)))
S5_keeps ty mty n a b k c vs w =
    let child = node mty k enc.masked (slot c vs) in
    let u = node mty (b - a) enc.masked (slot (slice_of a b c) (map_slots (part_of a b) vs)) in
    of_slice ty n a b child u w (λ h l.
    let shown : rows (slice_of a b child) ≡ rows u =
    masked_picked (λ is. take (b - a) (drop a is)) (λ cs. take (b - a) (drop a cs)) (part_natural a b) k (b - a) (part_count a b k h l) (part_of a b)
    (λ t well long. sym (part_exact a b t well h (subst (λ m. b ≤ m) (sym long) l)).keeps.same_type)
    (λ t well long. sym (part_exact a b t well h (subst (λ m. b ≤ m) (sym long) l)).equal) mty c (slice_of a b c) vs w.1.0 refl in
    exactly_by (slice_of a b child) u refl refl shown
    (λ d. (subst HasNoFault shown d.0, (part_clean a b c d.1.0.1.0, map_clean (part_of a b) vs (part_of_clean a b) d.1.0.1.1))))

-- ---- of a dictionary

pub S6_keeps : (ty dty : DataType) (n a b k : ℕ) (c : Tree) (vs : Slots)
    → IsWell (node ty n (enc.slice a b) (slot (node dty k enc.dict (slot c vs)) no_slots))
    → KeepsExactly (node ty n (enc.slice a b) (slot (node dty k enc.dict (slot c vs)) no_slots)) (node dty (b - a) enc.dict (slot (slice_of a b c) vs))
S6_keeps ty dty n a b k c vs w =
    let child = node dty k enc.dict (slot c vs) in
    let u = node dty (b - a) enc.dict (slot (slice_of a b c) vs) in
    of_slice ty n a b child u w (λ h l.
    let f = taken (cells_at (slots_rows vs) 0) in
    let shown : rows (slice_of a b child) ≡ rows u = ap (take (b - a)) (drop-map f a (rows c)) ∙ take-map f (b - a) (drop a (rows c)) in
    exactly_by (slice_of a b child) u refl refl shown (λ d. (subst HasNoFault shown d.0, (part_clean a b c d.1.0.1.0, d.1.0.1.1))))

-- Slices that are pushed down, by encoding.
use Rattle.std.proofs.Common.{◌≡◌, ℕ, ◌+◌, ◌-◌, ◌*◌, ◌<◌, ◌≤◌, List, [], ◌∷◌, length, map, take, get_or, Option, Some, None, true, false, refl, sym, ap, subst, ◌∙◌, arith}
use Rattle.std.specs.Prelude.{option_map}
use Rattle.std.specs.List.{AllZip}
use Rattle.std.proofs.lemmas.List.{take_all}
use Rattle.vx_value.specs.Types as type
use Rattle.vx_value.specs.Types.{DataType}
use Rattle.vx_value.specs.Nullabilities.{with_nullability}
use Rattle.vx_value.specs.declared.dtype.Nullability.TheVariants.{NonNullable, Nullable}
use Rattle.vx_fn.specs.Meanings.{widen}
use Rattle.vx_fn.specs.declared.function.ScalarFnRef.{ScalarFnRef}
use Rattle.vx_fn.specs.declared.function.ScalarFnRef.TheVariants as fn_of
use Rattle.vx_tree.specs.Tree as enc
use Rattle.vx_tree.specs.Tree.{Tree, Slots, node, no_slots, absent, slot, slots_of, height, slots_height, dtype, len, datum, constant_of, slice_of, masked_of, dict_of, is_canonical, types_in, lets_below}
use Rattle.vx_tree.specs.Slots.{map_slots}
use Rattle.vx_tree.specs.Parts.{part_of}
use Rattle.vx_tree.specs.Cells.{node_cells, slots_rows, AreClean}
use Rattle.vx_tree.specs.Columns.{empty_of}
use Rattle.vx_tree.specs.Charges.{put_back}
use Rattle.vx_tree.specs.Cost.{all, cost, slots_cost, slots_extra, all_reached, reach}
use Rattle.vx_tree.specs.Keeps.{KeepsExactly}
use Rattle.vx_tree.specs.SlotTypes.{is_integer}
use Rattle.vx_tree.specs.Validities.{HasRange}
use Rattle.vx_tree.specs.Well.{shape, shape_of, shapes, IsValidity, IsNode, IsWell, AreWell}
use Rattle.vx_tree.proofs.CostLemmas.{column_cost, masked_cost, masked_reach}
use Rattle.vx_tree.proofs.WeightLemmas.{cost_positive}
use Rattle.vx_tree.proofs.KeepsLemmas.{exactly_refl, exactly_trans, exactly_of_rows, put_exactly}
use Rattle.vx_tree.proofs.PartsLemmas.{part_exact}
use Rattle.vx_tree.proofs.KindsLemmas.{type_in, len_in}
use Rattle.vx_tree.proofs.SlotsLemmas.{IsBelow, slot_below, one_shape}
use Rattle.vx_rule.specs.Rules.{lets_slice, IsPart, IsPartOf}
use Rattle.vx_rule.specs.Pushes.{pushed, pushed_slots, IsPushed, IsColumnSlice, IsConstantLike}
use Rattle.vx_rule.proofs.PushedLemmas.{whole_is, empty_is, constant_is, slice_is, function_is, masked_is, dict_is, column_is, lazily_is, uncut}
use Rattle.vx_rule.proofs.PicksLemmas.{IsSecond, first_of, masked_slots}
use Rattle.vx_rule.proofs.RangesLemmas.{S_whole_keeps, S_empty_keeps, S1_keeps, S2_keeps, S4_keeps, S5_keeps, S6_keeps}

pub canonical_cost : (c : Tree) → is_canonical (datum c) ≡ true → cost c ≡ 1
canonical_cost (node ty n d ss) h = column_cost ty n d ss h

pub empty_canonical : (ty : DataType) → is_canonical (datum (empty_of ty)) ≡ true
empty_canonical type.null = refl
empty_canonical _ = refl

-- a canonical column takes one turn, however it came about
canonical_pushed : (a b : ℕ) (c u : Tree) → u ≡ pushed a b c → KeepsExactly (slice_of a b c) u → is_canonical (datum u) ≡ true → IsPushed a b c u
canonical_pushed a b c u down same h = record {
  pushed_down = down;
  exactly = same;
  bounded = omega (arith, canonical_cost u h, cost_positive c);
  canonical = λ e. h;
}

pub column_pushed : (a b : ℕ) (c u : Tree) → IsPart a b (len c) → is_canonical (datum c) ≡ true → IsColumnSlice a b c u → IsPushed a b c u
column_pushed a b c u part h cut = canonical_pushed a b c u (cut.range ∙ sym (column_is a b c h part)) cut.exactly cut.column

pub lazily_pushed : (a b : ℕ) (c u : Tree) → lets_slice (datum c) ≡ false → IsPartOf a b c → u ≡ slice_of a b c
    → IsPushed a b c u
lazily_pushed a b c u stopped part e =
    subst (IsPushed a b c) (sym e) (record {
      pushed_down = sym (lazily_is a b c stopped part.0);
      exactly = exactly_refl (slice_of a b c);
      bounded = omega arith;
      canonical = λ h. absurd (cc (uncut (datum c) stopped, h));
    })

-- a range that is neither all rows nor none
pub is_part : (a b : ℕ) (c : Tree) → (a ≤ b) × (b ≤ len c) → (a ≡ 0 → b ≡ len c → ⊥) → (a ≡ b → ⊥) → IsPartOf a b c
is_part a b c within some_left some = (record { some_rows = grind (arith, within.0, some); not_all = grind (arith, within.0, within.1, some_left, some) }, within.1)

-- rows from a to b of c
module _ (a b : ℕ) (c : Tree) (well : IsWell c) (order : a ≤ b) (bounds : b ≤ len c) where
  sliced : IsWell (slice_of a b c)
  sliced = ((len c, refl, order, bounds, refl), (well, tt))

  pub whole_pushed : (u : Tree) → a ≡ 0 → b ≡ len c → u ≡ c → IsPushed a b c u
  whole_pushed u z w e =
      subst (IsPushed a b c) (sym e) (record {
        pushed_down = sym (whole_is a b c z w);
        exactly = S_whole_keeps (dtype c) (b - a) a b c sliced z w;
        bounded = omega arith;
        canonical = λ h. h;
      })

  pub empty_pushed : (u : Tree) → a ≡ b → (a ≡ 0 → b ≡ len c → ⊥) → u ≡ empty_of (dtype c) → IsPushed a b c u
  empty_pushed u z some e =
      subst (IsPushed a b c) (sym e)
      (canonical_pushed a b c (empty_of (dtype c)) (sym (empty_is a b c z some)) (S_empty_keeps (dtype c) (b - a) a b c sliced z) (empty_canonical (dtype c)))

-- some rows of x, from a to b
module _ (a b : ℕ) (x : Tree) (well : IsWell x) (part : IsPartOf a b x) where
  order : a ≤ b
  order = omega (arith, part.0.some_rows)

  pub constant_pushed : (u : Tree) → IsConstantLike x (b - a) u → IsPushed a b x u
  constant_pushed u like =
      let v = like.0 in
      let child = constant_of v (len x) in
      subst (λ y. IsPushed a b y u) (sym like.1) (subst (IsPushed a b child) (sym like.2) (record {
        pushed_down = sym (constant_is a b (len x) v part.0);
        exactly = S2_keeps v.of_type v.of_type (b - a) a b (len x) v (subst (λ y. IsWell (slice_of a b y)) like.1 (sliced a b x well order part.1));
        bounded = omega arith;
        canonical = λ h. absurd (cc (h));
      }))

  pub inner_pushed : (s e : ℕ) (c u : Tree) → x ≡ slice_of s e c → IsPushed (s + a) (s + b) c u → IsPushed a b x u
  inner_pushed s e c u shown h =
      let child = slice_of s e c in
      subst (λ y. IsPushed a b y u) (sym shown) (record {
        pushed_down = h.pushed_down ∙ sym (slice_is a b s e c (subst (λ y. IsPart a b (len y)) shown part.0));
        exactly = exactly_trans (slice_of a b child) (slice_of (s + a) (s + b) c) u
            (S1_keeps (dtype c) (dtype c) (b - a) a b (e - s) s e c (subst (λ y. IsWell (slice_of a b y)) shown (sliced a b x well order part.1))) h.exactly;
        bounded = omega (arith, h.bounded);
        canonical = λ h. absurd (cc (h));
      })

-- ---- the slots of a function

-- each holds a tree, and the other its rows from a to b
abbrev pub IsSlotPushed : ℕ → ℕ → Option Tree → Option Tree → Type 0
IsSlotPushed a b (Some t) (Some u) = IsPushed a b t u
IsSlotPushed a b _ _ = ⊥

module _ (a b : ℕ) where
  slots_typed : (xs ys : List (Option Tree)) → AllZip (IsSlotPushed a b) xs ys
      → types_in (shapes (map_slots (slice_of a b) (slots_of xs))) ≡ types_in (shapes (slots_of ys))
  slots_typed [] [] h = refl
  slots_typed [] (y ∷ ys) h = absurd h
  slots_typed (x ∷ xs) [] h = absurd h
  slots_typed (None ∷ xs) (y ∷ ys) h = absurd h.0
  slots_typed (Some t ∷ xs) (None ∷ ys) h = absurd h.0
  slots_typed (Some t ∷ xs) (Some u ∷ ys) h = λ i. h.0.exactly.keeps.same_type i ∷ slots_typed xs ys h.1 i

  slots_shown : (xs ys : List (Option Tree)) → AllZip (IsSlotPushed a b) xs ys → slots_rows (map_slots (slice_of a b) (slots_of xs)) ≡ slots_rows (slots_of ys)
  slots_shown [] [] h = refl
  slots_shown [] (y ∷ ys) h = absurd h
  slots_shown (x ∷ xs) [] h = absurd h
  slots_shown (None ∷ xs) (y ∷ ys) h = absurd h.0
  slots_shown (Some t ∷ xs) (None ∷ ys) h = absurd h.0
  slots_shown (Some t ∷ xs) (Some u ∷ ys) h = λ i. h.0.exactly.equal i ∷ slots_shown xs ys h.1 i

  slots_down : (xs ys : List (Option Tree)) → AllZip (IsSlotPushed a b) xs ys → slots_of ys ≡ pushed_slots a b (slots_of xs)
  slots_down [] [] h = refl
  slots_down [] (y ∷ ys) h = absurd h
  slots_down (x ∷ xs) [] h = absurd h
  slots_down (None ∷ xs) (y ∷ ys) h = absurd h.0
  slots_down (Some t ∷ xs) (None ∷ ys) h = absurd h.0
  slots_down (Some t ∷ xs) (Some u ∷ ys) h = λ i. slot (h.0.pushed_down i) (slots_down xs ys h.1 i)

  slots_clean : (xs ys : List (Option Tree)) → AllZip (IsSlotPushed a b) xs ys → AreClean (map_slots (slice_of a b) (slots_of xs)) → AreClean (slots_of ys)
  slots_clean [] [] h c = tt
  slots_clean [] (y ∷ ys) h c = absurd h
  slots_clean (x ∷ xs) [] h c = absurd h
  slots_clean (None ∷ xs) (y ∷ ys) h c = absurd h.0
  slots_clean (Some t ∷ xs) (None ∷ ys) h c = absurd h.0
  slots_clean (Some t ∷ xs) (Some u ∷ ys) h c = (h.0.exactly.keeps.still_clean c.0, slots_clean xs ys h.1 c.1)

  slots_sized : (n : ℕ) (tys : List DataType) (xs ys : List (Option Tree)) → AllZip (IsSlotPushed a b) xs ys
      → shapes (slots_of xs) ≡ map (λ s. Some (shape s n)) tys → shapes (slots_of ys) ≡ map (λ s. Some (shape s (b - a))) tys
  slots_sized n [] [] [] h e = refl
  slots_sized n (s ∷ tys) [] [] h e = absurd (cc)
  slots_sized n tys [] (y ∷ ys) h e = absurd h
  slots_sized n tys (x ∷ xs) [] h e = absurd h
  slots_sized n tys (None ∷ xs) (y ∷ ys) h e = absurd h.0
  slots_sized n tys (Some t ∷ xs) (None ∷ ys) h e = absurd h.0
  slots_sized n [] (Some t ∷ xs) (Some u ∷ ys) h e = absurd (cc)
  slots_sized n (s ∷ tys) (Some t ∷ xs) (Some u ∷ ys) h e =
      let typed : dtype t ≡ s = cc in
      let rest : shapes (slots_of xs) ≡ map (λ s. Some (shape s n)) tys = cc in
      let kept = h.0.exactly.keeps in
      λ i. Some (shape ((sym kept.same_type ∙ typed) i) (sym kept.same_len i)) ∷ slots_sized n tys xs ys h.1 rest i

  slots_bounded : (xs ys : List (Option Tree)) → AllZip (IsSlotPushed a b) xs ys
      → slots_cost put_back all (slots_of ys) ≤ slots_cost put_back all (slots_of xs) + 3 * all_reached (slots_extra all (slots_of xs))
  slots_bounded [] [] h = omega arith
  slots_bounded [] (y ∷ ys) h = absurd h
  slots_bounded (x ∷ xs) [] h = absurd h
  slots_bounded (None ∷ xs) (y ∷ ys) h = absurd h.0
  slots_bounded (Some t ∷ xs) (None ∷ ys) h = absurd h.0
  slots_bounded (Some t ∷ xs) (Some u ∷ ys) h = omega (arith, h.0.bounded, slots_bounded xs ys h.1)

-- a function below which slices pass reaches as far as its arguments do
reach_is : (ty : DataType) (n : ℕ) (f : ScalarFnRef) (ss : Slots) → lets_below f ≡ true → reach (node ty n (enc.function f) ss) ≡ 1 + all_reached (slots_extra all ss)
reach_is ty n (fn_of.GetItem name) ss l = absurd (cc (l))
reach_is ty n _ ss l = refl

-- x is the function's node over xs
module _ (x : Tree) (f : ScalarFnRef) (xs : List (Option Tree)) (shown : x ≡ node (dtype x) (len x) (enc.function f) (slots_of xs))
    (ok : IsNode (dtype x) (len x) (enc.function f) (shapes (slots_of xs))) where
  -- its slot k is s
  pub child_below : (k : ℕ) (s u : Option Tree) → k < length xs → s ≡ get_or xs k s → s ≡ u → IsBelow (len x) (height x) u
  child_below k s u lt at is =
      let high : height x ≡ slots_height (slots_of xs) + 1 = ap height shown in
      subst (IsBelow (len x) (height x)) (sym at ∙ is) (slot_below (len x) xs ok.0 k s (height x) ok.1 (omega (arith, high)) lt)

  -- a loop over all slots pushed each
  module _ (a b k : ℕ) (ys : List (Option Tree)) (all_done : length xs ≤ k) (each : AllZip (IsSlotPushed a b) (take k xs) ys) where
    slots_pushed : AllZip (IsSlotPushed a b) xs ys
    slots_pushed = subst (λ zs. AllZip (IsSlotPushed a b) zs ys) (take_all k xs all_done) each

    pub function_sized : IsNode (dtype x) (b - a) (enc.function f) (shapes (slots_of ys))
    function_sized = (ok.0, slots_sized a b (len x) ok.0 xs ys slots_pushed ok.1, ok.2)

    pub function_pushed : IsWell x → IsPartOf a b x → lets_below f ≡ true → (u : Tree) → u ≡ node (dtype x) (b - a) (enc.function f) (slots_of ys) → IsPushed a b x u
    function_pushed well part l u e =
        let ty = dtype x in
        let n = len x in
        let ss = slots_of xs in
        let child = node ty n (enc.function f) ss in
        let lazily = node ty (b - a) (enc.function f) (map_slots (slice_of a b) ss) in
        let made = node ty (b - a) (enc.function f) (slots_of ys) in
        let kept : KeepsExactly (slice_of a b child) lazily =
        S4_keeps ty ty (b - a) a b n f ss (subst (λ y. IsWell (slice_of a b y)) shown (sliced a b x well (order a b x well part) part.1)) in
        let swapped : KeepsExactly lazily made =
        exactly_of_rows ty (b - a) (enc.function f) (enc.function f) (map_slots (slice_of a b) ss) (slots_of ys)
        (λ j. node_cells ty (b - a) (enc.function f) (slots_typed a b xs ys slots_pushed j) (slots_shown a b xs ys slots_pushed j)) (slots_clean a b xs ys slots_pushed) in
        subst (λ y. IsPushed a b y u) (sym shown) (subst (IsPushed a b child) (sym e) (record {
          pushed_down =
              ap (node ty (b - a) (enc.function f)) (slots_down a b xs ys slots_pushed)
              ∙ sym (function_is a b ty n f ss l (subst (λ y. IsPart a b (len y)) shown part.0));
          exactly = exactly_trans (slice_of a b child) lazily made kept swapped;
          bounded = omega (arith, slots_bounded a b xs ys slots_pushed, reach_is ty n f ss l);
          canonical = λ h. absurd (cc (h));
        }))

-- ---- a masked array

-- the slots of a masked node, with its validity replaced
pub masked_mapped : (f : Tree → Tree) (c : Tree) (v : Option Tree) → slots_of (Some c ∷ option_map f v ∷ []) ≡ slot c (map_slots f (slots_of (v ∷ [])))
masked_mapped f c None = refl
masked_mapped f c (Some t) = refl

module _ (a b : ℕ) (x c : Tree) (v : Option Tree) (shown : x ≡ masked_of c v) (well : IsWell x) (range : IsPartOf a b x) where
  here : IsWell (masked_of c v)
  here = subst IsWell shown well

  within : b ≤ len c
  within = subst (λ y. b ≤ len y) shown range.1

  in_order : a ≤ b
  in_order = order a b x well range

  second : IsSecond (len c) (slots_of (v ∷ []))
  second = (masked_slots (dtype (masked_of c v)) (len c) c (slots_of (v ∷ [])) here.0).1

  range_of : (v : Option Tree) → IsSecond (len c) (slots_of (v ∷ [])) → HasRange a b v
  range_of None h = tt
  range_of (Some t) h = (in_order, omega (arith, within, ap len_in h))

  pub masked_range : HasRange a b v
  masked_range = range_of v second

  -- the child's rows from a to b, and those of the validity
  module _ (u : Tree) (w : Option Tree) (below : IsPushed a b c u) (part : w ≡ option_map (part_of a b) v) where
    part_is : (v : Option Tree) → AreWell (slots_of (v ∷ [])) → IsSecond (len c) (slots_of (v ∷ []))
        → IsValidity Nullable (len u) (option_map shape_of (option_map (part_of a b) v))
    part_is None g h = tt
    part_is (Some t) g h =
        let kept = (part_exact a b t g.0 in_order (omega (arith, within, ap len_in h))).keeps in
        let counted = below.exactly.keeps.same_len in
        let typed : dtype (part_of a b t) ≡ type.bool NonNullable = sym kept.same_type ∙ ap type_in h in
        let sized : len (part_of a b t) ≡ len u = sym kept.same_len ∙ counted in
        λ i. shape (typed i) (sized i)

    pub masked_well : IsNode (dtype x) (len u) enc.masked (shapes (slots_of (Some u ∷ w ∷ [])))
    masked_well = (
      dtype u,
      option_map shape_of w,
      ap (λ l. Some (shape_of u) ∷ l) (one_shape w),
      ap dtype shown ∙ ap (with_nullability Nullable) below.exactly.keeps.same_type,
      subst (λ y. IsValidity Nullable (len u) (option_map shape_of y)) (sym part) (part_is v here.1.1 second),
    )

    pub masked_pushed : (t : Tree) → t ≡ node (dtype x) (len u) enc.masked (slots_of (Some u ∷ w ∷ [])) → IsPushed a b x t
    masked_pushed t e =
        let child = masked_of c v in
        let ty = dtype child in
        let vs = slots_of (v ∷ []) in
        let lazily = node ty (b - a) enc.masked (slot (slice_of a b c) (map_slots (part_of a b) vs)) in
        let whole = node ty (b - a) enc.masked (slot u (map_slots (part_of a b) vs)) in
        let kept : KeepsExactly (slice_of a b child) lazily =
        S5_keeps ty ty (b - a) a b (len c) c vs (subst (λ y. IsWell (slice_of a b y)) shown (sliced a b x well in_order range.1)) in
        let swapped : KeepsExactly lazily whole = put_exactly 0 (slice_of a b c) u lazily below.exactly in
        let slots : slots_of (Some u ∷ w ∷ []) ≡ slot u (map_slots (part_of a b) vs) = ap (λ y. slots_of (Some u ∷ y ∷ [])) part
        ∙ masked_mapped (part_of a b) u v in
        let made : t ≡ whole = e ∙ (let sized = sym below.exactly.keeps.same_len in λ i. node (dtype (shown i)) (sized i) enc.masked (slots i)) in
        subst (λ y. IsPushed a b y t) (sym shown) (subst (IsPushed a b child) (sym made) (record {
          pushed_down =
              (λ i. node ty (b - a) enc.masked (slot (below.pushed_down i) (map_slots (part_of a b) vs)))
              ∙ sym (masked_is a b ty (len c) c vs (subst (λ y. IsPart a b (len y)) shown range.0));
          exactly = exactly_trans (slice_of a b child) lazily whole kept swapped;
          bounded =
              omega (arith, below.bounded, masked_cost ty (b - a) u (map_slots (part_of a b) vs), masked_cost ty (len c) c vs, masked_reach ty (len c) c vs);
          canonical = λ h. absurd (cc (h));
        }))

-- ---- a dictionary

module _ (a b : ℕ) (x c v : Tree) (shown : x ≡ dict_of c v) (well : IsWell x) (range : IsPartOf a b x) where
  -- the codes are integers, and so are their rows from a to b
  pub codes_pushed : (u : Tree) → IsPushed a b c u → is_integer (dtype u) ≡ true
  codes_pushed u below =
      let here : IsWell (dict_of c v) = subst IsWell shown well in
      let is : dtype c ≡ here.0.0 = ap type_in (first_of here.0.3) in
      ap is_integer (sym below.exactly.keeps.same_type ∙ is) ∙ here.0.4

  pub dict_pushed : (u w : Tree) → IsPushed a b c u → w ≡ v → (t : Tree) → t ≡ dict_of u w → IsPushed a b x t
  dict_pushed u w below same t e =
      let child = dict_of c v in
      let ty = dtype child in
      let in_order : a ≤ b = omega (arith, range.0.some_rows) in
      let lazily = node ty (b - a) enc.dict (slot (slice_of a b c) (slot v no_slots)) in
      let whole = node ty (b - a) enc.dict (slot u (slot v no_slots)) in
      let kept : KeepsExactly (slice_of a b child) lazily =
      S6_keeps ty ty (b - a) a b (len c) c (slot v no_slots) (subst (λ y. IsWell (slice_of a b y)) shown (sliced a b x well in_order range.1)) in
      let swapped : KeepsExactly lazily whole = put_exactly 0 (slice_of a b c) u lazily below.exactly in
      let sized = sym below.exactly.keeps.same_len in
      let typed : dtype u ≡ dtype c = sym below.exactly.keeps.same_type in
      let made : t ≡ whole =
      e ∙ ap (dict_of u) same ∙ (λ i. node (widen (typed i) (dtype v)) (sized i) enc.dict (slot u (slot v no_slots))) in
      subst (λ y. IsPushed a b y t) (sym shown) (subst (IsPushed a b child) (sym made) (record {
        pushed_down =
            (λ i. node ty (b - a) enc.dict (slot (below.pushed_down i) (slot v no_slots)))
            ∙ sym (dict_is a b ty (len c) c (slot v no_slots) (subst (λ y. IsPart a b (len y)) shown range.0));
        exactly = exactly_trans (slice_of a b child) lazily whole kept swapped;
        bounded = omega (arith, below.bounded);
        canonical = λ h. absurd (cc (h));
      }))

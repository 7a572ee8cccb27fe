-- Slots as a list and as a tree has them: taking one out, filling it, and what a node's conditions say of them.
use Rattle.std.proofs.Common.{◌≡◌, ◌≢◌, ◌⊎◌, inl, inr, ℕ, zero, suc, ◌<◌, ◌≤◌, List, [], ◌∷◌, ◌++◌, length, map, get_or, set, Option, Some, None, IfSome, refl, sym, ap, arith, subst, ◌∙◌}
use Rattle.std.specs.Prelude.{option_map, if◌then◌else◌}
use Rattle.std.proofs.lemmas.Bool.{lt-ltb, le-ltb}
use Rattle.vx_value.specs.Types.{DataType}
use Rattle.vx_tree.specs.Tree.{Tree, Data, Slots, node, no_slots, absent, slot, slots_of, slots, datum, meaning, dtype, len, height, slots_height}
use Rattle.vx_tree.specs.Well.{Shape, shape, shape_of, shapes, AreWell, IsWell, IsNode, IsNodeOf}
use Rattle.vx_tree.specs.Slots.{set_slot, put, IsAbsentAt, IsHole, IsPresentAt, IsPresent, HoldsAt, HasSlot, count_slots as slots_in, name_at}

pub well_append : (xs : List (Option Tree)) (s : Option Tree) → AreWell (slots_of xs) → IfSome s IsWell → AreWell (slots_of (xs ++ s ∷ []))
well_append [] None h w = tt
well_append [] (Some t) h w = (w, tt)
well_append (None ∷ xs) s h w = well_append xs s h w
well_append (Some u ∷ xs) s h w = (h.0, well_append xs s h.1 w)

-- a slot that is there, or empty, is among the slots
slot_bound : (xs : List (Option Tree)) (i : ℕ) → IsPresentAt i (slots_of xs) ⊎ IsAbsentAt i (slots_of xs) → i < length xs
slot_bound [] i (inl h) = absurd h
slot_bound [] i (inr h) = absurd h
slot_bound (x ∷ xs) zero h = omega arith
slot_bound (None ∷ xs) (suc i) h = omega (arith, slot_bound xs i h)
slot_bound (Some t ∷ xs) (suc i) h = omega (arith, slot_bound xs i h)

pub present_bound : (xs : List (Option Tree)) (i : ℕ) → IsPresentAt i (slots_of xs) → i < length xs
present_bound xs i h = slot_bound xs i (inl h)

pub hole_bound : (xs : List (Option Tree)) (i : ℕ) → IsAbsentAt i (slots_of xs) → i < length xs
hole_bound xs i h = slot_bound xs i (inr h)

pub present_some : (xs : List (Option Tree)) (i : ℕ) (d : Option Tree) → IsPresentAt i (slots_of xs) → get_or xs i d ≡ None → ⊥
present_some [] i d h e = h
present_some (None ∷ xs) zero d h e = h
present_some (None ∷ xs) (suc i) d h e = present_some xs i d h e
present_some (Some t ∷ xs) zero d h e = cc
present_some (Some t ∷ xs) (suc i) d h e = present_some xs i d h e

-- what was taken out, put back
pub put_back : (xs : List (Option Tree)) (i : ℕ) (d : Option Tree) (c : Tree) →
    IsPresentAt i (slots_of xs) → get_or xs i d ≡ Some c → set_slot i c (slots_of (set xs i None)) ≡ slots_of xs
put_back [] i d c h e = absurd h
put_back (None ∷ xs) zero d c h e = absurd h
put_back (None ∷ xs) (suc i) d c h e = ap absent (put_back xs i d c h e)
put_back (Some t ∷ xs) zero d c h e = let q : t ≡ c = cc in ap (λ x. slot x (slots_of xs)) (sym q)
put_back (Some t ∷ xs) (suc i) d c h e = ap (slot t) (put_back xs i d c h e)

pub hole_after : (xs : List (Option Tree)) (i : ℕ) → IsPresentAt i (slots_of xs) → IsAbsentAt i (slots_of (set xs i None))
hole_after [] i h = h
hole_after (None ∷ xs) zero h = tt
hole_after (None ∷ xs) (suc i) h = hole_after xs i h
hole_after (Some t ∷ xs) zero h = tt
hole_after (Some t ∷ xs) (suc i) h = hole_after xs i h

pub put_in : (xs : List (Option Tree)) (i : ℕ) (c : Tree) → slots_of (set xs i (Some c)) ≡ set_slot i c (slots_of xs)
put_in [] i c = refl
put_in (None ∷ xs) zero c = refl
put_in (None ∷ xs) (suc i) c = ap absent (put_in xs i c)
put_in (Some t ∷ xs) zero c = refl
put_in (Some t ∷ xs) (suc i) c = ap (slot t) (put_in xs i c)

-- a node's slots, from its conditions
pub one_slot : (xs : List (Option Tree)) (ty : DataType) (m : ℕ) →
    shapes (slots_of xs) ≡ Some (shape ty m) ∷ [] → (t : Tree) × (xs ≡ Some t ∷ []) × (shape_of t ≡ shape ty m)
one_slot [] ty m h = absurd (cc)
one_slot (None ∷ xs) ty m h = absurd (cc)
one_slot (Some t ∷ []) ty m h = (t, refl, cc)
one_slot (Some t ∷ None ∷ xs) ty m h = absurd (cc)
one_slot (Some t ∷ Some s ∷ xs) ty m h = absurd (cc)

-- the one slot of a column
pub one_shape : (v : Option Tree) → shapes (slots_of (v ∷ [])) ≡ option_map shape_of v ∷ []
one_shape None = refl
one_shape (Some t) = refl

pub only_slot : (xs : List (Option Tree)) (s : Option Shape) → shapes (slots_of xs) ≡ s ∷ [] → (v : Option Tree) × (xs ≡ v ∷ [])
only_slot [] s h = absurd (cc)
only_slot (v ∷ []) s h = (v, refl)
only_slot (None ∷ None ∷ xs) s h = absurd (cc)
only_slot (None ∷ Some t ∷ xs) s h = absurd (cc)
only_slot (Some t ∷ None ∷ xs) s h = absurd (cc)
only_slot (Some t ∷ Some u ∷ xs) s h = absurd (cc)

-- the two slots of a masked node
pub two_slots : (xs : List (Option Tree)) (ty : DataType) (m : ℕ) (s : Option Shape) →
    shapes (slots_of xs) ≡ Some (shape ty m) ∷ s ∷ [] → (t : Tree) × (v : Option Tree) × (xs ≡ Some t ∷ v ∷ []) × (shape_of t ≡ shape ty m)
two_slots [] ty m s h = absurd (cc)
two_slots (None ∷ xs) ty m s h = absurd (cc)
two_slots (Some t ∷ []) ty m s h = absurd (cc)
two_slots (Some t ∷ v ∷ []) ty m s h = (t, v, refl, of_first v h)
  where
    of_first : (v : Option Tree) → shapes (slots_of (Some t ∷ v ∷ [])) ≡ Some (shape ty m) ∷ s ∷ [] → shape_of t ≡ shape ty m
    of_first None h = cc
    of_first (Some u) h = cc
two_slots (Some t ∷ None ∷ None ∷ xs) ty m s h = absurd (cc)
two_slots (Some t ∷ None ∷ Some u ∷ xs) ty m s h = absurd (cc)
two_slots (Some t ∷ Some r ∷ None ∷ xs) ty m s h = absurd (cc)
two_slots (Some t ∷ Some r ∷ Some u ∷ xs) ty m s h = absurd (cc)

-- the two slots of a dictionary
pub pair_slots : (xs : List (Option Tree)) (c s : DataType) (n k : ℕ) → shapes (slots_of xs) ≡ Some (shape c n) ∷ Some (shape s k) ∷ []
    → (t : Tree) × (u : Tree) × (xs ≡ Some t ∷ Some u ∷ []) × (shape_of t ≡ shape c n) × (shape_of u ≡ shape s k)
pair_slots [] c s n k h = absurd (cc)
pair_slots (None ∷ xs) c s n k h = absurd (cc)
pair_slots (Some t ∷ []) c s n k h = absurd (cc)
pair_slots (Some t ∷ None ∷ xs) c s n k h = absurd (cc)
pair_slots (Some t ∷ Some u ∷ []) c s n k h = (t, u, refl, cc, cc)
pair_slots (Some t ∷ Some u ∷ None ∷ xs) c s n k h = absurd (cc)
pair_slots (Some t ∷ Some u ∷ Some v ∷ xs) c s n k h = absurd (cc)

pub none_there : (xs : List (Option Tree)) → shapes (slots_of xs) ≡ [] → xs ≡ []
none_there [] h = refl
none_there (None ∷ xs) h = absurd (cc)
none_there (Some t ∷ xs) h = absurd (cc)

pub no_shapes : (ss : Slots) → shapes ss ≡ [] → ss ≡ no_slots
no_shapes no_slots h = refl
no_shapes (absent ss) h = absurd (cc)
no_shapes (slot t ss) h = absurd (cc)

-- the first of some slots
pub first_shape : (x : Option Tree) (xs : List (Option Tree)) → shapes (slots_of (x ∷ xs)) ≡ option_map shape_of x ∷ shapes (slots_of xs)
first_shape None xs = refl
first_shape (Some t) xs = refl

-- what is given to no slot, and to two or more, is given unless there is one
pub not_one : {A : Type 0} (answer : List (Option Shape) → A) (e : A) → answer [] ≡ e →
    ((s r : Option Shape) (ss : List (Option Shape)) → answer (s ∷ r ∷ ss) ≡ e) → (xs : List (Option Tree)) → length xs ≢ 1 → answer (shapes (slots_of xs)) ≡ e
not_one answer e none more [] h = none
not_one answer e none more (x ∷ []) h = absurd (h refl)
not_one answer e none more (None ∷ None ∷ xs) h = more _ _ _
not_one answer e none more (None ∷ Some u ∷ xs) h = more _ _ _
not_one answer e none more (Some t ∷ None ∷ xs) h = more _ _ _
not_one answer e none more (Some t ∷ Some u ∷ xs) h = more _ _ _

-- ---- a slot replaced

set_same : (i : ℕ) (c : Tree) (ss : Slots) → HoldsAt i c ss → set_slot i c ss ≡ ss
set_same i c no_slots h = absurd h
set_same zero c (absent ss) h = absurd h
set_same zero c (slot t ss) h = ap (λ x. slot x ss) (sym h)
set_same (suc i) c (absent ss) h = ap absent (set_same i c ss h)
set_same (suc i) c (slot t ss) h = ap (slot t) (set_same i c ss h)

-- by the tree that it holds
pub put_same : (i : ℕ) (c t : Tree) → HasSlot i c t → put i c t ≡ t
put_same i c (node ty n d ss) h = ap (node ty n d) (set_same i c ss h)

set_twice : (i : ℕ) (c d : Tree) (ss : Slots) → set_slot i d (set_slot i c ss) ≡ set_slot i d ss
set_twice i c d no_slots = refl
set_twice zero c d (absent ss) = refl
set_twice zero c d (slot t ss) = refl
set_twice (suc i) c d (absent ss) = ap absent (set_twice i c d ss)
set_twice (suc i) c d (slot t ss) = ap (slot t) (set_twice i c d ss)

-- and once more
pub put_twice : (i : ℕ) (c d t : Tree) → put i d (put i c t) ≡ put i d t
put_twice i c d (node ty n e ss) = ap (node ty n e) (set_twice i c d ss)

set_holds : (i : ℕ) (d : Tree) (ss : Slots) → IsPresentAt i ss → HoldsAt i d (set_slot i d ss)
set_holds i d no_slots h = absurd h
set_holds zero d (absent ss) h = absurd h
set_holds zero d (slot t ss) h = refl
set_holds (suc i) d (absent ss) h = set_holds i d ss h
set_holds (suc i) d (slot t ss) h = set_holds i d ss h

pub put_has : (i : ℕ) (d t : Tree) → IsPresent i t → HasSlot i d (put i d t)
put_has i d (node ty n e ss) h = set_holds i d ss h

set_hole : (i : ℕ) (d : Tree) (ss : Slots) → IsAbsentAt i ss → HoldsAt i d (set_slot i d ss)
set_hole i d no_slots h = absurd h
set_hole zero d (absent ss) h = refl
set_hole zero d (slot t ss) h = absurd h
set_hole (suc i) d (absent ss) h = set_hole i d ss h
set_hole (suc i) d (slot t ss) h = set_hole i d ss h

pub put_hole : (i : ℕ) (d t : Tree) → IsHole i t → HasSlot i d (put i d t)
put_hole i d (node ty n e ss) h = set_hole i d ss h

holds_present : (i : ℕ) (c : Tree) (ss : Slots) → HoldsAt i c ss → IsPresentAt i ss
holds_present i c no_slots h = h
holds_present zero c (absent ss) h = h
holds_present zero c (slot t ss) h = tt
holds_present (suc i) c (absent ss) h = holds_present i c ss h
holds_present (suc i) c (slot t ss) h = holds_present i c ss h

pub has_present : (i : ℕ) (c t : Tree) → HasSlot i c t → IsPresent i t
has_present i c (node ty n d ss) h = holds_present i c ss h

set_present : (i j : ℕ) (c d : Tree) (ss : Slots) → IsPresentAt j (set_slot i c ss) → IsPresentAt j (set_slot i d ss)
set_present i j c d no_slots h = h
set_present zero zero c d (absent ss) h = tt
set_present zero zero c d (slot t ss) h = tt
set_present zero (suc j) c d (absent ss) h = h
set_present zero (suc j) c d (slot t ss) h = h
set_present (suc i) zero c d (absent ss) h = h
set_present (suc i) zero c d (slot t ss) h = h
set_present (suc i) (suc j) c d (absent ss) h = set_present i j c d ss h
set_present (suc i) (suc j) c d (slot t ss) h = set_present i j c d ss h

-- which slots are present doesn't depend on the tree that is put in
pub put_present : (i j : ℕ) (c d t : Tree) → IsPresent j (put i c t) → IsPresent j (put i d t)
put_present i j c d (node ty n e ss) h = set_present i j c d ss h

set_shapes : (i : ℕ) (c d : Tree) (ss : Slots) → HoldsAt i c ss → shape_of c ≡ shape_of d → shapes ss ≡ shapes (set_slot i d ss)
set_shapes i c d no_slots h e = absurd h
set_shapes zero c d (absent ss) h e = absurd h
set_shapes zero c d (slot t ss) h e = ap (λ s. Some s ∷ shapes ss) (ap shape_of h ∙ e)
set_shapes (suc i) c d (absent ss) h e = ap (λ l. None ∷ l) (set_shapes i c d ss h e)
set_shapes (suc i) c d (slot t ss) h e = ap (λ l. Some (shape_of t) ∷ l) (set_shapes i c d ss h e)

-- a tree of the same shape fits
pub put_node : (i : ℕ) (c d t : Tree) → HasSlot i c t → dtype c ≡ dtype d → len c ≡ len d → IsNodeOf t → IsNodeOf (put i d t)
put_node i c d (node ty n e ss) h s l w = subst (IsNode ty n e) (set_shapes i c d ss h (λ j. shape (s j) (l j))) w

-- ---- a slot of a node of the program, taken out and filled

-- what is written to is the node itself, or a copy of it
pub own_or_copy : {X : Type 0} (of : X → Tree) (x y : X) (t : Tree) → (x ≡ y) ⊎ (of x ≡ of y) → of y ≡ t → of x ≡ t
own_or_copy of x y t (inl same) e = ap of same ∙ e
own_or_copy of x y t (inr copy) e = copy ∙ e

module _ (ty : DataType) (n : ℕ) (d : Data) (xs : List (Option Tree)) (i : ℕ) (c t : Tree) (e : node ty n d (slots_of xs) ≡ t) where
  -- v is what is found in the slot, and s what is left there
  pub slot_taken : (v s : Option Tree) → IsPresent i t → IsWell t → get_or xs i v ≡ Some c → s ≡ None
      → (put i c (node ty n d (slots_of (set xs i s))) ≡ t) × IsHole i (node ty n d (slots_of (set xs i s))) × IsNodeOf t × HasSlot i c t
  slot_taken v s present well found empty =
      let here = subst (λ x. IsPresent i x) (sym e) present in
      let back : put i c (node ty n d (slots_of (set xs i None))) ≡ t = ap (node ty n d) (put_back xs i v c here found) ∙ e in
      let root = subst IsWell (sym e) well in (
        subst (λ x. put i c (node ty n d (slots_of (set xs i x))) ≡ t) (sym empty) back,
        subst (λ x. IsHole i (node ty n d (slots_of (set xs i x)))) (sym empty) (hole_after xs i here),
        subst IsNodeOf e root.0,
        subst (HasSlot i c) back (put_hole i c (node ty n d (slots_of (set xs i None))) (hole_after xs i here)),
      )

  pub slot_filled : node ty n d (slots_of (set xs i (Some c))) ≡ put i c t
  slot_filled = ap (node ty n d) (put_in xs i c) ∙ ap (put i c) e

-- as many as their shapes
pub count_slots : (xs : List (Option Tree)) → length (shapes (slots_of xs)) ≡ length xs
count_slots [] = refl
count_slots (None ∷ xs) = ap suc (count_slots xs)
count_slots (Some t ∷ xs) = ap suc (count_slots xs)

-- a slot holds a tree of n rows, lower than h
abbrev pub IsBelow : ℕ → ℕ → Option Tree → Type 0
IsBelow n h None = ⊥
IsBelow n h (Some t) = (len t ≡ n) × (height t < h)

pub slot_below : (n : ℕ) (xs : List (Option Tree)) (tys : List DataType) (k : ℕ) (d : Option Tree) (h : ℕ) →
    shapes (slots_of xs) ≡ map (λ s. Some (shape s n)) tys → slots_height (slots_of xs) < h → k < length xs → IsBelow n h (get_or xs k d)
slot_below n [] tys k d h e l lt = absurd (omega arith)
slot_below n (None ∷ xs) [] k d h e l lt = absurd (cc)
slot_below n (None ∷ xs) (ty ∷ tys) k d h e l lt = absurd (cc)
slot_below n (Some t ∷ xs) [] k d h e l lt = absurd (cc)
slot_below n (Some t ∷ xs) (ty ∷ tys) zero d h e l lt = let same : len t ≡ n = cc in (same, omega arith)
slot_below n (Some t ∷ xs) (ty ∷ tys) (suc k) d h e l lt =
    let rest : shapes (slots_of xs) ≡ map (λ s. Some (shape s n)) tys = cc in slot_below n xs tys k d h rest (omega arith) (omega arith)

-- ---- what the slots are called

slots_counted : (xs : List (Option Tree)) → slots_in (slots_of xs) ≡ length xs
slots_counted [] = refl
slots_counted (None ∷ xs) = omega (arith, slots_counted xs)
slots_counted (Some t ∷ xs) = omega (arith, slots_counted xs)

pub name_past : (t : Tree) (xs : List (Option Tree)) (i : ℕ) → slots_of xs ≡ slots t → length xs ≤ i → None ≡ name_at i t
name_past (node ty n d ss) xs i e h =
    sym (ap (λ b. if b then (meaning d).name ty i else None) (le-ltb i (slots_in ss) (omega (arith, h, ap slots_in e, slots_counted xs))))

pub name_within : (t : Tree) (xs : List (Option Tree)) (d : Data) (i : ℕ) (x : Option (List ℕ)) → slots_of xs ≡ slots t → d ≡ datum t → i < length xs
    → x ≡ (meaning d).name (dtype t) i → x ≡ name_at i t
name_within (node ty n e ss) xs d i x h k l m =
    m ∙ ap (λ z. (meaning z).name ty i) k
    ∙ sym (ap (λ b. if b then (meaning e).name ty i else None) (lt-ltb i (slots_in ss) (omega (arith, l, ap slots_in h, slots_counted xs))))

pub ruleset names = (name_past, name_within)

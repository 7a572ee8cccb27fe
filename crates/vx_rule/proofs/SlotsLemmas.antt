-- The slots of answers.
use Rattle.std.proofs.Common.{◌≡◌, ℕ, zero, suc, ◌-◌, ◌<◌, ◌≤◌, List, [], ◌∷◌, ◌++◌, length, map, get_or, Option, Some, None, Bool, true, refl, sym, subst, ap, ◌∙◌, arith}
use Rattle.std.specs.Prelude.{option_map, IfSome, ◌==◌, ◌&&◌}
use Rattle.std.specs.Cmp.{unsigned_Decides}
use Rattle.std.proofs.lemmas.Bool.{and_parts}
use Rattle.vx_value.specs.Types as type
use Rattle.vx_value.specs.Types.{DataType, nullability_of}
use Rattle.vx_value.specs.Typed.{Typed}
use Rattle.vx_value.specs.Values.{Value, null}
use Rattle.vx_value.specs.IsOf.{is_of}
use Rattle.vx_value.specs.Nullabilities.{with_nullability, union}
use Rattle.vx_value.specs.declared.dtype.Nullability.{Nullability}
use Rattle.vx_value.specs.declared.dtype.Nullability.TheVariants.{NonNullable, Nullable}
use Rattle.vx_value.proofs.NullabilitiesLemmas.{is_of_either, nullable_typed, union_second}
use Rattle.vx_mask.specs.Places.{true_count}
use Rattle.vx_fn.specs.Meanings.{widen}
use Rattle.vx_fn.specs.Functions.{meaning, arity}
use Rattle.vx_fn.specs.declared.function.ScalarFnRef.{ScalarFnRef}
use Rattle.vx_tree.specs.Tree as enc
use Rattle.vx_tree.specs.Tree.{Tree, Data, Slots, node, no_slots, absent, slot, slots_of, dtype, len, datum, slice_of, filter_of, masked_of, dict_of, constant_of, all_long}
use Rattle.vx_tree.specs.Slots.{map_slots}
use Rattle.vx_tree.specs.Parts.{part_of, part_by, choice_of, choice_by, HasLen}
use Rattle.vx_tree.specs.SlotTypes.{is_integer}
use Rattle.vx_tree.specs.Validities.{nullability_by, HasRows}
use Rattle.vx_tree.specs.NodeValidities.{node_validity}
use Rattle.vx_tree.specs.declared.validity.Validity.{Validity}
use Rattle.vx_tree.specs.declared.validity.Validity.TheVariants as validity
use Rattle.vx_tree.proofs.NodeValiditiesLemmas.{told_by_node}
use Rattle.vx_tree.proofs.ValiditiesLemmas.{nullable_set}
use Rattle.vx_tree.specs.Well.{shape, shape_of, shapes, IsNode, IsNodeOf, IsWell, AreWell, IsValidity}
use Rattle.vx_rule.specs.Rules.{taken_by, taken_of, with_absent}

-- ---- one slot more

abbrev ending : Slots → Option Tree → Slots
ending no_slots None = absent no_slots
ending no_slots (Some t) = slot t no_slots
ending (absent ss) s = absent (ending ss s)
ending (slot t ss) s = slot t (ending ss s)

slots_end : (xs : List (Option Tree)) (s : Option Tree) → slots_of (xs ++ s ∷ []) ≡ ending (slots_of xs) s
slots_end [] None = refl
slots_end [] (Some t) = refl
slots_end (None ∷ xs) s = ap absent (slots_end xs s)
slots_end (Some t ∷ xs) s = ap (slot t) (slots_end xs s)

ending_mapped : (f : Tree → Tree) (ss : Slots) (s : Option Tree) → map_slots f (ending ss s) ≡ ending (map_slots f ss) (option_map f s)
ending_mapped f no_slots None = refl
ending_mapped f no_slots (Some t) = refl
ending_mapped f (absent ss) s = ap absent (ending_mapped f ss s)
ending_mapped f (slot t ss) s = ap (slot (f t)) (ending_mapped f ss s)

pub mapped_more : (f : Tree → Tree) (xs ys : List (Option Tree)) (s r : Option Tree) → slots_of ys ≡ map_slots f (slots_of xs) → r ≡ option_map f s
    → slots_of (ys ++ r ∷ []) ≡ map_slots f (slots_of (xs ++ s ∷ []))
mapped_more f xs ys s r e h =
    slots_end ys r ∙ (λ i. ending (e i) (h i)) ∙ sym (ending_mapped f (slots_of xs) s) ∙ sym (ap (map_slots f) (slots_end xs s))

-- ---- the lengths and types of slots

pub long_at : (n : ℕ) (xs : List (Option Tree)) (i : ℕ) (d : Option Tree) → all_long n (shapes (slots_of xs)) ≡ true → i < length xs
    → IfSome (get_or xs i d) (λ c. len c ≡ n)
long_at n [] i d h k = absurd (omega (arith, k))
long_at n (None ∷ xs) zero d h k = tt
long_at n (None ∷ xs) (suc i) d h k = long_at n xs i d h (omega (arith, k))
long_at n (Some t ∷ xs) zero d h k = (unsigned_Decides (len t) n).0 (and_parts (len t == n) (all_long n (shapes (slots_of xs))) h).0
long_at n (Some t ∷ xs) (suc i) d h k = long_at n xs i d (and_parts (len t == n) (all_long n (shapes (slots_of xs))) h).1 (omega (arith, k))

-- the same of a slot that is that one
pub long_here : (n : ℕ) (xs : List (Option Tree)) (i : ℕ) (s : Option Tree) → all_long n (shapes (slots_of xs)) ≡ true → i < length xs → s ≡ get_or xs i s
    → IfSome s (λ c. len c ≡ n)
long_here n xs i s h k e = subst (λ x. IfSome x (λ c. len c ≡ n)) (sym e) (long_at n xs i s h k)

pub within : (b n : ℕ) (s : Option Tree) → b ≤ n → IfSome s (λ c. len c ≡ n) → IfSome s (λ c. b ≤ len c)
within b n None h k = tt
within b n (Some t) h k = omega (arith, h, k)

pub just : (n : ℕ) (s : Option Tree) → IfSome s (λ c. len c ≡ n) → HasLen n s
just n None k = tt
just n (Some t) k = sym k

all_long_of : (n : ℕ) (tys : List DataType) → all_long n (map (λ s. Some (shape s n)) tys) ≡ true
all_long_of n [] = refl
all_long_of n (ty ∷ tys) = ap (λ b. b && all_long n (map (λ s. Some (shape s n)) tys)) ((unsigned_Decides n n).1 refl) ∙ all_long_of n tys

pub called_long : (ty : DataType) (n : ℕ) (f : ScalarFnRef) (xs : List (Option Tree)) → IsNode ty n (enc.function f) (shapes (slots_of xs))
    → all_long n (shapes (slots_of xs)) ≡ true
called_long ty n f xs w = ap (all_long n) w.1 ∙ all_long_of n w.0

-- ---- the arguments of a function

-- slots of such shapes hold as many trees
shaped : (n : ℕ) (xs : List (Option Tree)) (tys : List DataType) → shapes (slots_of xs) ≡ map (λ s. Some (shape s n)) tys
    → (ts : List Tree) × (xs ≡ map Some ts) × (length ts ≡ length tys)
shaped n [] [] e = ([], refl, refl)
shaped n (Some t ∷ xs) (ty ∷ tys) e =
    let rest : shapes (slots_of xs) ≡ map (λ s. Some (shape s n)) tys = cc (e) in
    let r = shaped n xs tys rest in
    (t ∷ r.0, ap (λ ys. Some t ∷ ys) r.1, ap suc r.2)
shaped n [] (ty ∷ tys) e = absurd (cc (e))
shaped n (None ∷ xs) [] e = absurd (cc (e))
shaped n (None ∷ xs) (ty ∷ tys) e = absurd (cc (e))
shaped n (Some t ∷ xs) [] e = absurd (cc (e))

-- the arguments of f, which takes so many
arguments : (ty : DataType) (n : ℕ) (f : ScalarFnRef) (xs : List (Option Tree)) → IsNode ty n (enc.function f) (shapes (slots_of xs))
    → (ts : List Tree) × (xs ≡ map Some ts) × (length ts ≡ arity f)
arguments ty n f xs w = let r = shaped n xs w.0 w.1 in (r.0, r.1, r.2 ∙ (meaning f).taken w.0 ty w.2)

only_one : (ts : List Tree) → length ts ≡ 1 → (c : Tree) × (ts ≡ c ∷ [])
only_one [] k = absurd (omega (arith, k))
only_one (c ∷ []) k = (c, refl)
only_one (c ∷ d ∷ ts) k = absurd (omega (arith, k))

only_two : (ts : List Tree) → length ts ≡ 2 → (c : Tree) × (d : Tree) × (ts ≡ c ∷ d ∷ [])
only_two [] k = absurd (omega (arith, k))
only_two (c ∷ ts) k = let r = only_one ts (omega (arith, k)) in (c, r.0, ap (λ us. c ∷ us) r.1)

only_three : (ts : List Tree) → length ts ≡ 3 → (c : Tree) × (d : Tree) × (e : Tree) × (ts ≡ c ∷ d ∷ e ∷ [])
only_three [] k = absurd (omega (arith, k))
only_three (c ∷ ts) k = let r = only_two ts (omega (arith, k)) in (c, r.0, r.1, ap (λ us. c ∷ us) r.2)

-- of one that takes one, two and three
module _ (ty : DataType) (n : ℕ) (f : ScalarFnRef) (xs : List (Option Tree)) (w : IsNode ty n (enc.function f) (shapes (slots_of xs))) where
  pub one_argument : arity f ≡ 1 → (c : Tree) × (xs ≡ Some c ∷ [])
  one_argument k = let a = arguments ty n f xs w in let r = only_one a.0 (a.2 ∙ k) in (r.0, a.1 ∙ ap (map Some) r.1)

  pub two_arguments : arity f ≡ 2 → (c : Tree) × (d : Tree) × (xs ≡ Some c ∷ Some d ∷ [])
  two_arguments k = let a = arguments ty n f xs w in let r = only_two a.0 (a.2 ∙ k) in (r.0, r.1, a.1 ∙ ap (map Some) r.2)

  pub three_arguments : arity f ≡ 3 → (c : Tree) × (d : Tree) × (e : Tree) × (xs ≡ Some c ∷ Some d ∷ Some e ∷ [])
  three_arguments k = let a = arguments ty n f xs w in let r = only_three a.0 (a.2 ∙ k) in (r.0, r.1, r.2, a.1 ∙ ap (map Some) r.3)

-- ---- the nodes over mapped slots

-- each tree of the slots has a type, and mapped a length
abbrev MapsTo : (Tree → Tree) → ℕ → Tree → Type 0
MapsTo f m t = shape_of (f t) ≡ shape (dtype t) m

shapes_mapped : (f : Tree → Tree) (n m : ℕ) (ss : Slots) (tys : List DataType) → ((t : Tree) → IsWell t → MapsTo f m t) → AreWell ss
    → shapes ss ≡ map (λ s. Some (shape s n)) tys → shapes (map_slots f ss) ≡ map (λ s. Some (shape s m)) tys
shapes_mapped f n m no_slots [] h w e = refl
shapes_mapped f n m no_slots (ty ∷ tys) h w e = absurd (cc)
shapes_mapped f n m (absent ss) [] h w e = absurd (cc)
shapes_mapped f n m (absent ss) (ty ∷ tys) h w e = absurd (cc)
shapes_mapped f n m (slot t ss) [] h w e = absurd (cc)
shapes_mapped f n m (slot t ss) (ty ∷ tys) h w e =
    let typed : dtype t ≡ ty = cc (e) in
    let rest : shapes ss ≡ map (λ s. Some (shape s n)) tys = cc (e) in
    (λ i. Some (h t w.0 i) ∷ shapes_mapped f n m ss tys h w.1 rest i) ∙ ap (λ s. Some (shape s m) ∷ map (λ s. Some (shape s m)) tys) typed

sliced_shape : (a b : ℕ) (t : Tree) → MapsTo (slice_of a b) (b - a) t
sliced_shape a b t = refl

part_shape_by : (d : Data) (a b : ℕ) (t : Tree) → datum t ≡ d → IsWell t → shape_of (part_by d a b t) ≡ shape (dtype t) (b - a)
part_shape_by (enc.constant v) a b (node ty n (enc.constant u) ss) e w = let same : u ≡ v = cc (e) in ap (λ x. shape x (b - a))
    (sym (w.0.0 ∙ ap (λ x. x.of_type) same))
part_shape_by (enc.constant v) a b (node ty n _ ss) e w = absurd (cc (e))
part_shape_by _ a b t e w = refl

pub part_shape : (a b : ℕ) (t : Tree) → IsWell t → MapsTo (part_of a b) (b - a) t
part_shape a b t w = part_shape_by (datum t) a b t refl w

choice_shape_by : (d : Data) (bits : List Bool) (t : Tree) → datum t ≡ d → IsWell t → shape_of (choice_by d bits t) ≡ shape (dtype t) (true_count bits)
choice_shape_by (enc.constant v) bits (node ty n (enc.constant u) ss) e w = let same : u ≡ v = cc (e) in ap (λ x. shape x (true_count bits))
    (sym (w.0.0 ∙ ap (λ x. x.of_type) same))
choice_shape_by (enc.constant v) bits (node ty n _ ss) e w = absurd (cc (e))
choice_shape_by _ bits t e w = refl

pub choice_shape : (bits : List Bool) (t : Tree) → IsWell t → MapsTo (choice_of bits) (true_count bits) t
choice_shape bits t w = choice_shape_by (datum t) bits t refl w

mapped_node : (g : Tree → Tree) (m : ℕ) (ty : DataType) (n : ℕ) (f : ScalarFnRef) (ss us : Slots) → ((t : Tree) → IsWell t → MapsTo g m t) → AreWell ss
    → IsNode ty n (enc.function f) (shapes ss) → us ≡ map_slots g ss → IsNode ty m (enc.function f) (shapes us)
mapped_node g m ty n f ss us h w ok e = (ok.0, ap shapes e ∙ shapes_mapped g n m ss ok.0 h w ok.1, ok.2)

-- x is the function's node over ss
module _ (ty : DataType) (n : ℕ) (f : ScalarFnRef) (ss us : Slots) (x : Tree) (well : IsWell x) (is : x ≡ node ty n (enc.function f) ss)
    (ok : IsNode ty n (enc.function f) (shapes ss)) where
  under : AreWell ss
  under = let w : IsWell (node ty n (enc.function f) ss) = subst IsWell is well in w.1

  pub sliced_node : (a b : ℕ) → us ≡ map_slots (slice_of a b) ss → IsNode ty (b - a) (enc.function f) (shapes us)
  sliced_node a b e = mapped_node (slice_of a b) (b - a) ty n f ss us (λ t w. sliced_shape a b t) under ok e

  pub chosen_node : (bits : List Bool) → us ≡ map_slots (choice_of bits) ss → IsNode ty (true_count bits) (enc.function f) (shapes us)
  chosen_node bits e = mapped_node (choice_of bits) (true_count bits) ty n f ss us (choice_shape bits) under ok e

-- ---- the masked node over a mapped child and validity

validity_mapped : (g : Tree → Tree) (m n : ℕ) (v : Option Tree) → ((t : Tree) → IsWell t → MapsTo g m t) → IfSome v IsWell
    → IsValidity Nullable n (option_map shape_of v)
    → IsValidity Nullable m (option_map shape_of (option_map g v))
validity_mapped g m n None h w ok = tt
validity_mapped g m n (Some t) h w ok = h t w ∙ ap (λ s. shape s m) (let e : dtype t ≡ type.bool NonNullable = cc (ok) in e)

two_shapes : (c : Tree) (v : Option Tree) → shapes (slots_of (Some c ∷ v ∷ [])) ≡ Some (shape_of c) ∷ option_map shape_of v ∷ []
two_shapes c None = refl
two_shapes c (Some t) = refl

pub well_second : (c : Tree) (v : Option Tree) → AreWell (slots_of (Some c ∷ v ∷ [])) → IfSome v IsWell
well_second c None w = tt
well_second c (Some t) w = w.1.0

-- what the masked node of c and v is
pub masked_parts : (c : Tree) (v : Option Tree) → IsNodeOf (masked_of c v) → IsValidity Nullable (len c) (option_map shape_of v)
masked_parts c v ok =
    let e : Some (shape_of c) ∷ option_map shape_of v ∷ [] ≡ Some (shape ok.0 (len c)) ∷ ok.1 ∷ [] = sym (two_shapes c v) ∙ ok.2 in
    let same : ok.1 ≡ option_map shape_of v = cc (e) in
    subst (IsValidity Nullable (len c)) same ok.4

masked_mapped_node : (g : Tree → Tree) (c s : Tree) (v w : Option Tree) → ((t : Tree) → IsWell t → MapsTo g (len s) t) → IsWell (masked_of c v)
    → dtype s ≡ dtype c → w ≡ option_map g v
    → IsNode (dtype (masked_of c v)) (len s) enc.masked (shapes (slots_of (Some s ∷ w ∷ [])))
masked_mapped_node g c s v w h ok typed e =
    let validity_column = validity_mapped g (len s) (len c) v h (well_second c v ok.1) (masked_parts c v ok.0) in (
      dtype s,
      option_map shape_of w,
      two_shapes s w,
      ap (with_nullability Nullable) (sym typed),
      subst
          (λ x. IsValidity Nullable (len s) (option_map shape_of x)) (sym e) validity_column,
    )

len_by : (k n : ℕ) (v : Option Tree) → k ≡ n → IsValidity Nullable n (option_map shape_of v) → HasLen k v
len_by k n None h w = tt
len_by k n (Some t) h w = let e : len t ≡ n = cc (w) in h ∙ sym e

-- x is the masked node of c and v
module _ (x c s : Tree) (v w : Option Tree) (well : IsWell x) (is : x ≡ masked_of c v) where
  known : IsWell (masked_of c v)
  known = subst IsWell is well

  pub sliced_masked : (a b : ℕ) → s ≡ slice_of a b c → w ≡ option_map (part_of a b) v
      → IsNode (dtype x) (len s) enc.masked (shapes (slots_of (Some s ∷ w ∷ [])))
  sliced_masked a b slices e =
      let here : IsNode (dtype (masked_of c v)) (b - a) enc.masked (shapes (slots_of (Some (slice_of a b c) ∷ w ∷ []))) =
      masked_mapped_node (part_of a b) c (slice_of a b c) v w (part_shape a b) known refl e in
      subst (λ y. IsNode (dtype y) (len s) enc.masked (shapes (slots_of (Some s ∷ w ∷ [])))) (sym is)
      (subst (λ y. IsNode (dtype (masked_of c v)) (len y) enc.masked (shapes (slots_of (Some y ∷ w ∷ [])))) (sym slices) here)

  pub chosen_masked : (bits : List Bool) → s ≡ filter_of bits c → w ≡ option_map (choice_of bits) v
      → IsNode (dtype x) (len s) enc.masked (shapes (slots_of (Some s ∷ w ∷ [])))
  chosen_masked bits filters e =
      let here : IsNode (dtype (masked_of c v)) (true_count bits) enc.masked (shapes (slots_of (Some (filter_of bits c) ∷ w ∷ []))) =
      masked_mapped_node (choice_of bits) c (filter_of bits c) v w (choice_shape bits) known refl e in
      subst (λ y. IsNode (dtype y) (len s) enc.masked (shapes (slots_of (Some s ∷ w ∷ [])))) (sym is)
      (subst (λ y. IsNode (dtype (masked_of c v)) (len y) enc.masked (shapes (slots_of (Some y ∷ w ∷ [])))) (sym filters) here)

  -- the validity has as many rows
  pub told_len : (n : ℕ) → n ≡ len x → HasLen n v
  told_len n h = len_by n (len c) v (let e : len x ≡ len c = ap len is in h ∙ e) (masked_parts c v (known.0))

-- ---- dictionaries

-- codes that are never null leave a type as it is
pub widen_fixed : (c s : DataType) → nullability_of c ≡ NonNullable → widen c s ≡ s
widen_fixed c s h = ap (λ m. with_nullability (union m (nullability_of s)) s) h ∙ own s
  where
    own : (s : DataType) → with_nullability (nullability_of s) s ≡ s
    own type.null = refl
    own (type.extension id s) = ap (type.extension id) (own s)
    own _ = refl

taken_shape_by : (codes : Tree) (d : Data) (t : Tree) → nullability_of (dtype codes) ≡ NonNullable → datum t ≡ d → IsWell t
    → shape_of (taken_by d codes t) ≡ shape (dtype t) (len codes)
taken_shape_by codes (enc.constant v) (node ty n (enc.constant u) ss) h e w = let same : u ≡ v = cc (e) in ap (λ x. shape x (len codes))
    (sym (w.0.0 ∙ ap (λ x. x.of_type) same))
taken_shape_by codes (enc.constant v) (node ty n _ ss) h e w = absurd (cc (e))
taken_shape_by codes _ t h e w = ap (λ x. shape x (len codes)) (widen_fixed (dtype codes) (dtype t) h)

pub taken_shape : (codes : Tree) → nullability_of (dtype codes) ≡ NonNullable → (t : Tree) → IsWell t → MapsTo (taken_of codes) (len codes) t
taken_shape codes h t w = taken_shape_by codes (datum t) t h refl w

-- a value stays one of a type that may become nullable
pub named_typed : (m : Nullability) (s : DataType) (x : Value) → is_of s x ≡ true → is_of (with_nullability (union m (nullability_of s)) s) x ≡ true
named_typed m s null h =
    subst (λ k. is_of (with_nullability k s) null ≡ true) (sym (union_second m (nullability_of s) h)) (nullable_typed s null h)
named_typed m s x h = is_of_either (union m (nullability_of s)) s x refl ∙ h

-- p is the dictionary of x by codes
module _ (p codes x : Tree) (well : IsWell p) (is : p ≡ dict_of codes x) where
  here : IsWell (dict_of codes x)
  here = subst IsWell is well

  coded : dtype codes ≡ here.0.0
  coded = let e : Some (shape_of codes) ≡ Some (shape here.0.0 (len codes)) = cc (here.0.3) in cc (e)

  pub codes_whole : is_integer (dtype codes) ≡ true
  codes_whole = ap is_integer coded ∙ here.0.4

  -- what x masks, if the codes are never null
  module _ (c : Tree) (v : Option Tree) (inner : x ≡ masked_of c v) (never : nullability_of (dtype codes) ≡ NonNullable) where
    pub taken_masked : (s : Tree) (w : Option Tree) → s ≡ dict_of codes c → w ≡ option_map (taken_of codes) v
        → IsNode (dtype p) (len s) enc.masked (shapes (slots_of (Some s ∷ w ∷ [])))
    taken_masked s w names e =
        let typed : dtype (masked_of c v) ≡ dtype p =
        sym (ap dtype is ∙ widen_fixed (dtype codes) (dtype x) never ∙ ap dtype inner) in
        let made : IsNode (dtype (masked_of c v)) (len codes) enc.masked (shapes (slots_of (Some (dict_of codes c) ∷ w ∷ []))) =
        masked_mapped_node (taken_of codes) c (dict_of codes c) v w (taken_shape codes never) (subst IsWell inner here.1.1.0)
        (widen_fixed (dtype codes) (dtype c) never) e in
        subst (λ y. IsNode (dtype p) (len y) enc.masked (shapes (slots_of (Some y ∷ w ∷ [])))) (sym names)
        (subst (λ ty. IsNode ty (len codes) enc.masked (shapes (slots_of (Some (dict_of codes c) ∷ w ∷ [])))) typed made)

  -- of a constant, by the validity of the codes
  pub value_typed : (v : Typed) → x ≡ constant_of v (len x) → is_of v.of_type v.value ≡ true → is_of (dtype p) v.value ≡ true
  value_typed v like h =
      let typed : widen (dtype codes) v.of_type ≡ dtype p = sym (ap dtype is ∙ ap (λ y. widen (dtype codes) (dtype y)) like) in
      subst (λ ty. is_of ty v.value ≡ true) typed (named_typed (nullability_of (dtype codes)) v.of_type v.value h)

  pub told_nullable : (w : Validity) → w ≡ node_validity codes → nullability_by w ≡ Nullable → nullability_of (dtype p) ≡ Nullable
  told_nullable w told h =
      let own : nullability_of (dtype codes) ≡ Nullable = sym (ap nullability_by told ∙ (told_by_node codes here.1.0).nullable) ∙ h in
      ap (λ t. nullability_of (dtype t)) is ∙ ap (λ m. nullability_of (with_nullability (union m (nullability_of (dtype x))) (dtype x))) own
      ∙ nullable_set (dtype x)

  pub told_sized : (w : Validity) → w ≡ node_validity codes → HasRows w (len p)
  told_sized w told =
      subst (λ n. HasRows w n) (sym (ap len is)) (subst (λ y. HasRows y (len codes)) (sym told) (told_by_node codes here.1.0).sized)

-- n rows of a nullable type, masked by as many truth values
pub masked_copies : (ty : DataType) (c u : Tree) → nullability_of ty ≡ Nullable → dtype c ≡ ty → HasRows (validity.Array u) (len c)
    → IsNode ty (len c) enc.masked (shapes (slots_of (Some c ∷ Some u ∷ [])))
masked_copies ty c u h e r = (
  ty,
  Some (shape_of u),
  (λ i. Some (shape (e i) (len c)) ∷ Some (shape_of u) ∷ []),
  sym (set_own ty h),
  (λ i. shape (r.1 i) (r.2 i)),
)
  where
    set_own : (s : DataType) → nullability_of s ≡ Nullable → with_nullability Nullable s ≡ s
    set_own type.null h = refl
    set_own (type.bool m) h = ap type.bool (sym h)
    set_own (type.primitive q m) h = ap (type.primitive q) (sym h)
    set_own (type.decimal q r m) h = ap (type.decimal q r) (sym h)
    set_own (type.utf8 m) h = ap type.utf8 (sym h)
    set_own (type.binary m) h = ap type.binary (sym h)
    set_own (type.list t m) h = ap (type.list t) (sym h)
    set_own (type.fixed_size_list t k m) h = ap (type.fixed_size_list t k) (sym h)
    set_own (type.map k t m) h = ap (type.map k t) (sym h)
    set_own (type.struct fs m) h = ap (type.struct fs) (sym h)
    set_own (type.union us m) h = ap (type.union us) (sym h)
    set_own (type.variant m) h = ap type.variant (sym h)
    set_own (type.extension id t) h = ap (type.extension id) (set_own t h)

-- an absent slot behind others
pub absent_behind : (xs ys : List (Option Tree)) → ys ≡ xs ++ None ∷ [] → slots_of ys ≡ with_absent (slots_of xs)
absent_behind xs ys e = ap slots_of e ∙ behind xs
  where
    behind : (xs : List (Option Tree)) → slots_of (xs ++ None ∷ []) ≡ with_absent (slots_of xs)
    behind [] = refl
    behind (None ∷ xs) = ap absent (behind xs)
    behind (Some t ∷ xs) = ap (slot t) (behind xs)

-- What is asked of the slots of a node.
use Rattle.std.proofs.Common.{◌≡◌, ◌≢◌, get_or, ℕ, ◌-◌, ◌<◌, ◌≤◌, List, [], ◌∷◌, ◌++◌, length, map, Bool, true, false, ◌&&◌, Option, Some, None}
use Rattle.std.proofs.Common.{refl}
use Rattle.std.proofs.Common.{sym}
use Rattle.std.proofs.Common.{◌∙◌}
use Rattle.std.proofs.Common.{ap}
use Rattle.std.proofs.Common.{subst}
use Rattle.std.proofs.Common.{arith}
use Rattle.std.proofs.lemmas.Bool.{and_from}
use Rattle.std.proofs.lemmas.List.Recursion.{and_push, and_fails_at}
use Rattle.std.specs.Cmp.{unsigned_Decides, first_so, second_so}
use Rattle.std.specs.Prelude.{◌==◌, option_map}
use Rattle.vx_value.specs.Types.{DataType, bool, same_type_Decides}
use Rattle.vx_value.specs.declared.dtype.Nullability.{Nullability}
use Rattle.vx_value.specs.declared.dtype.Nullability.TheVariants.{NonNullable, Nullable}
use Rattle.vx_value.specs.declared.error.VortexError.{VortexError}
use Rattle.vx_value.specs.declared.error.VortexError.TheVariants.{InvalidArgument}
use Rattle.vx_value.specs.declared.error.ArgKind.TheVariants.{SlotCount, SlotType, SlotLen}
use Rattle.vx_mask.specs.Places.{true_count}
use Rattle.vx_tree.specs.Tree as enc
use Rattle.vx_tree.specs.Tree.{Tree, slots_of, dtype, len, result_refusal, all_present, all_long, types_in}
use Rattle.vx_tree.specs.Well.{Shape, shape, shape_of, shapes, IsValidity, IsNode}
use Rattle.vx_tree.specs.Refusals.{column_refusal, without_slots, of_child, validity_type_refusal, validity_len_refusal, type_in, is_present}
use Rattle.vx_tree.specs.Refusals.{is_long}
use Rattle.vx_tree.proofs.ConditionsLemmas.{unless_none, none_unless}
use Rattle.vx_tree.proofs.SlotsLemmas.{not_one, one_shape, first_shape}

-- the tree in slot i, that of a validity
pub validity_kept : (i : ℕ) (m : Nullability) (n : ℕ) (s : Option Shape) → validity_type_refusal i m s ≡ None → validity_len_refusal i n s ≡ None
    → IsValidity m n s
validity_kept i m n None h k = tt
validity_kept i NonNullable n (Some s) h k = absurd (cc)
validity_kept i Nullable n (Some (shape t m)) h k =
    let typed : t ≡ bool NonNullable = (same_type_Decides t (bool NonNullable)).0 (unless_none _ _ h) in
    let counted : m ≡ n = (unsigned_Decides m n).0 (unless_none _ _ k) in
    λ j. shape (typed j) (counted j)

pub validity_taken : (i : ℕ) (m : Nullability) (n : ℕ) (s : Option Shape) → IsValidity m n s
    → (validity_type_refusal i m s ≡ None) × (validity_len_refusal i n s ≡ None)
validity_taken i m n None h = (refl, refl)
validity_taken i NonNullable n (Some s) h = absurd h
validity_taken i Nullable n (Some s) h =
    subst (λ x. (validity_type_refusal i Nullable (Some x) ≡ None) × (validity_len_refusal i n (Some x) ≡ None)) (sym h) (
      none_unless _ (InvalidArgument (SlotType i)) ((same_type_Decides (bool NonNullable) (bool NonNullable)).1 refl),
      none_unless _ (InvalidArgument (SlotLen i)) ((unsigned_Decides n n).1 refl),
    )

-- ---- the slots of a function's node

-- those that all hold trees of n rows, by their types
pub shapes_of_types : (n : ℕ) (ss : List (Option Shape)) → all_present ss ≡ true → all_long n ss ≡ true →
    ss ≡ map (λ s. Some (shape s n)) (types_in ss)
shapes_of_types n [] p q = refl
shapes_of_types n (None ∷ ss) p q = absurd (cc)
shapes_of_types n (Some (shape s m) ∷ ss) p q =
    let same : m ≡ n = (unsigned_Decides m n).0 (first_so _ _ q) in
    λ i. Some (shape s (same i)) ∷ shapes_of_types n ss p (second_so _ _ q) i

pub present_types : (n : ℕ) (tys : List DataType) → all_present (map (λ s. Some (shape s n)) tys) ≡ true
present_types n [] = refl
present_types n (s ∷ tys) = present_types n tys

pub long_types : (n : ℕ) (tys : List DataType) → all_long n (map (λ s. Some (shape s n)) tys) ≡ true
long_types n [] = refl
long_types n (s ∷ tys) = and_from (n == n) _ ((unsigned_Decides n n).1 refl) (long_types n tys)

pub types_back : (n : ℕ) (tys : List DataType) → types_in (map (λ s. Some (shape s n)) tys) ≡ tys
types_back n [] = refl
types_back n (s ∷ tys) = ap (λ us. s ∷ us) (types_back n tys)

pub result_none : (ty : DataType) (o : Option DataType) → result_refusal ty o ≡ None → o ≡ Some ty
result_none ty None h = absurd (cc)
result_none ty (Some s) h = ap Some (sym ((same_type_Decides ty s).0 (unless_none _ _ h)))

-- one by one, as the code asks

abbrev are_present : List (Option Tree) → Bool
are_present xs = all_present (shapes (slots_of xs))

abbrev are_long : ℕ → List (Option Tree) → Bool
are_long n xs = all_long n (shapes (slots_of xs))

present_step : (s : Option Tree) (xs : List (Option Tree)) → are_present (s ∷ xs) ≡ (is_present s && are_present xs)
present_step None xs = refl
present_step (Some t) xs = refl

long_step : (n : ℕ) (s : Option Tree) (xs : List (Option Tree)) → are_long n (s ∷ xs) ≡ (is_long n s && are_long n xs)
long_step n None xs = refl
long_step n (Some t) xs = refl

pub present_more : (xs : List (Option Tree)) (s : Option Tree) →
    all_present (shapes (slots_of xs)) ≡ true → is_present s ≡ true → all_present (shapes (slots_of (xs ++ s ∷ []))) ≡ true
present_more xs s h k = and_push are_present is_present refl present_step xs s ∙ and_from (are_present xs) (is_present s) h k

pub missing_there : (xs : List (Option Tree)) (i : ℕ) (d : Option Tree) →
    i < length xs → is_present (get_or xs i d) ≡ false → all_present (shapes (slots_of xs)) ≡ false
missing_there = and_fails_at are_present is_present refl present_step

pub long_more : (n : ℕ) (xs : List (Option Tree)) (s : Option Tree) →
    all_long n (shapes (slots_of xs)) ≡ true → is_long n s ≡ true → all_long n (shapes (slots_of (xs ++ s ∷ []))) ≡ true
long_more n xs s h k = and_push (are_long n) (is_long n) refl (long_step n) xs s ∙ and_from (are_long n xs) (is_long n s) h k

pub short_there : (n : ℕ) (xs : List (Option Tree)) (i : ℕ) (d : Option Tree) →
    i < length xs → is_long n (get_or xs i d) ≡ false → all_long n (shapes (slots_of xs)) ≡ false
short_there n = and_fails_at (are_long n) (is_long n) refl (long_step n)

pub types_more : (xs : List (Option Tree)) (s : Option Tree) →
    types_in (shapes (slots_of (xs ++ s ∷ []))) ≡ types_in (shapes (slots_of xs)) ++ type_in s
types_more [] None = refl
types_more [] (Some t) = refl
types_more (None ∷ xs) s = types_more xs s
types_more (Some u ∷ xs) s = ap (λ us. dtype u ∷ us) (types_more xs s)

-- the child of a node that has one
pub child_kept : (later : DataType → ℕ → Option VortexError) (ss : List (Option Shape)) → of_child later ss ≡ None
    → (s : DataType) × (m : ℕ) × (ss ≡ Some (shape s m) ∷ []) × (later s m ≡ None)
child_kept later [] h = absurd (cc)
child_kept later (None ∷ []) h = absurd (cc)
child_kept later (Some (shape s m) ∷ []) h = (s, m, refl, h)
child_kept later (None ∷ r ∷ ss) h = absurd (cc)
child_kept later (Some s ∷ r ∷ ss) h = absurd (cc)

-- ---- what is asked of the slots, as the code asks

pub child_slot_count : (later : DataType → ℕ → Option VortexError) (xs : List (Option Tree)) → length xs ≢ 1
    → of_child later (shapes (slots_of xs)) ≡ Some (InvalidArgument SlotCount)
child_slot_count later = not_one (of_child later) _ refl two
  where
    two : (s r : Option Shape) (ss : List (Option Shape)) → of_child later (s ∷ r ∷ ss) ≡ Some (InvalidArgument SlotCount)
    two None r ss = refl
    two (Some (shape t m)) r ss = refl

pub by_child : (later : DataType → ℕ → Option VortexError) (ss : List (Option Shape)) (c : Tree) → ss ≡ Some (shape_of c) ∷ []
    → of_child later ss ≡ later (dtype c) (len c)
by_child later ss c h = ap (of_child later) h

pub column_slot_count : (ty : DataType) (n : ℕ) (of_type : DataType) (k : ℕ) (xs : List (Option Tree)) →
    length xs ≢ 1 → column_refusal ty n of_type k (shapes (slots_of xs)) ≡ Some (InvalidArgument SlotCount)
column_slot_count ty n of_type k = not_one (column_refusal ty n of_type k) _ refl (λ s r ss. refl)

pub column_by_slot : (ty : DataType) (n : ℕ) (of_type : DataType) (k : ℕ) (xs : List (Option Tree)) (v : Option Tree) → xs ≡ v ∷ [] →
    column_refusal ty n of_type k (shapes (slots_of xs)) ≡ column_refusal ty n of_type k (option_map shape_of v ∷ [])
column_by_slot ty n of_type k xs v h = ap (column_refusal ty n of_type k) (ap (λ l. shapes (slots_of l)) h ∙ one_shape v)

pub some_slot : (later : Option VortexError) (xs : List (Option Tree)) → length xs ≢ 0
    → without_slots later (shapes (slots_of xs)) ≡ Some (InvalidArgument SlotCount)
some_slot later [] h = absurd (h refl)
some_slot later (None ∷ xs) h = refl
some_slot later (Some t ∷ xs) h = refl

pub the_slot : (xs : List (Option Tree)) (s : Option Tree) → length xs ≡ 1 → s ≡ get_or xs 0 s → xs ≡ s ∷ []
the_slot [] s h e = absurd (omega arith)
the_slot (r ∷ []) s h e = ap (λ z. z ∷ []) (cc)
the_slot (r ∷ q ∷ xs) s h e = absurd (omega arith)

pub the_slots : (xs : List (Option Tree)) (s r : Option Tree) → length xs ≡ 2 → s ≡ get_or xs 0 s → r ≡ get_or xs 1 r
    → shapes (slots_of xs) ≡ option_map shape_of s ∷ option_map shape_of r ∷ []
the_slots [] s r h e f = absurd (omega arith)
the_slots (x ∷ []) s r h e f = absurd (omega arith)
the_slots (x ∷ y ∷ []) s r h e f =
    first_shape x (y ∷ []) ∙ ap (λ l. option_map shape_of x ∷ l) (first_shape y []) ∙ (λ j. option_map shape_of (sym e j) ∷ option_map shape_of (sym f j) ∷ [])
the_slots (x ∷ y ∷ z ∷ xs) s r h e f = absurd (omega arith)

-- ---- the parts that the constructors make

pub slice_is_node : (t : Tree) (a b : ℕ) → a ≤ b → b ≤ len t → IsNode (dtype t) (b - a) (enc.slice a b) (Some (shape_of t) ∷ [])
slice_is_node t a b h k = (len t, refl, h, k, refl)

pub filter_is_node : (t : Tree) (bits : List Bool) → length bits ≡ len t → IsNode (dtype t) (true_count bits) (enc.filter bits) (Some (shape_of t) ∷ [])
filter_is_node t bits h = (ap (λ z. Some (shape (dtype t) z) ∷ []) (sym h), refl)

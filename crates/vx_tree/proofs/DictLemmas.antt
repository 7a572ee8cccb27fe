-- Dictionaries: their parts, and how they are opened.
use Rattle.std.proofs.Common.{◌≡◌, ◌≢◌, ℕ, List, [], ◌∷◌, length, get_or, true, Option, Some, None, refl, sym, ap, subst, ◌∙◌, arith}
use Rattle.std.specs.Cmp.{unsigned_Decides}
use Rattle.vx_value.specs.Types.{DataType, same_type_Decides}
use Rattle.vx_value.specs.Supported.{has_columns}
use Rattle.vx_value.proofs.SupportedLemmas.{columns_kept}
use Rattle.vx_value.specs.declared.error.VortexError.TheVariants.{InvalidArgument}
use Rattle.vx_value.specs.declared.error.ArgKind.TheVariants.{SlotCount, SlotMissing}
use Rattle.vx_fn.specs.Meanings.{widen}
use Rattle.vx_tree.specs.Tree as enc
use Rattle.vx_tree.specs.Tree.{Tree, node, slots_of, dtype, len, dict_of, dict_refusal, named_refusal}
use Rattle.vx_tree.specs.Well.{Shape, shape, shape_of, shapes, IsNode, IsNodeOf}
use Rattle.vx_tree.specs.TreeView.{data_of, tree_of}
use Rattle.vx_tree.specs.declared.array.node.Node.{Node}
use Rattle.vx_tree.proofs.ConditionsLemmas.{none_refused, first_none, second_none, unless_none, none_unless}
use Rattle.vx_tree.proofs.KindsLemmas.{type_in, len_in, of_data}
use Rattle.vx_tree.proofs.SlotsLemmas.{pair_slots}

-- ---- its parts, which aren't refused if they meet its conditions, and else are

pub kept : (ty : DataType) (n : ℕ) (ss : List (Option Shape)) → dict_refusal ty n ss ≡ None → IsNode ty n enc.dict ss
kept ty n [] h = absurd (cc)
kept ty n (a ∷ []) h = absurd (cc)
kept ty n (None ∷ v ∷ []) h = absurd (cc)
kept ty n (Some c ∷ None ∷ []) h = absurd (cc)
kept ty n (Some (shape c k) ∷ Some (shape s m) ∷ []) h =
    let later = second_none _ _ h in
    let integer = unless_none _ _ (first_none _ _ h) in
    let typed : ty ≡ widen c s = (same_type_Decides ty (widen c s)).0 (unless_none _ _ (first_none _ _ later)) in
    let counted : n ≡ k = (unsigned_Decides n k).0 (unless_none _ _ (second_none _ _ later)) in
    (c, s, m, (λ i. Some (shape c (sym counted i)) ∷ Some (shape s m) ∷ []), integer, typed)
kept ty n (a ∷ b ∷ x ∷ ss) h = absurd (cc)

pub taken : (ty : DataType) (n : ℕ) (ss : List (Option Shape)) → IsNode ty n enc.dict ss → dict_refusal ty n ss ≡ None
taken ty n ss h =
    let typed = none_unless _ _ ((same_type_Decides ty (widen h.0 h.1)).1 h.5) in
    let e : named_refusal ty n h.0 n h.1 ≡ None =
    none_refused _ _ (none_unless _ _ h.4) (none_refused _ _ typed (none_unless _ _ ((unsigned_Decides n n).1 refl))) in
    subst (λ l. dict_refusal ty n l ≡ None) (sym h.3) e

-- ---- as the code asks

pub dict_slot_count : (xs : List (Option Tree)) → length xs ≢ 2 → (ty : DataType) (n : ℕ) → dict_refusal ty n (shapes (slots_of xs)) ≡ Some (InvalidArgument SlotCount)
dict_slot_count [] h ty n = refl
dict_slot_count (None ∷ []) h ty n = refl
dict_slot_count (Some t ∷ []) h ty n = refl
dict_slot_count (x ∷ y ∷ []) h ty n = absurd (h refl)
dict_slot_count (None ∷ None ∷ None ∷ xs) h ty n = refl
dict_slot_count (None ∷ None ∷ Some v ∷ xs) h ty n = refl
dict_slot_count (None ∷ Some u ∷ None ∷ xs) h ty n = refl
dict_slot_count (None ∷ Some u ∷ Some v ∷ xs) h ty n = refl
dict_slot_count (Some t ∷ None ∷ None ∷ xs) h ty n = refl
dict_slot_count (Some t ∷ None ∷ Some v ∷ xs) h ty n = refl
dict_slot_count (Some t ∷ Some u ∷ None ∷ xs) h ty n = refl
dict_slot_count (Some t ∷ Some u ∷ Some v ∷ xs) h ty n = refl

-- a slot that holds no tree, of two
pub codes_missing : (ty : DataType) (n : ℕ) (xs : List (Option Tree)) (s : Option Tree) → length xs ≡ 2 → s ≡ get_or xs 0 s → s ≡ None
    → dict_refusal ty n (shapes (slots_of xs)) ≡ Some (InvalidArgument (SlotMissing 0))
codes_missing ty n [] s h e m = absurd (omega (arith, h))
codes_missing ty n (x ∷ []) s h e m = absurd (omega (arith, h))
codes_missing ty n (None ∷ None ∷ []) s h e m = refl
codes_missing ty n (None ∷ Some u ∷ []) s h e m = refl
codes_missing ty n (Some t ∷ y ∷ []) s h e m = absurd (cc)
codes_missing ty n (x ∷ y ∷ z ∷ xs) s h e m = absurd (omega (arith, h))

pub values_missing : (ty : DataType) (n : ℕ) (xs : List (Option Tree)) (s r : Option Tree) (t : Tree) → length xs ≡ 2 → s ≡ get_or xs 0 s → s ≡ Some t
    → r ≡ get_or xs 1 r → r ≡ None → dict_refusal ty n (shapes (slots_of xs)) ≡ Some (InvalidArgument (SlotMissing 1))
values_missing ty n [] s r t h e m f g = absurd (omega (arith, h))
values_missing ty n (x ∷ []) s r t h e m f g = absurd (omega (arith, h))
values_missing ty n (None ∷ y ∷ []) s r t h e m f g = absurd (cc)
values_missing ty n (Some u ∷ None ∷ []) s r t h e m f g = refl
values_missing ty n (Some u ∷ Some v ∷ []) s r t h e m f g = absurd (cc)
values_missing ty n (x ∷ y ∷ z ∷ xs) s r t h e m f g = absurd (omega (arith, h))

pub dict_by_slots : (ty : DataType) (n : ℕ) (ss : List (Option Shape)) (c v : Tree) → ss ≡ Some (shape_of c) ∷ Some (shape_of v) ∷ []
    → dict_refusal ty n ss ≡ named_refusal ty n (dtype c) (len c) (dtype v)
dict_by_slots ty n ss c v h = ap (dict_refusal ty n) h

-- ---- how it is opened

pub kind_dict : (n : Node) → IsNodeOf (tree_of n) → (z w : Option Tree) (c v : Tree) → data_of n.encoding ≡ enc.dict → z ≡ get_or n.slots.items 0 z → z ≡ Some c
    → w ≡ get_or n.slots.items 1 w → w ≡ Some v
    → (tree_of n ≡ dict_of c v) × IsNodeOf (tree_of n)
kind_dict n well z w c v e g s i r =
    let h = of_data n well enc.dict e in
    let o = pair_slots n.slots.items h.0 h.1 n.len h.2 h.3 in
    let first : Some o.0 ≡ Some c = sym (g ∙ ap (λ l. get_or l 0 z) o.2) ∙ s in
    let second : Some o.1 ≡ Some v = sym (i ∙ ap (λ l. get_or l 1 w) o.2) ∙ r in
    let codes_are : o.0 ≡ c = cc in
    let values_are : o.1 ≡ v = cc in
    let slots_are = o.2 ∙ (λ j. Some (codes_are j) ∷ Some (values_are j) ∷ []) in
    let coded : h.0 ≡ dtype c = sym (ap type_in o.3) ∙ ap dtype codes_are in
    let typed : h.1 ≡ dtype v = sym (ap type_in o.4) ∙ ap dtype values_are in
    let counted : n.len ≡ len c = sym (ap len_in o.3) ∙ ap len codes_are in
    ((λ j. node ((h.5 ∙ (λ k. widen (coded k) (typed k))) j) (counted j) (e j) (slots_of (slots_are j))), well)

-- ---- its type has columns if its values' has

pub named_columns : (ty c s : DataType) → ty ≡ widen c s → has_columns s ≡ true → has_columns ty ≡ true
named_columns ty c s typed h = ap has_columns typed ∙ columns_kept _ s ∙ h

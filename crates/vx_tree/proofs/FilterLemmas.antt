-- A lazy filter: its parts, and which of its rows are null.
use Rattle.std.proofs.Common.{◌≡◌, ℕ, List, [], ◌∷◌, length, map, Bool, true, Option, Some, None, refl, sym, ap, subst, ◌∙◌, false}
use Rattle.std.specs.Cmp.{unsigned_Decides}
use Rattle.vx_value.specs.Types.{DataType, same_type_Decides}
use Rattle.vx_value.specs.Values.{boolean}
use Rattle.vx_value.specs.Cell.{value}
use Rattle.vx_mask.specs.Places.{true_count, chosen}
use Rattle.vx_mask.proofs.ChosenLemmas.{chosen_map, chosen-replicate}
use Rattle.vx_tree.specs.Tree as enc
use Rattle.vx_tree.specs.Tree.{Tree, node, slots_of, dtype, len, filter_of, filter_refusal}
use Rattle.vx_tree.specs.Well.{shape, shapes, IsNode, Shape}
use Rattle.vx_tree.specs.Cells.{rows, shown_cell}
use Rattle.vx_tree.specs.Keeps.{RowsKeep}
use Rattle.vx_tree.specs.Validities.{HasRows, valid_rows}
use Rattle.vx_tree.specs.NodeValidities.{on_array, node_validity, first_validity, IsCleanValidity}
use Rattle.vx_tree.specs.declared.validity.Validity.{Validity}
use Rattle.vx_tree.specs.declared.validity.Validity.TheVariants as validity
use Rattle.vx_tree.specs.Refusals.{of_child}
use Rattle.vx_tree.proofs.KindsLemmas.{type_in, len_in}
use Rattle.vx_tree.proofs.SlotsLemmas.{one_slot}
use Rattle.vx_tree.proofs.KeepsLemmas.{chosen_keep}
use Rattle.vx_tree.proofs.ConditionsLemmas.{none_refused, first_none, second_none, unless_none, none_unless}
use Rattle.vx_tree.proofs.RefusalsLemmas.{child_kept}
use Rattle.vx_tree.proofs.TellsLemmas.{chosen_nullable, chosen_clean, Tells, FirstTells}
use Rattle.vx_tree.proofs.ValiditiesLemmas.{whole}

-- ---- its parts, which aren't refused if they meet its conditions, and else are

pub kept : (ty : DataType) (n : ℕ) (bits : List Bool) (ss : List (Option Shape)) → of_child (filter_refusal ty n bits) ss ≡ None
    → IsNode ty n (enc.filter bits) ss
kept ty n bits ss h =
    let k = child_kept (filter_refusal ty n bits) ss h in
    let later = second_none _ _ k.3 in
    let same : ty ≡ k.0 = (same_type_Decides ty k.0).0 (unless_none _ _ (first_none _ _ k.3)) in
    let counted : k.1 ≡ length bits = (unsigned_Decides k.1 (length bits)).0 (unless_none _ _ (first_none _ _ later)) in
    let count : n ≡ true_count bits = (unsigned_Decides n (true_count bits)).0 (unless_none _ _ (second_none _ _ later)) in
    (k.2 ∙ (λ j. Some (shape (sym same j) (counted j)) ∷ []), count)

pub taken : (ty : DataType) (n : ℕ) (bits : List Bool) (ss : List (Option Shape)) → IsNode ty n (enc.filter bits) ss
    → of_child (filter_refusal ty n bits) ss ≡ None
taken ty n bits ss h =
    let typed = none_unless _ _ ((same_type_Decides ty ty).1 refl) in
    let counted = none_unless _ _ ((unsigned_Decides (length bits) (length bits)).1 refl) in
    let count = none_unless _ _ ((unsigned_Decides n (true_count bits)).1 h.1) in
    let e : filter_refusal ty n bits ty (length bits) ≡ None = none_refused _ _ typed (none_refused _ _ counted count) in
    subst (λ l. of_child (filter_refusal ty n bits) l ≡ None) (sym h.0) e

-- ---- which of its rows are null

choice_rows : (v : Validity) (bits : List Bool) (m : ℕ) → length bits ≡ m
    → valid_rows (on_array (filter_of bits) v) (true_count bits) ≡ chosen bits (valid_rows v m)
choice_rows (validity.Array t) bits m h = refl
choice_rows validity.AllInvalid bits m h = sym (chosen-replicate bits m (value (boolean false)) h)
choice_rows _ bits m h = sym (chosen-replicate bits m (value (boolean true)) h)

choice_sized : (v : Validity) (bits : List Bool) (m : ℕ) → length bits ≡ m → HasRows v m → HasRows (on_array (filter_of bits) v) (true_count bits)
choice_sized (validity.Array t) bits m h w = ((((λ i. Some (shape (dtype t) ((w.2 ∙ sym h) i)) ∷ []), refl), (w.0, tt)), w.1, refl)
choice_sized _ bits m h w = tt

choice_clean : (v : Validity) (bits : List Bool) → IsCleanValidity v → IsCleanValidity (on_array (filter_of bits) v)
choice_clean (validity.Array t) bits h = (chosen_clean bits (rows t) (whole t h), (h, tt))
choice_clean _ bits h = tt

pub filter_tells : (c : Tree) (v : Validity) (bits : List Bool) → length bits ≡ len c → Tells c v → Tells (filter_of bits c) (on_array (filter_of bits) v)
filter_tells c v bits h w =
    let kept = chosen_keep bits _ _ w.told in
    record {
      nullable = chosen_nullable (filter_of bits) v ∙ w.nullable;
      sized = choice_sized v bits (len c) h w.sized;
      told =
          subst (RowsKeep (map shown_cell (rows (filter_of bits c)))) (sym (choice_rows v bits (len c) h))
          (subst (λ x. RowsKeep x (chosen bits (valid_rows v (len c)))) (chosen_map shown_cell bits (rows c)) kept);
      clean = λ d. choice_clean v bits (w.clean d.1.0);
    }

pub filter_node : (ty : DataType) (n : ℕ) (bits : List Bool) (xs : List (Option Tree)) → IsNode ty n (enc.filter bits) (shapes (slots_of xs))
    → FirstTells (slots_of xs)
    → Tells (node ty n (enc.filter bits) (slots_of xs)) (on_array (filter_of bits) (first_validity (slots_of xs)))
filter_node ty n bits xs h f =
    let o = one_slot xs ty (length bits) h.0 in
    let is : filter_of bits o.0 ≡ node ty n (enc.filter bits) (slots_of (Some o.0 ∷ [])) =
    λ i. node (ap type_in o.2 i) (sym h.1 i) (enc.filter bits) (slots_of (Some o.0 ∷ [])) in
    let first : Tells o.0 (node_validity o.0) = subst (λ ys. FirstTells (slots_of ys)) o.1 f in
    let told = filter_tells o.0 (node_validity o.0) bits (sym (ap len_in o.2)) first in
    subst (λ ys. Tells (node ty n (enc.filter bits) (slots_of ys)) (on_array (filter_of bits) (first_validity (slots_of ys)))) (sym o.1)
    (subst (λ t. Tells t (on_array (filter_of bits) (node_validity o.0))) is told)

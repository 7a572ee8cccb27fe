-- A lazy slice: its parts, and which of its rows are null.
use Rattle.std.proofs.Common.{◌≡◌, ℕ, ◌≤◌, ◌-◌, List, [], ◌∷◌, map, true, Option, Some, None, refl, sym, ap, subst, ◌∙◌, take, drop, false, nat_le, ◌&&◌}
use Rattle.std.proofs.lemmas.List.{take-map, drop-map}
use Rattle.std.proofs.lemmas.Bool.{and_from, leb-true, le-leb}
use Rattle.std.specs.Cmp.{unsigned_Decides, first_so, second_so}
use Rattle.vx_value.specs.Types.{DataType, same_type_Decides}
use Rattle.vx_value.specs.Values.{boolean}
use Rattle.vx_value.specs.Cell.{value}
use Rattle.vx_tree.specs.Tree as enc
use Rattle.vx_tree.specs.Tree.{Tree, node, slots_of, len, slice_of, slice_refusal}
use Rattle.vx_tree.specs.Well.{shape, shapes, IsNode, Shape}
use Rattle.vx_tree.specs.Cells.{rows, shown_cell}
use Rattle.vx_tree.specs.Keeps.{RowsKeep}
use Rattle.vx_tree.specs.Validities.{HasRows, valid_rows}
use Rattle.vx_tree.specs.NodeValidities.{on_array, node_validity, first_validity, IsCleanValidity}
use Rattle.vx_tree.specs.declared.validity.Validity.{Validity}
use Rattle.vx_tree.specs.declared.validity.Validity.TheVariants as validity
use Rattle.vx_tree.specs.Refusals.{of_child}
use Rattle.vx_tree.proofs.KindsLemmas.{type_in, len_in}
use Rattle.vx_tree.proofs.SlotsLemmas.{one_slot}
use Rattle.vx_tree.proofs.KeepsLemmas.{take_keep, drop_keep}
use Rattle.vx_tree.proofs.ConditionsLemmas.{none_refused, first_none, second_none, unless_none, none_unless}
use Rattle.vx_tree.proofs.RefusalsLemmas.{child_kept}
use Rattle.vx_tree.proofs.TellsLemmas.{chosen_nullable, part_copies, Tells, FirstTells}
use Rattle.vx_tree.proofs.ValiditiesLemmas.{part_clean}

-- ---- its parts, which aren't refused if they meet its conditions, and else are

pub kept : (ty : DataType) (n a b : ℕ) (ss : List (Option Shape)) → of_child (slice_refusal ty n a b) ss ≡ None → IsNode ty n (enc.slice a b) ss
kept ty n a b ss h =
    let k = child_kept (slice_refusal ty n a b) ss h in
    let later = second_none _ _ k.3 in
    let range = unless_none _ _ (second_none _ _ later) in
    let same : ty ≡ k.0 = (same_type_Decides ty k.0).0 (unless_none _ _ (first_none _ _ k.3)) in
    let counted : n ≡ b - a = (unsigned_Decides n (b - a)).0 (unless_none _ _ (first_none _ _ later)) in
    (k.1, k.2 ∙ ap (λ z. Some (shape z k.1) ∷ []) (sym same), leb-true a b (first_so _ _ range), leb-true b k.1 (second_so _ _ range), counted)

pub taken : (ty : DataType) (n a b : ℕ) (ss : List (Option Shape)) → IsNode ty n (enc.slice a b) ss → of_child (slice_refusal ty n a b) ss ≡ None
taken ty n a b ss h =
    let typed = none_unless _ _ ((same_type_Decides ty ty).1 refl) in
    let counted = none_unless _ _ ((unsigned_Decides n (b - a)).1 h.4) in
    let range : (nat_le a b && nat_le b h.0) ≡ true = and_from (nat_le a b) (nat_le b h.0) (le-leb a b h.2) (le-leb b h.0 h.3) in
    let e : slice_refusal ty n a b ty h.0 ≡ None = none_refused _ _ typed (none_refused _ _ counted (none_unless _ _ range)) in
    subst (λ l. of_child (slice_refusal ty n a b) l ≡ None) (sym h.1) e

-- ---- which of its rows are null

part_rows : (v : Validity) (a b m : ℕ) → a ≤ b → b ≤ m → valid_rows (on_array (slice_of a b) v) (b - a) ≡ take (b - a) (drop a (valid_rows v m))
part_rows (validity.Array t) a b m h k = refl
part_rows validity.AllInvalid a b m h k = part_copies (value (boolean false)) a b m h k
part_rows _ a b m h k = part_copies (value (boolean true)) a b m h k

part_sized : (v : Validity) (a b m : ℕ) → a ≤ b → b ≤ m → HasRows v m → HasRows (on_array (slice_of a b) v) (b - a)
part_sized (validity.Array t) a b m h k w = (((len t, refl, h, subst (λ n. b ≤ n) (sym w.2) k, refl), (w.0, tt)), w.1, refl)
part_sized _ a b m h k w = tt

part_kept_clean : (v : Validity) (a b : ℕ) → IsCleanValidity v → IsCleanValidity (on_array (slice_of a b) v)
part_kept_clean (validity.Array t) a b h = part_clean a b t h
part_kept_clean _ a b h = tt

pub slice_tells : (c : Tree) (v : Validity) (a b : ℕ) → a ≤ b → b ≤ len c → Tells c v → Tells (slice_of a b c) (on_array (slice_of a b) v)
slice_tells c v a b h k w =
    let cells : take (b - a) (drop a (map shown_cell (rows c))) ≡ map shown_cell (take (b - a) (drop a (rows c))) =
    ap (take (b - a)) (drop-map shown_cell a (rows c)) ∙ take-map shown_cell (b - a) (drop a (rows c)) in
    let kept = take_keep (b - a) _ _ (drop_keep a _ _ w.told) in
    record {
      nullable = chosen_nullable (slice_of a b) v ∙ w.nullable;
      sized = part_sized v a b (len c) h k w.sized;
      told =
          subst (RowsKeep (map shown_cell (rows (slice_of a b c)))) (sym (part_rows v a b (len c) h k))
          (subst (λ x. RowsKeep x (take (b - a) (drop a (valid_rows v (len c))))) cells kept);
      clean = λ d. part_kept_clean v a b (w.clean d.1.0);
    }

pub slice_node : (ty : DataType) (n a b : ℕ) (xs : List (Option Tree)) → IsNode ty n (enc.slice a b) (shapes (slots_of xs)) → FirstTells (slots_of xs)
    → Tells (node ty n (enc.slice a b) (slots_of xs)) (on_array (slice_of a b) (first_validity (slots_of xs)))
slice_node ty n a b xs h f =
    let o = one_slot xs ty h.0 h.1 in
    let is : slice_of a b o.0 ≡ node ty n (enc.slice a b) (slots_of (Some o.0 ∷ [])) =
    λ i. node (ap type_in o.2 i) (sym h.4 i) (enc.slice a b) (slots_of (Some o.0 ∷ [])) in
    let first : Tells o.0 (node_validity o.0) = subst (λ ys. FirstTells (slots_of ys)) o.1 f in
    let told = slice_tells o.0 (node_validity o.0) a b h.2 (subst (λ m. b ≤ m) (sym (ap len_in o.2)) h.3) first in
    subst (λ ys. Tells (node ty n (enc.slice a b) (slots_of ys)) (on_array (slice_of a b) (first_validity (slots_of ys)))) (sym o.1)
    (subst (λ t. Tells t (on_array (slice_of a b) (node_validity o.0))) is told)

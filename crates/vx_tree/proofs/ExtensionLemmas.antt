-- Columns of extension types: their parts, and which of their rows are null.
use Rattle.std.proofs.Common.{◌≡◌, ℕ, zero, suc, List, [], ◌∷◌, length, map, Option, Some, None, refl, sym, ap, subst, ◌∙◌, arith}
use Rattle.std.specs.Cmp.{unsigned_Decides}
use Rattle.vx_value.specs.Types as type
use Rattle.vx_value.specs.Types.{DataType, nullability_of, same_type_Decides}
use Rattle.vx_value.specs.Cell.{Cell}
use Rattle.vx_value.specs.declared.error.VortexError.{VortexError}
use Rattle.vx_tree.specs.Tree as enc
use Rattle.vx_tree.specs.Tree.{Tree, node, slot, no_slots, slots_of, dtype, len, IsExtension, stored_refusal, extension_row}
use Rattle.vx_tree.specs.Well.{Shape, shape, shapes, IsWell, AreWell}
use Rattle.vx_tree.specs.Cells.{rows, shown_cell}
use Rattle.vx_tree.specs.Layouts.{row_by_row}
use Rattle.vx_tree.specs.Keeps.{RowsKeep}
use Rattle.vx_tree.specs.Refusals.{of_child}
use Rattle.vx_tree.specs.Validities.{valid_rows, HasRows}
use Rattle.vx_tree.specs.NodeValidities.{node_validity, first_validity}
use Rattle.vx_tree.specs.declared.array.layout.Layout.TheVariants as layout
use Rattle.vx_tree.proofs.CellsLemmas.{rows_counted}
use Rattle.vx_tree.proofs.ConditionsLemmas.{none_refused, first_none, second_none, unless_none, none_unless}
use Rattle.vx_tree.proofs.KindsLemmas.{type_in, len_in}
use Rattle.vx_tree.proofs.RefusalsLemmas.{child_kept}
use Rattle.vx_tree.proofs.SlotsLemmas.{one_slot}
use Rattle.vx_tree.proofs.TellsLemmas.{Tells, FirstTells}

-- ---- its parts, which aren't refused if they meet its conditions, and else are

abbrev later : DataType → ℕ → DataType → ℕ → Option VortexError
later ty n s k = stored_refusal ty n (shape s k)

pub kept : (ty : DataType) (n : ℕ) (ss : List (Option Shape)) → of_child (λ s k. stored_refusal ty n (shape s k)) ss ≡ None → IsExtension ty n ss
kept (type.extension id t) n ss h =
    let k = child_kept (later (type.extension id t) n) ss h in
    let same : k.0 ≡ t = (same_type_Decides k.0 t).0 (unless_none _ _ (first_none _ _ k.3)) in
    let counted : n ≡ k.1 = (unsigned_Decides n k.1).0 (unless_none _ _ (second_none _ _ k.3)) in
    (id, t, refl, k.2 ∙ (λ i. Some (shape (same i) (sym counted i)) ∷ []))
kept ty n ss h = let k = child_kept (later ty n) ss h in absurd (cc (k.3))

pub taken : (ty : DataType) (n : ℕ) (ss : List (Option Shape)) → IsExtension ty n ss → of_child (λ s k. stored_refusal ty n (shape s k)) ss ≡ None
taken ty n ss h =
    let typed = none_unless _ _ ((same_type_Decides h.1 h.1).1 refl) in
    let e : stored_refusal (type.extension h.0 h.1) n (shape h.1 n) ≡ None = none_refused _ _ typed (none_unless _ _ ((unsigned_Decides n n).1 refl)) in
    subst (λ x. x) (λ i. of_child (λ s k. stored_refusal (sym h.2 i) n (shape s k)) (sym h.3 i) ≡ None) e

-- ---- its rows, and which of them are null

-- they are the storage's
pub stored_rows : (n : ℕ) (cs : List Cell) → length cs ≡ n → row_by_row extension_row n (cs ∷ []) ≡ cs
stored_rows zero [] h = refl
stored_rows zero (c ∷ cs) h = absurd (omega arith)
stored_rows (suc n) [] h = absurd (omega arith)
stored_rows (suc n) (c ∷ cs) h = ap (λ l. c ∷ l) (stored_rows n cs (omega arith))

extension_tells : (ty : DataType) (n : ℕ) (t : Tree) → IsWell t → nullability_of (dtype t) ≡ nullability_of ty → len t ≡ n → Tells t (node_validity t)
    → Tells (node ty n (enc.composed layout.Extension) (slot t no_slots)) (node_validity t)
extension_tells ty n t w typed counted f =
    let shown : rows t ≡ row_by_row extension_row n (rows t ∷ []) = sym (stored_rows n (rows t) (rows_counted t w ∙ counted)) in
    record {
      nullable = f.nullable ∙ typed;
      sized = subst (HasRows (node_validity t)) counted f.sized;
      told =
          subst (λ x. x) (λ i. RowsKeep (map shown_cell (shown i)) (valid_rows (node_validity t) (counted i))) f.told;
      clean = λ c. f.clean c.1.0;
    }

pub extension_node : (ty : DataType) (n : ℕ) (xs : List (Option Tree)) → IsExtension ty n (shapes (slots_of xs)) → AreWell (slots_of xs)
    → FirstTells (slots_of xs) → Tells (node ty n (enc.composed layout.Extension) (slots_of xs)) (first_validity (slots_of xs))
extension_node ty n xs h w f =
    let o = one_slot xs h.1 n h.3 in
    let typed : nullability_of (dtype o.0) ≡ nullability_of ty = ap (λ s. nullability_of (type_in s)) o.2 ∙ sym (ap nullability_of h.2) in
    let well : AreWell (slots_of (Some o.0 ∷ [])) = subst (λ ys. AreWell (slots_of ys)) o.1 w in
    let first : Tells o.0 (node_validity o.0) = subst (λ ys. FirstTells (slots_of ys)) o.1 f in
    subst (λ ys. Tells (node ty n (enc.composed layout.Extension) (slots_of ys)) (first_validity (slots_of ys))) (sym o.1)
    (extension_tells ty n o.0 well.0 typed (ap len_in o.2) first)

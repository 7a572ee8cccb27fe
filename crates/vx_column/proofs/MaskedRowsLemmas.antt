-- Rows of a masked node.
use Rattle.std.proofs.Common.{◌≡◌, ℕ, zero, suc, ◌<◌, List, [], ◌∷◌, Option, Some, None, refl, sym, ap, subst, ◌∙◌}
use Rattle.std.specs.Prelude.{slice_get, option_map}
use Rattle.vx_value.specs.Types as type
use Rattle.vx_value.specs.Types.{DataType, nullability_of}
use Rattle.vx_value.specs.Nullabilities.{with_nullability}
use Rattle.vx_value.specs.Cell.{Cell, fault}
use Rattle.vx_value.specs.declared.dtype.Nullability.TheVariants.{NonNullable, Nullable}
use Rattle.vx_value.specs.declared.dtype.Nullability.{Nullability}
use Rattle.vx_tree.specs.Tree.{Tree, dtype, len, masked_of}
use Rattle.vx_tree.specs.Cells.{rows, valid_cell, valid_cells}
use Rattle.vx_tree.specs.Well.{Shape, shape, shape_of, IsValidity, IsNodeOf}
use Rattle.vx_tree.proofs.KindsLemmas.{type_in, len_in}
use Rattle.vx_tree.proofs.SlotsLemmas.{one_shape}
use Rattle.vx_column.specs.Nulls.{TellsRow, validity_cells}
use Rattle.vx_column.proofs.CellsLemmas.{fault_cell, masked_rows}

-- a fault stays one, whatever the validity
fault_stays : (vs cs : List Cell) (i : ℕ) → slice_get cs i ≡ Some fault → slice_get (valid_cells vs cs) i ≡ Some fault
fault_stays [] cs i h = h
fault_stays (v ∷ vs) [] i h = absurd (cc)
fault_stays (v ∷ vs) (c ∷ cs) zero h = let is : c ≡ fault = cc in ap Some (ap (valid_cell v) is ∙ fault_cell v)
fault_stays (v ∷ vs) (c ∷ cs) (suc i) h = fault_stays vs cs i h

pub masked_fault : (t c : Tree) (v : Option Tree) (i : ℕ) → t ≡ masked_of c v → slice_get (rows c) i ≡ Some fault → slice_get (rows t) i ≡ Some fault
masked_fault t c v i e h = ap (λ cs. slice_get cs i) (masked_rows t c v e) ∙ fault_stays (validity_cells v) (rows c) i h

-- ---- its validity tells of each row

pub nullable_always : (t : DataType) → nullability_of (with_nullability Nullable t) ≡ Nullable
nullable_always (type.extension id t) = nullable_always t
nullable_always type.null = refl
nullable_always _ = refl

-- of a column of this type
pub validity_tells : (m : Nullability) (n : ℕ) (v : Option Tree) (ty : DataType) (i : ℕ) → nullability_of ty ≡ m → i < n → IsValidity m n (option_map shape_of v)
    → TellsRow ty v i
validity_tells m n None ty i e lt h = tt
validity_tells NonNullable n (Some t) ty i e lt h = absurd h
validity_tells Nullable n (Some t) ty i e lt h = (e, ap type_in h, subst (λ k. i < k) (sym (ap len_in h)) lt)

pub masked_tells : (t c : Tree) (v : Option Tree) (ty : DataType) (i : ℕ) → t ≡ masked_of c v → IsNodeOf t → ty ≡ with_nullability Nullable (dtype c) → i < len t
    → TellsRow ty v i
masked_tells t c v ty i e h typed lt =
    let node = subst IsNodeOf e h in
    let lists : Some (shape node.0 (len c)) ∷ node.1 ∷ [] ≡ Some (shape_of c) ∷ option_map shape_of v ∷ [] =
    sym node.2 ∙ ap (λ l. Some (shape_of c) ∷ l) (one_shape v) in
    let same : node.1 ≡ option_map shape_of v = cc in
    validity_tells Nullable (len c) v ty i (ap nullability_of typed ∙ nullable_always (dtype c)) (subst (λ u. i < len u) e lt)
    (subst (IsValidity Nullable (len c)) same node.4)

-- The column of a function that is known on the valid rows.
use Rattle.std.proofs.Common.{◌≡◌, ◌<◌, ℕ, Bool, true, false, List, map, Option, Some, Result, IfOk, sym, ap, ◌∙◌}
use Rattle.std.proofs.lemmas.Result.{IfOk-weaker}
use Rattle.std.specs.List.{range_with_len}
use Rattle.vx_value.specs.Types.{DataType, bool}
use Rattle.vx_value.specs.Values.{boolean}
use Rattle.vx_value.specs.Cell.{Cell, value, fault}
use Rattle.vx_value.specs.declared.error.VortexError.{VortexError}
use Rattle.vx_fn.specs.Apply.{apply}
use Rattle.vx_fn.specs.declared.function.ScalarFnRef.{ScalarFnRef}
use Rattle.vx_tree.specs.Tree.{Tree, dtype}
use Rattle.vx_tree.specs.Cells.{HasNoFault}
use Rattle.vx_tree.specs.Canonicals.{canonical_tree}
use Rattle.vx_tree.specs.declared.canonical.canonical.Canonical.{Canonical}
use Rattle.vx_column.proofs.ComputedLemmas.{fault_among}
use Rattle.vx_column.proofs.MadeLemmas.{made_by}
use Rattle.vx_column.proofs.ValidRowsLemmas.{bit_made}
use Rattle.vx_column.specs.Computed.{IsColumnOfCells}
use Rattle.vx_column.specs.Filled.{IsRowwiseResult, filled_cells, filled_type}
use Rattle.vx_mask.specs.Logic.{bit_row}
use Rattle.vx_column.specs.Arguments.{AreShown}
use Rattle.vx_column.specs.ValidRows.{is_valid, nullability_in, null_unless}
use Rattle.vx_column.specs.declared.rows.argument.ArgumentRows.TheVariants.{Nulls}
use Rattle.vx_column.specs.declared.rows.valid.ValidRows.{ValidRows}

-- a column whose valid rows are f on `row`
module _ (f : ScalarFnRef) (tys : List DataType) (of_type : Option DataType) (row : ℕ → List Cell) (valid : ValidRows) (n : ℕ) where
  -- a fault in one of them
  pub filled_fault : (ty : DataType) (i : ℕ) → filled_type valid of_type ≡ Some ty → i < n → is_valid valid i ≡ true → apply f tys ty (row i) ≡ fault →
      (s : DataType) → filled_type valid of_type ≡ Some s → ¬ (HasNoFault (filled_cells f tys s row valid n))
  filled_fault ty i known lt here none s typed =
      let same : s ≡ ty = cc (typed, known) in
      fault_among (λ j. null_unless (is_valid valid j) (apply f tys s (row j))) n i lt
      (ap (λ b. null_unless b (apply f tys s (row i))) here ∙ ap (λ t. apply f tys t (row i)) same ∙ none)

  -- a column that stores them in the valid rows
  pub filled : (ty : DataType) (stored : ℕ → Cell) (u : Tree) → filled_type valid of_type ≡ Some ty → (dtype u ≡ ty) × IsColumnOfCells valid stored n u
      → ((i : ℕ) → i < n → is_valid valid i ≡ true → stored i ≡ apply f tys ty (row i)) → IsRowwiseResult f tys of_type row valid n u
  filled ty stored u typed made same = record {
    typed = typed ∙ ap Some (sym made.0);
    made = made_by valid stored _ n u (λ i lt here. same i lt here ∙ ap (λ t. apply f tys t (row i)) (sym made.0)) made.1;
  }

  pub bools_filled : (r : Result Canonical VortexError) (test : ℕ → Bool) (bits : List Bool) → filled_type valid of_type ≡ Some (bool (nullability_in valid)) →
      ((i : ℕ) → i < n → is_valid valid i ≡ true → value (boolean (test i)) ≡ apply f tys (bool (nullability_in valid)) (row i)) →
      bits ≡ map test (range_with_len 0 n) →
      IfOk r (λ c. (dtype (canonical_tree c) ≡ bool (nullability_in valid)) × IsColumnOfCells valid (λ i. value (boolean (bit_row bits i))) n (canonical_tree c)) →
      IfOk r (λ c. IsRowwiseResult f tys of_type row valid n (canonical_tree c))
  bools_filled r test bits typed same are =
      IfOk-weaker r _ _
      (λ c made. filled (bool (nullability_in valid)) (λ i. value (boolean (bit_row bits i))) (canonical_tree c) typed made
      (λ i lt here. ap (λ b. value (boolean b)) (bit_made test bits n i are lt) ∙ same i lt here))

  -- booleans if no row is valid
  pub nulls_filled : (r : Result Canonical VortexError) (bits : List Bool) → filled_type valid of_type ≡ Some (bool (nullability_in valid)) →
      AreShown Nulls valid n →
      IfOk r (λ c. (dtype (canonical_tree c) ≡ bool (nullability_in valid)) × IsColumnOfCells valid (λ i. value (boolean (bit_row bits i))) n (canonical_tree c)) →
      IfOk r (λ c. IsRowwiseResult f tys of_type row valid n (canonical_tree c))
  nulls_filled r bits typed none =
      IfOk-weaker r _ _
      (λ c made. filled (bool (nullability_in valid)) (λ i. value (boolean (bit_row bits i))) (canonical_tree c) typed made
      (λ i lt here. let no : false ≡ true = sym (none i lt) ∙ here in absurd (cc)))

-- Rows chosen between two arguments, and the functions that choose.
use Rattle.std.proofs.Common.{◌≡◌, ◌<◌, ℕ, Bool, true, false, if◌then◌else◌, List, [], ◌∷◌, map, get_or, Some, None, Result, IfOk, refl, sym, ap, ◌∙◌}
use Rattle.std.proofs.lemmas.Result.{IfOk-weaker}
use Rattle.std.specs.Prelude.{◌&&◌, ◌||◌, is_some}
use Rattle.std.specs.Ordering.{bool_cmp, is_lt}
use Rattle.std.specs.List.{range_with_len}
use Rattle.vx_value.specs.Types.{DataType, bool}
use Rattle.vx_value.specs.Nullabilities.{with_nullability, union, same_but_nullability}
use Rattle.vx_value.specs.Values.{Value, null, boolean}
use Rattle.vx_value.specs.Cell.{value}
use Rattle.vx_value.specs.IsOf.{is_null}
use Rattle.vx_value.specs.declared.dtype.Nullability.TheVariants.{NonNullable, Nullable}
use Rattle.vx_mask.specs.Logic.{bit_row}
use Rattle.vx_mask.specs.Operands.{bit_in}
use Rattle.vx_mask.specs.declared.operand.BitOperand.{BitOperand}
use Rattle.vx_mask.proofs.Lists.{same_below}
use Rattle.vx_fn.specs.Apply.{apply}
use Rattle.vx_fn.specs.ReturnTypes.{return_type}
use Rattle.vx_fn.specs.declared.function.ScalarFnRef.{ScalarFnRef}
use Rattle.vx_fn.specs.declared.function.ScalarFnRef.TheVariants.{Zip, FillNull}
use Rattle.vx_fn.proofs.ZipLemmas.{zip_taken}
use Rattle.vx_fn.proofs.FillNullLemmas.{fill_taken}
use Rattle.vx_tree.specs.Canonicals.{canonical_tree}
use Rattle.vx_tree.specs.Tree.{Tree, dtype}
use Rattle.vx_tree.specs.declared.canonical.canonical.Canonical.{Canonical}
use Rattle.vx_value.specs.declared.error.VortexError.{VortexError}
use Rattle.vx_column.specs.Arguments.{types_of, row_of, cell_at, value_at, plain_type, type_of_argument}
use Rattle.vx_column.specs.Computed.{Takes, IsColumnOfCells, IsCanonicalResult}
use Rattle.vx_column.specs.Selected.{selected, selected_by, selected_rows, AreSelected, IsSelected}
use Rattle.vx_column.specs.ValidRows.{is_valid, nullability_in, null_unless}
use Rattle.vx_column.specs.declared.rows.argument.Argument.{Argument}
use Rattle.vx_column.specs.declared.rows.argument.ArgumentRows.{ArgumentRows}
use Rattle.vx_column.specs.declared.rows.argument.ArgumentRows.TheVariants.{Bits}
use Rattle.vx_column.specs.declared.rows.valid.ValidRows.{ValidRows}
use Rattle.vx_column.specs.declared.rows.valid.ValidRows.TheVariants as rows_valid
use Rattle.vx_column.proofs.MadeLemmas.{made_by, made_stored, stored_cell}
use Rattle.vx_column.proofs.KernelArgumentsLemmas.{argument_type, argument_nullability, set_again, plain_same}
use Rattle.vx_column.proofs.ValidRowsLemmas.{bit_made}
use Rattle.vx_column.proofs.NullFunctionsLemmas.{valid_value}

-- ---- bits, by words

bit_selected : (c x y : Bool) → ((c && x) || is_lt (bool_cmp c y)) ≡ (if c then x else y)
bit_selected true true y = refl
bit_selected true false true = refl
bit_selected true false false = refl
bit_selected false x true = refl
bit_selected false x false = refl

pub words_selected : (choice x y : BitOperand) (n : ℕ) (a b : List Bool) → a ≡ map (λ i. bit_in choice i && bit_in x i) (range_with_len 0 n)
    → b ≡ map (λ i. is_lt (bool_cmp (bit_in choice i) (bit_in y i))) (range_with_len 0 n)
    → map (λ i. bit_row a i || bit_row b i) (range_with_len 0 n) ≡ map (selected choice (bit_in x) (bit_in y)) (range_with_len 0 n)
words_selected choice x y n a b first second =
    same_below n _ _
    (λ i lt. (λ j. bit_made (λ k. bit_in choice k && bit_in x k) a n i first lt j
    || bit_made (λ k. is_lt (bool_cmp (bit_in choice k) (bit_in y k))) b n i second lt j)
    ∙ bit_selected (bit_in choice i) (bit_in x i) (bit_in y i))

-- ---- the column of what is chosen

chosen_in : {A B : Type 0} (f : A → B) (c : Bool) (a b : A) → f (if c then a else b) ≡ (if c then f a else f b)
chosen_in f true a b = refl
chosen_in f false a b = refl

-- of values that are read of what both sides store
pub column_selected : {X : Type 0} (read : X → Value) (d : X) (bits : List Bool) (l r p q : ArgumentRows) (x y : ℕ → X) (valid : ValidRows) (n : ℕ)
    (xs : List X) (t : DataType) (found : Result Canonical VortexError) → l ≡ p → r ≡ q
    → value_at p ≡ (λ j. read (x j)) → value_at q ≡ (λ j. read (y j)) → t ≡ with_nullability (nullability_in valid) (plain_type p)
    → xs ≡ selected_rows bits x y n
    → IfOk found (λ c. (dtype (canonical_tree c) ≡ t) × IsColumnOfCells valid (λ i. value (read (get_or xs i d))) n (canonical_tree c))
    → IfOk found (λ c. AreSelected bits l r valid n (canonical_tree c))
column_selected read d bits l r p q x y valid n xs t found first second left right typed are =
    IfOk-weaker found _ _
    (λ c h. record {
      typed = h.0 ∙ typed ∙ ap (λ a. with_nullability (nullability_in valid) (plain_type a)) (sym first);
      made = made_stored read d (selected_by bits x y) (selected_by bits (value_at l) (value_at r)) valid n xs (canonical_tree c) are
          (λ i. chosen_in read (bit_row bits i) (x i) (y i)
          ∙ (λ j. if bit_row bits i then (sym left ∙ ap value_at (sym first)) j i else (sym right ∙ ap value_at (sym second)) j i)) h.1;
    })

-- of two that store the same
pub column_either : (bits : List Bool) (l r : ArgumentRows) (valid : ValidRows) (n : ℕ) (found : Result Canonical VortexError) → value_at l ≡ value_at r
    → IfOk found (λ c. (dtype (canonical_tree c) ≡ with_nullability (nullability_in valid) (plain_type l))
    × IsColumnOfCells valid (λ i. value (value_at l i)) n (canonical_tree c))
    → IfOk found (λ c. AreSelected bits l r valid n (canonical_tree c))
column_either bits l r valid n found same =
    IfOk-weaker found _ _
    (λ c h. record {
      typed = h.0;
      made = made_by valid _ _ n (canonical_tree c)
          (λ i lt here. ap value (sym (either (bit_row bits i) (value_at l i)) ∙ (λ j. if bit_row bits i then value_at l i else same j i))) h.1;
    })
  where
    either : (c : Bool) (v : Value) → (if c then v else v) ≡ v
    either true v = refl
    either false v = refl

cell_selected : (c v w : Bool) (p q : Value)
    → null_unless (if c then v else w) (value (if c then p else q)) ≡ (if c then null_unless v (value p) else null_unless w (value q))
cell_selected true v w p q = refl
cell_selected false v w p q = refl

-- `k` is what is known of the choice
pub is_selected : (choice k : BitOperand) (x y : Argument) (t : DataType) (valid : ValidRows) (n : ℕ) (found : Result Canonical VortexError)
    → choice ≡ k → t ≡ plain_type x.rows
    → ((i : ℕ) → i < n → is_valid valid i ≡ selected choice (is_valid x.valid) (is_valid y.valid) i)
    → nullability_in valid ≡ union (nullability_in x.valid) (nullability_in y.valid)
    → IfOk found (λ c. (dtype (canonical_tree c) ≡ with_nullability (nullability_in valid) t)
    × IsColumnOfCells valid (λ i. value (selected k (value_at x.rows) (value_at y.rows) i)) n (canonical_tree c))
    → IfOk found (λ c. IsSelected choice x y n (canonical_tree c))
is_selected choice k x y t valid n found is plain rows nullability =
    IfOk-weaker found _ _
    (λ c h. record {
      typed = h.0 ∙ (λ j. with_nullability (nullability j) (plain j));
      counted = h.1.counted;
      shown = h.1.shown ∙ same_below n _ _
          (λ i lt. (λ j. null_unless (rows i lt j) (value (selected (sym is j) (value_at x.rows) (value_at y.rows) i)))
          ∙ cell_selected (bit_in choice i) (is_valid x.valid i) (is_valid y.valid i) (value_at x.rows i) (value_at y.rows i));
      clean = h.1.clean;
      canonical = h.1.canonical;
      formed = h.1.formed;
    })

computed_selected : (f : ScalarFnRef) (args : List Argument) (choice : BitOperand) (x y : Argument) (n : ℕ) (u : Tree)
    → return_type f (types_of args) ≡ Some (with_nullability (union (nullability_in x.valid) (nullability_in y.valid)) (plain_type x.rows))
    → ((i : ℕ) → i < n → selected choice (cell_at x) (cell_at y) i ≡ apply f (types_of args) (dtype u) (row_of args i)) → IsSelected choice x y n u → IsCanonicalResult f args n u
computed_selected f args choice x y n u typed cells h = record {
  result = record { typed = typed ∙ ap Some (sym h.typed); counted = h.counted; shown = h.shown ∙ same_below n _ _ cells; clean = h.clean };
  canonical = h.canonical;
  formed = h.formed;
}

-- ---- the functions

-- a mask that is null counts as false
zipped_cell : (ty : DataType) (v w : Bool) (x y : Value) (k b : Bool)
    → (if k && b then null_unless v (value x) else null_unless w (value y))
    ≡ apply Zip (ty ∷ ty ∷ bool Nullable ∷ []) ty (null_unless v (value x) ∷ null_unless w (value y) ∷ null_unless k (value (boolean b)) ∷ [])
zipped_cell ty v w x y k b =
    (λ j. if k && b then stored_cell v x j else stored_cell w y j)
    ∙ by_mask (if v then x else null) (if w then y else null) k b
    ∙ (λ j. apply Zip (ty ∷ ty ∷ bool Nullable ∷ []) ty (sym (stored_cell v x) j ∷ sym (stored_cell w y) j ∷ sym (stored_cell k (boolean b)) j ∷ []))
  where
    by_mask : (p q : Value) (k b : Bool) → (if k && b then value p else value q) ≡ apply Zip (ty ∷ ty ∷ bool Nullable ∷ []) ty (value p ∷ value q ∷ value (if k then boolean b else null) ∷ [])
    by_mask p q true true = refl
    by_mask p q true false = refl
    by_mask p q false b = refl

module _ (n : ℕ) (a b m : Argument) (takes : Takes Zip (a ∷ b ∷ m ∷ []) n) where
  pub zip_same : plain_type a.rows ≡ plain_type b.rows
  zip_same =
      plain_same n a b takes.sized.0 takes.sized.1.0 (zip_taken (type_of_argument a) (type_of_argument b) (type_of_argument m) (ap is_some takes.types.1)).0

  zip_typed : return_type Zip (types_of (a ∷ b ∷ m ∷ []))
      ≡ Some (with_nullability (union (nullability_in a.valid) (nullability_in b.valid)) (plain_type a.rows))
  zip_typed =
      let left = argument_nullability n a takes.sized.0 in
      let right = argument_nullability n b takes.sized.1.0 in
      let either = union (nullability_in a.valid) (nullability_in b.valid) in
      (zip_taken (type_of_argument a) (type_of_argument b) (type_of_argument m) (ap is_some takes.types.1)).1
      ∙ (λ j. Some (with_nullability (union (left j) (right j)) (type_of_argument a)))
      ∙ ap (λ t. Some (with_nullability either t)) (argument_type n a takes.sized.0)
      ∙ ap Some (set_again either (nullability_in a.valid) a.rows)

  pub zip_computed : (choice bits : BitOperand) (u : Tree) → m.rows ≡ Bits bits → ((i : ℕ) → i < n → bit_in choice i ≡ is_valid m.valid i && bit_in bits i)
      → IsSelected choice a b n u → IsCanonicalResult Zip (a ∷ b ∷ m ∷ []) n u
  zip_computed choice bits u is chosen h =
      computed_selected Zip (a ∷ b ∷ m ∷ []) choice a b n u zip_typed
      (λ i lt. ap (λ k. if k then cell_at a i else cell_at b i) (chosen i lt)
      ∙ zipped_cell (dtype u) (is_valid a.valid i) (is_valid b.valid i) (value_at a.rows i) (value_at b.rows i) (is_valid m.valid i) (bit_in bits i)
      ∙ ap (λ r. apply Zip (types_of (a ∷ b ∷ m ∷ [])) (dtype u) (cell_at a i ∷ cell_at b i ∷ null_unless (is_valid m.valid i) (value (value_at r i)) ∷ [])) (sym is))
      h

-- a valid row isn't null
filled_cell : (ty : DataType) (k w : Bool) (x y : Value) → (k ≡ true → is_null x ≡ false)
    → (if k then value x else null_unless w (value y)) ≡ apply FillNull (ty ∷ ty ∷ []) ty (null_unless k (value x) ∷ null_unless w (value y) ∷ [])
filled_cell ty k w x y h =
    (λ j. if k then value x else stored_cell w y j)
    ∙ by_value k x (if w then y else null) h
    ∙ (λ j. apply FillNull (ty ∷ ty ∷ []) ty (null_unless k (value x) ∷ sym (stored_cell w y) j ∷ []))
  where
    by_value : (k : Bool) (x q : Value) → (k ≡ true → is_null x ≡ false)
        → (if k then value x else value q) ≡ apply FillNull (ty ∷ ty ∷ []) ty (null_unless k (value x) ∷ value q ∷ [])
    by_value true null q h = let none = h refl in absurd (cc)
    by_value true _ q h = refl
    by_value false x q h = refl

module _ (n : ℕ) (a b : Argument) (takes : Takes FillNull (a ∷ b ∷ []) n) where
  same_types : same_but_nullability (type_of_argument a) (type_of_argument b) ≡ true
  same_types = fill_taken (type_of_argument a) (type_of_argument b) (ap is_some takes.types.1)

  pub fill_same : plain_type a.rows ≡ plain_type b.rows
  fill_same = plain_same n a b takes.sized.0 takes.sized.1.0 same_types

  fill_typed : return_type FillNull (types_of (a ∷ b ∷ [])) ≡ Some (with_nullability (nullability_in b.valid) (plain_type a.rows))
  fill_typed =
      ap (λ t. if t then Some (type_of_argument b) else None) same_types
      ∙ ap Some (argument_type n b takes.sized.1.0 ∙ ap (with_nullability (nullability_in b.valid)) (sym fill_same))

  pub fill_computed : (choice : BitOperand) (u : Tree) → ((i : ℕ) → bit_in choice i ≡ is_valid a.valid i)
      → IsSelected choice (record { rows = a.rows; valid = rows_valid.All NonNullable }) b n u → IsCanonicalResult FillNull (a ∷ b ∷ []) n u
  fill_computed choice u chosen h =
      computed_selected FillNull (a ∷ b ∷ []) choice (record { rows = a.rows; valid = rows_valid.All NonNullable }) b n u fill_typed
      (λ i lt. ap (λ k. if k then value (value_at a.rows i) else cell_at b i) (chosen i)
      ∙ filled_cell (dtype u) (is_valid a.valid i) (is_valid b.valid i) (value_at a.rows i) (value_at b.rows i)
      (valid_value a.rows a.valid n i takes.sized.0.2 lt))
      h

-- The rows of columns, as the arguments of a call show them.
use Rattle.std.proofs.Common.{◌≡◌, ◌⊎◌, inl, inr, ℕ, ◌<◌, List, [], ◌∷◌, map, get_or, true, Some, refl, sym, ◌∙◌, ap, subst}
use Rattle.std.specs.Cmp.{unsigned_Decides, first_so, second_so}
use Rattle.std.specs.List.{AllZip, AllByRecursion}
use Rattle.vx_value.specs.Types.{DataType}
use Rattle.vx_value.specs.Typed.{Typed}
use Rattle.vx_value.specs.Cell.{Cell, value, fault}
use Rattle.vx_fn.specs.ReturnTypes.{return_type}
use Rattle.vx_fn.specs.declared.function.ScalarFnRef.{ScalarFnRef}
use Rattle.vx_tree.specs.Tree.{Tree, filled_slots, dtype, len, all_long, types_in}
use Rattle.vx_tree.specs.Cells.{rows, row_at, slots_rows}
use Rattle.vx_tree.specs.Canonicals.{columnar_tree}
use Rattle.vx_tree.specs.Calls.{all_of_len}
use Rattle.vx_tree.specs.declared.canonical.columnar.Columnar.{Columnar}
use Rattle.vx_tree.proofs.CallsLemmas.{filled_long, filled_types}
use Rattle.vx_tree.proofs.RefusalsLemmas.{long_types, types_back}
use Rattle.vx_column.specs.Applied.{IsCall, Repeats}
use Rattle.std.proofs.lemmas.Option.{get_or_from_slice_get}
use Rattle.vx_value.specs.Values.{Value}
use Rattle.vx_value.specs.declared.error.VortexError.{VortexError}
use Rattle.vx_value.specs.declared.error.VortexError.TheVariants.{OutOfMemory, Fault}
use Rattle.vx_fn.specs.Apply.{on_values}
use Rattle.vx_column.proofs.CellsLemmas.{later_fault}
use Rattle.vx_column.specs.Arguments.{AnyUnread, IsArgument, IsSized, type_of_argument, cell_at, types_of, row_of, types_of_scalars, cells_of_scalars}
use Rattle.vx_column.specs.declared.rows.argument.Argument.{Argument}
use Rattle.std.proofs.lemmas.List.{get_or-replicate}

-- what is known of a call
pub call_lengths : (f : ScalarFnRef) (ts : List Tree) (n : ℕ) → IsCall f ts n → all_of_len n ts ≡ true
call_lengths f ts n h = sym (filled_long n ts) ∙ ap (all_long n) h.1.1 ∙ long_types n h.1.0

pub call_typed : (f : ScalarFnRef) (ts : List Tree) (n : ℕ) (call : IsCall f ts n) → return_type f (map dtype ts) ≡ Some call.0
call_typed f ts n h =
    ap (return_type f) (sym (filled_types ts) ∙ ap types_in h.1.1 ∙ types_back n h.1.0) ∙ h.1.2

-- the n rows of the trees are these, of these types
pub record AreRows (ts : List Tree) (n : ℕ) (tys : List DataType) (row : ℕ → List Cell) : Type 0 where
  pub types : map dtype ts ≡ tys
  pub cells : (i : ℕ) → i < n → row_at (slots_rows (filled_slots ts)) i ≡ row i

-- trees that show what stands beside them
module _ {A : Type 0} (type : A → DataType) (cell : A → ℕ → Cell) (R : Columnar → A → Type 0)
    (typed : (c : Columnar) (a : A) → R c a → dtype (columnar_tree c) ≡ type a)
    (shown : (c : Columnar) (a : A) → R c a → (i : ℕ) → i < len (columnar_tree c) → get_or (rows (columnar_tree c)) i fault ≡ cell a i) where
  all_types : (xs : List Columnar) (ys : List A) → AllZip R xs ys → map dtype (map columnar_tree xs) ≡ map type ys
  all_types [] [] h = refl
  all_types [] (y ∷ ys) h = absurd h
  all_types (x ∷ xs) [] h = absurd h
  all_types (x ∷ xs) (y ∷ ys) h = λ j. typed x y h.0 j ∷ all_types xs ys h.1 j

  all_cells : (n i : ℕ) (xs : List Columnar) (ys : List A) → AllZip R xs ys → all_of_len n (map columnar_tree xs) ≡ true → i < n →
      row_at (slots_rows (filled_slots (map columnar_tree xs))) i ≡ map (λ a. cell a i) ys
  all_cells n i [] [] h l lt = refl
  all_cells n i [] (y ∷ ys) h l lt = absurd h
  all_cells n i (x ∷ xs) [] h l lt = absurd h
  all_cells n i (x ∷ xs) (y ∷ ys) h l lt =
      let long : len (columnar_tree x) ≡ n = (unsigned_Decides (len (columnar_tree x)) n).0 (first_so _ _ l) in
      λ j. shown x y h.0 i (subst (λ m. i < m) (sym long) lt) j ∷ all_cells n i xs ys h.1 (second_so _ _ l) lt j

  are_rows : (f : ScalarFnRef) (n : ℕ) (xs : List Columnar) (ys : List A) → IsCall f (map columnar_tree xs) n → AllZip R xs ys →
      AreRows (map columnar_tree xs) n (map type ys) (λ i. map (λ a. cell a i) ys)
  are_rows f n xs ys call h = record {
    types = all_types xs ys h;
    cells = λ i lt. all_cells n i xs ys h (call_lengths f (map columnar_tree xs) n call) lt;
  }

pub argument_rows : (f : ScalarFnRef) (n : ℕ) (xs : List Columnar) (args : List Argument) → IsCall f (map columnar_tree xs) n → AllZip IsArgument xs args →
    AreRows (map columnar_tree xs) n (types_of args) (row_of args)
argument_rows =
    are_rows type_of_argument cell_at IsArgument (λ c a h. h.typed) (λ c a h. h.shown)

pub scalar_rows : (f : ScalarFnRef) (n : ℕ) (xs : List Columnar) (ss : List Typed) → IsCall f (map columnar_tree xs) n → AllZip Repeats xs ss →
    AreRows (map columnar_tree xs) n (types_of_scalars ss) (λ _. cells_of_scalars ss)
scalar_rows =
    are_rows (λ s. s.of_type) (λ s i. value s.value) Repeats (λ c s h. ap dtype h)
    (λ c s h i lt. ap (λ t. get_or (rows t) i fault) h ∙ get_or-replicate (len (columnar_tree c)) i (value s.value) fault lt)

pub arguments_sized : (f : ScalarFnRef) (n : ℕ) (xs : List Columnar) (args : List Argument) → IsCall f (map columnar_tree xs) n → AllZip IsArgument xs args →
    AllByRecursion (IsSized n) args
arguments_sized f n xs args call h = by_lengths xs args h (call_lengths f (map columnar_tree xs) n call)
  where
    by_lengths : (xs : List Columnar) (args : List Argument) → AllZip IsArgument xs args → all_of_len n (map columnar_tree xs) ≡ true
        → AllByRecursion (IsSized n) args
    by_lengths [] [] h l = tt
    by_lengths [] (a ∷ args) h l = absurd h
    by_lengths (x ∷ xs) [] h l = absurd h
    by_lengths (x ∷ xs) (a ∷ args) h l =
        (subst (λ m. IsSized m a) ((unsigned_Decides (len (columnar_tree x)) n).0 (first_so _ _ l)) h.0.sized, by_lengths xs args h.1 (second_so _ _ l))

-- a fault in a row of an argument is one in that row of each function
pub unread_row : (n : ℕ) (xs : List Columnar) (e : VortexError) → all_of_len n (map columnar_tree xs) ≡ true → AnyUnread xs e →
    (e ≡ OutOfMemory) ⊎ ((e ≡ Fault) × (i : ℕ) × (i < n)
    × ((g : List Value → Cell) → on_values g (row_at (slots_rows (filled_slots (map columnar_tree xs))) i) ≡ fault))
unread_row n [] e l h = inl h
unread_row n (x ∷ xs) e l (inl (inl m)) = inl m
unread_row n (x ∷ xs) e l (inl (inr h)) =
    let long : len (columnar_tree x) ≡ n = (unsigned_Decides (len (columnar_tree x)) n).0 (first_so _ _ l) in
    inr (
      h.0,
      h.1,
      subst (λ m. h.1 < m) long h.2,
      λ g. ap (λ c. on_values g (c ∷ row_at (slots_rows (filled_slots (map columnar_tree xs))) h.1))
          (get_or_from_slice_get (rows (columnar_tree x)) h.1 fault fault h.3),
    )
unread_row n (x ∷ xs) e l (inr h) =
    elim (unread_row n xs e (second_so _ _ l) h) [
      | inl m ↦ inl m
      | inr k ↦
          inr (
            k.0,
            k.1,
            k.2,
            λ g. later_fault g (get_or (rows (columnar_tree x)) k.1 fault) (row_at (slots_rows (filled_slots (map columnar_tree xs))) k.1) k.3,
          )
    ]

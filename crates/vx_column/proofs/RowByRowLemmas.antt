-- A function applied row by row.
use Rattle.std.proofs.Common.{◌≡◌, ◌⊎◌, inl, inr, ℕ, zero, suc, ◌<◌, ◌≤◌, ◌^◌, ◌+◌, List, [], ◌∷◌, length, map, get_or, true, Some, refl, sym, ap, subst, ◌∙◌, arith}
use Rattle.std.specs.Prelude.{slice_get, slice_index_or, is_some, IsSome}
use Rattle.std.specs.List.{AllZip}
use Rattle.std.specs.Cmp.{unsigned_Decides, first_so, second_so}
use Rattle.std.proofs.lemmas.Option.{get_or_from_slice_get}
use Rattle.vx_value.specs.Types.{DataType}
use Rattle.vx_value.specs.Storage.{is_nested}
use Rattle.vx_value.specs.Typed.{Typed}
use Rattle.vx_value.specs.Values.{Value}
use Rattle.vx_value.specs.Cell.{Cell, value, fault}
use Rattle.vx_value.specs.declared.error.VortexError.{VortexError}
use Rattle.vx_value.specs.declared.error.VortexError.TheVariants.{OutOfMemory, Fault, OutOfBounds}
use Rattle.vx_fn.specs.Apply.{apply, on_values, value_of}
use Rattle.vx_fn.specs.ReturnTypes.{return_type}
use Rattle.vx_fn.specs.declared.function.ScalarFnRef.{ScalarFnRef}
use Rattle.vx_tree.specs.Tree.{Tree, dtype, len}
use Rattle.vx_tree.specs.Cells.{rows, HasNoFault}
use Rattle.vx_tree.specs.Canonicals.{columnar_tree}
use Rattle.vx_tree.specs.Calls.{all_of_len}
use Rattle.vx_tree.specs.declared.canonical.columnar.Columnar.{Columnar}
use Rattle.vx_mask.proofs.Lists.{same_below}
use Rattle.vx_column.specs.Applied.{IsCall, row_in, IsAppliedRow, IsUnappliedRow, IsAppliedEach, IsUnapplied}
use Rattle.vx_column.specs.Arguments.{types_of_scalars, cells_of_scalars}
use Rattle.vx_column.specs.Computed.{IsResult, cells_of}
use Rattle.vx_column.specs.LookedUp.{IsCanonicalOf}
use Rattle.vx_column.specs.Read.{IsRow, IsUnreadRow}
use Rattle.vx_column.proofs.AppliedLemmas.{unapplied, fault_at_row}
use Rattle.vx_column.proofs.CallsLemmas.{AreRows, call_typed, call_lengths}
use Rattle.vx_column.proofs.CellsLemmas.{later_fault}

-- ---- whole columns

-- trees by their own rows
pub own_rows : (ts : List Tree) (n : ℕ) → AreRows ts n (map dtype ts) (row_in ts)
own_rows ts n = record { types = refl; cells = λ i lt. refl }

-- a result of the rows that they show is one of their rows
pub result_shown : {f : ScalarFnRef} {ts : List Tree} {n : ℕ} {tys : List DataType} {row : ℕ → List Cell} {u : Tree} → AreRows ts n tys row
    → IsResult f tys row n u → IsResult f (map dtype ts) (row_in ts) n u
result_shown {f = f} {ts = ts} {n = n} {tys = tys} {row = row} {u = u} same h = record {
  typed = ap (return_type f) same.types ∙ h.typed;
  counted = h.counted;
  shown = h.shown ∙ same_below n _ _ (λ i lt j. apply f (sym same.types j) (dtype u) (sym (same.cells i lt) j));
  clean = h.clean;
}

-- a column of what f gives on each row
pub each_built : (f : ScalarFnRef) (ts : List Tree) (n : ℕ) (ty : DataType) (u : Tree) → return_type f (map dtype ts) ≡ Some ty
    → IsCanonicalOf ty n (cells_of f (map dtype ts) ty (row_in ts) n) u → IsAppliedEach f ts n u
each_built f ts n ty u typed h = record {
  result = record {
    typed = typed ∙ ap Some (sym h.typed);
    counted = h.counted;
    shown = h.shown ∙ ap (λ t. cells_of f (map dtype ts) t (row_in ts) n) (sym h.typed);
    clean = h.clean;
  };
  canonical = h.canonical;
  told = λ nested. subst HasNoFault (sym h.shown) (h.told (ap is_nested (sym h.typed) ∙ nested));
  formed = h.formed;
}

-- a row that has no value
pub row_missed : (f : ScalarFnRef) (ts : List Tree) (n i : ℕ) (e : VortexError) → i < n → IsUnappliedRow f ts i e → IsUnapplied f ts n e
row_missed f ts n i e lt (inl m) = inl m
row_missed f ts n i e lt (inr h) = unapplied f (own_rows ts n) e (inr (h.0, fault_at_row f (map dtype ts) (row_in ts) n i lt h.1))

-- its type is the column's
pub row_typed : (f : ScalarFnRef) (ts : List Tree) (i : ℕ) (s : Typed) (ty : DataType) → return_type f (map dtype ts) ≡ Some ty → IsAppliedRow f ts i s
    → s.of_type ≡ ty
row_typed f ts i s ty typed h = let both : Some s.of_type ≡ Some ty = sym h.0 ∙ typed in cc (both)

-- ---- a row of several columns

-- the scalar is row i of the column
abbrev pub IsReadFrom : ℕ → Columnar → Typed → Type 0
IsReadFrom i c s = IsRow (columnar_tree c) i s

read_types : (i : ℕ) (xs : List Columnar) (ss : List Typed) → AllZip (IsReadFrom i) xs ss → map dtype (map columnar_tree xs) ≡ types_of_scalars ss
read_types i [] [] h = refl
read_types i [] (s ∷ ss) h = absurd h
read_types i (x ∷ xs) [] h = absurd h
read_types i (x ∷ xs) (s ∷ ss) h = λ j. sym h.0.1 j ∷ read_types i xs ss h.1 j

read_cells : (i : ℕ) (xs : List Columnar) (ss : List Typed) → AllZip (IsReadFrom i) xs ss → row_in (map columnar_tree xs) i ≡ cells_of_scalars ss
read_cells i [] [] h = refl
read_cells i [] (s ∷ ss) h = absurd h
read_cells i (x ∷ xs) [] h = absurd h
read_cells i (x ∷ xs) (s ∷ ss) h = λ j. get_or_from_slice_get (rows (columnar_tree x)) i (value s.value) fault h.0.0 j ∷ read_cells i xs ss h.1 j

column_long : (n : ℕ) (xs : List Columnar) (k : ℕ) (c : Columnar) → all_of_len n (map columnar_tree xs) ≡ true → k < length xs → c ≡ get_or xs k c
    → len (columnar_tree c) ≡ n
column_long n [] k c h lt e = absurd (omega arith)
column_long n (x ∷ xs) zero c h lt e = ap (λ y. len (columnar_tree y)) e ∙ (unsigned_Decides (len (columnar_tree x)) n).0 (first_so _ _ h)
column_long n (x ∷ xs) (suc k) c h lt e = column_long n xs k c (second_so _ _ h) (omega arith) e

-- a fault in one of them
column_fault : (i : ℕ) (xs : List Columnar) (k : ℕ) (c : Columnar) (g : List Value → Cell) → k < length xs → c ≡ get_or xs k c
    → slice_get (rows (columnar_tree c)) i ≡ Some fault → on_values g (row_in (map columnar_tree xs) i) ≡ fault
column_fault i [] k c g lt e h = absurd (omega arith)
column_fault i (x ∷ xs) zero c g lt e h =
    ap (λ y. on_values g (y ∷ row_in (map columnar_tree xs) i))
    (get_or_from_slice_get (rows (columnar_tree x)) i fault fault (ap (λ y. slice_get (rows (columnar_tree y)) i) (sym e) ∙ h))
column_fault i (x ∷ xs) (suc k) c g lt e h =
    later_fault g (slice_index_or (rows (columnar_tree x)) i fault) (row_in (map columnar_tree xs) i) (λ g. column_fault i xs k c g (omega arith) e h)

module _ (f : ScalarFnRef) (xs : List Columnar) (i : ℕ) (within : (n : ℕ) × (i < n) × IsCall f (map columnar_tree xs) n) where
  -- one that can't be read
  pub column_unread : (k : ℕ) (c : Columnar) (t : Tree) (e : VortexError) → k < length xs → c ≡ get_or xs k c → t ≡ columnar_tree c
      → ((e ≡ OutOfBounds i i (len t)) × (len t ≤ i)) ⊎ IsUnreadRow t i e → IsUnappliedRow f (map columnar_tree xs) i e
  column_unread k c t e lt there is (inl h) =
      let long : len t ≡ within.0 = ap len is ∙ column_long within.0 xs k c (call_lengths f (map columnar_tree xs) within.0 within.2) lt there in
      let past = h.1 in
      let short = within.1 in
      absurd (omega (arith, long, past, short))
  column_unread k c t e lt there is (inr (inl m)) = inl m
  column_unread k c t e lt there is (inr (inr h)) =
      inr (
        h.0,
        λ ty typed. column_fault i xs k c (value_of f (map dtype (map columnar_tree xs)) ty) lt there
            (ap (λ u. slice_get (rows u) i) (sym is) ∙ h.1),
      )

  -- once all are read
  module _ (ss : List Typed) (read : AllZip (IsReadFrom i) xs ss) where
    pub row_taken : IsSome (return_type f (types_of_scalars ss))
    row_taken = ap is_some (ap (return_type f) (sym (read_types i xs ss read)) ∙ call_typed f (map columnar_tree xs) within.0 within.2)

    same_apply : (ty : DataType) → apply f (map dtype (map columnar_tree xs)) ty (row_in (map columnar_tree xs) i)
        ≡ apply f (types_of_scalars ss) ty (cells_of_scalars ss)
    same_apply ty = λ j. apply f (read_types i xs ss read j) ty (read_cells i xs ss read j)

    pub row_applied : (s : Typed) → return_type f (types_of_scalars ss) ≡ Some s.of_type → apply f (types_of_scalars ss) s.of_type (cells_of_scalars ss) ≡ value s.value
        → IsAppliedRow f (map columnar_tree xs) i s
    row_applied s typed given = (ap (return_type f) (read_types i xs ss read) ∙ typed, same_apply s.of_type ∙ given)

    pub row_unapplied : (e : VortexError) → (e ≡ OutOfMemory) ⊎ ((e ≡ Fault) × ((ty : DataType) → return_type f (types_of_scalars ss) ≡ Some ty
        → apply f (types_of_scalars ss) ty (cells_of_scalars ss) ≡ fault)) → IsUnappliedRow f (map columnar_tree xs) i e
    row_unapplied e (inl m) = inl m
    row_unapplied e (inr h) =
        inr (h.0, λ ty typed. same_apply ty ∙ h.1 ty (ap (return_type f) (sym (read_types i xs ss read)) ∙ typed))

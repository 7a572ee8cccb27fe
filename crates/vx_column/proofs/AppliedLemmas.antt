-- A function of columns, from what it gives on their rows.
use Rattle.std.proofs.Common.{◌≡◌, inl, inr, ℕ, zero, suc, ◌<◌, ◌+◌, List, [], ◌∷◌, length, map, get_or, replicate, Bool, true, false}
use Rattle.std.proofs.Common.{◌&&◌}
use Rattle.std.proofs.Common.{Some}
use Rattle.std.proofs.Common.{refl}
use Rattle.std.proofs.Common.{sym}
use Rattle.std.proofs.Common.{◌∙◌}
use Rattle.std.proofs.Common.{ap}
use Rattle.std.proofs.Common.{subst}
use Rattle.std.proofs.Common.{arith}
use Rattle.std.specs.Prelude.{is_some, IsSome, nat_lt}
use Rattle.std.specs.List.{AllZip, range_with_len}
use Rattle.std.proofs.lemmas.Bool.Decides.{nat_tests}
use Rattle.vx_value.specs.Types.{DataType}
use Rattle.vx_value.specs.Typed.{Typed}
use Rattle.vx_value.specs.Cell.{Cell, value, fault}
use Rattle.vx_value.specs.declared.error.VortexError.{VortexError}
use Rattle.vx_fn.specs.Apply.{apply, value_of}
use Rattle.vx_fn.specs.ReturnTypes.{return_type}
use Rattle.vx_fn.specs.declared.function.ScalarFnRef.{ScalarFnRef}
use Rattle.vx_tree.specs.Tree.{Tree, filled_slots, dtype, datum, is_constant, constant_of, call_of, types_in}
use Rattle.vx_tree.specs.Well.{shapes}
use Rattle.vx_tree.proofs.CallsLemmas.{filled_types}
use Rattle.vx_tree.specs.Cells.{rows, row_at, slots_rows, HasNoFault}
use Rattle.vx_tree.specs.Canonicals.{columnar_tree}
use Rattle.vx_tree.specs.declared.canonical.columnar.Columnar.{Columnar}
use Rattle.vx_column.specs.Applied.{IsCall, IsApplied, IsUnapplied, all_constant, gives_constant, Repeats}
use Rattle.vx_column.specs.Computed.{IsTaken, IsResult, IsNoResult, cells_of}
use Rattle.vx_column.specs.Formed.{IsFormed}
use Rattle.vx_column.proofs.CallsLemmas.{AreRows, call_typed, call_lengths, unread_row}
use Rattle.vx_column.proofs.ComputedLemmas.{fault_among}
use Rattle.vx_column.specs.Arguments.{AnyUnread}
use Rattle.vx_mask.proofs.Lists.{same_below}
use Rattle.vx_column.proofs.KeepsLemmas.{same_exactly, whole_clean}

pub taken : (f : ScalarFnRef) {ts : List Tree} {n : ℕ} {tys : List DataType} {row : ℕ → List Cell} → AreRows ts n tys row → IsCall f ts n
    → IsSome (return_type f tys)
taken f {ts = ts} {n = n} same call = ap is_some (ap (return_type f) (sym same.types) ∙ call_typed f ts n call)

pub call_taken : (f : ScalarFnRef) {ts : List Tree} {n : ℕ} {tys : List DataType} {row : ℕ → List Cell} → AreRows ts n tys row → IsCall f ts n → IsTaken f tys
call_taken f {ts = ts} {n = n} same call = (call.0, ap (return_type f) (sym same.types) ∙ call_typed f ts n call)

rows_are : (f : ScalarFnRef) (ts : List Tree) (n : ℕ) (tys : List DataType) (row : ℕ → List Cell) → AreRows ts n tys row → (ty : DataType)
    → rows (call_of f ty n ts) ≡ cells_of f tys ty row n
rows_are f ts n tys row same ty = same_below n _ _ (λ i h j. apply f ((filled_types ts ∙ same.types) j) ty (same.cells i h j))

pub applied : {f : ScalarFnRef} {ts : List Tree} {n : ℕ} {tys : List DataType} {row : ℕ → List Cell} {u : Tree} →
    AreRows ts n tys row → IsResult f tys row n u → HasNoFault (rows u) → is_constant (datum u) ≡ gives_constant ts n → IsFormed u
    → IsApplied f ts n u
applied {f = f} {ts = ts} {n = n} {tys = tys} {row = row} {u = u} same h none kept formed = record {
  typed = ap (return_type f) same.types ∙ h.typed;
  exactly = same_exactly (call_of f (dtype u) n ts) u refl (sym h.counted) (rows_are f ts n tys row same (dtype u) ∙ sym h.shown) h.clean;
  clean = whole_clean u h.clean none;
  constant_kept = kept;
  formed = formed;
}

pub unapplied : (f : ScalarFnRef) {ts : List Tree} {n : ℕ} {tys : List DataType} {row : ℕ → List Cell} → AreRows ts n tys row → (e : VortexError)
    → IsNoResult f tys row n e → IsUnapplied f ts n e
unapplied f same e (inl m) = inl m
unapplied f {ts = ts} {n = n} {tys = tys} {row = row} same e (inr h) =
    inr (h.0, λ ty typed. λ k. h.1 ty (ap (return_type f) (sym same.types) ∙ typed) (subst HasNoFault (rows_are f ts n tys row same ty) k))

-- a row of an argument that can't be read
pub unread : (f : ScalarFnRef) (xs : List Columnar) (n : ℕ) (e : VortexError) → IsCall f (map columnar_tree xs) n → AnyUnread xs e
    → IsUnapplied f (map columnar_tree xs) n e
unread f xs n e call h =
    elim (unread_row n xs e (call_lengths f (map columnar_tree xs) n call) h) [
      | inl m ↦ inl m
      | inr k ↦
          let ss = filled_slots (map columnar_tree xs) in
          let tys = types_in (shapes ss) in
          inr (k.0, λ ty typed. fault_among (λ i. apply f tys ty (row_at (slots_rows ss) i)) n k.1 k.2 (k.3 (value_of f tys ty)))
    ]

-- a fault in row i
pub fault_at_row : (f : ScalarFnRef) (tys : List DataType) (row : ℕ → List Cell) (n i : ℕ) → i < n →
    ((ty : DataType) → return_type f tys ≡ Some ty → apply f tys ty (row i) ≡ fault) → (ty : DataType) → return_type f tys ≡ Some ty
    → ¬ (HasNoFault (cells_of f tys ty row n))
fault_at_row f tys row n i lt h ty typed = fault_among (λ j. apply f tys ty (row j)) n i lt (h ty typed)

-- a constant has the cells of f on the values
pub constant_result : (f : ScalarFnRef) (tys : List DataType) (cells : List Cell) (n : ℕ) (s : Typed) (u : Tree) →
    return_type f tys ≡ Some s.of_type → apply f tys s.of_type cells ≡ value s.value → u ≡ constant_of s n → IsResult f tys (λ _. cells) n u
constant_result f tys cells n s u typed given new =
    subst (λ x. IsResult f tys (λ _. cells) n x) (sym new) (record {
      typed = typed;
      counted = refl;
      shown = copies 0 n (value s.value) ∙ ap (λ a. map (λ i. a) (range_with_len 0 n)) (sym given);
      clean = tt;
    })
  where
    copies : (m n : ℕ) (a : Cell) → replicate n a ≡ map (λ i. a) (range_with_len m n)
    copies m zero a = refl
    copies m (suc n) a = ap (λ l. a ∷ l) (copies (m + 1) n a)

-- which column is a constant

pub all_repeat : (n : ℕ) (xs : List Columnar) (ss : List Typed) → 0 < n → AllZip Repeats xs ss → gives_constant (map columnar_tree xs) n ≡ true
all_repeat n xs ss some h =
    let above : nat_lt 0 n ≡ true = grind (arith, nat_tests) in
    ap (λ b. b && all_constant (map columnar_tree xs)) above ∙ each xs ss h
  where
    each : (xs : List Columnar) (ss : List Typed) → AllZip Repeats xs ss → all_constant (map columnar_tree xs) ≡ true
    each [] [] h = refl
    each [] (s ∷ ss) h = absurd h
    each (x ∷ xs) [] h = absurd h
    each (x ∷ xs) (s ∷ ss) h = ap (λ t. is_constant (datum t) && all_constant (map columnar_tree xs)) h.0 ∙ each xs ss h.1

neither : (a b : Bool) → b ≡ false → (a && b) ≡ false
neither true b h = h
neither false b h = refl

pub not_all_repeat : (n : ℕ) (xs : List Columnar) (i : ℕ) (d : Columnar) → i < length xs → is_constant (datum (columnar_tree (get_or xs i d))) ≡ false
    → gives_constant (map columnar_tree xs) n ≡ false
not_all_repeat n xs i d lt h = neither (nat_lt 0 n) _ (one xs i d lt h)
  where
    one : (xs : List Columnar) (i : ℕ) (d : Columnar) → i < length xs → is_constant (datum (columnar_tree (get_or xs i d))) ≡ false
        → all_constant (map columnar_tree xs) ≡ false
    one [] i d lt h = absurd (omega arith)
    one (x ∷ xs) zero d lt h = ap (λ b. b && all_constant (map columnar_tree xs)) h
    one (x ∷ xs) (suc i) d lt h = neither (is_constant (datum (columnar_tree x))) _ (one xs i d (omega arith) h)

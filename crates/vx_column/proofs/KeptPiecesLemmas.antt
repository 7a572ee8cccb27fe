-- What a builder of a nested type keeps: more scalars, and a column.
use Rattle.std.proofs.Common.{◌≡◌, ℕ, ◌+◌, ◌<◌, ◌^◌, List, [], ◌∷◌, ◌++◌, length, map, replicate, true, inl, inr, refl, sym, ap, subst, ◌∙◌, arith}
use Rattle.std.specs.Prelude.{sum}
use Rattle.std.specs.List.{All, list_all}
use Rattle.std.proofs.lemmas.Bool.{and_from}
use Rattle.std.proofs.lemmas.List.{map-append, append_assoc, length-append, length-map, length-replicate}
use Rattle.std.proofs.lemmas.List.Elements.{All-nil, All-push, All-map, All-append, All-replicate}
use Rattle.std.proofs.lemmas.List.Folds.{list_all-append}
use Rattle.vx_value.specs.Types.{DataType, nullability_of}
use Rattle.vx_value.specs.Typed.{Typed}
use Rattle.vx_value.specs.Values.{Value, null}
use Rattle.vx_value.specs.IsOf.{is_of}
use Rattle.vx_value.specs.Storage.{is_nested}
use Rattle.vx_value.specs.Supported.{has_columns}
use Rattle.vx_value.specs.declared.dtype.Nullability.TheVariants.{Nullable}
use Rattle.vx_value.specs.declared.error.VortexError.{VortexError}
use Rattle.vx_value.specs.declared.error.VortexError.TheVariants.{OutOfMemory}
use Rattle.vx_tree.specs.Cells.{HasNoFault}
use Rattle.vx_tree.specs.Keeps.{KeepsExactly}
use Rattle.vx_tree.specs.Tree.{Tree, dtype, len}
use Rattle.vx_tree.specs.Well.{IsWell}
use Rattle.vx_tree.proofs.NativesLemmas.{map_copies}
use Rattle.vx_column.specs.Expanded.{expansion}
use Rattle.vx_column.specs.Grown.{GrownRows, grown, count, closed, open_piece, with_values, with_column, cells_read, IsPiece}
use Rattle.vx_column.specs.Joined.{joined}
use Rattle.vx_column.specs.KeptPieces.{pieces_kept, ArePieces}
use Rattle.vx_column.specs.Pieces.{columns_in, IsPieceOf, IsNoPiece}
use Rattle.vx_column.specs.ValueColumns.{values_of, AreOf, column_of}
use Rattle.vx_column.specs.declared.builder.join.Piece.{Piece}
use Rattle.vx_column.proofs.ExpandedLemmas.{expansion_exactly}
use Rattle.vx_column.proofs.GrowingLemmas.{null_of_type}
use Rattle.vx_column.proofs.GrownLemmas.{lens_append, closed_long, plain_grown, nested_column, grown_some}
use Rattle.vx_column.proofs.RepeatedLemmas.{all_copies}
use Rattle.vx_column.proofs.ValueColumnsLemmas.{column_typed, column_told}

pieces_fit : (ty : DataType) (ps : List Piece) → All (IsPieceOf ty) ps → All (IsPiece ty) (columns_in ps)
pieces_fit ty ps h = All-map (IsPiece ty) (λ p. p.column) ps (λ k d lt. IsPieceOf.column (h k d lt))

module _ (ty : DataType) (n : ℕ) (ps : List Piece) (ss : List Typed) (kept : ArePieces ty n ps ss) where
  -- with more scalars
  pub scalars_kept : (more : List Typed) (m : ℕ) → AreOf ty more → list_all (is_of ty) (values_of more) ≡ true → m ≡ n + length more → m < 2 ^ 64
      → ArePieces ty m ps (ss ++ more)
  scalars_kept more m typed all counted fits =
      let value : Typed → Value = λ s. s.value in
      let long : m ≡ count (pieces_kept ty ps (ss ++ more)) =
      omega (arith, counted, kept.counted, length-map (ss ++ more) value, length-append ss more, length-map ss value) in
      record {
        grown = record {
          columns = kept.grown.columns;
          typed = ap (list_all (is_of ty)) (map-append value ss more) ∙ list_all-append (is_of ty) (values_of ss) (values_of more)
              ∙ and_from _ _ kept.grown.typed all;
          pieces = kept.grown.pieces;
          nested = inl kept.nested;
          fits = omega (arith, long, fits);
        };
        nested = kept.nested;
        pieces = kept.pieces;
        scalars = All-append (λ s. s.of_type ≡ ty) ss more kept.scalars typed;
        counted = long;
      }

  -- with nulls
  pub nulls_kept : (k : ℕ) → nullability_of ty ≡ Nullable → n + k < 2 ^ 64 → ArePieces ty (n + k) ps (ss ++ replicate k (record { of_type = ty; value = null }))
  nulls_kept k nullable fits =
      let x : Typed = record { of_type = ty; value = null } in
      let value : Typed → Value = λ s. s.value in
      let all = ap (list_all (is_of ty)) (map_copies value k x) ∙ all_copies (is_of ty) k null (null_of_type ty nullable) in
      scalars_kept (replicate k x) (n + k) (All-replicate (λ s. s.of_type ≡ ty) k x refl) all (omega (arith, length-replicate k x)) fits

  -- with the column of the scalars, if there are any, and that of t
  module _ (t u : Tree) (is : u ≡ expansion t) (well : IsWell t) (same : dtype t ≡ ty) (last qs : List Piece) (p : Piece)
      (of_last : columns_in last ≡ open_piece ty (values_of ss)) (given : p.column ≡ u) (pushed : qs ≡ last ++ p ∷ []) where
    abbrev before : GrownRows
    before = pieces_kept ty ps ss

    known : KeepsExactly t u
    known = subst (KeepsExactly t) (sym is) (expansion_exactly t well (ap has_columns same ∙ kept.grown.columns))

    columns_are : columns_in (ps ++ qs) ≡ closed before ++ u ∷ []
    columns_are =
        let more : columns_in qs ≡ open_piece ty (values_of ss) ++ u ∷ [] =
        ap columns_in pushed ∙ map-append (λ x. x.column) last (p ∷ []) ∙ (λ i. of_last i ++ given i ∷ []) in
        map-append (λ x. x.column) ps qs ∙ ap (λ ts. columns_in ps ++ ts) more ∙ sym (append_assoc (columns_in ps) (open_piece ty (values_of ss)) (u ∷ []))

    pub column_kept : (m : ℕ) → All (IsPieceOf ty) last → IsPieceOf (dtype u) p → m ≡ n + len t → m < 2 ^ 64 → ArePieces ty m (ps ++ qs) []
    column_kept m others piece counted fits =
        let one : IsPieceOf ty p = subst (λ x. IsPieceOf x p) (sym known.keeps.same_type ∙ same) piece in
        let more : All (IsPieceOf ty) qs = subst (All (IsPieceOf ty)) (sym pushed) (All-push (IsPieceOf ty) last p others one) in
        let pieces = All-append (IsPieceOf ty) ps qs kept.pieces more in
        let long : m ≡ count (pieces_kept ty (ps ++ qs) []) =
        omega (
          arith,
          counted,
          kept.counted,
          known.keeps.same_len,
          ap (λ ts. sum (map len ts)) columns_are,
          lens_append (closed before) (u ∷ []),
          closed_long before,
        ) in
        record {
          grown = record {
            columns = kept.grown.columns;
            typed = refl;
            pieces = pieces_fit ty (ps ++ qs) pieces;
            nested = inl kept.nested;
            fits = omega (arith, long, fits);
          };
          nested = kept.nested;
          pieces = pieces;
          scalars = All-nil (λ s. s.of_type ≡ ty);
          counted = long;
        }

    pub column_seen : (r : GrownRows) → pieces_kept ty ps ss ≡ r → pieces_kept ty (ps ++ qs) [] ≡ with_column r t
    column_seen r seen =
        ap (λ ts. record { of_type = ty; pieces = ts; values = [] }) (columns_are ∙ ap (λ x. closed before ++ x ∷ []) is)
        ∙ sym (nested_column before t kept.nested) ∙ ap (λ x. with_column x t) seen

-- what is seen of more scalars
pub scalars_seen : (ty : DataType) (ps : List Piece) (ss more : List Typed) (vs : List Value) (r : GrownRows) → values_of more ≡ vs → pieces_kept ty ps ss ≡ r
    → pieces_kept ty ps (ss ++ more) ≡ with_values r vs
scalars_seen ty ps ss more vs r are seen =
    ap (λ l. record { of_type = ty; pieces = columns_in ps; values = l }) (map-append (λ s. s.value) ss more ∙ ap (λ l. values_of ss ++ l) are)
    ∙ ap (λ x. with_values x vs) seen

pub nulls_seen : (ty : DataType) (ps : List Piece) (ss : List Typed) (k : ℕ) (r : GrownRows) → pieces_kept ty ps ss ≡ r
    → pieces_kept ty ps (ss ++ replicate k (record { of_type = ty; value = null })) ≡ with_values r (replicate k null)
nulls_seen ty ps ss k r seen =
    scalars_seen ty ps ss (replicate k (record { of_type = ty; value = null })) (replicate k null) r (map_copies (λ s. s.value) k _) seen

-- ---- the column of values is a piece

pub never_faulty : (ty : DataType) (vs : List Value) (t : Tree) (e : VortexError) → t ≡ column_of ty vs → is_nested ty ≡ true → has_columns ty ≡ true
    → IsNoPiece (dtype t) t e → e ≡ OutOfMemory
never_faulty ty vs t e is nested has (inl m) = m
never_faulty ty vs t e is nested has (inr h) =
    let typed = ap dtype is ∙ column_typed ty vs has in
    absurd (h.1 (subst (λ x. x) (λ i. HasNoFault (cells_read (sym typed i) (sym is i))) (column_told ty vs nested has)))

-- the canonical column of t is of its type
pub expansion_typed : (t u : Tree) (ty : DataType) → u ≡ expansion t → IsWell t → has_columns (dtype t) ≡ true → dtype t ≡ ty → dtype u ≡ ty
expansion_typed t u ty is well has same = ap dtype is ∙ sym (expansion_exactly t well has).keeps.same_type ∙ same

-- ---- the column

module _ (ty : DataType) (ps : List Piece) (ss : List Typed) (r : GrownRows) (seen : pieces_kept ty ps ss ≡ r) where
  -- without pieces
  pub alone_grown : length ps ≡ 0 → column_of ty (values_of ss) ≡ grown r
  alone_grown none = sym (plain_grown (pieces_kept ty ps ss) (ap columns_in (empty ps none))) ∙ ap grown seen
    where
      empty : (qs : List Piece) → length qs ≡ 0 → qs ≡ []
      empty [] e = refl
      empty (q ∷ qs) e = absurd (omega (arith, e))

  -- with them
  pub joined_grown : (last all : List Piece) → 0 < length ps → columns_in last ≡ open_piece ty (values_of ss) → all ≡ ps ++ last
      → joined ty (columns_in all) ≡ grown r
  joined_grown last all some of_last both =
      let are = ap columns_in both ∙ map-append (λ p. p.column) ps last ∙ ap (λ ts. columns_in ps ++ ts) of_last in
      ap (joined ty) are ∙ sym (grown_some (pieces_kept ty ps ss) (omega (arith, some, length-map ps (λ p. p.column)))) ∙ ap grown seen

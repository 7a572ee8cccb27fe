-- The rows that a builder keeps: their column, and a column appended to them.
use Rattle.std.proofs.Common.{◌≡◌, ◌⊎◌, inl, inr, ◌+◌, ◌<◌, ◌≤◌, Bool, true, false, List, [], ◌∷◌, ◌++◌, length, map, None, refl, sym, ap, subst, ◌∙◌, arith}
use Rattle.std.specs.Prelude.{sum, if◌then◌else◌}
use Rattle.std.specs.List.{All, list_all}
use Rattle.std.proofs.lemmas.Bool.{false≢true}
use Rattle.std.proofs.lemmas.List.{map-append, append-nil, append_assoc, length-append, length-map}
use Rattle.std.proofs.lemmas.List.Elements.{All-nil, All-cons, All-append}
use Rattle.std.proofs.lemmas.List.Sums.{sum_by-append}
use Rattle.vx_value.specs.Types as type
use Rattle.vx_value.specs.Types.{DataType, same_type, same_type_Decides}
use Rattle.vx_value.specs.Values.{Value}
use Rattle.vx_value.specs.Cell.{value}
use Rattle.vx_value.specs.IsOf.{is_of}
use Rattle.vx_value.specs.Storage.{is_nested}
use Rattle.vx_value.specs.Supported.{has_columns}
use Rattle.vx_value.specs.declared.error.VortexError.TheVariants.{InvalidArgument}
use Rattle.vx_value.specs.declared.error.ArgKind.TheVariants.{BadType}
use Rattle.vx_tree.specs.Tree.{Tree, dtype, len}
use Rattle.vx_tree.specs.Cells.{rows, HasNoFault, IsClean}
use Rattle.vx_tree.specs.Cost.{cost}
use Rattle.vx_tree.specs.Well.{IsWell}
use Rattle.vx_tree.specs.Keeps.{KeepsExactly}
use Rattle.vx_tree.proofs.CellsLemmas.{rows_counted}
use Rattle.vx_tree.proofs.ConditionsLemmas.{unless_none}
use Rattle.vx_column.specs.Built.{values_in}
use Rattle.vx_column.specs.Expanded.{expansion}
use Rattle.vx_column.specs.Grown.{GrownRows, cells_in, grown_cells, count, none_of, with_values, open_piece, closed, with_column, grown_by, grown, cells_read, IsPiece, IsGrown, type_refusal}
use Rattle.vx_column.specs.Joined.{joined}
use Rattle.vx_column.specs.ValueColumns.{column_of}
use Rattle.vx_column.proofs.BuiltLemmas.{values_back}
use Rattle.vx_column.proofs.ExpandedLemmas.{expansion_exactly}
use Rattle.vx_column.proofs.JoinedLemmas.{joined_typed, joined_long, joined_rows, joined_clean, joined_again, joined_cost}
use Rattle.vx_column.proofs.ValueColumnsLemmas.{column_typed, column_long, column_rows, column_composed, column_told, column_well, column_clean, column_cost}

-- a type that isn't refused
pub same_as : (r : GrownRows) (ty : DataType) → type_refusal r ty ≡ None → ty ≡ r.of_type
same_as r ty h = (same_type_Decides ty r.of_type).0 (unless_none (same_type ty r.of_type) (InvalidArgument BadType) h)

-- ---- the pieces

cells_append : (ts us : List Tree) → cells_in (ts ++ us) ≡ cells_in ts ++ cells_in us
cells_append [] us = refl
cells_append (t ∷ ts) us = ap (λ l. rows t ++ l) (cells_append ts us) ∙ sym (append_assoc (rows t) (cells_in ts) (cells_in us))

pub lens_append : (ts us : List Tree) → sum (map len (ts ++ us)) ≡ sum (map len ts) + sum (map len us)
lens_append ts us = ap sum (map-append len ts us) ∙ sum_by-append (λ x. x) (map len ts) (map len us)

-- that of the values after them
open_cells : (ty : DataType) (vs : List Value) → has_columns ty ≡ true → list_all (is_of ty) vs ≡ true → cells_in (open_piece ty vs) ≡ map (λ v. value v) vs
open_cells ty [] h all = refl
open_cells ty (v ∷ vs) h all = append-nil (rows (column_of ty (v ∷ vs))) ∙ column_rows ty (v ∷ vs) h all

open_long : (ty : DataType) (vs : List Value) → sum (map len (open_piece ty vs)) ≡ length vs
open_long ty [] = refl
open_long ty (v ∷ vs) = omega (arith, column_long ty (v ∷ vs))

value_piece : (ty : DataType) (vs : List Value) → is_nested ty ≡ true → has_columns ty ≡ true → list_all (is_of ty) vs ≡ true → IsPiece ty (column_of ty vs)
value_piece ty vs nested h all = record {
  typed = column_typed ty vs h;
  composed = column_composed ty vs nested h;
  well = column_well ty vs h all;
  told = column_told ty vs nested h;
}

open_pieces : (ty : DataType) (vs : List Value) → is_nested ty ≡ true → has_columns ty ≡ true → list_all (is_of ty) vs ≡ true
    → All (IsPiece ty) (open_piece ty vs)
open_pieces ty [] nested h all = All-nil (IsPiece ty)
open_pieces ty (v ∷ vs) nested h all = All-cons (IsPiece ty) _ [] (value_piece ty (v ∷ vs) nested h all) (All-nil (IsPiece ty))

open_clean : (ty : DataType) (vs : List Value) → has_columns ty ≡ true → list_all (is_of ty) vs ≡ true → All IsClean (open_piece ty vs)
open_clean ty [] h all = All-nil IsClean
open_clean ty (v ∷ vs) h all = All-cons IsClean _ [] (column_clean ty (v ∷ vs) h all) (All-nil IsClean)

-- all of them
pub closed_long : (r : GrownRows) → sum (map len (closed r)) ≡ count r
closed_long r = lens_append r.pieces (open_piece r.of_type r.values) ∙ ap (λ n. sum (map len r.pieces) + n) (open_long r.of_type r.values)

closed_cells : (r : GrownRows) → IsGrown r → cells_in (closed r) ≡ grown_cells r
closed_cells r g =
    cells_append r.pieces (open_piece r.of_type r.values) ∙ ap (λ l. cells_in r.pieces ++ l) (open_cells r.of_type r.values g.columns g.typed)

closed_pieces : (r : GrownRows) → IsGrown r → is_nested r.of_type ≡ true → All (IsPiece r.of_type) (closed r)
closed_pieces r g nested =
    All-append (IsPiece r.of_type) r.pieces (open_piece r.of_type r.values) g.pieces (open_pieces r.of_type r.values nested g.columns g.typed)

closed_some : (r : GrownRows) (p : Tree) (ps : List Tree) → r.pieces ≡ p ∷ ps → 0 < length (closed r)
closed_some r p ps e = omega (arith, length-append r.pieces (open_piece r.of_type r.values), ap length e)

-- only rows of a nested type have some
pieces_nested : (r : GrownRows) (p : Tree) (ps : List Tree) → r.pieces ≡ p ∷ ps → IsGrown r → is_nested r.of_type ≡ true
pieces_nested r p ps e g = by_case g.nested
  where
    by_case : is_nested r.of_type ≡ true ⊎ (r.pieces ≡ []) → is_nested r.of_type ≡ true
    by_case (inl h) = h
    by_case (inr h) = let none : [] ≡ p ∷ ps = sym h ∙ e in absurd (cc)

no_pieces : (r : GrownRows) → IsGrown r → is_nested r.of_type ≡ false → r.pieces ≡ []
no_pieces r g plain = by_case g.nested
  where
    by_case : is_nested r.of_type ≡ true ⊎ (r.pieces ≡ []) → r.pieces ≡ []
    by_case (inl h) = absurd (false≢true (sym plain ∙ h))
    by_case (inr h) = h

-- ---- the column

pub plain_grown : (r : GrownRows) → r.pieces ≡ [] → grown r ≡ column_of r.of_type r.values
plain_grown r e = ap (λ ps. grown_by ps r) e

pub grown_typed : (r : GrownRows) → IsGrown r → dtype (grown r) ≡ r.of_type
grown_typed r g = by_pieces r.pieces refl
  where
    by_pieces : (ps : List Tree) → r.pieces ≡ ps → dtype (grown_by ps r) ≡ r.of_type
    by_pieces [] e = column_typed r.of_type r.values g.columns
    by_pieces (p ∷ ps) e = joined_typed r.of_type (closed r) (pieces_nested r p ps e g) g.columns

pub grown_long : (r : GrownRows) → IsGrown r → len (grown r) ≡ count r
grown_long r g = by_pieces r.pieces refl
  where
    by_pieces : (ps : List Tree) → r.pieces ≡ ps → len (grown_by ps r) ≡ count r
    by_pieces [] e = omega (arith, column_long r.of_type r.values, ap (λ ts. sum (map len ts)) e)
    by_pieces (p ∷ ps) e =
        let nested = pieces_nested r p ps e g in
        joined_long r.of_type (closed r) nested g.columns (closed_pieces r g nested) ∙ closed_long r

pub grown_rows : (r : GrownRows) → IsGrown r → rows (grown r) ≡ grown_cells r
grown_rows r g = by_pieces r.pieces refl
  where
    by_pieces : (ps : List Tree) → r.pieces ≡ ps → rows (grown_by ps r) ≡ grown_cells r
    by_pieces [] e = column_rows r.of_type r.values g.columns g.typed ∙ ap (λ ts. cells_in ts ++ map (λ v. value v) r.values) (sym e)
    by_pieces (p ∷ ps) e =
        let nested = pieces_nested r p ps e g in
        joined_rows r.of_type (closed r) nested g.columns (closed_pieces r g nested) (closed_some r p ps e) ∙ closed_cells r g

pub grown_cost : (r : GrownRows) → cost (grown r) ≤ 1
grown_cost r = by_pieces r.pieces
  where
    by_pieces : (ps : List Tree) → cost (grown_by ps r) ≤ 1
    by_pieces [] = column_cost r.of_type r.values
    by_pieces (p ∷ ps) = joined_cost r.of_type (closed r)

-- ---- no rows, and more values

pub none_grown : (ty : DataType) → has_columns ty ≡ true → IsGrown (none_of ty)
none_grown ty h = record { columns = h; typed = refl; pieces = All-nil (IsPiece ty); nested = inr refl; fits = omega arith }

pub with_values_cells : (r : GrownRows) (vs : List Value) → grown_cells (with_values r vs) ≡ grown_cells r ++ map (λ v. value v) vs
with_values_cells r vs =
    ap (λ l. cells_in r.pieces ++ l) (map-append (λ v. value v) r.values vs)
    ∙ sym (append_assoc (cells_in r.pieces) (map (λ v. value v) r.values) (map (λ v. value v) vs))

pub with_values_count : (r : GrownRows) (vs : List Value) → count (with_values r vs) ≡ count r + length vs
with_values_count r vs = omega (arith, length-append r.values vs)

-- ---- the rows of a column of the type, whose cells that are read have no fault

-- they are kept as a piece, or as values
pub nested_column : (r : GrownRows) (t : Tree) → is_nested r.of_type ≡ true
    → with_column r t ≡ record { of_type = r.of_type; pieces = closed r ++ expansion t ∷ []; values = [] }
nested_column r t h =
    ap (λ b. if b then record { of_type = r.of_type; pieces = closed r ++ expansion t ∷ []; values = [] } else with_values r (values_in (rows t))) h

pub plain_column : (r : GrownRows) (t : Tree) → is_nested r.of_type ≡ false → with_column r t ≡ with_values r (values_in (rows t))
plain_column r t h =
    ap (λ b. if b then record { of_type = r.of_type; pieces = closed r ++ expansion t ∷ []; values = [] } else with_values r (values_in (rows t))) h

pub with_column_type : (r : GrownRows) (t : Tree) → (with_column r t).of_type ≡ r.of_type
with_column_type r t = by_type (is_nested r.of_type) refl
  where
    by_type : (b : Bool) → is_nested r.of_type ≡ b → (with_column r t).of_type ≡ r.of_type
    by_type true h = ap (λ x. x.of_type) (nested_column r t h)
    by_type false h = ap (λ x. x.of_type) (plain_column r t h)

-- more pieces are joined
pub grown_some : (r : GrownRows) → 0 < length r.pieces → grown r ≡ joined r.of_type (closed r)
grown_some r some = by_pieces r.pieces some
  where
    by_pieces : (ps : List Tree) → 0 < length ps → grown_by ps r ≡ joined r.of_type (closed r)
    by_pieces [] some = absurd (omega (arith, some))
    by_pieces (p ∷ ps) some = refl

-- and are clean if those before were, and the last one is
more_clean : (r : GrownRows) (u : Tree) → IsGrown r → is_nested r.of_type ≡ true → All (IsPiece r.of_type) (closed r ++ u ∷ []) → IsClean (grown r) → IsClean u
    → IsClean (joined r.of_type (closed r ++ u ∷ []))
more_clean r u g nested all clean more = by_pieces r.pieces refl clean
  where
    last : All IsClean (u ∷ [])
    last = All-cons IsClean u [] more (All-nil IsClean)

    by_pieces : (ps : List Tree) → r.pieces ≡ ps → IsClean (grown_by ps r) → IsClean (joined r.of_type (closed r ++ u ∷ []))
    by_pieces [] e c =
        let first = subst (λ ts. All IsClean (ts ++ open_piece r.of_type r.values)) (sym e) (open_clean r.of_type r.values g.columns g.typed) in
        joined_clean r.of_type (closed r ++ u ∷ []) nested g.columns all (omega (arith, length-append (closed r) (u ∷ [])))
        (All-append IsClean (closed r) (u ∷ []) first last)
    by_pieces (p ∷ ps) e c =
        let same = sym (append-nil (closed r)) in
        joined_again r.of_type (closed r) [] (u ∷ []) nested g.columns (subst (All (IsPiece r.of_type)) same (closed_pieces r g nested)) all
        (subst (λ ts. 0 < length ts) same (closed_some r p ps e)) (subst (λ ts. IsClean (joined r.of_type ts)) same c) last

-- all of its rows are read, if its type isn't nested
pub all_read : (ty : DataType) (t : Tree) → is_nested ty ≡ false → cells_read ty t ≡ rows t
all_read (type.struct fs m) t h = absurd (false≢true (sym h))
all_read (type.extension id s) t h = absurd (false≢true (sym h))
all_read _ t h = refl

module _ (r : GrownRows) (t : Tree) (g : IsGrown r) (well : IsWell t) (typed : dtype t ≡ r.of_type) (told : HasNoFault (cells_read r.of_type (expansion t)))
  where
    kept : KeepsExactly t (expansion t)
    kept = expansion_exactly t well (ap has_columns typed ∙ g.columns)

    pub with_column_cells : grown_cells (with_column r t) ≡ grown_cells r ++ rows t
    with_column_cells = by_type (is_nested r.of_type) refl
      where
        by_type : (b : Bool) → is_nested r.of_type ≡ b → grown_cells (with_column r t) ≡ grown_cells r ++ rows t
        by_type true h =
            ap grown_cells (nested_column r t h) ∙ append-nil (cells_in (closed r ++ expansion t ∷ [])) ∙ cells_append (closed r) (expansion t ∷ [])
            ∙ (λ i. closed_cells r g i ++ append-nil (rows (expansion t)) i) ∙ ap (λ l. grown_cells r ++ l) (sym kept.equal)
        by_type false h =
            let whole = subst HasNoFault (all_read r.of_type (expansion t) h ∙ sym kept.equal) told in
            ap grown_cells (plain_column r t h) ∙ with_values_cells r (values_in (rows t)) ∙ ap (λ l. grown_cells r ++ l) (values_back (rows t) whole)

    pub with_column_count : count (with_column r t) ≡ count r + len t
    with_column_count = by_type (is_nested r.of_type) refl
      where
        by_type : (b : Bool) → is_nested r.of_type ≡ b → count (with_column r t) ≡ count r + len t
        by_type true h =
            omega (arith, ap count (nested_column r t h), lens_append (closed r) (expansion t ∷ []), closed_long r, kept.keeps.same_len)
        by_type false h =
            ap count (plain_column r t h) ∙ with_values_count r (values_in (rows t))
            ∙ ap (λ n. count r + n) (length-map (rows t) _ ∙ rows_counted t well)

    pub with_column_clean : IsGrown (with_column r t) → IsClean (grown r) → IsClean t → IsClean (grown (with_column r t))
    with_column_clean new clean more = by_type (is_nested r.of_type) refl
      where
        by_type : (b : Bool) → is_nested r.of_type ≡ b → IsClean (grown (with_column r t))
        by_type true h =
            let ts = closed r ++ expansion t ∷ [] in
            let s : GrownRows = record { of_type = r.of_type; pieces = ts; values = [] } in
            let all = IsGrown.pieces (subst IsGrown (nested_column r t h) new) in
            let some : 0 < length ts = omega (arith, length-append (closed r) (expansion t ∷ [])) in
            let is = grown_some s some ∙ ap (joined r.of_type) (append-nil ts) in
            subst (λ x. IsClean (grown x)) (sym (nested_column r t h))
            (subst IsClean (sym is) (more_clean r (expansion t) g h all clean (kept.keeps.still_clean more)))
        by_type false h =
            let vs = r.values ++ values_in (rows t) in
            let typed = IsGrown.typed (subst IsGrown (plain_column r t h) new) in
            let is = plain_grown (with_values r (values_in (rows t))) (no_pieces r g h) in
            subst (λ x. IsClean (grown x)) (sym (plain_column r t h)) (subst IsClean (sym is) (column_clean r.of_type vs g.columns typed))

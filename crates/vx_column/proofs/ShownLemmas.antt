-- The column that tells which rows of another aren't null.
use Rattle.std.proofs.Common.{◌≡◌, ◌<◌, ◌≤◌, ◌+◌, ℕ, suc, List, [], ◌∷◌, ◌++◌, length, map, take, get_or, Bool, true, false, not, Some, refl, sym, ap, subst, ◌∙◌, arith}
use Rattle.std.specs.Prelude.{slice_get, option_map}
use Rattle.std.proofs.lemmas.List.{length-map, map-append, take_all, take_more}
use Rattle.std.proofs.lemmas.Option.{slice_get-map, get_or_from_slice_get}
use Rattle.vx_value.specs.IsOf.{is_null}
use Rattle.vx_value.specs.Values.{Value, null, boolean}
use Rattle.vx_value.specs.Cell.{Cell, value, fault}
use Rattle.vx_mask.specs.Logic.{bit_row}
use Rattle.vx_tree.specs.Tree.{Tree, len, booleans, validity_in}
use Rattle.vx_tree.specs.Cells.{rows, shown_cell}
use Rattle.vx_tree.specs.Keeps.{KeepsExactly}
use Rattle.vx_tree.specs.Canonicals.{columnar_tree}
use Rattle.vx_tree.proofs.TellsLemmas.{shown_value}
use Rattle.vx_tree.specs.declared.canonical.columnar.Columnar.{Columnar}
use Rattle.vx_column.specs.Arguments.{IsArgument, AreShown, value_at}
use Rattle.vx_column.specs.Formed.{TellsShown}
use Rattle.vx_column.specs.ValidRows.{is_valid, null_unless}
use Rattle.vx_column.specs.declared.rows.valid.ValidRows.{ValidRows}
use Rattle.vx_column.specs.declared.rows.argument.Argument.{Argument}
use Rattle.vx_column.specs.declared.rows.argument.ArgumentRows.{ArgumentRows}
use Rattle.vx_column.specs.declared.rows.argument.ArgumentRows.TheVariants as stored
use Rattle.vx_column.proofs.KeepsLemmas.{same_exactly}

-- a row is valid exactly if it isn't null: of a row whose stored value isn't, whatever is said of it
shown_by : (a : ArgumentRows) (i : ℕ) (b : Bool) → shown_cell (value (value_at a i)) ≡ value (boolean true)
    → shown_cell (null_unless b (value (value_at a i))) ≡ value (boolean b)
shown_by a i true h = h
shown_by a i false h = refl

shown_stored : (a : ArgumentRows) (valid : ValidRows) (n i : ℕ) → AreShown a valid n → i < n
    → shown_cell (null_unless (is_valid valid i) (value (value_at a i))) ≡ value (boolean (is_valid valid i))
shown_stored stored.Nulls valid n i h lt =
    subst (λ b. shown_cell (null_unless b (value null)) ≡ value (boolean b)) (sym (h i lt)) refl
shown_stored (stored.Bits bs) valid n i h lt = shown_by (stored.Bits bs) i (is_valid valid i) refl
shown_stored (stored.Integers zs) valid n i h lt = shown_by (stored.Integers zs) i (is_valid valid i) refl
shown_stored (stored.Decimals ds) valid n i h lt = shown_by (stored.Decimals ds) i (is_valid valid i) refl
shown_stored (stored.Bytes bs) valid n i h lt = shown_by (stored.Bytes bs) i (is_valid valid i) refl

shown_cells : (cs : List Cell) (bits : List Bool) → length cs ≡ length bits
    → ((i : ℕ) → i < length cs → shown_cell (get_or cs i fault) ≡ value (boolean (bit_row bits i))) → map shown_cell cs ≡ map (λ b. value (boolean b)) bits
shown_cells [] [] long h = refl
shown_cells [] (b ∷ bits) long h = absurd (omega arith)
shown_cells (c ∷ cs) [] long h = absurd (omega arith)
shown_cells (c ∷ cs) (b ∷ bits) long h = λ j. h 0 (omega arith) j ∷ shown_cells cs bits (omega arith) (λ i lt. h (suc i) (omega arith)) j

-- by an argument
pub argument_shown : (c : Columnar) (a : Argument) (bits : List Bool) → length (rows (columnar_tree c)) ≡ len (columnar_tree c) → IsArgument c a
    → length bits ≡ len (columnar_tree c) → ((i : ℕ) → i < len (columnar_tree c) → bit_row bits i ≡ is_valid a.valid i)
    → TellsShown (columnar_tree c) bits
argument_shown c a bits counted is long told =
    let t = columnar_tree c in
    let within : (i : ℕ) → i < length (rows t) → i < len t = λ i lt. omega (arith, counted) in
    record {
      long = long;
      told = shown_cells (rows t) bits (counted ∙ sym long)
          (λ i lt. ap shown_cell (is.shown i (within i lt)) ∙ shown_stored a.rows a.valid (len t) i is.sized.2 (within i lt)
          ∙ ap (λ b. value (boolean b)) (sym (told i (within i lt))));
    }

-- by rows that are read, so far
pub shown_more : (t : Tree) (i : ℕ) (v : Value) (bits : List Bool) (b : Bool) → length (rows t) ≡ len t → i < len t → slice_get (rows t) i ≡ Some (value v)
    → b ≡ is_null v → take i (map shown_cell (rows t)) ≡ map (λ x. value (boolean x)) bits
    → take (i + 1) (map shown_cell (rows t)) ≡ map (λ x. value (boolean x)) (bits ++ not b ∷ [])
shown_more t i v bits b counted lt there is h =
    let cs = map shown_cell (rows t) in
    let cell : slice_get cs i ≡ Some (value (boolean (not b))) =
    slice_get-map shown_cell (rows t) i ∙ ap (option_map shown_cell) there ∙ ap Some (shown_value v) ∙ ap (λ x. Some (value (boolean (not x)))) (sym is) in
    take_more cs i fault (omega (arith, length-map (rows t) shown_cell, counted))
    ∙ ap (λ l. l ++ get_or cs i fault ∷ []) h
    ∙ ap (λ c. map (λ x. value (boolean x)) bits ++ c ∷ []) (get_or_from_slice_get cs i (value (boolean (not b))) fault cell)
    ∙ sym (map-append (λ x. value (boolean x)) bits (not b ∷ []))

pub all_shown : (t : Tree) (i : ℕ) (bits : List Bool) → length (rows t) ≡ len t → len t ≤ i
    → take i (map shown_cell (rows t)) ≡ map (λ x. value (boolean x)) bits → TellsShown t bits
all_shown t i bits counted over h =
    let cs = map shown_cell (rows t) in
    let told : cs ≡ map (λ x. value (boolean x)) bits = sym (take_all i cs (omega (arith, length-map (rows t) shown_cell, counted))) ∙ h in
    record {
      long = sym (length-map bits (λ x. value (boolean x))) ∙ ap length (sym told) ∙ length-map (rows t) shown_cell ∙ counted;
      told = told;
    }

-- the column of such bits
pub shown_exactly : (t : Tree) (bits : List Bool) → TellsShown t bits → KeepsExactly (validity_in t) (booleans bits)
shown_exactly t bits h = same_exactly (validity_in t) (booleans bits) refl (sym h.long) h.told tt

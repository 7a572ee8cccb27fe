-- Rows of a slice.
use Rattle.std.proofs.Common.{◌≡◌, ℕ, zero, suc, ◌+◌, ◌-◌, ◌<◌, List, [], ◌∷◌, map, take, drop, slice_range, Bool, refl, sym, ap, ◌∙◌, arith}
use Rattle.std.specs.Prelude.{slice_get, Result}
use Rattle.std.specs.Result.{IfOk, IfErr}
use Rattle.std.proofs.lemmas.Result.{IfErr-weaker}
use Rattle.vx_value.specs.Typed.{Typed}
use Rattle.vx_value.specs.Values.{boolean}
use Rattle.vx_value.specs.Cell.{Cell, value}
use Rattle.vx_value.specs.declared.error.VortexError.{VortexError}
use Rattle.vx_tree.proofs.NativesLemmas.{map_part}
use Rattle.vx_tree.specs.Tree.{Tree, dtype, len, slice_of}
use Rattle.vx_tree.specs.Cells.{rows}
use Rattle.vx_column.specs.Read.{IsRow, IsUnreadRow}
use Rattle.vx_column.proofs.CellsLemmas.{row_by, unread_by}

get_drop : (a i : ℕ) (cs : List Cell) → slice_get (drop a cs) i ≡ slice_get cs (a + i)
get_drop zero i cs = let e : i ≡ zero + i = omega arith in ap (slice_get cs) e
get_drop (suc a) i [] = refl
get_drop (suc a) i (c ∷ cs) = let e : suc (a + i) ≡ suc a + i = omega arith in get_drop a i cs ∙ ap (slice_get (c ∷ cs)) e

get_take : (n i : ℕ) (cs : List Cell) → i < n → slice_get (take n cs) i ≡ slice_get cs i
get_take zero i cs h = absurd (omega arith)
get_take (suc n) i [] h = refl
get_take (suc n) zero (c ∷ cs) h = refl
get_take (suc n) (suc i) (c ∷ cs) h = get_take n i cs (omega arith)

module _ (t c : Tree) (a b i : ℕ) where
  slice_row : t ≡ slice_of a b c → i < len t → slice_get (rows t) i ≡ slice_get (rows c) (a + i)
  slice_row e lt =
      let l = ap len e in
      ap (λ u. slice_get (rows u) i) e ∙ get_take (b - a) i (drop a (rows c)) (omega arith) ∙ get_drop a i (rows c)

  pub slice_read : (r : Result Typed VortexError) → t ≡ slice_of a b c → i < len t → IfOk r (IsRow c (a + i)) → IfOk r (IsRow t i)
  slice_read r e lt = row_by t c i (a + i) (slice_row e lt) (ap dtype e) r

  pub slice_unread : (r : Result Typed VortexError) → t ≡ slice_of a b c → i < len t → IfErr r (IsUnreadRow c (a + i)) → IfErr r (IsUnreadRow t i)
  slice_unread r e lt = IfErr-weaker r _ _ (unread_by t c i (a + i) (λ h. slice_row e lt ∙ h))

pub ruleset slice_rows = (slice_read, slice_unread)

-- of booleans
pub slice_told : (t c : Tree) (a b : ℕ) (bits part : List Bool) → t ≡ slice_of a b c → rows c ≡ map (λ b. value (boolean b)) bits → part ≡ slice_range bits a b
    → rows t ≡ map (λ b. value (boolean b)) part
slice_told t c a b bits part e r p =
    ap rows e ∙ ap (λ cs. slice_range cs a b) r ∙ map_part (λ b. value (boolean b)) bits a b ∙ ap (map (λ b. value (boolean b))) (sym p)

-- A column that stands for another tree exactly, and validities that need no proof.
use Rattle.std.proofs.Common.{◌≡◌, ℕ, zero, suc, replicate, subst}
use Rattle.vx_value.specs.Values.{Value}
use Rattle.vx_value.specs.Cell.{value}
use Rattle.vx_value.specs.declared.dtype.Nullability.{Nullability}
use Rattle.vx_value.specs.declared.dtype.Nullability.TheVariants.{NonNullable, Nullable}
use Rattle.vx_tree.specs.Tree.{Tree, node, dtype, len, slots}
use Rattle.vx_tree.specs.Cells.{rows, HasNoFault, IsClean, AreClean}
use Rattle.vx_tree.specs.Keeps.{KeepsExactly}
use Rattle.vx_tree.specs.Validities.{without_nulls, HasRows}
use Rattle.vx_tree.proofs.KeepsLemmas.{rows_equal}
use Rattle.vx_tree.proofs.ValiditiesLemmas.{whole}

-- a tree that has another's type, length and rows, and no fault below, stands for it exactly
pub whole_clean : (u : Tree) → AreClean (slots u) → HasNoFault (rows u) → IsClean u
whole_clean (node ty n d ss) e h = (h, e)

pub same_exactly : (t u : Tree) → dtype t ≡ dtype u → len t ≡ len u → rows t ≡ rows u → AreClean (slots u) → KeepsExactly t u
same_exactly t u ty n e clean = record {
  keeps = record { same_type = ty; same_len = n; same_rows = rows_equal _ _ e; still_clean = λ c. whole_clean u clean (subst HasNoFault e (whole t c)) };
  equal = e;
}

pub any_rows : (m : Nullability) (n : ℕ) → HasRows (without_nulls m) n
any_rows NonNullable n = tt
any_rows Nullable n = tt

pub copies_clean : (n : ℕ) (v : Value) → HasNoFault (replicate n (value v))
copies_clean zero v = tt
copies_clean (suc n) v = copies_clean n v

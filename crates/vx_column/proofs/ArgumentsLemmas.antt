-- Columns read one after the other.
use Rattle.std.proofs.Common.{◌≡◌, inl, inr, arith, ℕ, zero, suc, ◌<◌, ◌+◌, List, [], ◌∷◌, length, take, get_or, ◌++◌, refl, sym, subst}
use Rattle.std.specs.List.{AllZip}
use Rattle.std.proofs.lemmas.List.{take_more}
use Rattle.std.proofs.lemmas.Slice.Zip.{all_zipped_more}
use Rattle.vx_tree.specs.Canonicals.{columnar_tree}
use Rattle.vx_tree.specs.declared.canonical.columnar.Columnar.{Columnar}
use Rattle.vx_value.specs.declared.error.VortexError.{VortexError}
use Rattle.vx_value.specs.declared.error.VortexError.TheVariants.{OutOfMemory}
use Rattle.vx_column.specs.Arguments.{IsUnread, AnyUnread}

-- the next of a list beside one more
pub zipped_more : {A B : Type 0} (R : A → B → Type 0) (xs : List A) (ys : List B) (i : ℕ) (x : A) (y : B) →
    i < length xs → x ≡ get_or xs i x → AllZip R (take i xs) ys → R x y → AllZip R (take (i + 1) xs) (ys ++ y ∷ [])
zipped_more R xs ys i x y lt e h r =
    subst (λ zs. AllZip R zs (ys ++ y ∷ [])) (sym (take_more xs i x lt)) (all_zipped_more R (take i xs) ys (get_or xs i x) y h (subst (λ z. R z y) e r))

-- ---- a column that can't be read

pub any_memory : (xs : List Columnar) → AnyUnread xs OutOfMemory
any_memory [] = refl
any_memory (x ∷ xs) = inr (any_memory xs)

pub any_unread : (xs : List Columnar) (k : ℕ) (x : Columnar) (e : VortexError) → k < length xs → x ≡ get_or xs k x → IsUnread (columnar_tree x) e
    → AnyUnread xs e
any_unread [] k x e lt is h = absurd (omega arith)
any_unread (y ∷ xs) zero x e lt is h = inl (subst (λ z. IsUnread (columnar_tree z) e) is h)
any_unread (y ∷ xs) (suc k) x e lt is h = inr (any_unread xs k x e (omega arith) is h)

-- Columns of nulls: filtered, masked, and expanded from a constant.
use Rattle.std.proofs.Common.{◌≡◌, ℕ, zero, suc, List, [], ◌∷◌, length, map, replicate, Bool, true, false, Some, None, refl, sym, ap, subst, ◌∙◌, arith}
use Rattle.vx_value.specs.Types as type
use Rattle.vx_value.specs.Types.{DataType, nullability_of}
use Rattle.vx_value.specs.Storage.{storage_of}
use Rattle.vx_value.specs.declared.dtype.Nullability.{Nullability}
use Rattle.vx_value.specs.declared.dtype.Storage.TheVariants.{Nulls}
use Rattle.vx_value.specs.IsOf.{is_of, is_stored}
use Rattle.vx_value.specs.Typed.{Typed}
use Rattle.vx_value.specs.Values.{Value, null, boolean}
use Rattle.vx_value.specs.Cell.{value}
use Rattle.vx_mask.specs.Places.{true_count}
use Rattle.vx_mask.proofs.ChosenLemmas.{chosen-replicate}
use Rattle.vx_tree.specs.Tree as enc
use Rattle.vx_tree.specs.Tree.{Tree, node, no_slots, slot, slots_of, dtype, len, nulls_of, constant_of, filter_of, masked_of}
use Rattle.vx_tree.specs.Cells.{rows, valid_cells}
use Rattle.vx_tree.specs.Keeps.{KeepsExactly}
use Rattle.vx_tree.proofs.KeepsLemmas.{exactly_of_rows}
use Rattle.vx_column.proofs.StoredLemmas.{parts_in}

pub nulls_filtered : (bits : List Bool) (t u : Tree) → t ≡ nulls_of (len t) → length bits ≡ len t → u ≡ nulls_of (true_count bits)
    → KeepsExactly (filter_of bits t) u
nulls_filtered bits t u is long made =
    let n = len t in
    let kept = exactly_of_rows type.null (true_count bits) (enc.filter bits) enc.nulls (slot (nulls_of n) no_slots) no_slots
    (chosen-replicate bits n (value null) long) (λ h. tt) in
    subst (λ x. KeepsExactly (filter_of bits x) u) (sym is) (subst (KeepsExactly (filter_of bits (nulls_of n))) (sym made) kept)

-- ---- by a validity of values

told_nulls : (bits : List Bool) (n : ℕ) → length bits ≡ n → valid_cells (map (λ b. value (boolean b)) bits) (replicate n (value null)) ≡ replicate n
    (value null)
told_nulls [] n h = refl
told_nulls (b ∷ bits) zero h = absurd (omega arith)
told_nulls (true ∷ bits) (suc n) h = ap (λ cs. value null ∷ cs) (told_nulls bits n (omega arith))
told_nulls (false ∷ bits) (suc n) h = ap (λ cs. value null ∷ cs) (told_nulls bits n (omega arith))

pub unmasked_nulls : (n : ℕ) (u : Tree) → u ≡ nulls_of n → KeepsExactly (masked_of (nulls_of n) None) u
unmasked_nulls n u made =
    subst (KeepsExactly (masked_of (nulls_of n) None)) (sym made)
    (exactly_of_rows type.null n enc.masked enc.nulls (slots_of (Some (nulls_of n) ∷ None ∷ [])) no_slots refl (λ h. tt))

pub masked_nulls : (n : ℕ) (t u : Tree) (bits : List Bool) → rows t ≡ map (λ b. value (boolean b)) bits → length bits ≡ n → u ≡ nulls_of n
    → KeepsExactly (masked_of (nulls_of n) (Some t)) u
masked_nulls n t u bits told long made =
    let shown : valid_cells (rows t) (replicate n (value null)) ≡ replicate n (value null) =
    ap (λ vs. valid_cells vs (replicate n (value null))) told ∙ told_nulls bits n long in
    subst (KeepsExactly (masked_of (nulls_of n) (Some t))) (sym made)
    (exactly_of_rows type.null n enc.masked enc.nulls (slots_of (Some (nulls_of n) ∷ Some t ∷ [])) no_slots shown (λ h. tt))

-- ---- of one value

of_nulls : (ty : DataType) → storage_of ty ≡ Nulls → ty ≡ type.null
of_nulls type.null h = refl
of_nulls _ h = absurd (cc)

null_stored : (m : Nullability) (parts : Bool) (v : Value) → is_stored m Nulls parts v ≡ true → v ≡ null
null_stored m parts null h = refl
null_stored m parts _ h = absurd (cc)

pub nulls_repeated : (s : Typed) (n : ℕ) (u : Tree) → storage_of s.of_type ≡ Nulls → is_of s.of_type s.value ≡ true → u ≡ nulls_of n
    → KeepsExactly (constant_of s n) u
nulls_repeated s n u stored typed made =
    let m = nullability_of s.of_type in
    let parts : Bool = parts_in s.of_type s.value in
    let kind : is_stored m Nulls parts s.value ≡ true = ap (λ st. is_stored m st parts s.value) (sym stored) ∙ typed in
    let shown = ap (λ v. replicate n (value v)) (null_stored m parts s.value kind) in
    let kept = exactly_of_rows s.of_type n (enc.constant s) enc.nulls no_slots no_slots shown (λ h. tt) in
    subst (KeepsExactly (constant_of s n)) (sym made) (subst (λ ty. KeepsExactly (constant_of s n) (node ty n enc.nulls no_slots))
    (of_nulls s.of_type stored) kept)

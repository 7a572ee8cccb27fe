-- What arguments store: the types of their values.
use Rattle.std.proofs.Common.{◌≡◌, ℕ, true, false, refl, sym, ap, ◌∙◌}
use Rattle.vx_value.specs.Types.{primitive, nullability_of}
use Rattle.vx_value.specs.Nullabilities.{with_nullability, same_but_nullability, same_but_nullability_Decides}
use Rattle.vx_value.specs.Storage.{is_nested}
use Rattle.vx_value.specs.View.{type_of}
use Rattle.vx_value.specs.Casts.{sized}
use Rattle.vx_value.specs.declared.dtype.Nullability.{Nullability}
use Rattle.vx_value.specs.declared.dtype.Nullability.TheVariants.{NonNullable}
use Rattle.vx_value.specs.declared.dtype.Storage.{Storage}
use Rattle.vx_value.specs.declared.dtype.Storage.TheVariants.{Text}
use Rattle.vx_tree.specs.ColumnTypes.{bytes_type}
use Rattle.vx_tree.proofs.ColumnTypesLemmas.{column_of_integers}
use Rattle.vx_column.specs.Arguments.{type_of_argument, type_of_rows, plain_type, ptype_in, IsSized, AreStored, HasStored}
use Rattle.vx_column.specs.ValidRows.{nullability_in}
use Rattle.vx_column.specs.declared.rows.argument.Argument.{Argument}
use Rattle.vx_column.specs.declared.rows.argument.ArgumentRows.{ArgumentRows}
use Rattle.vx_column.specs.declared.rows.argument.ArgumentRows.TheVariants as stored

-- the type of text or bytes with other nullabilities
bytes_again : (k m : Nullability) (st : Storage) → (with_nullability k (with_nullability m (bytes_type st)) ≡ with_nullability k (bytes_type st))
    × (nullability_of (with_nullability m (bytes_type st)) ≡ m) × (with_nullability NonNullable (bytes_type st) ≡ bytes_type st)
bytes_again k m Text = (refl, refl, refl)
bytes_again k m _ = (refl, refl, refl)

module _ (n : ℕ) (a : Argument) (sized : IsSized n a) where
  pub argument_type : type_of_argument a ≡ with_nullability (nullability_in a.valid) (plain_type a.rows)
  argument_type = by_rows a.rows sized.0
    where
      by_rows : (r : ArgumentRows) → AreStored (nullability_in a.valid) r n
          → type_of_rows (nullability_in a.valid) r ≡ with_nullability (nullability_in a.valid) (plain_type r)
      by_rows stored.Nulls h = refl
      by_rows (stored.Bits bs) h = refl
      by_rows (stored.Integers zs) h = column_of_integers (ptype_in zs) (type_of zs.dtype.now) h.0.3 ∙ ap (primitive (ptype_in zs)) h.1
      by_rows (stored.Decimals ds) h = refl
      by_rows (stored.Bytes bs) h = refl

  pub has_stored : HasStored a.rows n
  has_stored = by_rows a.rows sized.0
    where
      by_rows : (r : ArgumentRows) → AreStored (nullability_in a.valid) r n → HasStored r n
      by_rows stored.Nulls h = tt
      by_rows (stored.Bits bs) h = h
      by_rows (stored.Integers zs) h = h.0
      by_rows (stored.Decimals ds) h = h
      by_rows (stored.Bytes bs) h = h

plain_again : (m : Nullability) (r : ArgumentRows) → with_nullability NonNullable (with_nullability m (plain_type r)) ≡ plain_type r
plain_again m stored.Nulls = refl
plain_again m (stored.Bits bs) = refl
plain_again m (stored.Integers zs) = refl
plain_again m (stored.Decimals ds) = refl
plain_again m (stored.Bytes bs) = (bytes_again NonNullable m bs.storage).0 ∙ (bytes_again NonNullable NonNullable bs.storage).2

pub set_again : (k m : Nullability) (r : ArgumentRows) → with_nullability k (with_nullability m (plain_type r)) ≡ with_nullability k (plain_type r)
set_again k m stored.Nulls = refl
set_again k m (stored.Bits bs) = refl
set_again k m (stored.Integers zs) = refl
set_again k m (stored.Decimals ds) = refl
set_again k m (stored.Bytes bs) = (bytes_again k m bs.storage).0

nullability_again : (n : ℕ) (m : Nullability) (r : ArgumentRows) → AreStored m r n → nullability_of (with_nullability m (plain_type r)) ≡ m
nullability_again n m stored.Nulls h = sym h
nullability_again n m (stored.Bits bs) h = refl
nullability_again n m (stored.Integers zs) h = refl
nullability_again n m (stored.Decimals ds) h = refl
nullability_again n m (stored.Bytes bs) h = (bytes_again NonNullable m bs.storage).1

pub argument_nullability : (n : ℕ) (a : Argument) → IsSized n a → nullability_of (type_of_argument a) ≡ nullability_in a.valid
argument_nullability n a sized = ap nullability_of (argument_type n a sized) ∙ nullability_again n (nullability_in a.valid) a.rows sized.0

-- arguments whose types are the same but for nullability store values of one type
pub plain_same : (n : ℕ) (a b : Argument) → IsSized n a → IsSized n b → same_but_nullability (type_of_argument a) (type_of_argument b) ≡ true
    → plain_type a.rows ≡ plain_type b.rows
plain_same n a b first second same =
    sym (plain_again (nullability_in a.valid) a.rows)
    ∙ ap (with_nullability NonNullable) (sym (argument_type n a first))
    ∙ (same_but_nullability_Decides (type_of_argument a) (type_of_argument b)).0 same
    ∙ ap (with_nullability NonNullable) (argument_type n b second)
    ∙ plain_again (nullability_in b.valid) b.rows

-- ---- no rows of an argument are of a nested type

bytes_unnested : (st : Storage) → is_nested (bytes_type st) ≡ false
bytes_unnested Text = refl
bytes_unnested _ = refl

pub rows_unnested : (r : ArgumentRows) → is_nested (plain_type r) ≡ false
rows_unnested stored.Nulls = refl
rows_unnested (stored.Bits bs) = refl
rows_unnested (stored.Integers zs) = refl
rows_unnested (stored.Decimals ds) = refl
rows_unnested (stored.Bytes bs) = bytes_unnested bs.storage

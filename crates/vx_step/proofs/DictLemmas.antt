-- The steps of a dictionary.
use Rattle.std.proofs.Common.{◌≡◌, ◌∙◌, inl, inr, true, false, refl, sym, ap, arith}
use Rattle.std.proofs.lemmas.Bool.{false≢true}
use Rattle.vx_value.specs.Types as type
use Rattle.vx_value.specs.Types.{DataType}
use Rattle.vx_value.specs.declared.error.VortexError.{VortexError}
use Rattle.vx_tree.specs.Tree.{Tree, dict_of, dtype, datum, is_columnar}
use Rattle.vx_tree.specs.SlotTypes.{is_integer}
use Rattle.vx_tree.specs.Columns.{IsColumn}
use Rattle.vx_tree.specs.Well.{IsNodeOf, IsWell}
use Rattle.vx_tree.proofs.ColumnsLemmas.{column_known}
use Rattle.vx_tree.proofs.KeepsLemmas.{column_exactly}
use Rattle.vx_column.specs.Casts.{IsIntegerType}
use Rattle.vx_column.specs.LookedUp.{AreTaken, AreNotTaken}
use Rattle.vx_step.specs.Steps.{HasNoShortcut, IsAnswer, IsDone, IsReady, IsFailed}
use Rattle.vx_step.specs.declared.whole.Answer.TheVariants.{Wait}
use Rattle.vx_step.specs.declared.steps.SlotTarget.TheVariants.{Columnar}
use Rattle.vx_step.proofs.StepsLemmas.{unless_filter, column_done}

integer_type : (t : DataType) → is_integer t ≡ true → IsIntegerType t
integer_type (type.primitive p m) h = (p, refl)
integer_type _ h = absurd (false≢true h)

module _ (codes values : Tree) where
  pub codes_integer : IsNodeOf (dict_of codes values) → IsIntegerType (dtype codes)
  codes_integer w = let same : dtype codes ≡ w.0 = cc (w.3) in integer_type (dtype codes) (ap is_integer same ∙ w.4)

  direct : HasNoShortcut (dict_of codes values)
  direct = unless_filter (dict_of codes values) refl

  pub codes_wait : is_columnar (datum codes) ≡ false → IsAnswer (dict_of codes values) (Wait 0 Columnar)
  codes_wait h = (direct, (refl, h), refl)

  pub values_wait : is_columnar (datum codes) ≡ true → is_columnar (datum values) ≡ false → IsAnswer (dict_of codes values) (Wait 1 Columnar)
  values_wait h k = (direct, (refl, (h, k)), refl)

  ready : is_columnar (datum codes) ≡ true → is_columnar (datum values) ≡ true → IsReady (dict_of codes values)
  ready h k = ((λ e. h), ((λ e. k), tt))

  pub taken_done : is_columnar (datum codes) ≡ true → is_columnar (datum values) ≡ true → (u : Tree) → AreTaken codes values u → IsWell u
      → is_columnar (datum u) ≡ true → IsDone (dict_of codes values) u
  taken_done h k u taken well column =
      let known : IsColumn u = column_known u well column in
      column_done (dict_of codes values) u known direct (ready h k)
      (column_exactly (dict_of codes values) u (sym taken.typed) (sym taken.counted) (sym taken.shown) taken.clean) column taken.constant_kept
      (omega (arith, known.settled))

  pub untaken_failed : is_columnar (datum codes) ≡ true → is_columnar (datum values) ≡ true → (e : VortexError) → AreNotTaken codes values e
      → IsFailed (dict_of codes values) e
  untaken_failed h k e (inl m) = inl m
  untaken_failed h k e (inr m) = inr (m.0, (λ clean. m.1 clean.0), (direct, ready h k))

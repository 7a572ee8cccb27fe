use Rattle.std.proofs.Common.{◌≡◌, ◌<◌, length}
use Rattle.vx_value.specs.Types as type
use Rattle.vx_value.specs.Types.{Fields}
use Rattle.vx_value.specs.declared.dtype.Nullability.TheVariants.{Nullable}
use Rattle.vx_column.specs.ValueColumns.{AreOf}
use Rattle.vx_column.proofs.FieldColumnsLemmas.{AreTold}
use Rattle.vx_column.proofs.builder.columns.present.Given as goal

-- the bits so far, none of them if no scalar is null
abbrev pub invariant-loop-i : goal.invariant-loop-i
invariant-loop-i l = record {
  so : AreTold l.i l.valid l.scalars;
  nullable : (fs : Fields) → AreOf (type.struct fs l.nullability) l.scalars → 0 < length l.valid → l.nullability ≡ Nullable;
}

-- The rows of a builder, by how they are kept.
use Rattle.std.specs.Prelude.{[]}
use Rattle.vx_column.specs.Built.{TypedRows}
use Rattle.vx_column.specs.Grown.{GrownRows}
use Rattle.vx_column.specs.declared.builder.KeptRows.{KeptRows}
use Rattle.vx_column.specs.declared.builder.KeptRows.TheVariants.{Flat, Nested}

-- values alone
abbrev pub flat_rows : TypedRows → GrownRows
flat_rows r = record { of_type = r.of_type; pieces = []; values = r.values }

abbrev pub rows_in : KeptRows → GrownRows
rows_in (Flat b) = flat_rows b
rows_in (Nested b) = b

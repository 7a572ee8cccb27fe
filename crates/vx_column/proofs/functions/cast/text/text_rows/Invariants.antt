use Rattle.std.proofs.Common.{◌≡◌, true, map}
use Rattle.std.specs.List.{range_with_len}
use Rattle.vx_value.specs.declared.dtype.Storage.TheVariants.{Text}
use Rattle.vx_tree.specs.ColumnTypes.{are_bytes_of}
use Rattle.vx_column.specs.Arguments.{bytes_in}
use Rattle.vx_column.specs.ValidRows.{is_valid}
use Rattle.vx_column.specs.Casts.{none_unless}
use Rattle.vx_column.proofs.functions.cast.text.text_rows.Given as goal

abbrev pub invariant-loop-index : goal.invariant-loop-index
invariant-loop-index l =
    (l.rows ≡ map (λ i. none_unless (is_valid l.valid i) (bytes_in l.bytes i)) (range_with_len 0 l.index)) × (are_bytes_of Text l.rows ≡ true)

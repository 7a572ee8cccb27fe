-- Columns of nested types: a line for each layout.
use Rattle.std.specs.Prelude.{Bool, true, false, ◌||◌}
use Rattle.vx_tree.specs.Tree.Nodes.{Data}
pub use Rattle.vx_tree.specs.Tree.Nodes.{composed}
use Rattle.vx_tree.specs.Tree.Struct.{struct_layout}
use Rattle.vx_tree.specs.Tree.Extension.{extension_layout}
use Rattle.vx_tree.specs.Charges.{column_charge}
use Rattle.vx_tree.specs.Layouts.{LayoutMeaning, row_by_row}
use Rattle.vx_tree.specs.Meanings.{Meaning}
use Rattle.vx_tree.specs.declared.array.layout.Layout.{Layout}
use Rattle.vx_tree.specs.declared.array.layout.Layout.TheVariants as layout

abbrev pub is_composed : Data → Bool
is_composed (composed l) = true
is_composed _ = false

abbrev pub laid_out : Layout → LayoutMeaning
laid_out layout.Struct = struct_layout
laid_out layout.Extension = extension_layout

abbrev pub composed_meaning : Layout → Meaning
composed_meaning l = record {
  id = (laid_out l).id;
  name = (laid_out l).name;
  IsNode = (laid_out l).IsNode;
  refusal = λ i ty n ss. (laid_out l).refusal ty n ss;
  cells = λ ty n tys css. row_by_row (laid_out l).row n css;
  validity = λ ty n ss child. (laid_out l).validity ss child;
  charge = column_charge;
}

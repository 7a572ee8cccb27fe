-- The validity in the slot of a masked array.
use Rattle.std.specs.Prelude.{Option, Some, None}
use Rattle.vx_tree.specs.Tree.{Tree}
use Rattle.vx_tree.specs.declared.validity.Validity.{Validity}
use Rattle.vx_tree.specs.declared.validity.Validity.TheVariants.{AllValid, Array}

-- the validity with this tree; a constant isn't read back
abbrev pub told_by : Option Tree → Validity
told_by None = AllValid
told_by (Some t) = Array t

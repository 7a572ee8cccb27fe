-- The names of slots.
use Rattle.std.specs.Prelude.{ℕ, List, ◌++◌}
use Rattle.std.specs.Fmt.{decimal}
use Rattle.vx_tree.specs.declared.array.name.SlotName.{SlotName}
use Rattle.vx_tree.specs.declared.array.name.SlotName.TheVariants.{Named, Numbered}

-- the text of a name
abbrev pub name_text : SlotName → List ℕ
name_text (Named s) = s.now
name_text (Numbered s i) = s.now ++ decimal i

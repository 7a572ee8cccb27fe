-- The arrays that patches hold, in their order, and what they are called.
use Rattle.std.specs.Prelude.{ℕ, List, [], ◌∷◌, Option, Some, None, codes}
use Rattle.vx_tree.specs.Tree.{Tree}
use Rattle.vx_read.specs.declared.patches.Patches.{Patches}

abbrev pub offsets_of : Option Tree → List Tree
offsets_of None = []
offsets_of (Some t) = t ∷ []

abbrev pub children_of : Patches → List Tree
children_of p = p.indices ∷ p.values ∷ offsets_of p.chunk_offsets

abbrev pub child_names : List (List ℕ)
child_names = codes "patch_indices" ∷ codes "patch_values" ∷ codes "patch_chunk_offsets" ∷ []

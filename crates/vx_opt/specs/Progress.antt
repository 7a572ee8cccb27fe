-- How far an optimization came: its tree, and whether it was stopped.
use Rattle.std.specs.Prelude.{◌≡◌, ℕ}
use Rattle.vx_value.specs.declared.error.VortexError.{VortexError}
use Rattle.vx_value.specs.declared.error.VortexError.TheVariants.{RewriteLimit}
use Rattle.vx_tree.specs.Tree.{Tree}
use Rattle.vx_tree.specs.Slots.{put}
use Rattle.vx_tree.specs.Well.{IsNodeOf}
use Rattle.vx_opt.specs.declared.progress.Progress.{Progress}
use Rattle.vx_opt.specs.declared.progress.Progress.TheVariants.{Settled, Stopped}

-- the tree as it stands
abbrev pub IsTree : Progress → Tree → Type 0
IsTree (Settled t) u = u ≡ t
IsTree (Stopped t at_root total) u = u ≡ t

-- it came to an end, with this tree
abbrev pub IsEnd : Progress → Tree → Type 0
IsEnd p u = p ≡ Settled u

-- it was stopped by this limit
abbrev pub IsLimitOf : Progress → VortexError → Type 0
IsLimitOf p e = (t : Tree) × (at_root : ℕ) × (total : ℕ) × (p ≡ Stopped t at_root total) × (e ≡ RewriteLimit at_root total)

-- its tree fits in slot i of p
abbrev pub FitsIn : ℕ → Tree → Progress → Type 0
FitsIn i p (Settled t) = IsNodeOf (put i t p)
FitsIn i p (Stopped t at_root total) = IsNodeOf (put i t p)

-- the second is the first with its tree in slot i of p
abbrev pub IsWithin : ℕ → Tree → Progress → Progress → Type 0
IsWithin i p (Settled t) q = q ≡ Settled (put i t p)
IsWithin i p (Stopped t at_root total) q = q ≡ Stopped (put i t p) at_root total

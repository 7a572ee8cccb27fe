-- The arguments of a function of a dictionary, for the values of the dictionary.
use Rattle.std.specs.Prelude.{◌≡◌, ℕ, zero, suc, List, [], ◌∷◌, length, Option, Some, None}
use Rattle.std.specs.Global.{Vec}
use Rattle.vx_tree.specs.Tree.{Tree, len}
use Rattle.vx_rule.specs.Pushes.{IsConstantLike}

-- each slot holds a tree
abbrev pub AreAll : List (Option Tree) → Type 0
AreAll [] = Unit {0}
AreAll (Some c ∷ cs) = AreAll cs
AreAll (None ∷ cs) = ⊥

-- the first of them are constants, and these are constants of n rows in their places
abbrev pub AreFirstLike : ℕ → List (Option Tree) → List Tree → Type 0
AreFirstLike n cs [] = Unit {0}
AreFirstLike n (Some c ∷ cs) (d ∷ ds) = IsConstantLike c n d × AreFirstLike n cs ds
AreFirstLike n cs ds = ⊥

-- the same, with the values in place of the tree in slot i
abbrev pub AreFirstOfValues : ℕ → Tree → List (Option Tree) → List Tree → Type 0
AreFirstOfValues i values cs [] = Unit {0}
AreFirstOfValues zero values (Some c ∷ cs) (d ∷ ds) = (d ≡ values) × AreFirstLike (len values) cs ds
AreFirstOfValues (suc i) values (Some c ∷ cs) (d ∷ ds) = IsConstantLike c (len values) d × AreFirstOfValues i values cs ds
AreFirstOfValues i values cs ds = ⊥

-- the list is that of all arguments, None if one isn't a constant
abbrev pub IsListOfValues : ℕ → Tree → List (Option Tree) → Option (Vec Tree) → Type 0
IsListOfValues i values cs None = (ds : List Tree) → length ds ≡ length cs → AreFirstOfValues i values cs ds → ⊥
IsListOfValues i values cs (Some v) = (length v.items ≡ length cs) × AreFirstOfValues i values cs v.items

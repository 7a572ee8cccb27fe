-- The counts of a session's entry.
use Rattle.std.specs.Prelude.{ℕ}
use Rattle.std.specs.declared.alloc.Global.{Global}
use Rattle.std.specs.declared.dyn_box.DynBox.{DynBox}
use Rattle.vx_rule.specs.declared.entry.RuleEntry.{RuleEntry}
use Rattle.vx_rule.specs.declared.entry.RuleEntry.TheVariants.{Boxed, Builtin}

-- Those of a box are given by two functions: the ghost members of the trait at a box. A rule that is built in never refuses.
module _ {X : Type 0} {F : X → Type 0} (refusals spent : DynBox X Global F → ℕ) where
  abbrev pub entry_refusals : RuleEntry X F → ℕ
  entry_refusals (Boxed b) = refusals b
  entry_refusals (Builtin r) = 0

  abbrev pub entry_spent : RuleEntry X F → ℕ
  entry_spent (Boxed b) = spent b
  entry_spent (Builtin r) = r.spent.total

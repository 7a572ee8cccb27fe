-- The limits of rewriting.
use Rattle.std.specs.Prelude.{◌≡◌, ℕ, ◌+◌, ◌≤◌, ◌⊎◌}

-- the rewrites that one root may take
abbrev pub root_limit : ℕ
root_limit = 100

-- the rewrite at which a call gives up
abbrev pub call_limit : ℕ
call_limit = 4194304

-- a rewrite with these numbers, at its root and in its call, is the one at which the call gives up
pub record IsLast (at_root total : ℕ) : Type 0 where
  pub of_root : at_root ≤ root_limit + 1
  pub of_call : total ≤ call_limit
  pub either : (at_root ≡ root_limit + 1) ⊎ (total ≡ call_limit)

-- Numbers of the native type that a kind names.
use Rattle.std.specs.Prelude.{ℤ, List}

pub record Numbers (K : Type 0) : Type 0 where
  pub kind : K
  pub numbers : List ℤ

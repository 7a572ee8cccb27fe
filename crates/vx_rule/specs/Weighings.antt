-- Weights of slots, summed up, and the weight of a node from them.
use Rattle.std.specs.Prelude.{◌≡◌, ℕ, ◌+◌, ◌≤◌, List, [], ◌∷◌, length}
use Rattle.vx_tree.specs.Charges.{excess, enlarged, product, column_weight, added, scaled, squared}
use Rattle.vx_rule.specs.Counts.{capped}
use Rattle.vx_rule.specs.declared.weight.Weighing.{Weighing}
use Rattle.vx_rule.specs.declared.weight.Weighing.TheVariants.{Column, Added, Doubled, Tripled, Squared, Multiplied, Enlarged}
use Rattle.vx_rule.specs.declared.weight.SlotWeights.{SlotWeights}

-- the least weight of a tree
abbrev pub least : ℕ
least = 3

-- the weight of a node of n rows, from those of its slots
abbrev pub weighs : Weighing → ℕ → List ℕ → ℕ
weighs Column = column_weight
weighs (Added k) = added (least + k)
weighs Doubled = scaled 2
weighs Tripled = scaled 3
weighs Squared = squared 4
weighs Multiplied = λ n ws. product ws + 10
weighs Enlarged = λ n ws. 3 + enlarged ws

-- the sums are those of these weights
pub record IsSummed (s : SlotWeights) (ws : List ℕ) : Type 0 where
  pub counted : s.count ≡ capped (length ws)
  pub above : s.excess ≡ capped (excess ws)
  pub multiplied : s.product ≡ capped (product ws)

-- each is a tree's
abbrev pub AreLeast : List ℕ → Type 0
AreLeast [] = Unit {0}
AreLeast (w ∷ ws) = (least ≤ w) × AreLeast ws

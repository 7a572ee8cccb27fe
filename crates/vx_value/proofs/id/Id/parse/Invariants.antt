use Rattle.std.proofs.Common.{◌≡◌, ℕ, ◌<◌, get_or}
use Rattle.vx_value.specs.declared.id.Id.TheVariants as id
use Rattle.vx_value.specs.Ids.{id_text}
use Rattle.vx_value.proofs.id.Id.parse.Given as goal

-- no earlier id has the text
abbrev pub invariant-loop-id : goal.invariant-loop-id
invariant-loop-id l = (k : ℕ) → k < l.id-index → ¬ (id_text (get_or l.id-items k id.Constant) ≡ l.text)

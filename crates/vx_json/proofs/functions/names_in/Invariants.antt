use Rattle.serde_json.specs.Find.{as_str}
use Rattle.vx_json.proofs.SpelledValuesLemmas.{IsReadTo}
use Rattle.vx_json.proofs.functions.names_in.Given as goal

-- the names so far, and then those of the values that are left
abbrev pub invariant-loop-value : goal.invariant-loop-value
invariant-loop-value l = IsReadTo as_str l.list.items l.value-index l.names.items

-- The function over trees that an object spells.
use Rattle.std.specs.Prelude.{List, is_none, if◌then◌else◌, Option, None, option_and_then}
use Rattle.serde_json.specs.Data.{Data}
use Rattle.vx_fn.specs.declared.function.ScalarFnRef.{ScalarFnRef}
use Rattle.vx_tree.specs.Calls.{inferred_refusal, inferred}
use Rattle.vx_tree.specs.Tree.{Tree}
use Rattle.vx_json.specs.SpelledFunctions.{function_at}

-- `{"enc":"fn","fn":"add","args":[{..},{..}]}`: the function over the trees, if it accepts them
abbrev pub call_on : List Tree → ScalarFnRef → Option Tree
call_on ts f = if is_none (inferred_refusal f ts) then inferred f ts else None

abbrev pub call_spelled : Data → List Tree → Option Tree
call_spelled d ts = option_and_then (call_on ts) (function_at d)

-- Functions of trees, and the tests for null among them.
use Rattle.std.specs.Prelude.{◌≡◌, List, Bool, true, false}
use Rattle.vx_fn.specs.declared.function.ScalarFnRef.{ScalarFnRef}
use Rattle.vx_fn.specs.declared.function.ScalarFnRef.TheVariants as fn_of
use Rattle.vx_tree.specs.Tree as enc
use Rattle.vx_tree.specs.Tree.{Tree, dtype, len, call_of, filled_slots}
use Rattle.vx_tree.specs.Well.{IsNode, shapes}

-- the function is a test for null
abbrev pub is_null_test : ScalarFnRef → Bool
is_null_test fn_of.IsNull = true
is_null_test fn_of.IsNotNull = true
is_null_test _ = false

-- the test for null that gives this result for a row that isn't null
abbrev pub null_test : Bool → ScalarFnRef
null_test false = fn_of.IsNull
null_test true = fn_of.IsNotNull

-- t is the well-formed node of f over these trees
abbrev pub IsCallOf : ScalarFnRef → List Tree → Tree → Type 0
IsCallOf f ts t = (t ≡ call_of f (dtype t) (len t) ts) × IsNode (dtype t) (len t) (enc.function f) (shapes (filled_slots ts))

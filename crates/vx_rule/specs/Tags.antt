-- The function that a node applies.
use Rattle.std.specs.Prelude.{Bool, true, false}
use Rattle.vx_fn.specs.declared.function.ScalarFnRef.{ScalarFnRef}
use Rattle.vx_fn.specs.declared.function.ScalarFnRef.TheVariants as fn_of
use Rattle.vx_tree.specs.Tree as enc
use Rattle.vx_tree.specs.Tree.{Data, lets_below}

-- whether it is this function
abbrev pub is_mask : ScalarFnRef → Bool
is_mask fn_of.Mask = true
is_mask _ = false

abbrev pub is_cast : ScalarFnRef → Bool
is_cast (fn_of.Cast target) = true
is_cast _ = false

abbrev pub is_not : ScalarFnRef → Bool
is_not fn_of.Not = true
is_not _ = false

abbrev pub is_between : ScalarFnRef → Bool
is_between (fn_of.Between options) = true
is_between _ = false

abbrev pub is_fill_null : ScalarFnRef → Bool
is_fill_null fn_of.FillNull = true
is_fill_null _ = false

abbrev pub is_pack : ScalarFnRef → Bool
is_pack (fn_of.Pack options) = true
is_pack _ = false

abbrev pub is_get_item : ScalarFnRef → Bool
is_get_item (fn_of.GetItem name) = true
is_get_item _ = false

-- the node applies a function that passes the test
abbrev pub applies : (ScalarFnRef → Bool) → Data → Bool
applies p (enc.function f) = p f
applies p _ = false

-- what passes below functions passes through the node as far as its function is concerned
abbrev pub is_open : Data → Bool
is_open (enc.function f) = lets_below f
is_open _ = true

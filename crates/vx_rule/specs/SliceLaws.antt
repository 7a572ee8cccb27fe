-- A slice passes through these encodings, through a function's node if it passes below the function.
use Rattle.std.proofs.Common.{◌≡◌, true, refl, sym, ◌∙◌}
use Rattle.std.specs.Prelude.{◌||◌}
use Rattle.std.proofs.lemmas.Bool.{or_right}
use Rattle.vx_tree.specs.Tree as enc
use Rattle.vx_tree.specs.Tree.{Data, is_slice, is_constant, is_function, is_masked, is_dict, is_nulls, is_bool, is_primitive, is_decimals, is_views, is_flat, is_struct, is_extension, is_composed, is_canonical, lets_below}
use Rattle.vx_rule.specs.Rules.{lets_slice}
use Rattle.vx_rule.specs.Tags.{applies, is_open}

pub slice_lets : (d : Data) → is_slice d ≡ true → lets_slice d ≡ is_open d
slice_lets (enc.slice a b) h = refl
slice_lets _ h = absurd (cc (h))

pub constant_lets : (d : Data) → is_constant d ≡ true → lets_slice d ≡ is_open d
constant_lets (enc.constant v) h = refl
constant_lets _ h = absurd (cc (h))

pub function_lets : (d : Data) → is_function d ≡ true → lets_slice d ≡ is_open d
function_lets (enc.function f) h = refl
function_lets _ h = absurd (cc (h))

pub masked_lets : (d : Data) → is_masked d ≡ true → lets_slice d ≡ is_open d
masked_lets enc.masked h = refl
masked_lets _ h = absurd (cc (h))

pub dict_lets : (d : Data) → is_dict d ≡ true → lets_slice d ≡ is_open d
dict_lets enc.dict h = refl
dict_lets _ h = absurd (cc (h))

pub column_lets : (d : Data) → is_canonical d ≡ true → lets_slice d ≡ true
column_lets d h = λ i. h i || is_slice d || is_constant d || is_masked d || is_dict d || applies lets_below d

column_open : (d : Data) → is_canonical d ≡ true → is_open d ≡ true
column_open (enc.function f) h = absurd (cc (h))
column_open _ h = refl

pub canonical_lets : (d : Data) → is_canonical d ≡ true → lets_slice d ≡ is_open d
canonical_lets d h = column_lets d h ∙ sym (column_open d h)

-- ---- the canonical encodings

pub nulls_canonical : (d : Data) → is_nulls d ≡ true → is_canonical d ≡ true
nulls_canonical d h = λ i. h i || is_flat d || is_composed d

flat_canonical : (d : Data) → is_flat d ≡ true → is_canonical d ≡ true
flat_canonical d h = λ i. or_right (is_nulls d) (is_flat d) h i || is_composed d

pub bool_canonical : (d : Data) → is_bool d ≡ true → is_canonical d ≡ true
bool_canonical d h = flat_canonical d (λ i. h i || is_primitive d || is_decimals d || is_views d)

pub primitive_canonical : (d : Data) → is_primitive d ≡ true → is_canonical d ≡ true
primitive_canonical d h = flat_canonical d (λ i. or_right (is_bool d) (is_primitive d) h i || is_decimals d || is_views d)

pub decimals_canonical : (d : Data) → is_decimals d ≡ true → is_canonical d ≡ true
decimals_canonical d h = flat_canonical d (λ i. or_right (is_bool d || is_primitive d) (is_decimals d) h i || is_views d)

pub views_canonical : (d : Data) → is_views d ≡ true → is_canonical d ≡ true
views_canonical d h = flat_canonical d (or_right (is_bool d || is_primitive d || is_decimals d) (is_views d) h)

composed_canonical : (d : Data) → is_composed d ≡ true → is_canonical d ≡ true
composed_canonical d h = or_right (is_nulls d || is_flat d) (is_composed d) h

pub struct_canonical : (d : Data) → is_struct d ≡ true → is_canonical d ≡ true
struct_canonical (enc.composed l) h = composed_canonical (enc.composed l) refl
struct_canonical _ h = absurd (cc (h))

pub extension_canonical : (d : Data) → is_extension d ≡ true → is_canonical d ≡ true
extension_canonical (enc.composed l) h = composed_canonical (enc.composed l) refl
extension_canonical _ h = absurd (cc (h))

-- The tree that a JSON value spells.
use Rattle.std.specs.Prelude.{◌≡◌, ℕ, List, [], ◌∷◌, Option, Some, None, option_map, option_and_then, codes, bytes_eq, IsUtf8}
use Rattle.std.specs.Map.{lookup}
use Rattle.std.specs.Option.{option_flatten}
use Rattle.std.specs.Ordering.{nat_cmp, match_ordering}
use Rattle.std.specs.Cmp.Lexicographic.{slice_cmp}
use Rattle.serde_json.specs.Data.{Data, null, boolean, number, string, array, object, Items, no_items, item, Members, no_members, member}
use Rattle.serde_json.specs.Find.{get}
use Rattle.serde_json.specs.Read.{read}
use Rattle.vx_tree.specs.Tree.{Tree}
use Rattle.vx_json.specs.Fields.{items_at, text_at}
use Rattle.vx_json.specs.SpelledColumns.{col_spelled, flat_spelled}
use Rattle.vx_json.specs.SpelledNodes as nodes
use Rattle.vx_json.specs.SpelledNulls.{nulls_at}

-- the names of encodings, and the tree that an object of each spells, given the tree and the list of trees under each key: a line for each
abbrev pub named_nodes : Data → (List ℕ → Option Tree) → (List ℕ → Option (List Tree)) → List (List ℕ × Option Tree)
named_nodes d child children =
    (codes "col", col_spelled d)
    ∷ (codes "flat", option_and_then (flat_spelled d) (nulls_at d (child (codes "validity"))))
    ∷ (codes "constant", nodes.Constant.constant_spelled d)
    ∷ (codes "null", nodes.Null.null_spelled d)
    ∷ (codes "slice", option_and_then (nodes.Slice.slice_spelled d) (child (codes "child")))
    ∷ (codes "filter", option_and_then (nodes.Filter.filter_spelled d) (child (codes "child")))
    ∷ (codes "masked", option_and_then (λ t. option_and_then (nodes.Masked.masked_spelled d t) (nulls_at d (child (codes "validity")))) (child (codes "child")))
    ∷ (codes "is_valid", option_and_then (nodes.IsValid.is_valid_spelled d) (child (codes "child")))
    ∷ (codes "fn", option_and_then (nodes.Call.call_spelled d) (children (codes "args")))
    ∷ (codes "dict", option_and_then (λ c. option_and_then (nodes.Dict.dict_spelled d c) (child (codes "values"))) (child (codes "codes")))
    ∷ (codes "chunked", option_and_then (nodes.Chunked.chunked_spelled d) (children (codes "chunks")))
    ∷ (codes "interleave", option_and_then (λ a. option_and_then (λ r. option_and_then (nodes.Interleave.interleave_spelled d a r) (children (codes "values"))) (child (codes "rows"))) (child (codes "arrays")))
    ∷ (codes "struct", option_and_then (λ ts. option_and_then (nodes.Struct.struct_spelled d ts) (nulls_at d (child (codes "validity")))) (children (codes "fields")))
    ∷ (codes "ext", option_and_then (nodes.Extension.extension_spelled d) (child (codes "storage")))
    ∷ []

abbrev pub node_named : Data → (List ℕ → Option Tree) → (List ℕ → Option (List Tree)) → List ℕ → Option Tree
node_named d child children name = option_flatten (lookup (bytes_eq name) (named_nodes d child children))

-- the node of the encoding that is named under `enc`
abbrev pub node_of : Data → (List ℕ → Option Tree) → (List ℕ → Option (List Tree)) → Option Tree
node_of d child children = option_and_then (node_named d child children) (text_at (codes "enc") d)

-- a tree in front of a list of trees
abbrev pub tree_first : Option Tree → Option (List Tree) → Option (List Tree)
tree_first tree trees = option_and_then (λ t. option_map (λ ts. t ∷ ts) trees) tree

-- the tree that a value spells, the trees that a list spells, and the tree and the trees under a key
abbrev mutual
  pub tree_spelled : Data → Option Tree
  tree_spelled null = None
  tree_spelled (boolean b) = None
  tree_spelled (number n) = None
  tree_spelled (string s) = None
  tree_spelled (array ds) = None
  tree_spelled (object ms) = node_of (object ms) (λ k. tree_under k ms) (λ k. trees_under k ms)

  pub trees_spelled : Items → Option (List Tree)
  trees_spelled no_items = Some []
  trees_spelled (item d ds) = tree_first (tree_spelled d) (trees_spelled ds)

  pub trees_listed : Data → Option (List Tree)
  trees_listed null = None
  trees_listed (boolean b) = None
  trees_listed (number n) = None
  trees_listed (string s) = None
  trees_listed (array ds) = trees_spelled ds
  trees_listed (object ms) = None

  pub tree_under : List ℕ → Members → Option Tree
  tree_under k no_members = None
  tree_under k (member l d ms) = match_ordering (slice_cmp nat_cmp k l) (tree_under k ms) (tree_spelled d) (tree_under k ms)

  pub trees_under : List ℕ → Members → Option (List Tree)
  trees_under k no_members = None
  trees_under k (member l d ms) =
      match_ordering (slice_cmp nat_cmp k l) (trees_under k ms) (trees_listed d) (trees_under k ms)

-- the bytes are JSON in UTF-8 that spells the tree t
abbrev pub Spells : List ℕ → Tree → Type 0
Spells bytes t = IsUtf8 bytes × (option_and_then tree_spelled (read bytes) ≡ Some t)

abbrev pub SpellsNone : List ℕ → Type 0
SpellsNone bytes = (t : Tree) → ¬ (Spells bytes t)

-- ---- the same by look-ups of keys, as the reader does it

abbrev pub tree_at : List ℕ → Data → Option Tree
tree_at k d = option_and_then tree_spelled (get k d)

abbrev pub trees_at : List ℕ → Data → Option (List Tree)
trees_at k d = option_and_then trees_spelled (items_at k d)

abbrev pub tree_named : Data → List ℕ → Option Tree
tree_named d = node_named d (λ k. tree_at k d) (λ k. trees_at k d)

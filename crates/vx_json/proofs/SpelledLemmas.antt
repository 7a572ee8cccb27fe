-- Looking into a value.
use Rattle.std.proofs.Common.{◌≡◌, ℕ, ◌+◌, ◌<◌, ◌≤◌, max, List, [], ◌∷◌, length, refl, ap, sym, ◌∙◌, arith, Option, Some, None, option_and_then, codes, String, zero, suc, slice_index_or}
use Rattle.std.specs.declared.alloc.Global.{Global}
use Rattle.std.specs.declared.cmp.Ordering.{Ordering}
use Rattle.std.specs.declared.cmp.Ordering.TheVariants.{Less, Equal, Greater}
use Rattle.std.specs.Ordering.{nat_cmp, match_ordering}
use Rattle.std.specs.Cmp.Lexicographic.{slice_cmp}
use Rattle.serde_json.specs.declared.value.Value.{Value}
use Rattle.serde_json.specs.Data.{Data, array, object, Items, no_items, item, Members, no_members, member, depth, members_depth, items_depth}
use Rattle.serde_json.specs.Find.{get, get_member, as_object, as_array}
use Rattle.serde_json.specs.View.{view, members_view, items_view}
use Rattle.vx_json.specs.Fields.{member_count, members_count, items_at, text_at}
use Rattle.vx_json.specs.Spelled.{tree_spelled, trees_spelled, tree_first, trees_listed, tree_under, trees_under, tree_named, node_of}
use Rattle.vx_json.specs.SpelledValues.{all_read}
use Rattle.vx_json.proofs.UnderKeysLemmas.{under_by, listed_by}

-- a map's length counts its members
count_view : (es : List (String Global × Value)) → members_count (members_view es) ≡ length es
count_view [] = refl
count_view (e ∷ es) = omega (arith, count_view es)

pub member_count-object : (d : Data) (es : List (String Global × Value)) → as_object d ≡ Some (members_view es) → member_count d ≡ length es
member_count-object (object ms) es p =
    let same : ms ≡ members_view es = cc in
    omega (arith, ap members_count same, count_view es)
member_count-object _ es p = absurd (cc)

-- what stands under a key is less deep than the whole
less_by : (o : Ordering) (d e : Data) (found : Option Data) (n : ℕ) → (found ≡ Some e → depth e ≤ n) → match_ordering o found (Some d) found ≡ Some e
    → depth e ≤ max (depth d) n
less_by Less d e found n h p = omega (arith, h p)
less_by Equal d e found n h p = let same : d ≡ e = cc in omega (arith, ap depth same)
less_by Greater d e found n h p = omega (arith, h p)

member_less : (k : List ℕ) (ms : Members) (e : Data) → get_member k ms ≡ Some e → depth e ≤ members_depth ms
member_less k no_members e p = absurd (cc)
member_less k (member l d ms) e p = less_by (slice_cmp nat_cmp k l) d e (get_member k ms) (members_depth ms) (member_less k ms e) p

pub get_less : (k : List ℕ) (d e : Data) → get k d ≡ Some e → depth e < depth d
get_less k (object ms) e p = omega (arith, member_less k ms e p)
get_less k _ e p = absurd (cc)

-- a list under a key is less deep by two, and its values no deeper than it
pub array_less : (e : Data) (ds : Items) → as_array e ≡ Some ds → items_depth ds < depth e
array_less (array es) ds p = let same : es ≡ ds = cc in omega (arith, ap items_depth same)
array_less _ ds p = absurd (cc)

list_in : (k : List ℕ) (d : Data) (ds : Items) (found : Option Data) → get k d ≡ found → Some ds ≡ option_and_then as_array found → items_depth ds + 1 < depth d
list_in k d ds None is p = absurd (cc)
list_in k d ds (Some e) is p = omega (arith, get_less k d e is, array_less e ds (sym p))

pub list_less : (k : List ℕ) (d : Data) (ds : Items) → Some ds ≡ items_at k d → items_depth ds + 1 < depth d
list_less k d ds p = list_in k d ds (get k d) refl p

pub item_less : (vs : List Value) (i : ℕ) (v : Value) → i < length vs → v ≡ slice_index_or vs i v → depth (view v) ≤ items_depth (items_view vs)
item_less [] i v h p = absurd (omega arith)
item_less (w ∷ vs) zero v h p = let same : v ≡ w = p in omega (arith, ap (λ u. depth (view u)) same)
item_less (w ∷ vs) (suc i) v h p = omega (arith, item_less vs i v (omega arith) p)

-- the trees of a list are those that its items spell
pub trees_read : (ds : Items) → trees_spelled ds ≡ all_read tree_spelled ds
trees_read no_items = refl
trees_read (item d ds) = ap (tree_first (tree_spelled d)) (trees_read ds)

-- the tree under a key is the one that the value under it spells
tree_under-get : (k : List ℕ) (ms : Members) → tree_under k ms ≡ option_and_then tree_spelled (get_member k ms)
tree_under-get k no_members = refl
tree_under-get k (member l d ms) = under_by tree_spelled (slice_cmp nat_cmp k l) d (tree_under k ms) (get_member k ms) (tree_under-get k ms)

-- the trees under a key are those that the list under it spells
list_spelled : (d : Data) → trees_listed d ≡ option_and_then trees_spelled (as_array d)
list_spelled (array ds) = refl
list_spelled _ = refl

trees_under-get : (k : List ℕ) (ms : Members) → trees_under k ms ≡ option_and_then trees_listed (get_member k ms)
trees_under-get k no_members = refl
trees_under-get k (member l d ms) = under_by trees_listed (slice_cmp nat_cmp k l) d (trees_under k ms) (get_member k ms) (trees_under-get k ms)

trees_under-items : (k : List ℕ) (ms : Members) → trees_under k ms ≡ option_and_then trees_spelled (option_and_then as_array (get_member k ms))
trees_under-items k ms = trees_under-get k ms ∙ listed_by trees_listed trees_spelled list_spelled (get_member k ms)

-- what a value spells, by its encoding and what stands under its keys
pub spelled_by : (d : Data) → tree_spelled d ≡ option_and_then (tree_named d) (text_at (codes "enc") d)
spelled_by (object ms) = λ i. node_of (object ms) (λ k. tree_under-get k ms i) (λ k. trees_under-items k ms i)
spelled_by _ = refl

use Rattle.std.proofs.Common.{◌≡◌, ◌∙◌, ◌++◌, List, map, Some, None, ap, rules}
use Rattle.std.specs.Prelude.{sum, Option}
use Rattle.vx_value.specs.View.{type_of}
use Rattle.vx_tree.specs.Tree.{Tree, slots_of, filled_slots}
use Rattle.vx_tree.specs.Well.{shapes}
use Rattle.vx_tree.specs.SlotTypes.{lengths_in, type_refusal}
use Rattle.vx_tree.proofs.SlotTypesLemmas.{filled_map}
use Rattle.vx_tree.proofs.ChunkedLemmas.{chunks_made, chunks_are_node}
use Rattle.vx_tree.proofs.arrays.chunked.ChunkedArray.try_new.Goals as goal

all_filled : (xs ys zs : List (Option Tree)) (ts : List Tree) → xs ≡ ys ++ map Some ts → ys ≡ zs → slots_of (zs ++ map Some ts) ≡ filled_slots ts
    → slots_of xs ≡ filled_slots ts
all_filled xs ys zs ts e f g = ap slots_of (e ∙ ap (λ l. l ++ map Some ts) f) ∙ g

pub of-requires-clause-node : goal.of-requires-clause-node
of-requires-clause-node c =
    let xs = c.in_ok-slots.slots.items in
    let ts = c.args.chunks.items in
    let filled = all_filled xs _ _ ts c.in_ok-slots.ensures c.new.ensures.items (filled_map ts) in
    let typed : type_refusal (type_of c.args.dtype) 0 (shapes (slots_of xs)) ≡ None = search rules in
    let counted : c.in_ok-len.len ≡ sum (lengths_in (shapes (slots_of xs))) = search rules in
    chunks_are_node (type_of c.args.dtype) c.in_ok-len.len ts xs filled typed counted

pub returns-clause-ok : goal.returns-clause-ok
returns-clause-ok c =
    let xs = c.in_ok-slots.slots.items in
    let ts = c.args.chunks.items in
    let filled = all_filled xs _ _ ts c.in_ok-slots.ensures c.new.ensures.items (filled_map ts) in
    let counted : c.in_ok-len.len ≡ sum (lengths_in (shapes (slots_of xs))) = search rules in
    c.in_ok-of.ensures.ok ∙ chunks_made (type_of c.args.dtype) c.in_ok-len.len ts xs filled counted

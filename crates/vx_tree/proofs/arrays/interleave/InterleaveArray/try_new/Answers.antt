use Rattle.std.proofs.Common.{◌≡◌, ◌∷◌, [], map, Some, IfOk, rules, subst}
use Rattle.vx_value.specs.View.{type_of}
use Rattle.vx_tree.specs.Tree.{len, first_type}
use Rattle.vx_tree.proofs.InterleaveLemmas.{interleave_made}
use Rattle.vx_tree.proofs.arrays.interleave.InterleaveArray.try_new.Goals as goal

pub returns-clause-ok : goal.returns-clause-ok
returns-clause-ok c =
    let parts = c.new-parts.result in
    let a = c.args.array_indices in
    let r = c.args.row_indices in
    let ts = c.args.values.items in
    let typed : type_of parts.dtype ≡ first_type ts = search rules in
    let counted : parts.len ≡ len a = search rules in
    let listed : parts.slots.items ≡ Some a ∷ Some r ∷ map Some ts = search rules in
    subst (λ t. IfOk c.validated.result (λ h. h ≡ t)) (interleave_made (type_of parts.dtype) parts.len parts.slots.items a r ts typed counted listed)
    c.validated.ensures.ok

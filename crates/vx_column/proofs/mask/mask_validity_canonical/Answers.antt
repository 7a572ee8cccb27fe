use Rattle.std.proofs.Common.{IfOk, IfErr, Option, ◌≡◌, ◌⊎◌, ap, subst, ◌∙◌}
use Rattle.vx_value.specs.Types.{null}
use Rattle.vx_value.specs.declared.error.VortexError.TheVariants.{OutOfMemory}
use Rattle.vx_tree.specs.Tree.{Tree, dtype, len, datum, masked_of}
use Rattle.vx_tree.specs.Canonicals.{canonical_tree}
use Rattle.vx_tree.specs.Keeps.{KeepsExactly}
use Rattle.vx_tree.specs.Validities.{child_of}
use Rattle.vx_column.specs.Arguments.{AreUnread}
use Rattle.vx_column.proofs.MaskedLemmas.{tells_child}
use Rattle.vx_column.proofs.mask.mask_validity_canonical.Goals as goal

pub mask_column-requires-clause-child : goal.mask_column-requires-clause-child
mask_column-requires-clause-child c =
    let v = c.args.validity.now in
    tells_child (len c.as_array-array.result.now) _ v c.in_ok-child.child (c.in_ok-child.ensures.ok ∙ ap (child_of v) c.len.ensures)
    (ap len c.as_array-array.ensures.of) c.requires.rows

pub returns-clause-ok : goal.returns-clause-ok
returns-clause-ok c =
    let of = c.as_array-array.ensures.of in
    let slot = c.in_ok-child.ensures.ok ∙ ap (child_of c.args.validity.now) (c.len.ensures ∙ ap len of) in
    subst (λ t. IfOk c.mask_column.result (λ u. KeepsExactly t (canonical_tree u))) (λ i. masked_of (of i) (slot i)) c.mask_column.ensures.ok

pub returns-clause-err : goal.returns-clause-err
returns-clause-err c =
    let of = c.as_array-array.ensures.of in
    let slot = c.in_ok-child.ensures.ok ∙ ap (child_of c.args.validity.now) (c.len.ensures ∙ ap len of) in
    subst (λ (p : Tree × Option Tree). IfErr c.mask_column.result (λ e. (e ≡ OutOfMemory) ⊎ ((dtype p.0 ≡ null) × AreUnread (len p.0) p.1 e)))
    (λ i. (of i, slot i))
    c.mask_column.ensures.err

pub returns-clause-stored : goal.returns-clause-stored
returns-clause-stored c =
    subst (λ t. IfOk c.mask_column.result (λ u. datum (canonical_tree u) ≡ datum t)) c.as_array-array.ensures.of c.mask_column.ensures.stored

use Rattle.std.proofs.Common.{◌≡◌, [], ◌∷◌, slice_index_or, true, ap, sym, subst, ◌∙◌}
use Rattle.vx_tree.specs.Tree.{slots_of, is_flat}
use Rattle.vx_tree.specs.Well.{IsWell}
use Rattle.vx_tree.proofs.FlatLemmas.{flat_slot}
use Rattle.vx_tree.proofs.canonical.flat.flat_validity.Goals as goal

pub returns : goal.returns
returns g c =
    let xs = c.slots.result.now in
    let x = c.index-slots-0.result in
    let well = subst IsWell c.as_array.ensures.of c.well_formed_tree.ensures.formed in
    let flat = subst (λ d. is_flat d ≡ true) c.data-data.ensures (g.met.V.FlatEncoding.flat c.data-data.result.now) in
    let only = flat_slot c.args.column.now xs well flat c.slots.ensures in
    let slot = sym c.slots.ensures ∙ ap slots_of (only.1 ∙ ap (λ v. v ∷ []) (sym (c.index-slots-0.is ∙ ap (λ l. slice_index_or l 0 x) only.1))) in
    record { slot = slot; flat = flat; formed = well }

use Rattle.std.proofs.Common.{ap, ◌∙◌}
use Rattle.vx_value.specs.View.{type_of}
use Rattle.vx_column.specs.Joined.{joined_slot, slot_of_each}
use Rattle.vx_column.specs.Pieces.{columns_in}
use Rattle.vx_column.proofs.PiecesLemmas.{storage_fits, other_type}
use Rattle.vx_column.proofs.builder.join.join.Goals as goal

pub composed_column-requires-clause-node : goal.composed_column-requires-clause-node
composed_column-requires-clause-node c =
    let e = c.in-Extension.extension in
    let stored = c.in_ok-storage-in-Extension in
    storage_fits (type_of c.args.dtype.now) (type_of c.in_ok-clone-in-Extension.field-0) e.0 e.1 c.args.pieces.now c.args.len stored.storage
    c.in_ok-slots-in-Extension.slots.items (ap type_of c.in-Extension.is) (ap type_of c.in_ok-clone-in-Extension.ensures.cases) c.requires.pieces
    c.requires.counted (stored.ensures.ok ∙ ap (λ s. joined_slot s (slot_of_each 0 (columns_in c.args.pieces.now))) c.storage.ensures)
    c.in_ok-slots-in-Extension.ensures.items

pub unreachable-requires : goal.unreachable-requires
unreachable-requires c =
    other_type c.args.dtype.now c.args.pieces.now c.requires.pieces c.requires.columns c.requires.some c.in_default.not-Struct
    c.in_default.not-Extension

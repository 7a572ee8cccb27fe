use Rattle.std.proofs.Common.{length, None, ap, ◌∙◌}
use Rattle.vx_mask.specs.Masks.{bits_in}
use Rattle.vx_tree.specs.Tree.{dtype, node, composed, slots_of, filter_of}
use Rattle.vx_tree.specs.declared.array.layout.Layout.TheVariants as layout
use Rattle.vx_rule.proofs.StructsLemmas.{struct_shape, structs_long, structs_chosen}
use Rattle.vx_rule.proofs.FitsLemmas.{fit_F4, raw_row}
use Rattle.vx_rule.proofs.encodings.filter.filter_of_structs.Goals as goal

pub choose_slots-requires : goal.choose_slots-requires
choose_slots-requires c =
    structs_long c.args.child.now c.slots.result.now c.requires.structs c.slots.ensures c.well_formed_tree.ensures.formed (length (bits_in c.args.mask.now))
    c.requires.long

pub structs_node-requires : goal.structs_node-requires
structs_node-requires c =
    structs_chosen c.args.child.now c.slots.result.now c.requires.structs c.slots.ensures c.well_formed_tree.ensures.formed (bits_in c.args.mask.now)
    c.in_ok-choices.choices.items c.true_count.result c.requires.long c.in_ok-choices.ensures.ok c.true_count.ensures

pub returns : goal.returns
returns c =
    let x = c.args.child.now in
    let bits = bits_in c.args.mask.now in
    let us = slots_of c.in_ok-choices.choices.items in
    raw_row None (filter_of bits x) c.in_ok-structs.structs c.raw.result c.raw.ensures
    (λ u os e g. fit_F4 bits (slots_of c.slots.result.now) us x u os (struct_shape x c.slots.result.now c.requires.structs c.slots.ensures) c.requires.long
    c.requires.apart c.in_ok-choices.ensures.ok
    (e ∙ c.in_ok-structs.ensures.ok ∙ ap (λ n. node (dtype x) n (composed layout.Struct) us) c.true_count.ensures) g)

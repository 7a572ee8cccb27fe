use Rattle.std.proofs.Common.{◌≡◌, ap, sym, subst}
use Rattle.vx_tree.specs.Tree.{dtype, len}
use Rattle.vx_tree.specs.Validities.{HasRows}
use Rattle.vx_tree.specs.declared.validity.Validity.TheVariants.{Array}
use Rattle.vx_rule.proofs.SlotsLemmas.{masked_copies}
use Rattle.vx_rule.proofs.encodings.constant.masked_by.Goals as goal

pub masked_node-requires : goal.masked_node-requires
masked_node-requires c =
    let made = c.in_ok-constant in
    let typed : dtype made.constant ≡ dtype c.args.array.now = ap dtype made.ensures.ok in
    let counted : len made.constant ≡ len c.args.array.now = ap len made.ensures.ok in
    masked_copies (dtype c.args.array.now) made.constant c.args.rows c.requires.nullable typed
    (subst (HasRows (Array c.args.rows)) (sym counted) c.requires.rows)

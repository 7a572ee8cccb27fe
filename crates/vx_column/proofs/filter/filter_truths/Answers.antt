use Rattle.std.proofs.Common.{◌≡◌, sym, subst, ◌∙◌, ap, rules}
use Rattle.vx_mask.specs.Masks.{bits_in}
use Rattle.vx_tree.specs.Tree as enc
use Rattle.vx_tree.specs.Tree.{dtype, len, column, booleans, filter_of}
use Rattle.vx_tree.specs.Keeps.{KeepsExactly}
use Rattle.vx_tree.proofs.KeepsLemmas.{exactly_refl}
use Rattle.vx_column.proofs.FilteredLemmas.{booleans_filtered}
use Rattle.vx_column.proofs.filter.filter_truths.Goals as goal

pub returns-in-Bool-default-None-clause-ok : goal.returns-in-Bool-default-None-clause-ok
returns-in-Bool-default-None-clause-ok c =
    let t = c.args.array in
    let bits = bits_in c.args.mask.now in
    let bs = c.in-Bool-default-None.bits.now in
    let plain = c.in-Bool-default-None in
    let made : c.into_array.result ≡ booleans c.in_ok-kept.kept = c.into_array.ensures ∙ c.in_ok-bool_column.ensures.ok in
    subst (KeepsExactly (filter_of bits t)) (sym made)
    (booleans_filtered bits bs c.in_ok-kept.kept t (plain.ensures.0 ∙ ap (column (dtype t) (len t) (enc.bool bs)) plain.field-1-is) c.requires.typed
    plain.ensures.1 c.requires.sized c.in_ok-kept.ensures)

pub returns-clause-ok : goal.returns-clause-ok
returns-clause-ok c =
    let whole = filter_of (bits_in c.args.mask.now) c.args.array in
    let made : c.into_array-2.result ≡ whole = search rules in
    subst (KeepsExactly whole) (sym made) (exactly_refl whole)

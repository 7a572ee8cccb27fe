use Rattle.std.proofs.Common.{◌≡◌, rules, Ok}
use Rattle.vx_value.specs.View.{type_of}
use Rattle.vx_tree.specs.Tree.{dtype}
use Rattle.vx_opt.proofs.BuiltinsLemmas.{own_cast}
use Rattle.vx_opt.proofs.builtins.cast_to.Goals as goal

pub returns-then-eq : goal.returns-then-eq
returns-then-eq c =
    let h = c.if-eq.ensures in
    let g = c.eq.ensures in
    let i = c.dtype.ensures.dtype in
    let e : type_of c.args.target ≡ dtype c.args.array.now = search rules in
    own_cast c.args.target c.args.array.now e c.dtype.ensures.columns (Ok c.in_ok-clone.field-0) c.well_formed_tree.ensures.formed c.in_ok-clone.ensures.cases

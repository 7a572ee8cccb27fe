use Rattle.std.proofs.Common.{sym, subst, ◌∙◌}
use Rattle.std.proofs.lemmas.Result.{IfOk-weaker}
use Rattle.vx_tree.specs.Tree.{slice_of}
use Rattle.vx_tree.specs.Well.{IsWell}
use Rattle.vx_tree.specs.Keeps.{KeepsExactly}
use Rattle.vx_tree.proofs.NullsLemmas.{nulls_part, nulls_range}
use Rattle.vx_tree.proofs.canonical.slicing.slice_nulls.Goals as goal

pub returns : goal.returns
returns c =
    let t = c.args.column.now in
    let a = c.args.range.start in
    let b = c.args.range.end in
    let well = subst IsWell c.as_array.ensures.of c.well_formed_tree.ensures.formed in
    let part = nulls_part t a b well c.data-nulls.ensures c.requires.0 c.requires.1 in
    record {
      ok = IfOk-weaker c.new.result _ _ (λ u made. subst (KeepsExactly (slice_of a b t)) (sym made) part) c.new.ensures.ok;
      range = IfOk-weaker c.new.result _ _ (λ u made. made ∙ nulls_range t a b well c.data-nulls.ensures) c.new.ensures.ok;
      err = c.new.ensures.err;
    }

use Rattle.std.proofs.Common.{Some, sym, ap, subst, ◌∙◌}
use Rattle.vx_column.specs.Masked.{IsBoth}
use Rattle.vx_column.proofs.MaskedLemmas.{none_first, none_second}
use Rattle.vx_column.proofs.mask.both_valid.Goals as goal

pub returns-in-None-None-clause-both : goal.returns-in-None-None-clause-both
returns-in-None-None-clause-both c =
    subst (IsBoth c.args.len c.args.first.now c.args.second) c.in-None-None.is-1
    (none_first c.args.len c.args.first.now c.args.second c.in-None-None.is-0)

pub returns-in_ok-clone-in-Some-None-clause-both : goal.returns-in_ok-clone-in-Some-None-clause-both
returns-in_ok-clone-in-Some-None-clause-both c =
    subst (IsBoth c.args.len c.args.first.now c.args.second) (c.in-Some-None.is-0 ∙ ap Some (sym c.in_ok-clone-in-Some-None.ensures.cases))
    (none_second c.args.len c.args.first.now c.args.second c.in-Some-None.is-1)

pub returns-in-None-Some-clause-both : goal.returns-in-None-Some-clause-both
returns-in-None-Some-clause-both c =
    subst (IsBoth c.args.len c.args.first.now c.args.second) c.in-None-Some.is-1
    (none_first c.args.len c.args.first.now c.args.second c.in-None-Some.is-0)

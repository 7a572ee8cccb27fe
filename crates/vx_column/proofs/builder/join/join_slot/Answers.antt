use Rattle.std.proofs.Common.{ap, ◌∙◌}
use Rattle.std.proofs.lemmas.Result.{err_from_is_err_and}
use Rattle.vx_value.specs.View.{type_of}
use Rattle.vx_column.proofs.PiecesLemmas.{only_memory}
use Rattle.vx_column.proofs.builder.join.join_slot.Goals as goal

pub slots_of-requires : goal.slots_of-requires
slots_of-requires c = λ k d lt. (type_of c.args.dtype.now, c.requires.slots k d lt)

pub returns-in_err-try_new-clause-err : goal.returns-in_err-try_new-clause-err
returns-in_err-try_new-clause-err c =
    let failed = c.in_err-try_new in
    let p = err_from_is_err_and c.from_residual-in_err-try_new.result c.from_residual-in_err-try_new.ensures.1 in
    let memory = only_memory (type_of c.args.dtype.now) c.args.index c.args.pieces.now (type_of c.in_ok-clone.field-0) c.in_ok-trees.trees.items
    failed.field-0.0 c.requires.slots c.requires.columns c.requires.fits (ap type_of c.in_ok-clone.ensures.cases) c.in_ok-trees.ensures.ok
    failed.ensures.refused in
    rw p.1 (p.2 ∙ memory)

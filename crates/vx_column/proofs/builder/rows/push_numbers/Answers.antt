use Rattle.std.proofs.Common.{◌≡◌, ◌++◌, pos, OnOk, subst}
use Rattle.vx_column.proofs.GrowingLemmas.{all_rows_or}
use Rattle.vx_column.proofs.builder.rows.push_numbers.Goals as goal

pub returns-in-All-clause-ok : goal.returns-in-All-clause-ok
returns-in-All-clause-ok g c =
    let kept = c.args.kept.now in
    subst (λ zs. OnOk c.append.result (c.append.new.self ≡ record { kind = kept.kind; numbers = kept.numbers ++ zs }))
    (all_rows_or (pos 0) c.args.valid.now c.in-All.field-0 c.args.numbers.now.numbers c.in-All.is) c.append.ensures.ok

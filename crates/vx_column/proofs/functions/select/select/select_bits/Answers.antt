use Rattle.std.proofs.Common.{◌∙◌}
use Rattle.std.proofs.lemmas.Result.{IfOk-weaker}
use Rattle.vx_column.proofs.SelectLemmas.{words_selected}
use Rattle.vx_column.proofs.functions.select.select.select_bits.Goals as goal

pub returns-in_ok-others-in_default : goal.returns-in_ok-others-in_default
returns-in_ok-others-in_default c =
    IfOk-weaker c.zip-in_default-3.result _ _
    (λ b new. new ∙ words_selected c.args.choice c.args.if_true c.args.if_false c.args.len c.in_ok-chosen-in_default.chosen c.in_ok-others-in_default.others
    c.in_ok-chosen-in_default.ensures c.in_ok-others-in_default.ensures)
    c.zip-in_default-3.ensures

use Rattle.std.proofs.Common.{◌&&◌, sym, ap, ◌∙◌}
use Rattle.std.specs.Ordering.{int_cmp, is_le, is_some_and}
use Rattle.vx_column.proofs.functions.operator.decimals.DigitLimits.contains.Goals as goal

pub returns-then-le : goal.returns-then-le
returns-then-le g c =
    let read = g.T.Number.value in
    let limits = c.args.self.now in
    let number = c.args.number in
    let least = c.le.ensures ∙ ap (is_some_and is_le) (g.met.T.Number.order_law limits.least number g.met.T.Integral.exact_law) in
    c.le-then-le.ensures ∙ ap (is_some_and is_le) (g.met.T.Number.order_law number limits.greatest g.met.T.Integral.exact_law)
    ∙ ap (λ b. b && is_le (int_cmp (read number) (read limits.greatest))) (sym c.if-le.true ∙ least)

pub returns-else-le : goal.returns-else-le
returns-else-le g c =
    let read = g.T.Number.value in
    let limits = c.args.self.now in
    let number = c.args.number in
    let least = c.le.ensures ∙ ap (is_some_and is_le) (g.met.T.Number.order_law limits.least number g.met.T.Integral.exact_law) in
    c.if-le.false ∙ ap (λ b. b && is_le (int_cmp (read number) (read limits.greatest))) (sym c.if-le.false ∙ least)

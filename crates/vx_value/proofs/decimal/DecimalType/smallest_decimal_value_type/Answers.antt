use Rattle.vx_value.proofs.DecimalsLemmas.{is_narrowest}
use Rattle.vx_value.proofs.decimal.DecimalType.smallest_decimal_value_type.Goals as goal

pub returns-clause-narrowest : goal.returns-clause-narrowest
returns-clause-narrowest c = is_narrowest c.smallest_width.result c.args.decimal.now.precision c.smallest_width.ensures c.args.decimal.now.is_decimal.1

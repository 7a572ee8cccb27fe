use Rattle.std.proofs.Common.{◌≡◌, rules, if◌then◌else◌, ap, sym, ◌∙◌}
use Rattle.std.proofs.lemmas.Result.{IfOk-weaker, IfErr-weaker}
use Rattle.vx_value.specs.View.{type_of, value_of}
use Rattle.vx_value.specs.IsOf.{is_of}
use Rattle.vx_value.specs.Cell.{value, fault}
use Rattle.vx_fn.specs.Binary.{operated}
use Rattle.vx_fn.proofs.ArithmeticLemmas.{sized_bounded}
use Rattle.vx_fn.proofs.functions.binary.operate_values.Goals as goal
use Rattle.vx_fn.proofs.functions.binary.operate_values.Goals.{After-fitted, in-Bool-default-default}
use Rattle.vx_fn.proofs.functions.binary.operate_values.Goals.{in-Primitive-Integer-Integer+in_ok-exactly-in-Primitive-Integer-Integer}
use Rattle.vx_fn.proofs.functions.binary.operate_values.Goals.{in-Decimal-Decimal-Decimal+in_ok-exactly-in-Decimal-Decimal-Decimal}

pub returns-in_err-exactly-in-Decimal-Decimal-Decimal-clause-fault : goal.returns-in_err-exactly-in-Decimal-Decimal-Decimal-clause-fault
returns-in_err-exactly-in-Decimal-Decimal-Decimal-clause-fault c =
    let d = c.in-Decimal-Decimal-Decimal.decimal in
    let found = c.in_err-exactly-in-Decimal-Decimal-Decimal.ensures.fault in
    let fault = found.1 _ (sized_bounded d.precision d.scale d.is_decimal.1) in
    search rules

-- the operator gives the value that was found if it is of the type, and else a fault
found : (c : After-fitted) → operated c.args.operator (type_of c.args.dtype) (value_of c.args.lhs.now) (value_of c.args.rhs.now)
    ≡ (if is_of (type_of c.args.dtype) (value_of c.match-dtype.value) then value (value_of c.match-dtype.value) else fault)
found c = elim c.match-dtype.branch [
  | in-Bool-default-default w ↦ search rules
  | in-Primitive-Integer-Integer+in_ok-exactly-in-Primitive-Integer-Integer w ↦ search rules
  | in-Decimal-Decimal-Decimal+in_ok-exactly-in-Decimal-Decimal-Decimal w ↦ search rules
]

pub returns-clause-ok : goal.returns-clause-ok
returns-clause-ok c =
    let v = value_of c.match-dtype.value in
    IfOk-weaker c.fitted.result _ _ (λ s e. (e.0, found c ∙ ap (λ b. if b then value v else fault) e.2 ∙ ap value (sym e.1))) c.fitted.ensures.ok

pub returns-clause-fault : goal.returns-clause-fault
returns-clause-fault c =
    let v = value_of c.match-dtype.value in
    IfErr-weaker c.fitted.result _ _ (λ x e. (e.0, found c ∙ ap (λ b. if b then value v else fault) e.1)) c.fitted.ensures.fault

use Rattle.std.proofs.Common.{ap, subst, rules, ◌∙◌}
use Rattle.std.proofs.lemmas.Bool.{false≢true}
use Rattle.std.specs.Prelude.{IsSome, map}
use Rattle.vx_value.specs.Cell.{value}
use Rattle.vx_fn.specs.Apply.{on_values}
use Rattle.vx_fn.specs.Between.{between}
use Rattle.vx_fn.proofs.ArityLemmas.{three_read}
use Rattle.vx_fn.proofs.BetweenLemmas.{none_of_few, none_of_many}
use Rattle.vx_fn.proofs.functions.between.BetweenOptionsRowFunction.apply.Goals as goal
use Rattle.vx_fn.proofs.functions.between.BetweenOptionsRowFunction.apply.Goals.{in_default-via-then-arguments-lt3}
use Rattle.vx_fn.proofs.functions.between.BetweenOptionsRowFunction.apply.Goals.{in_default-via-else-arguments-lt3+else-arguments-lt4}

pub lies_between-requires : goal.lies_between-requires
lies_between-requires c =
    subst (λ xs. IsSome ((between c.args.self.now).types (map (λ s. s.of_type) xs)))
    (three_read _ _ _ _ c.in-len3.len_at_least c.in-len3.len_below c.array-item.is c.lower-item.is c.upper-item.is) c.requires

pub returns-clause-typed : goal.returns-clause-typed
returns-clause-typed c =
    ap (λ xs. (between c.args.self.now).types (map (λ s. s.of_type) xs))
    (three_read _ _ _ _ c.in-len3.len_at_least c.in-len3.len_below c.array-item.is c.lower-item.is c.upper-item.is)
    ∙ c.lies_between.ensures.typed

pub returns-clause-ok : goal.returns-clause-ok
returns-clause-ok c =
    ap (λ xs. on_values ((between c.args.self.now).value (map (λ a. a.of_type) xs) c.lies_between.result.of_type) (map (λ s. value s.value) xs))
    (three_read _ _ _ _ c.in-len3.len_at_least c.in-len3.len_below c.array-item.is c.lower-item.is c.upper-item.is)
    ∙ c.lies_between.ensures.value

pub unreachable-requires : goal.unreachable-requires
unreachable-requires c =
    let xs = c.args.arguments.now in
    elim c.in_default.branch [
      | in_default-via-then-arguments-lt3 w ↦ false≢true (subst IsSome (none_of_few (λ s. s.of_type) xs (search rules)) c.requires)
      | in_default-via-else-arguments-lt3+else-arguments-lt4 w ↦
          false≢true (subst IsSome (none_of_many (λ s. s.of_type) xs (search rules)) c.requires)
    ]

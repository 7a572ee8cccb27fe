use Rattle.std.proofs.Common.{◌≡◌, ◌∙◌, ap, sym, rules}
use Rattle.vx_value.specs.View.{type_of, cell_of}
use Rattle.vx_value.specs.IsOf.{is_of}
use Rattle.vx_value.proofs.scalar.ScalarClone.clone.Goals as goal

pub new_unchecked-requires-clause-typed : goal.new_unchecked-requires-clause-typed
new_unchecked-requires-clause-typed c =
    let types : type_of c.in_ok-dtype.dtype ≡ c.args.self.now.of_type = search rules in
    let values : cell_of c.in_ok-value.value ≡ c.args.self.now.value = search rules in
    (λ i. is_of (types i) (values i)) ∙ c.entry.ensures.typed

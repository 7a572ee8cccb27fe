use Rattle.std.proofs.Common.{◌≡◌, ◌∙◌, rules}
use Rattle.vx_value.specs.View.{type_of, cell_of}
use Rattle.vx_value.specs.IsOf.{is_of}
use Rattle.vx_value.proofs.parts.copied.Goals as goal

pub new_unchecked-requires-clause-typed : goal.new_unchecked-requires-clause-typed
new_unchecked-requires-clause-typed c =
    let types : type_of c.in_ok-dtype.dtype ≡ type_of c.args.dtype.now = search rules in
    let values : cell_of c.in_ok-value.value ≡ cell_of c.args.value.now = search rules in
    (λ i. is_of (types i) (values i)) ∙ c.requires.typed

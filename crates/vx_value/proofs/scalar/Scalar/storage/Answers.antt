use Rattle.std.proofs.Common.{◌≡◌, ◌∙◌, ap, sym, rules}
use Rattle.vx_value.specs.Types as type
use Rattle.vx_value.specs.View.{type_of, cell_of}
use Rattle.vx_value.specs.IsOf.{is_of}
use Rattle.vx_value.proofs.ScalarPartsLemmas.{extension_typed}
use Rattle.vx_value.proofs.scalar.Scalar.storage.Goals as goal

pub copied-requires-clause-typed : goal.copied-requires-clause-typed
copied-requires-clause-typed c =
    let e = c.in-Extension.extension in
    let own : type.extension e.0 e.1 ≡ c.args.self.now.of_type = search rules in
    let stored : type_of c.storage.result.now ≡ e.1 = search rules in
    let values : cell_of c.entry.result.now ≡ c.args.self.now.value = search rules in
    (λ i. is_of (stored i) (values i))
    ∙ sym (extension_typed e.0 e.1 c.args.self.now.value)
    ∙ ap (λ t. is_of t c.args.self.now.value) own
    ∙ c.dtype.ensures.typed

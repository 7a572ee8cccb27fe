use Rattle.std.proofs.Common.{◌≡◌, ◌∙◌, map, Some, ap, sym, rules}
use Rattle.vx_value.specs.Cell.{value}
use Rattle.vx_value.specs.Values.{fields}
use Rattle.vx_value.specs.View.{type_of}
use Rattle.vx_fn.specs.Pack.{pack, pack_type}
use Rattle.vx_fn.proofs.PackLemmas.{packed, all_values}
use Rattle.vx_fn.proofs.functions.pack.PackOptionsRowFunction.apply.Goals as goal

pub new_unchecked-requires-clause-typed : goal.new_unchecked-requires-clause-typed
new_unchecked-requires-clause-typed c =
    let o = c.args.self.now in
    let made : Some (type_of c.in-Some.dtype) ≡ pack_type o.nullability o.names (map (λ s. s.of_type) c.args.arguments.now) = search rules in
    (packed o.nullability o.names c.args.arguments.now _ c.in_ok-values.values made c.in_ok-types.ensures.typed c.in_ok-values.ensures.ok).0

pub new_unchecked-requires-clause-fits : goal.new_unchecked-requires-clause-fits
new_unchecked-requires-clause-fits c =
    let o = c.args.self.now in
    let made : Some (type_of c.in-Some.dtype) ≡ pack_type o.nullability o.names (map (λ s. s.of_type) c.args.arguments.now) = search rules in
    (packed o.nullability o.names c.args.arguments.now _ c.in_ok-values.values made c.in_ok-types.ensures.typed c.in_ok-values.ensures.ok).1

pub returns-clause-ok : goal.returns-clause-ok
returns-clause-ok c =
    let o = c.args.self.now in
    all_values ((pack o).value (map (λ s. s.of_type) c.args.arguments.now) c.new_unchecked.result.of_type) c.args.arguments.now
    ∙ ap (λ vs. value (fields vs)) (sym c.in_ok-values.ensures.ok)
    ∙ ap (λ s. value s.value) (sym c.new_unchecked.ensures)

use Rattle.std.proofs.Common.{◌≡◌, OnOk, replicate, length, ap, sym, subst, ◌∙◌}
use Rattle.std.proofs.lemmas.Result.{on_ok_weaker}
use Rattle.vx_value.specs.Types.{nullability_of}
use Rattle.vx_value.specs.Values.{null}
use Rattle.vx_tree.specs.Tree.{len}
use Rattle.vx_tree.specs.Cells.{rows}
use Rattle.vx_tree.specs.Canonicals.{columnar_tree}
use Rattle.vx_column.specs.Built.{appended}
use Rattle.vx_column.specs.Growing.{values_or}
use Rattle.vx_column.proofs.BuiltLemmas.{values_null, clean_null, values_shown, clean_shown}
use Rattle.vx_column.proofs.builder.flat.FlatBuilder.push_column.Goals as goal

pub returns-then-is_null_constant-clause-ok : goal.returns-then-is_null_constant-clause-ok
returns-then-is_null_constant-clause-ok c =
    let t = columnar_tree c.args.column.now in
    let is = c.is_null_constant.ensures c.if-is_null_constant.true in
    subst (λ vs. OnOk c.push_nulls.result (c.push_nulls.new.self ≡ appended c.args.self.now vs))
    (ap (λ n. replicate n null) c.len.ensures ∙ values_null t is) c.push_nulls.ensures.ok

pub returns-then-is_null_constant-clause-valid : goal.returns-then-is_null_constant-clause-valid
returns-then-is_null_constant-clause-valid c =
    let is = c.is_null_constant.ensures c.if-is_null_constant.true in
    on_ok_weaker c.push_nulls.result (λ _. clean_null (columnar_tree c.args.column.now) is) c.push_nulls.ensures.ok

pub push_nulls-requires-clause-nullable : goal.push_nulls-requires-clause-nullable
push_nulls-requires-clause-nullable c = ap nullability_of (sym c.requires.typed) ∙ (c.is_null_constant.ensures c.if-is_null_constant.true).1

pub push_argument-requires-clause-typed : goal.push_argument-requires-clause-typed
push_argument-requires-clause-typed c = sym c.requires.typed ∙ c.in-Ok.ensures.ok.typed

pub returns-in-Ok-clause-ok : goal.returns-in-Ok-clause-ok
returns-in-Ok-clause-ok c =
    let t = columnar_tree c.args.column.now in
    let a = c.in-Ok.argument in
    let counted = subst (λ u. length (rows u) ≡ len u) c.as_array.ensures.of c.well_formed_tree.ensures.counted in
    subst (λ vs. OnOk c.push_argument.result (c.push_argument.new.self ≡ appended c.args.self.now vs))
    (ap (values_or null a.rows a.valid) c.len-in-Ok.ensures ∙ values_shown t a counted c.in-Ok.ensures.ok.shown) c.push_argument.ensures.ok

pub returns-in-Ok-clause-valid : goal.returns-in-Ok-clause-valid
returns-in-Ok-clause-valid c =
    let t = columnar_tree c.args.column.now in
    let counted = subst (λ u. length (rows u) ≡ len u) c.as_array.ensures.of c.well_formed_tree.ensures.counted in
    on_ok_weaker c.push_argument.result (λ _. clean_shown t c.in-Ok.argument counted c.in-Ok.ensures.ok.shown) c.push_argument.ensures.ok

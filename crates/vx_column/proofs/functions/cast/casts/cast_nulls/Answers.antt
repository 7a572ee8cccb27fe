use Rattle.std.proofs.Common.{ap, ◌∙◌}
use Rattle.std.proofs.lemmas.Result.{IfOk-weaker}
use Rattle.vx_value.specs.View.{type_of}
use Rattle.vx_value.specs.Storage.{is_nested}
use Rattle.vx_value.specs.Typed.{Typed}
use Rattle.vx_tree.specs.Canonicals.{canonical_tree}
use Rattle.vx_column.proofs.CastsLemmas.{null_stored, nulls_cast}
use Rattle.vx_column.proofs.functions.cast.casts.cast_nulls.Goals as goal

pub stored_column-requires-clause-rows : goal.stored_column-requires-clause-rows
stored_column-requires-clause-rows c =
    null_stored c.null-null.result (type_of c.args.target.now) c.repeated_rows.result c.args.valid.now c.args.len c.repeated_rows.ensures
    (ap (λ x. x.of_type) c.null-null.ensures ∙ ap type_of c.in_ok-clone.ensures.cases) c.requires.nullability c.requires.valid c.requires.shown

pub returns-clause-ok : goal.returns-clause-ok
returns-clause-ok c =
    IfOk-weaker c.stored_column.result _ _
    (λ u h. nulls_cast c.null-null.result (type_of c.args.target.now) c.repeated_rows.result c.args.valid.now c.args.len c.repeated_rows.ensures
    (ap (λ x. x.of_type) c.null-null.ensures ∙ ap type_of c.in_ok-clone.ensures.cases) c.requires.nullability c.requires.valid c.requires.shown
    (canonical_tree u) h)
    c.stored_column.ensures.ok

pub repeated_rows-requires : goal.repeated_rows-requires
repeated_rows-requires c =
    ap (λ x. is_nested (Typed.of_type x)) c.null-null.ensures ∙ ap (λ d. is_nested (type_of d)) c.in_ok-clone.ensures.cases ∙ c.requires.unnested

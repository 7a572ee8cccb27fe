use Rattle.std.proofs.Common.{◌++◌, ◌∷◌, [], refl, arith, ap, sym, ◌∙◌, length}
use Rattle.std.proofs.lemmas.Bool.{and_from}
use Rattle.vx_value.specs.View.{type_of, value_of}
use Rattle.vx_column.specs.Growing.{stored_values}
use Rattle.vx_column.proofs.GrowingLemmas.{accepted, typed_so, rows_counted, rows_more, kept_more, kept_same, seen_more}
use Rattle.vx_column.proofs.builder.flat.FlatBuilder.push.Goals as goal

pub push-requires : goal.push-requires
push-requires c =
    let typed = typed_so (type_of c.self.inside.dtype) c.args.scalar.now.of_type (value_of c.in-Some.value.now) c.args.scalar.now.value
    (ap (λ r. r.of_type) c.self.view_is ∙ sym c.requires.typed) c.in-Some.ensures.value c.in-Some.ensures.typed in
    accepted (type_of c.self.inside.dtype) c.self.inside.values c.in-Some.value.now c.self.invariant.kind typed

pub invariant_of-self : goal.invariant_of-self
invariant_of-self c = kept_same _ _ _ _ c.self.invariant c.push.new.self c.push.ensures.zero c.push.ensures.stored c.in_err-push-in-Some.ensures.err

pub overflow_add-self : goal.overflow_add-self
overflow_add-self c =
    let seen = ap (λ r. length r.values) c.self.view_is in
    record { fits = omega (arith, c.requires.fits, rows_counted _ _ _ _ c.self.invariant, seen) }

pub invariant_of-self-in-Some : goal.invariant_of-self-in-Some
invariant_of-self-in-Some c =
    let value = value_of c.in-Some.value.now in
    let typed = typed_so (type_of c.self.inside.dtype) c.args.scalar.now.of_type value c.args.scalar.now.value
    (ap (λ r. r.of_type) c.self.view_is ∙ sym c.requires.typed) c.in-Some.ensures.value c.in-Some.ensures.typed in
    kept_more _ _ _ _ c.self.invariant c.push.new.self c.push.ensures.zero c.push.ensures.stored (value ∷ []) _ c.in_ok-push-in-Some.ensures.ok
    (and_from _ _ typed refl) refl

pub returns-in_ok-push-in-Some-clause-ok : goal.returns-in_ok-push-in-Some-clause-ok
returns-in_ok-push-in-Some-clause-ok c =
    let added = c.in_ok-push-in-Some.ensures.ok ∙ ap (λ v. stored_values c.self.inside.values ++ v ∷ []) c.in-Some.ensures.value in
    seen_more _ _ _ _ _ c.self.view_is
    (rows_more _ _ _ _ c.self.invariant c.push.new.self c.push.ensures.zero c.push.ensures.stored (c.args.scalar.now.value ∷ []) added)

use Rattle.std.proofs.Common.{◌+◌, arith, ap, ap₂, sym, subst, ◌∙◌, length, take}
use Rattle.vx_value.specs.View.{type_of}
use Rattle.vx_value.specs.Types.{nullability_of}
use Rattle.vx_column.specs.Growing.{rows_kept, IsKept}
use Rattle.vx_column.proofs.GrowingLemmas.{bits_before, rows_counted, rows_nulls, kept_same, kept_nulls, rows_counted_on, kept_counted_on, seen_more}
use Rattle.vx_column.proofs.builder.flat.FlatBuilder.push_nulls.Goals as goal

pub invariant_of-self : goal.invariant_of-self
invariant_of-self c =
    let nullable = ap (λ r. nullability_of r.of_type) c.self.view_is ∙ c.requires.nullable in
    kept_counted_on _ _ _ _ c.self.invariant c.in-Nulls.rows c.args.count c.in-Nulls.is nullable

pub returns-in-Nulls-clause-ok : goal.returns-in-Nulls-clause-ok
returns-in-Nulls-clause-ok c =
    seen_more _ _ _ _ _ c.self.view_is (rows_counted_on _ _ _ _ c.self.invariant c.in-Nulls.rows c.args.count c.in-Nulls.is)

pub push_nulls-requires : goal.push_nulls-requires
push_nulls-requires c =
    let seen = ap (λ r. length r.values) c.self.view_is in
    record { within = c.self.invariant.told; fits = omega (arith, c.requires.fits, rows_counted _ _ _ _ c.self.invariant, seen) }

pub push_zeros-requires : goal.push_zeros-requires
push_zeros-requires c =
    let seen = ap (λ r. length r.values) c.self.view_is in
    omega (arith, c.requires.fits, c.self.invariant.counted, rows_counted _ _ _ _ c.self.invariant, seen)

pub invariant_of-self-in-Err : goal.invariant_of-self-in-Err
invariant_of-self-in-Err c =
    let bits = c.self.inside.validity in
    let back = c.truncate.ensures ∙ ap₂ take c.len-told.ensures c.in_ok-push_nulls.ensures.ok ∙ bits_before c.self.inside.len c.args.count bits in
    subst (IsKept (type_of c.self.inside.dtype) c.self.inside.len c.push_zeros.new.self) (sym back)
    (kept_same _ _ _ _ c.self.invariant c.push_zeros.new.self c.push_zeros.ensures.zero c.push_zeros.ensures.stored c.in-Err.ensures.err)

pub overflow_add-self-2 : goal.overflow_add-self-2
overflow_add-self-2 c =
    let seen = ap (λ r. length r.values) c.self.view_is in
    record { fits = omega (arith, c.requires.fits, rows_counted _ _ _ _ c.self.invariant, seen) }

pub invariant_of-self-2 : goal.invariant_of-self-2
invariant_of-self-2 c =
    let nullable = ap (λ r. nullability_of r.of_type) c.self.view_is ∙ c.requires.nullable in
    subst (IsKept (type_of c.self.inside.dtype) (c.self.inside.len + c.args.count) c.push_zeros.new.self) (sym c.in_ok-push_nulls.ensures.ok)
    (kept_nulls _ _ _ _ c.self.invariant c.push_zeros.new.self c.push_zeros.ensures.zero c.push_zeros.ensures.stored c.args.count nullable
    c.in_default-push_zeros.ensures.ok)

pub returns : goal.returns
returns c =
    let bits = ap (rows_kept c.push_zeros.new.self) c.in_ok-push_nulls.ensures.ok in
    let more = rows_nulls _ _ _ _ c.self.invariant c.push_zeros.new.self c.push_zeros.ensures.zero c.push_zeros.ensures.stored c.args.count
    c.in_default-push_zeros.ensures.ok in
    record { ok = seen_more _ _ _ _ _ c.self.view_is (bits ∙ more); err = tt; refused = tt }

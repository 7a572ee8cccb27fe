use Rattle.std.proofs.Common.{◌≡◌, ◌+◌, arith, ap, ap₂, sym, subst, ◌∙◌, length, take}
use Rattle.vx_value.specs.View.{type_of}
use Rattle.vx_column.specs.Arguments.{type_of_argument}
use Rattle.vx_column.specs.ValidRows.{nullability_in}
use Rattle.vx_column.specs.Growing.{rows_kept, IsKept}
use Rattle.vx_column.proofs.KernelArgumentsLemmas.{has_stored}
use Rattle.vx_column.proofs.GrowingLemmas.{rows_counted, rows_accepted, rows_appended, kept_same, kept_appended, told_before, told_longer, seen_more}
use Rattle.vx_column.proofs.builder.flat.FlatBuilder.push_argument.Goals as goal

pub know_rows-requires : goal.know_rows-requires
know_rows-requires c = has_stored c.args.len c.args.argument.now c.requires.sized

pub push_valid-requires : goal.push_valid-requires
push_valid-requires c =
    let seen = ap (λ r. length r.values) c.self.view_is in
    record {
      within = c.self.invariant.told;
      fits = omega (arith, c.requires.fits, rows_counted _ _ _ _ c.self.invariant, seen);
      sized = c.requires.sized.1;
    }

pub push_rows-requires : goal.push_rows-requires
push_rows-requires c =
    let a = c.args.argument.now in
    let seen = ap (λ r. length r.values) c.self.view_is in
    let same : type_of c.self.inside.dtype ≡ type_of_argument a = ap (λ r. r.of_type) c.self.view_is ∙ c.requires.typed in
    record {
      rows = rows_accepted (type_of c.self.inside.dtype) c.self.inside.values (nullability_in a.valid) a.rows c.args.len c.self.invariant.kind same
          c.requires.sized.0;
      valid = c.requires.sized.1;
      fits = omega (arith, c.requires.fits, c.self.invariant.counted, rows_counted _ _ _ _ c.self.invariant, seen);
    }

pub truncate-requires : goal.truncate-requires
truncate-requires c =
    omega (
      arith,
      c.len-before.ensures,
      ap length c.in_ok-push_valid.ensures.ok,
      told_longer c.self.inside.len c.self.inside.validity c.args.argument.now.valid,
    )

pub invariant_of-self-in-Err : goal.invariant_of-self-in-Err
invariant_of-self-in-Err c =
    let bits = c.self.inside.validity in
    let back = c.truncate.ensures ∙ ap₂ take c.len-before.ensures c.in_ok-push_valid.ensures.ok
    ∙ told_before c.self.inside.len bits c.args.argument.now.valid in
    subst (IsKept (type_of c.self.inside.dtype) c.self.inside.len c.push_rows.new.self) (sym back)
    (kept_same _ _ _ _ c.self.invariant c.push_rows.new.self c.push_rows.ensures.zero c.push_rows.ensures.stored c.in-Err.ensures.err)

pub overflow_add-self : goal.overflow_add-self
overflow_add-self c =
    let seen = ap (λ r. length r.values) c.self.view_is in
    record { fits = omega (arith, c.requires.fits, rows_counted _ _ _ _ c.self.invariant, seen) }

pub invariant_of-self-2 : goal.invariant_of-self-2
invariant_of-self-2 c =
    let a = c.args.argument.now in
    let same : type_of c.self.inside.dtype ≡ type_of_argument a = ap (λ r. r.of_type) c.self.view_is ∙ c.requires.typed in
    subst (IsKept (type_of c.self.inside.dtype) (c.self.inside.len + c.args.len) c.push_rows.new.self) (sym c.in_ok-push_valid.ensures.ok)
    (kept_appended _ _ _ _ c.self.invariant c.push_rows.new.self c.push_rows.ensures.zero c.push_rows.ensures.stored a c.args.len same c.requires.sized
    c.know_rows.ensures c.in_default.ensures.ok)

pub returns : goal.returns
returns c =
    let a = c.args.argument.now in
    let bits = ap (rows_kept c.push_rows.new.self) c.in_ok-push_valid.ensures.ok in
    let more = rows_appended _ _ _ _ c.self.invariant c.push_rows.new.self c.push_rows.ensures.zero c.push_rows.ensures.stored a.rows a.valid c.args.len
    c.requires.sized.1 c.in_default.ensures.ok in
    record { ok = seen_more _ _ _ _ _ c.self.view_is (bits ∙ more); err = tt; refused = tt }

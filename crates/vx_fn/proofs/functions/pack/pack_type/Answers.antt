use Rattle.std.proofs.Common.{◌≡◌, ◌∙◌, true, length, map, None, if◌then◌else◌, ap, sym, rules}
use Rattle.std.specs.Prelude.{◌==◌}
use Rattle.std.specs.Cmp.{unsigned_Decides}
use Rattle.std.proofs.lemmas.List.{length-map}
use Rattle.std.proofs.lemmas.Result.{IfOk-weaker}
use Rattle.vx_value.specs.View.{type_of}
use Rattle.vx_fn.specs.Pack.{fields_with, struct_of}
use Rattle.vx_fn.proofs.PackLemmas.{fields_step, fields_end}
use Rattle.vx_fn.proofs.functions.pack.pack_type.Goals as goal

pub loop-i-preserved : goal.loop-i-preserved
loop-i-preserved c = (
  c.loop-i.invariant.0,
  fields_step c.as_slice-names.result.now c.args.types.now c.loop-i.fields.items c.push.new.self.items c.loop-i.i
      c.index-names-i.result c.index-types-i.result (record { name = c.in_ok-clone.field-0; dtype = c.in_ok-clone-2.field-0 }) _
      (search rules) (search rules) (search rules) (search rules) c.loop-i.invariant.1 c.in_ok-push.ensures.items,
)

pub returns-clause-ok : goal.returns-clause-ok
returns-clause-ok c =
    let n = c.args.options.now.nullability in
    let names = c.args.options.now.names in
    let tys = map type_of c.args.types.now in
    let as_many = length-map c.args.types.now type_of ∙ c.loop-i.invariant.0 ∙ ap length c.as_slice-names.ensures in
    let counted : (length tys == length names) ≡ true = (unsigned_Decides (length tys) (length names)).1 as_many in
    let made = fields_end c.as_slice-names.result.now c.args.types.now c.loop-i.fields.items c.loop-i.i _ (search rules) c.loop-i.invariant.1 in
    IfOk-weaker c.struct_type.result _ _
    (λ t h. h ∙ ap (struct_of n) (sym made) ∙ ap (λ ns. struct_of n (fields_with ns tys)) c.as_slice-names.ensures
    ∙ ap (λ b. if b then struct_of n (fields_with names tys) else None) (sym counted)) c.struct_type.ensures.ok

use Rattle.std.proofs.Common.{◌≡◌, ◌⊎◌, Some, subst, sym}
use Rattle.std.specs.Prelude.{IsSome, IfOk, IfErr, map}
use Rattle.vx_value.specs.Types.{DataType}
use Rattle.vx_value.specs.Cell.{value, fault}
use Rattle.vx_value.specs.View.{type_of}
use Rattle.vx_value.specs.declared.error.VortexError.TheVariants.{OutOfMemory, Fault}
use Rattle.vx_fn.specs.Apply.{on_values}
use Rattle.vx_fn.specs.Cast.{conversion}
use Rattle.vx_fn.proofs.ArityLemmas.{one_read}
use Rattle.vx_fn.proofs.functions.cast.DTypeRowFunction.apply.Goals as goal

pub converted-requires : goal.converted-requires
converted-requires c =
    subst (λ xs. IsSome ((conversion (type_of c.args.self.now)).types (map (λ s. s.of_type) xs)))
    (one_read _ _ c.in-len1.len_at_least c.in-len1.len_below c.input-item.is) c.requires

pub returns-clause-typed : goal.returns-clause-typed
returns-clause-typed c =
    subst (λ xs. IfOk c.converted.result (λ s. (conversion (type_of c.args.self.now)).types (map (λ a. a.of_type) xs) ≡ Some s.of_type))
    (sym (one_read _ _ c.in-len1.len_at_least c.in-len1.len_below c.input-item.is)) c.converted.ensures.typed

pub returns-clause-ok : goal.returns-clause-ok
returns-clause-ok c =
    let given = conversion (type_of c.args.self.now) in
    subst (λ xs. IfOk c.converted.result (λ s. on_values (given.value (map (λ a. a.of_type) xs) s.of_type) (map (λ a. value a.value) xs) ≡ value s.value))
    (sym (one_read _ _ c.in-len1.len_at_least c.in-len1.len_below c.input-item.is)) c.converted.ensures.ok

pub returns-clause-fault : goal.returns-clause-fault
returns-clause-fault c =
    subst (λ xs. IfErr c.converted.result (λ e. (e ≡ OutOfMemory) ⊎ ((e ≡ Fault) × ((t : DataType)
    → (conversion (type_of c.args.self.now)).types (map (λ a. a.of_type) xs) ≡ Some t
    → on_values ((conversion (type_of c.args.self.now)).value (map (λ a. a.of_type) xs) t) (map (λ a. value a.value) xs) ≡ fault))))
    (sym (one_read _ _ c.in-len1.len_at_least c.in-len1.len_below c.input-item.is)) c.converted.ensures.fault

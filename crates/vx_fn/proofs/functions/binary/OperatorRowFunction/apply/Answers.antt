use Rattle.std.proofs.Common.{◌≡◌, ◌⊎◌, inr, Some, subst, sym}
use Rattle.std.proofs.lemmas.Result.{IfErr-weaker}
use Rattle.std.specs.Prelude.{IsSome, IfOk, IfErr, map}
use Rattle.vx_value.specs.Types.{DataType}
use Rattle.vx_value.specs.Cell.{value, fault}
use Rattle.vx_value.specs.declared.error.VortexError.TheVariants.{OutOfMemory, Fault}
use Rattle.vx_fn.specs.Apply.{on_values}
use Rattle.vx_fn.specs.Binary.{binary}
use Rattle.vx_fn.proofs.ArityLemmas.{two_read}
use Rattle.vx_fn.proofs.functions.binary.OperatorRowFunction.apply.Goals as goal

pub operate-requires : goal.operate-requires
operate-requires c =
    subst (λ xs. IsSome ((binary c.args.self.now).types (map (λ s. s.of_type) xs)))
    (two_read _ _ _ c.in-len2.len_at_least c.in-len2.len_below c.lhs-item.is c.rhs-item.is) c.requires

pub returns-clause-typed : goal.returns-clause-typed
returns-clause-typed c =
    subst (λ xs. IfOk c.operate.result (λ s. (binary c.args.self.now).types (map (λ a. a.of_type) xs) ≡ Some s.of_type))
    (sym (two_read _ _ _ c.in-len2.len_at_least c.in-len2.len_below c.lhs-item.is c.rhs-item.is)) c.operate.ensures.typed

pub returns-clause-ok : goal.returns-clause-ok
returns-clause-ok c =
    subst (λ xs. IfOk c.operate.result (λ s. on_values ((binary c.args.self.now).value (map (λ a. a.of_type) xs) s.of_type) (map (λ a. value a.value) xs) ≡ value s.value))
    (sym (two_read _ _ _ c.in-len2.len_at_least c.in-len2.len_below c.lhs-item.is c.rhs-item.is)) c.operate.ensures.ok

pub returns-clause-fault : goal.returns-clause-fault
returns-clause-fault c =
    subst (λ xs. IfErr c.operate.result (λ e. (e ≡ OutOfMemory) ⊎ ((e ≡ Fault) × ((t : DataType)
    → (binary c.args.self.now).types (map (λ a. a.of_type) xs) ≡ Some t
    → on_values ((binary c.args.self.now).value (map (λ a. a.of_type) xs) t) (map (λ a. value a.value) xs) ≡ fault))))
    (sym (two_read _ _ _ c.in-len2.len_at_least c.in-len2.len_below c.lhs-item.is c.rhs-item.is))
    (IfErr-weaker c.operate.result _ _ (λ e f. inr f) c.operate.ensures.fault)

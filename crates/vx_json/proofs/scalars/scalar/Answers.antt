use Rattle.std.proofs.Common.{◌≡◌, ◌∙◌, Some, None, inr, refl, subst, rules}
use Rattle.serde_json.specs.View.{view}
use Rattle.vx_value.specs.View.{type_of, cell_of}
use Rattle.vx_json.specs.SpelledValues.{if_sound}
use Rattle.vx_json.proofs.ScalarsLemmas.{sound, unsound, scalar_read, scalar_unread}
use Rattle.vx_json.proofs.scalars.scalar.Goals as goal

pub returns-in-Ok-clause-read : goal.returns-in-Ok-clause-read
returns-in-Ok-clause-read c =
    let v = cell_of c.in_ok-value.value in
    let same : type_of c.in_ok-clone.field-0 ≡ type_of c.args.dtype.now = search rules in
    let good = subst (λ t. if_sound t v ≡ Some v) same (sound (type_of c.in_ok-clone.field-0) v c.in-Ok.ensures.valid) in
    scalar_read (type_of c.args.dtype.now) (view c.args.value.now) v c.in-Ok.scalar c.in_ok-value.ensures good (c.in-Ok.ensures.ok.0 ∙ same) c.in-Ok.ensures.ok.1

pub returns-in-Err-clause-read : goal.returns-in-Err-clause-read
returns-in-Err-clause-read c =
    let v = cell_of c.in_ok-value.value in
    let same : type_of c.in_ok-clone.field-0 ≡ type_of c.args.dtype.now = search rules in
    let bad = subst (λ t. if_sound t v ≡ None) same (unsound (type_of c.in_ok-clone.field-0) v c.in-Err.field-0 c.in-Err.ensures.refused) in
    inr (refl, scalar_unread (type_of c.args.dtype.now) (view c.args.value.now) v c.in_ok-value.ensures bad)

use Rattle.std.proofs.Common.{◌≡◌, get_or, length, ap, sym, ◌∙◌, zero-add}
use Rattle.std.proofs.Math.ListN.{get_or-map}
use Rattle.std.proofs.lemmas.List.FromFn.{get_or-range_with_len}
use native.Mathlib.Nat.{lt_of_lt_of_le}
use denote.Enum.Bare.{tag_one}
use denote.Enum.Declared.{tag_of}
use borrow.Enum.Match.{tag_small}
use Rattle.vx_value.specs.declared.id.Id.{Id}
use Rattle.vx_value.specs.declared.id.Id.TheVariants as id
use Rattle.vx_value.specs.declared.id.TheConstants.{ALL}
use Rattle.vx_value.specs.contracts.id.Id.{the_type as the_id}
use Rattle.vx_value.specs.Ids.{id_text}
use Rattle.vx_value.proofs.id.Id.parse.Goals as goal

-- each id stands among all at the number of its variant
at_its_number : (i : Id) → get_or ALL.now (tag_of the_id i) id.Constant ≡ i
at_its_number i =
    let number = tag_of the_id in
    let place = get_or-range_with_len 0 (length ALL.now) (number i) 0 (tag_small the_id i) ∙ zero-add (number i) in
    tag_one the_id tt _ i (sym (get_or-map number ALL.now (number i) id.Constant) ∙ place)

pub returns : goal.returns
returns c i h = c.loop-id.invariant (tag_of the_id i) (lt_of_lt_of_le (tag_small the_id i) c.loop-id-test.false) (ap id_text (at_its_number i) ∙ h)

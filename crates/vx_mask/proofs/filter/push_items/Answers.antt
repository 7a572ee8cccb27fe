use Rattle.std.specs.Prelude.{Some, slice_get}
use Rattle.std.proofs.Common.{◌≡◌, ◌<◌, length, rules, arith, ap}
use Rattle.std.proofs.lemmas.Option.{slice_get_read}
use Rattle.vx_mask.specs.Words.{low_bits}
use Rattle.vx_mask.proofs.WordBits.{cleared_count}
use Rattle.vx_mask.proofs.ChosenWords.{next_chosen, push_first, first_within, count_of_ones, chosen_of_ones, none_left}
use Rattle.vx_mask.proofs.filter.push_items.Goals as goal

pub slice_bounds-extend_from_slice-end : goal.slice_bounds-extend_from_slice-end
slice_bounds-extend_from_slice-end g c =
    let all = c.if-word-eq18446744073709551615.true in
    omega (arith, c.requires.each, count_of_ones c.args.word all, ap length (chosen_of_ones c.args.word c.args.items.now all))

pub returns-then-word-eq18446744073709551615-clause-items :
    goal.returns-then-word-eq18446744073709551615-clause-items
returns-then-word-eq18446744073709551615-clause-items g c =
    rw (chosen_of_ones c.args.word c.args.items.now c.if-word-eq18446744073709551615.true) (search rules)

pub offset_bounds-items-first_one : goal.offset_bounds-items-first_one
offset_bounds-items-first_one g c = omega (
  arith,
  first_within (low_bits 64 c.loop-left.left) c.args.items.now c.first_one.result c.loop-left.invariant.each
      c.first_one.ensures,
)

pub bounds-items-first_one : goal.bounds-items-first_one
bounds-items-first_one g c =
    first_within (low_bits 64 c.loop-left.left) c.args.items.now c.first_one.result c.loop-left.invariant.each c.first_one.ensures

pub push_reserved-requires : goal.push_reserved-requires
push_reserved-requires g c = omega (arith, c.loop-left.invariant.room, cleared_count 64 c.loop-left.left (omega arith) (omega arith))

pub loop-left-preserved : goal.loop-left-preserved
loop-left-preserved g c =
    let left = c.loop-left.left in
    let items = c.args.items.now in
    let place = c.first_one.result in
    let item = c.index-items-first_one.result in
    let invariant = c.loop-left.invariant in
    let some : 0 < left = omega arith in
    let inside : place < length items = first_within (low_bits 64 left) items place invariant.each c.first_one.ensures in
    let here : slice_get items place ≡ Some item = slice_get_read items (length items) place item (omega arith) inside c.index-items-first_one.is in
    let next = next_chosen left items place item some c.first_one.ensures here in
    let count = cleared_count 64 left some (omega arith) in
    record {
      each = omega (arith, ap length next, count, invariant.each);
      room = omega (arith, invariant.room, count);
      grown = omega (arith, invariant.grown);
      done = push_first left items c.loop-left.kept.items _ _ place item some c.first_one.ensures here c.push_reserved.ensures.items invariant.done;
    }

pub returns-clause-items : goal.returns-clause-items
returns-clause-items g c = none_left c.loop-left.left c.args.items.now c.loop-left.kept.items _ c.loop-left-test.false c.loop-left.invariant.done

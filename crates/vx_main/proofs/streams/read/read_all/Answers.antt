use Rattle.std.proofs.Common.{◌≡◌, ◌+◌, ◌-◌, ◌<◌, ◌≤◌, ◌++◌, length, take, ◌∙◌, arith, subst, length-append}
use Rattle.std.proofs.KnownBytes.{Consumes-trans}
use Rattle.vx_main.specs.Limits.{input_limit}
use Rattle.vx_main.specs.Streams.{TakesSome}
use Rattle.vx_main.proofs.StreamsLemmas.{takes_more, takes_all, taken_whole}
use Rattle.vx_main.proofs.streams.read.read_all.Goals as goal

pub returns-then-count-len-clause-too_large : goal.returns-then-count-len-clause-too_large
returns-then-count-len-clause-too_large g c n told =
    let sum : n ≡ c.len-then-count-len.result + c.in_ok-count.count = cc in
    let same : length c.loop-bytes.bytes.items + c.in_ok-count.count ≡ n = omega (arith, c.len-then-count-len.ensures, c.loop-bytes.bytes.ok.0) in
    let in_room : c.in_ok-count.count ≤ length c.read.new.room = omega (arith, c.in_ok-count.ensures.bound) in (
      omega (arith, c.len.ensures, c.len-then-count-len.ensures),
      subst (TakesSome (g.S.Source.left c.args.source.now) (g.S.Source.left c.read.new.self)) same
          (takes_more _ _ _ c.loop-bytes.bytes.items c.read.new.room c.in_ok-count.count c.loop-bytes.invariant.taken c.in_ok-count.ensures.bytes.0 in_room),
    )

pub returns-then-count-eq0-clause-all : goal.returns-then-count-eq0-clause-all
returns-then-count-eq0-clause-all g c =
    let read = c.in_ok-count.ensures.bytes in
    let room : 0 < length c.read.new.room = omega (arith, c.read.auto.room) in
    takes_all _ _ _ _ c.read.new.room c.in_ok-count.count c.loop-bytes.invariant.taken read.0 read.1 c.if-count-eq0.true room

pub returns-then-count-eq0-clause-too_large_comes : goal.returns-then-count-eq0-clause-too_large_comes
returns-then-count-eq0-clause-too_large_comes g c bytes told large =
    let whole = taken_whole _ _ bytes c.loop-bytes.bytes.items (returns-then-count-eq0-clause-all g c) told in
    absurd (omega (arith, whole, large, c.loop-bytes.invariant.fits))

pub returns-then-count-eq0-clause-kept : goal.returns-then-count-eq0-clause-kept
returns-then-count-eq0-clause-kept g c _ = c.in_ok-count.ensures.cause.kept ∙ c.loop-bytes.invariant.kept

pub loop-bytes-smaller : goal.loop-bytes-smaller
loop-bytes-smaller g c =
    let more = c.in_ok-extend_from_slice.ensures.len in
    omega (arith, more, c.in_ok-count.ensures.bound.1, c.if-count-eq0.false, c.if-count-len.false, c.len.ensures)

pub loop-bytes-preserved : goal.loop-bytes-preserved
loop-bytes-preserved g c =
    let read = c.in_ok-count.ensures in
    let count = c.in_ok-count.count in
    let piece = take count c.read.new.room in
    let more : c.extend_from_slice.new.self.items ≡ c.loop-bytes.bytes.items ++ piece = c.in_ok-extend_from_slice.ensures.items in
    let count = c.in_ok-count.count in
    let room : count ≤ input_limit - length c.loop-bytes.bytes.items = omega (arith, c.if-count-len.false, c.len.ensures, c.loop-bytes.bytes.ok.0) in
    record {
      fits = rw more (simp length-append (omega (arith, room, read.bound.1, c.loop-bytes.invariant.fits)));
      taken = rw more (Consumes-trans _ _ _ c.loop-bytes.bytes.items piece c.loop-bytes.invariant.taken read.bytes.0);
      kept = read.cause.kept ∙ c.loop-bytes.invariant.kept;
    }

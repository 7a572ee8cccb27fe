use Rattle.std.proofs.Common.{◌≡◌, ◌+◌, ◌*◌, ◌++◌, ◌∷◌, [], length, take, arith, refl, ap, ◌∙◌}
use Rattle.std.proofs.lemmas.List.{length-append}
use Rattle.vx_mask.specs.Bits.{bits_of}
use Rattle.vx_mask.proofs.Pushes.{length_held, held_before, held_count}
use Rattle.vx_mask.proofs.builder.BitBuilder.append.Goals as goal

pub overflow_mul-len : goal.overflow_mul-len
overflow_mul-len c =
    let held = length_held c.self.inside.words.items c.self.inside.last c.self.inside.fill (omega (arith, c.self.invariant.0)) in
    record { fits = omega (arith, c.requires, ap length c.self.view_is, held, c.len.ensures, c.self.inside.words.ok.0) }

pub overflow_add-len : goal.overflow_add-len
overflow_add-len c =
    let held = length_held c.self.inside.words.items c.self.inside.last c.self.inside.fill (omega (arith, c.self.invariant.0)) in
    record { fits = omega (arith, c.requires, ap length c.self.view_is, held, c.len.ensures, c.self.inside.words.ok.0) }

pub truncate-requires : goal.truncate-requires
truncate-requires c =
    let all = c.self.inside in
    let ws = c.reserve.new.self.items in
    let before = take (64 * length ws + all.fill) (bits_of (ws ++ all.last ∷ [])) in
    let more = take c.in-Err.ensures.err.0 c.args.bits.now in
    let k : c.len.result ≡ length all.words.items = omega (arith, c.len.ensures, all.words.ok.0) in
    let count = held_count all.words.items ws all.last all.fill c.len.result _ c.self.invariant.0 c.reserve.ensures.items k refl in
    omega (arith, count, ap length c.in-Err.ensures.err.1, length-append before more)

pub returns-in-Err-clause-err : goal.returns-in-Err-clause-err
returns-in-Err-clause-err c =
    let all = c.self.inside in
    let ws = c.reserve.new.self.items in
    let before = take (64 * length ws + all.fill) (bits_of (ws ++ all.last ∷ [])) in
    let more = take c.in-Err.ensures.err.0 c.args.bits.now in
    let k : c.len.result ≡ length all.words.items = omega (arith, c.len.ensures, all.words.ok.0) in
    let count = held_count all.words.items ws all.last all.fill c.len.result _ c.self.invariant.0 c.reserve.ensures.items k refl in
    let same : before ≡ c.args.self.now = rw (c.reserve.ensures.items) c.self.view_is in
    c.truncate.ensures ∙ held_before before c.push_words.new.self more _ count c.in-Err.ensures.err.1 ∙ same

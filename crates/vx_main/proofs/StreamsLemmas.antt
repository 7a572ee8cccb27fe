-- What one read or write adds to those before it.
use Rattle.std.proofs.Common.{◌≡◌, ℕ, ◌+◌, ◌<◌, ◌≤◌, List, [], ◌++◌, length, take, drop, Option, Some, None, IfSome, ap, ap₂, sym, ◌∙◌}
use Rattle.std.proofs.Common.{arith}
use Rattle.std.proofs.Common.{append-nil}
use Rattle.std.proofs.Common.{length-append}
use Rattle.std.proofs.Common.{length-take}
use Rattle.std.proofs.Common.{length-drop}
use Rattle.std.specs.Io.KnownBytes.{Appends, Consumes, IsAtEnd}
use Rattle.std.proofs.KnownBytes.{Consumes-trans, Appends-trans}
use Rattle.std.proofs.Math.Seq.{take-add}
use Rattle.std.proofs.lemmas.List.{take_at, take-append-drop, drop-drop}
use Rattle.vx_main.specs.Streams.{TakesAll, TakesSome}

-- a piece of a list, written over the front of a buffer, is what the list loses
pub piece_read : (items room part : List ℕ) (at count : ℕ) → at + count ≤ length items → part ≡ take count (drop at items)
    → drop at items ≡ take count (part ++ drop count room) ++ drop (at + count) items
piece_read items room part at count h e =
    let l : length part ≡ count = rw e (simp (length-take, length-drop) (omega arith)) in
    rw (take_at part (drop count room) count l, e)
    (sym (take-append-drop count (drop at items)) ∙ ap (λ l. take count (drop at items) ++ l) (drop-drop count at items))

-- some bytes that were taken, and then the first k of a piece, are k more
pub takes_more : (a b c : Option (List ℕ)) (bs piece : List ℕ) (k : ℕ) → Consumes a b bs → Consumes b c (take k piece) → k ≤ length piece
    → TakesSome a c (length bs + k)
takes_more a b c bs piece k p q h =
    (bs ++ take k piece, Consumes-trans a b c bs (take k piece) p q, simp (length-append, length-take) (omega arith))

-- a prefix that was appended, and a prefix of the rest
pub appends_more : (a b c : Option (List ℕ)) (bs : List ℕ) (k n : ℕ) → Appends a b (take k bs) → Appends b c (take n (drop k bs))
    → Appends a c (take (k + n) bs)
appends_more a b c bs k n p q = rw (take-add k n bs) (Appends-trans a b c _ _ p q)

-- some bytes that were taken, and then none though there was room, are all
pub takes_all : (a b c : Option (List ℕ)) (bs piece : List ℕ) (k : ℕ) → Consumes a b bs → Consumes b c (take k piece) → (k ≡ 0 → 0 < length piece → IsAtEnd c)
    → k ≡ 0 → 0 < length piece → TakesAll a c bs
takes_all None b c bs piece k p q end none room = tt
takes_all (Some x) None c bs piece k p q end none room = absurd p
takes_all (Some x) (Some y) None bs piece k p q end none room = absurd q
takes_all (Some x) (Some y) (Some z) bs piece k p q end none room =
    let rest : y ≡ [] = q ∙ ap₂ (λ n l. take n piece ++ l) none (end none room) in
    (p ∙ ap (λ l. bs ++ l) rest ∙ append-nil bs, end none room)

-- bytes that were taken whole are as many as there were
pub taken_whole : (old new : Option (List ℕ)) (xs bs : List ℕ) → TakesAll old new bs → old ≡ Some xs → length xs ≡ length bs
taken_whole None new xs bs h e = cc
taken_whole (Some ys) None xs bs h e = absurd h
taken_whole (Some ys) (Some zs) xs bs h e = cc

-- a source that was taken whole stands at its end
pub taken_to_the_end : (old new : Option (List ℕ)) (bs : List ℕ) → TakesAll old new bs → IfSome old (λ _. new ≡ Some [])
taken_to_the_end None new bs h = tt
taken_to_the_end (Some xs) None bs h = absurd h
taken_to_the_end (Some xs) (Some ys) bs h = ap Some h.1

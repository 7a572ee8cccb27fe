-- Numbers that are appended to a vector one by one.
use Rattle.std.proofs.Common.{◌≡◌, ◌+◌, ℕ, List, [], ◌∷◌, ◌++◌, map, arith}
use Rattle.std.specs.List.{range_with_len}
use Rattle.std.proofs.lemmas.List.{map-append, append_assoc}
use Rattle.std.proofs.lemmas.List.FromFn.{map-range_with_len_more}

-- one more item that stands for row i of f, past what stood before
pub appended_more : {T C : Type 0} (read : T → C) (f : ℕ → C) (before : List C) (out : List T) (i : ℕ) (r : T)
    → map read out ≡ before ++ map f (range_with_len 0 i) → read r ≡ f i
    → map read (out ++ r ∷ []) ≡ before ++ map f (range_with_len 0 (i + 1))
appended_more read f before out i r h e =
    rw (map-append read out (r ∷ []), map-range_with_len_more f 0 i i (omega arith), h, e) (append_assoc before (map f (range_with_len 0 i)) (f i ∷ []))

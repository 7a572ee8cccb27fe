-- Asking the entries of a list, one after the other.
use Rattle.std.proofs.Common.{◌≡◌, ℕ, zero, suc, ◌+◌, ◌<◌, List, [], ◌∷◌, ◌++◌, length, map, take, drop, set, get_or, Bool, true, false, Option, Some, None, Result, Ok, Err, refl, sym, ap, subst, ◌∙◌, arith, length-append}
use Rattle.std.specs.Prelude.{filter}
use Rattle.std.proofs.lemmas.List.{take_more, get_or-map, length-map, map-set, map-append, append_assoc}
use Rattle.std.proofs.Math.Seq.{take-length}
use Rattle.std.proofs.lemmas.List.Elements.{filter-append}
use Rattle.vx_value.specs.declared.error.SessionKind.TheVariants.{Rule}
use Rattle.vx_value.specs.declared.error.VortexError.{VortexError}
use Rattle.vx_value.specs.declared.error.VortexError.TheVariants.{OutOfMemory, Refused}
use Rattle.vx_value.specs.declared.id.Id.{Id}
use Rattle.vx_rule.specs.declared.raw_node.RawNode.{RawNode}
use Rattle.vx_opt.specs.Entries.{Entry, is_for, of_pair, IsAsked}
use Rattle.vx_opt.specs.Entries.{Asks, all_declined, other, declined, answered, out_of_memory, refused}
use Rattle.vx_opt.specs.Asking.{IsAskedAt, told}

-- ---- a place of a list

drop_at : (es : List Entry) (i : ℕ) (d : Entry) → i < length es → drop i es ≡ get_or es i d ∷ drop (suc i) es
drop_at [] i d l = absurd (omega arith)
drop_at (e ∷ es) zero d l = refl
drop_at (e ∷ es) (suc i) d l = drop_at es i d (omega arith)

take_at : (es fs : List Entry) (i : ℕ) (d : Entry) → i < length es → take (suc i) es ++ fs ≡ take i es ++ (get_or es i d ∷ fs)
take_at [] fs i d l = absurd (omega arith)
take_at (e ∷ es) fs zero d l = refl
take_at (e ∷ es) fs (suc i) d l = ap (λ x. e ∷ x) (take_at es fs i d (omega arith))

set_at : (es : List Entry) (i : ℕ) (e : Entry) → i < length es → set es i e ≡ take i es ++ (e ∷ drop (suc i) es)
set_at [] i e l = absurd (omega arith)
set_at (x ∷ es) zero e l = refl
set_at (x ∷ es) (suc i) e l = ap (λ y. x ∷ y) (set_at es i e (omega arith))

take_set_at : (es fs : List Entry) (i : ℕ) (e : Entry) → i < length es → take (suc i) (set es i e) ++ fs ≡ take i es ++ (e ∷ fs)
take_set_at [] fs i e l = absurd (omega arith)
take_set_at (x ∷ es) fs zero e l = refl
take_set_at (x ∷ es) fs (suc i) e l = ap (λ y. x ∷ y) (take_set_at es fs i e (omega arith))

drop_set_at : (es : List Entry) (i : ℕ) (e : Entry) → drop (suc i) (set es i e) ≡ drop (suc i) es
drop_set_at [] i e = refl
drop_set_at (x ∷ es) zero e = refl
drop_set_at (x ∷ es) (suc i) e = drop_set_at es i e

drop_all : (es : List Entry) (i : ℕ) → length es ≡ i → drop i es ≡ []
drop_all [] zero e = refl
drop_all [] (suc i) e = refl
drop_all (x ∷ es) zero e = absurd (omega (arith, e))
drop_all (x ∷ es) (suc i) e = drop_all es i (omega (arith, e))

take_all : (es : List Entry) (i : ℕ) → length es ≡ i → take i es ++ [] ≡ es
take_all [] zero e = refl
take_all [] (suc i) e = refl
take_all (x ∷ es) zero e = absurd (omega (arith, e))
take_all (x ∷ es) (suc i) e = ap (λ y. x ∷ y) (take_all es i (omega (arith, e)))

-- ---- the entries before place i were asked, k of them of the pair, and all declined: what asking the others gives, asking all gives

module _ (p c : Id) (from : List Entry) where
  abbrev pub IsAskedTo : List Entry → ℕ → ℕ → Type 0
  IsAskedTo es i k = (fs : List Entry) (r : Result (Option RawNode) VortexError) → Asks p c k (drop i es) fs r → Asks p c 0 from (take i es ++ fs) r

  pub asked_all : (es : List Entry) (i k : ℕ) → length es ≡ i → IsAskedTo es i k → Asks p c 0 from es (Ok None)
  asked_all es i k e h =
      subst (λ x. Asks p c 0 from x (Ok None)) (take_all es i e) (h [] (Ok None) (subst (λ x. Asks p c k x [] (Ok None)) (sym (drop_all es i e)) (all_declined k)))

  module _ (es : List Entry) (i k : ℕ) (before : IsAskedTo es i k) where
    pub asked_other : i < length es → ((d : Entry) → is_for p c (get_or es i d) ≡ false) → IsAskedTo es (i + 1) k
    asked_other l t =
        let n : suc i ≡ i + 1 = omega arith in
        subst (λ j. IsAskedTo es j k) n
        (λ fs r h.
        let e : Entry = record { parent = p; child = c; refusals = 0; spent = 0 } in
        let x = get_or es i e in
        subst (λ y. Asks p c 0 from y r) (sym (take_at es fs i e l))
        (before (x ∷ fs) r (subst (λ y. Asks p c k y (x ∷ fs) r) (sym (drop_at es i e l)) (other k x (drop (suc i) es) fs r (t e) h))))

    module _ (new : List Entry) (q : Result (Option RawNode) VortexError) (a : IsAskedAt i es new q) (t : (d : Entry) → is_for p c (get_or es i d) ≡ true) where
      abbrev x : Entry
      x = get_or es i a.entry

      pub asked_declined : q ≡ Ok None → IsAskedTo new (i + 1) (k + 1)
      asked_declined none =
          let n : suc i ≡ i + 1 = omega arith in
          let m : suc k ≡ k + 1 = omega arith in
          subst (λ j. IsAskedTo new j (k + 1)) n (subst (λ j. IsAskedTo new (suc i) j) m
          (subst (λ y. IsAskedTo y (suc i) (suc k)) (sym a.others)
          (λ fs r h.
          subst (λ y. Asks p c 0 from y r) (sym (take_set_at es fs i a.entry a.in_range))
          (before (a.entry ∷ fs) r
          (subst (λ y. Asks p c k y (a.entry ∷ fs) r) (sym (drop_at es i a.entry a.in_range))
          (declined k x a.entry (drop (suc i) es) fs r (t a.entry) (subst (IsAsked x a.entry) none (a.asked a.entry))
          (subst (λ y. Asks p c (suc k) y fs r) (drop_set_at es i a.entry) h)))))))

      ended : (r : Result (Option RawNode) VortexError) → Asks p c k (x ∷ drop (suc i) es) (a.entry ∷ drop (suc i) es) r → Asks p c 0 from new r
      ended r h =
          subst (λ y. Asks p c 0 from y r) (sym (a.others ∙ set_at es i a.entry a.in_range))
          (before (a.entry ∷ drop (suc i) es) r (subst (λ y. Asks p c k y (a.entry ∷ drop (suc i) es) r) (sym (drop_at es i a.entry a.in_range)) h))

      pub asked_answered : (raw : RawNode) → q ≡ Ok (Some raw) → Asks p c 0 from new (Ok (Some raw))
      asked_answered raw is =
          ended (Ok (Some raw)) (answered k x a.entry (drop (suc i) es) raw (t a.entry) (subst (IsAsked x a.entry) is (a.asked a.entry)))

      pub asked_failed : (e : VortexError) → q ≡ Err e → Asks p c 0 from new (Err (told e p c k))
      asked_failed OutOfMemory is =
          ended (Err OutOfMemory) (out_of_memory k x a.entry (drop (suc i) es) (t a.entry) (subst (IsAsked x a.entry) is (a.asked a.entry)))
      asked_failed (Refused kind q' d j) is =
          ended (Err (Refused Rule p c k))
          (refused k x a.entry (drop (suc i) es) kind q' d j (t a.entry) (subst (IsAsked x a.entry) is (a.asked a.entry)))
      asked_failed e is = absurd ((subst (IsAsked x a.entry) is (a.asked a.entry)).refused)

-- the same under other names of the ids
pub asks_of : (p q c d : Id) (es fs : List Entry) (r : Result (Option RawNode) VortexError) → p ≡ q → c ≡ d → Asks p c 0 es fs r → Asks q d 0 es fs r
asks_of p q c d es fs r e f h = subst (λ x. Asks x d 0 es fs r) e (subst (λ y. Asks p y 0 es fs r) f h)

-- ---- one entry of a vector

pub asked_item : {Y : Type 0} (f : Y → Entry) (ys : List Y) (i : ℕ) (y z : Y) → i < length ys → get_or ys i y ≡ y
    → {r : Result (Option RawNode) VortexError} → IsAsked (f y) (f z) r → IsAskedAt i (map f ys) (map f (set ys i z)) r
asked_item f ys i y z h is a = record {
  in_range = rw length-map h;
  entry = f z;
  others = map-set f ys i z;
  asked = λ d. rw (get_or-map f ys i y d h, is) a;
}

-- ---- counting those of a pair

module _ {X Y : Type 0} (f : Y → X) (p : X → Bool) (ys : List Y) (i : ℕ) (y : Y) (h : i < length ys) (is : y ≡ get_or ys i y) where
  map_more : take (i + 1) (map f ys) ≡ take i (map f ys) ++ f y ∷ []
  map_more =
      let k : i < length (map f ys) = rw length-map h in
      take_more (map f ys) i (f y) k ∙ ap (λ e. take i (map f ys) ++ e ∷ []) (get_or-map f ys i y (f y) h ∙ ap f (sym is))

  filter_more : filter p (take (i + 1) (map f ys)) ≡ filter p (take i (map f ys)) ++ filter p (f y ∷ [])
  filter_more = ap (filter p) map_more ∙ filter-append p (take i (map f ys)) (f y ∷ [])

  -- one more element that passes
  pub counted_more : p (f y) ≡ true → length (filter p (take (i + 1) (map f ys))) ≡ length (filter p (take i (map f ys))) + 1
  counted_more e = rw (filter_more, length-append, e) refl

  -- one more that doesn't
  pub counted_same : p (f y) ≡ false → length (filter p (take (i + 1) (map f ys))) ≡ length (filter p (take i (map f ys)))
  counted_same e = rw (filter_more, length-append, e) (omega arith)

-- ---- a list that is made of another, one by one

module _ {A B : Type 0} (f : A → B) (xs : List A) where
  pub made_more : (zs : List B) (i : ℕ) (x : A) (es ds : List B) (e : B) → i < length xs → x ≡ get_or xs i x → es ≡ zs ++ map f (take i xs) → e ≡ f x
      → ds ≡ es ++ e ∷ [] → ds ≡ zs ++ map f (take (i + 1) xs)
  made_more zs i x es ds e l is made same more =
      let one : map f (take i xs) ++ e ∷ [] ≡ map f (take (i + 1) xs) =
      (λ j. map f (take i xs) ++ same j ∷ []) ∙ sym (map-append f (take i xs) (x ∷ [])) ∙ ap (λ y. map f (take i xs ++ y ∷ [])) is
      ∙ sym (ap (map f) (take_more xs i x l)) in
      more ∙ ap (λ ys. ys ++ e ∷ []) made ∙ append_assoc zs (map f (take i xs)) (e ∷ []) ∙ ap (λ ys. zs ++ ys) one

  pub made_all : (zs : List B) (i : ℕ) (es : List B) → i ≡ length xs → es ≡ zs ++ map f (take i xs) → es ≡ zs ++ map f xs
  made_all zs i es e made = made ∙ ap (λ n. zs ++ map f (take n xs)) e ∙ ap (λ ys. zs ++ map f ys) (take-length xs)

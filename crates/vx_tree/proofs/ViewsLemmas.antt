-- The rows of views: of a part of them, of those that a mask chooses, of equal ones, and of rows that follow one another in one buffer.
use Rattle.std.proofs.Common.{◌≡◌, ◌<◌, ◌+◌, ◌-◌, ℕ, zero, suc, Bool, true, false, List, [], ◌∷◌, ◌++◌, length, map, take, drop, replicate, slice_range}
use Rattle.std.proofs.Common.{arith}
use Rattle.std.proofs.Common.{refl}
use Rattle.std.proofs.Common.{sym}
use Rattle.std.proofs.Common.{subst}
use Rattle.std.proofs.Common.{◌∙◌}
use Rattle.std.proofs.Common.{ap}
use Rattle.std.proofs.Common.{ap₂}
use Rattle.std.specs.Prelude.{slice_index_or, slice_get, Some, option_map}
use Rattle.std.specs.List.{All, concat}
use Rattle.std.proofs.Math.Seq.{drop-append_seam, take-append_seam}
use Rattle.std.proofs.lemmas.Bool.{and_from, lt-ltb, le-leb}
use Rattle.std.proofs.lemmas.List.{append_assoc, append-nil, take_all, take-append-drop, length-drop, length-append, get_or_read, take-map, drop-map}
use Rattle.std.proofs.lemmas.List.Elements.{All-nil, All-cons, All-head, All-tail, All-same, All-take, All-drop, All-weaker, All-replicate}
use Rattle.std.proofs.lemmas.List.Folds.{concat-append}
use Rattle.std.proofs.lemmas.List.Sums.{list_all-from_AllPass}
use Rattle.std.proofs.lemmas.Option.{slice_get-map, slice_get-get_or}
use Rattle.vx_mask.specs.Places.{chosen}
use Rattle.vx_mask.proofs.PlacesLemmas.{chosen-nil}
use Rattle.vx_mask.proofs.ChosenLemmas.{chosen_map}
use Rattle.vx_tree.specs.declared.views.view.View.{View}
use Rattle.vx_tree.specs.Views.{ViewedRows, viewed, buffer_of, bytes_at, rows_of, LiesIn, AllLieIn, lies_in, all_lie_in}
use Rattle.vx_tree.specs.Views.{viewed_range, viewed_choice, view_at, views_from, packed, repeated}

-- ---- a part of the views, and those that a mask chooses
pub rows_part : (r : ViewedRows) (a b : ℕ) → rows_of (viewed_range a b r) ≡ slice_range (rows_of r) a b
rows_part r a b =
    sym (ap (take (b - a)) (drop-map (bytes_at r.buffers) a r.views) ∙ take-map (bytes_at r.buffers) (b - a) (drop a r.views))

pub lie_in_part : (buffers : List (List ℕ)) (views : List View) (a b : ℕ) → AllLieIn buffers views → AllLieIn buffers (slice_range views a b)
lie_in_part buffers views a b lie = All-take (LiesIn buffers) (b - a) (drop a views) (All-drop (LiesIn buffers) a views lie)

all_chosen : {X : Type 0} (P : X → Type 0) (bits : List Bool) (xs : List X) → All P xs → All P (chosen bits xs)
unfolding chosen
all_chosen P [] xs all = All-nil P
all_chosen P (bit ∷ bits) [] all = All-same P (chosen (bit ∷ bits) []) [] (chosen-nil (bit ∷ bits)) (All-nil P)
all_chosen P (true ∷ bits) (x ∷ xs) all = All-cons P x (chosen bits xs) (All-head P x xs all) (all_chosen P bits xs (All-tail P x xs all))
all_chosen P (false ∷ bits) (x ∷ xs) all = all_chosen P bits xs (All-tail P x xs all)

pub lie_in_chosen : (buffers shared : List (List ℕ)) (bits : List Bool) (views kept : List View) → shared ≡ buffers → kept ≡ chosen bits views
    → AllLieIn buffers views → AllLieIn shared kept
lie_in_chosen buffers shared bits views kept same are lie = rw (same, are) (all_chosen (LiesIn buffers) bits views lie)

pub rows_chosen : (bits : List Bool) (r : ViewedRows) → rows_of (viewed_choice bits r) ≡ chosen bits (rows_of r)
rows_chosen bits r = sym (chosen_map (bytes_at r.buffers) bits r.views)

-- views that lie in their buffers pass the test
pub lie_tested : (r : ViewedRows) → AllLieIn r.buffers r.views → all_lie_in r ≡ true
lie_tested r lie = list_all-from_AllPass (lies_in r.buffers) r.views (All-weaker (LiesIn r.buffers) (λ v. lies_in r.buffers v ≡ true) tested r.views lie)
  where
    tested : (v : View) → LiesIn r.buffers v → lies_in r.buffers v ≡ true
    tested v lies = and_from _ _ (lt-ltb v.buffer (length r.buffers) lies.0) (le-leb (v.start + v.size) (length (buffer_of r.buffers v)) lies.1)

-- ---- one row: as many bytes as its view has of those that follow its start
pub row_at : (buffers : List (List ℕ)) (views : List View) (i : ℕ) (v other : View) (bytes item : List ℕ) → AllLieIn buffers views
    → i < length views → v ≡ slice_index_or views i other → bytes ≡ item → item ≡ slice_index_or buffers v.buffer item
    → slice_get (rows_of (viewed views buffers)) i ≡ Some (take v.size (take (length bytes - v.start) (drop v.start bytes)))
row_at buffers views i v other bytes item lie here seen same held =
    let lies = subst (LiesIn buffers) (sym seen) (lie i other here) in
    let whole : buffer_of buffers v ≡ bytes = sym (same ∙ get_or_read buffers v.buffer item lies.0 held []) in
    let rest = take_all (length bytes - v.start) (drop v.start bytes) (omega (arith, length-drop v.start bytes)) in
    slice_get-map (bytes_at buffers) views i
    ∙ ap (option_map (bytes_at buffers)) (slice_get-get_or views i other here ∙ ap Some (sym seen))
    ∙ ap (λ l. Some (take v.size l)) (ap (drop v.start) whole ∙ sym rest)

-- ---- equal views of all bytes of one buffer
pub rows_repeated : (n : ℕ) (bytes : List ℕ) → rows_of (repeated n bytes) ≡ replicate n bytes
rows_repeated zero bytes = refl
rows_repeated (suc n) bytes = ap₂ (λ x l. x ∷ l) (take_all (length bytes) bytes (omega arith)) (rows_repeated n bytes)

pub lie_in_equal : (bytes : List ℕ) (n : ℕ) → AllLieIn (bytes ∷ []) (replicate n (view_at 0 (length bytes)))
lie_in_equal bytes n = All-replicate (LiesIn (bytes ∷ [])) n (view_at 0 (length bytes)) (omega arith, omega arith)

-- ---- rows that follow one another in one buffer

-- those that stand after `before`
rows_after : (before : List ℕ) (rs : List (List ℕ)) → map (bytes_at ((before ++ concat rs) ∷ [])) (views_from (length before) rs) ≡ rs
rows_after before [] = refl
rows_after before (r ∷ rs) =
    let seen = ap (take (length r)) (drop-append_seam before (r ++ concat rs)) ∙ take-append_seam r (concat rs) in
    let moved =
    ap₂ (λ b k. map (bytes_at (b ∷ [])) (views_from k rs)) (sym (append_assoc before r (concat rs))) (sym (length-append before r)) in
    ap₂ (λ x l. x ∷ l) seen (moved ∙ rows_after (before ++ r) rs)

lie_after : (before : List ℕ) (rs : List (List ℕ)) → AllLieIn ((before ++ concat rs) ∷ []) (views_from (length before) rs)
lie_after before [] = All-nil (LiesIn ((before ++ []) ∷ []))
lie_after before (r ∷ rs) =
    let all = before ++ (r ++ concat rs) in
    let lies : LiesIn (all ∷ []) (view_at (length before) (length r)) =
    (omega arith, omega (arith, length-append before (r ++ concat rs), length-append r (concat rs))) in
    let later =
    subst (λ k. AllLieIn (all ∷ []) (views_from k rs)) (length-append before r)
    (subst (λ b. AllLieIn (b ∷ []) (views_from (length (before ++ r)) rs)) (append_assoc before r (concat rs)) (lie_after (before ++ r) rs)) in
    All-cons (LiesIn (all ∷ [])) (view_at (length before) (length r)) (views_from (length before + length r) rs) lies later

-- their views show just them, and lie in the buffer
pub rows_packed : (rs : List (List ℕ)) → rows_of (packed rs) ≡ rs
rows_packed rs = rows_after [] rs

pub packed_lie : (rs : List (List ℕ)) → AllLieIn (concat rs ∷ []) (views_from 0 rs)
packed_lie rs = lie_after [] rs

pub length-views_from : (k : ℕ) (rs : List (List ℕ)) → length (views_from k rs) ≡ length rs
length-views_from k [] = refl
length-views_from k (r ∷ rs) = ap suc (length-views_from (k + length r) rs)

-- more rows stand after them
views_more : (k : ℕ) (rs more : List (List ℕ)) → views_from k (rs ++ more) ≡ views_from k rs ++ views_from (k + length (concat rs)) more
views_more k [] more = ap (λ j. views_from j more) (omega arith)
views_more k (r ∷ rs) more =
    let further : k + length r + length (concat rs) ≡ k + length (r ++ concat rs) = omega (arith, length-append r (concat rs)) in
    ap (λ l. view_at k (length r) ∷ l) (views_more (k + length r) rs more ∙ ap (λ j. views_from (k + length r) rs ++ views_from j more) further)

pub packed_more : (rs more : List (List ℕ))
    → viewed (views_from 0 rs ++ views_from (length (concat rs)) more) ((concat rs ++ concat more) ∷ []) ≡ packed (rs ++ more)
packed_more rs more =
    let later : 0 + length (concat rs) ≡ length (concat rs) = omega arith in
    sym (ap₂ (λ vs b. viewed vs (b ∷ [])) (views_more 0 rs more ∙ ap (λ k. views_from 0 rs ++ views_from k more) later) (concat-append rs more))

-- one more row
pub packed_push : (rs : List (List ℕ)) (r : List ℕ)
    → viewed (views_from 0 rs ++ view_at (length (concat rs)) (length r) ∷ []) ((concat rs ++ r) ∷ []) ≡ packed (rs ++ r ∷ [])
packed_push rs r =
    ap (λ b. viewed (views_from 0 rs ++ view_at (length (concat rs)) (length r) ∷ []) ((concat rs ++ b) ∷ [])) (sym (append-nil r))
    ∙ packed_more rs (r ∷ [])

-- n more, of no bytes
no_bytes : (k n : ℕ) → views_from k (replicate n []) ≡ replicate n (view_at k 0)
no_bytes k zero = refl
no_bytes k (suc n) = ap (λ l. view_at k 0 ∷ l) (ap (λ j. views_from j (replicate n [])) (omega arith) ∙ no_bytes k n)

concat_none : (n : ℕ) → concat (replicate n []) ≡ []
concat_none zero = refl
concat_none (suc n) = concat_none n

pub packed_empty : (rs : List (List ℕ)) (n : ℕ)
    → viewed (views_from 0 rs ++ replicate n (view_at (length (concat rs)) 0)) (concat rs ∷ []) ≡ packed (rs ++ replicate n [])
packed_empty rs n =
    let start = length (concat rs) in
    ap₂ (λ vs b. viewed (views_from 0 rs ++ vs) (b ∷ [])) (sym (no_bytes start n)) (sym (ap (λ b. concat rs ++ b) (concat_none n) ∙ append-nil (concat rs)))
    ∙ packed_more rs (replicate n [])

-- the first n of them
start_at : (k : ℕ) (rs : List (List ℕ)) (n : ℕ) (other : View) → n < length rs
    → View.start (slice_index_or (views_from k rs) n other) ≡ k + length (concat (take n rs))
start_at k [] n other h = absurd (omega arith)
start_at k (r ∷ rs) zero other h = omega arith
start_at k (r ∷ rs) (suc n) other h = omega (arith, start_at (k + length r) rs n other (omega arith), length-append r (concat (take n rs)))

first_views : (k : ℕ) (rs : List (List ℕ)) (n : ℕ) → take n (views_from k rs) ≡ views_from k (take n rs)
first_views k [] zero = refl
first_views k [] (suc n) = refl
first_views k (r ∷ rs) zero = refl
first_views k (r ∷ rs) (suc n) = ap (λ l. view_at k (length r) ∷ l) (first_views (k + length r) rs n)

first_bytes : (rs : List (List ℕ)) (n : ℕ) → take (length (concat (take n rs))) (concat rs) ≡ concat (take n rs)
first_bytes rs n =
    let first = concat (take n rs) in
    ap (take (length first)) (ap concat (sym (take-append-drop n rs)) ∙ concat-append (take n rs) (drop n rs)) ∙ take-append_seam first (concat (drop n rs))

-- ---- a builder's views and bytes

-- what is packed is packed of the rows that it shows
pub packed_again : (r : ViewedRows) (rs : List (List ℕ)) → r ≡ packed rs → (r ≡ packed (rows_of r)) × (rows_of r ≡ rs)
packed_again r rs e =
    let shown : rows_of r ≡ rs = ap rows_of e ∙ rows_packed rs in
    (e ∙ ap packed (sym shown), shown)

module _ (vs : List View) (bs : List ℕ) (is : viewed vs (bs ∷ []) ≡ packed (rows_of (viewed vs (bs ∷ [])))) where
  abbrev the_rows : List (List ℕ)
  the_rows = rows_of (viewed vs (bs ∷ []))

  the_views : vs ≡ views_from 0 the_rows
  the_views = ap (λ r. ViewedRows.views r) is

  the_bytes : bs ≡ concat the_rows
  the_bytes = ap (λ r. slice_index_or (ViewedRows.buffers r) 0 []) is

  -- one more row
  pub grown_push : (v : View) (new : List View) (r more : List ℕ) → v ≡ view_at (length bs) (length r) → new ≡ vs ++ v ∷ [] → more ≡ bs ++ r
      → viewed new (more ∷ []) ≡ packed (rows_of (viewed vs (bs ∷ [])) ++ r ∷ [])
  grown_push v new r more seen views bytes =
      ap₂ (λ l b. viewed l (b ∷ [])) (views ∙ ap (λ x. vs ++ x ∷ []) seen) bytes
      ∙ ap₂ (λ l b. viewed (l ++ view_at (length b) (length r) ∷ []) ((b ++ r) ∷ [])) the_views the_bytes
      ∙ packed_push the_rows r

  -- n more, of no bytes
  pub grown_empty : (n : ℕ) (v : View) (new : List View) → v ≡ view_at (length bs) 0 → new ≡ vs ++ replicate n v
      → viewed new (bs ∷ []) ≡ packed (rows_of (viewed vs (bs ∷ [])) ++ replicate n [])
  grown_empty n v new seen views =
      ap (λ l. viewed l (bs ∷ [])) (views ∙ ap (λ x. vs ++ replicate n x) seen)
      ∙ ap₂ (λ l b. viewed (l ++ replicate n (view_at (length b) 0)) (b ∷ [])) the_views the_bytes
      ∙ packed_empty the_rows n

  -- the first n alone
  pub grown_first : (n : ℕ) (v other : View) → n < length vs → v ≡ slice_index_or vs n other
      → viewed (take n vs) (take v.start bs ∷ []) ≡ packed (take n (rows_of (viewed vs (bs ∷ []))))
  grown_first n v other within seen =
      let first = take n the_rows in
      let here : n < length the_rows = omega (arith, ap length the_views, length-views_from 0 the_rows) in
      let start : v.start ≡ length (concat first) =
      ap (λ w. View.start w) (seen ∙ ap (λ l. slice_index_or l n other) the_views) ∙ start_at 0 the_rows n other here ∙ omega arith in
      ap₂ (λ l b. viewed l (b ∷ [])) (ap (take n) the_views ∙ first_views 0 the_rows n) (ap₂ take start the_bytes ∙ first_bytes the_rows n)

  -- its views lie in its bytes
  pub builder_lies : AllLieIn (bs ∷ []) vs
  builder_lies = subst (λ r. AllLieIn (ViewedRows.buffers r) (ViewedRows.views r)) (sym is) (packed_lie the_rows)

-- Views into data buffers, and the rows that they stand for.
use Rattle.std.specs.Prelude.{ℕ, ◌+◌, ◌<◌, ◌≤◌, List, [], ◌∷◌, map, take, drop, length, slice_index_or, slice_range, replicate, refl}
use Rattle.std.specs.Prelude.{Bool, ◌&&◌, nat_lt, nat_le}
use Rattle.std.specs.Coded.{Coded, code_by, coded_ℕ, coded_list, coded×}
use Rattle.std.specs.List.{All, concat, list_all}
use Rattle.vx_mask.specs.Places.{chosen}
use Rattle.vx_tree.specs.declared.views.view.View.{View}

-- views, and the data buffers that they are views into
pub record ViewedRows : Type 0 where
  pub views : List View
  pub buffers : List (List ℕ)

abbrev pub viewed : List View → List (List ℕ) → ViewedRows
viewed vs bs = record { views = vs; buffers = bs }

abbrev pub coded_view : Coded View
coded_view =
    code_by (ℕ × (ℕ × ℕ)) (coded× coded_ℕ (coded× coded_ℕ coded_ℕ)) (λ v. (v.buffer, (v.start, v.size)))
    (λ p. record { buffer = p.0; start = p.1.0; size = p.1.1 }) (λ _. refl)

abbrev pub coded_viewed : Coded ViewedRows
coded_viewed =
    code_by (List View × List (List ℕ)) (coded× (coded_list coded_view) (coded_list (coded_list coded_ℕ))) (λ r. (r.views, r.buffers)) (λ p. viewed p.0 p.1)
    (λ _. refl)

-- the data buffer of a view; past the last buffer, no bytes
abbrev pub buffer_of : List (List ℕ) → View → List ℕ
buffer_of buffers v = slice_index_or buffers v.buffer []

-- the bytes of a view
abbrev pub bytes_at : List (List ℕ) → View → List ℕ
bytes_at buffers v = take v.size (drop v.start (buffer_of buffers v))

-- the rows: the bytes of each view
abbrev pub rows_of : ViewedRows → List (List ℕ)
rows_of r = map (bytes_at r.buffers) r.views

-- the view lies in its buffer
abbrev pub LiesIn : List (List ℕ) → View → Type 0
LiesIn buffers v = (v.buffer < length buffers) × (v.start + v.size ≤ length (buffer_of buffers v))

-- each view lies in its buffer
abbrev pub AllLieIn : List (List ℕ) → List View → Type 0
AllLieIn buffers views = All (LiesIn buffers) views

-- the same as tests
abbrev pub lies_in : List (List ℕ) → View → Bool
lies_in buffers v = nat_lt v.buffer (length buffers) && nat_le (v.start + v.size) (length (buffer_of buffers v))

abbrev pub all_lie_in : ViewedRows → Bool
all_lie_in r = list_all (lies_in r.buffers) r.views

-- ---- other views of the same buffers

-- the rows from a, inclusive, to b, exclusive
abbrev pub viewed_range : ℕ → ℕ → ViewedRows → ViewedRows
viewed_range a b r = viewed (slice_range r.views a b) r.buffers

-- the rows at the true bits
abbrev pub viewed_choice : List Bool → ViewedRows → ViewedRows
viewed_choice bits r = viewed (chosen bits r.views) r.buffers

-- ---- views of one buffer

-- the view of `size` bytes from `start` on
abbrev pub view_at : ℕ → ℕ → View
view_at start size = record { buffer = 0; start = start; size = size }

-- views of rows that follow one another, the first from `start` on
abbrev pub views_from : ℕ → List (List ℕ) → List View
views_from start [] = []
views_from start (r ∷ rs) = view_at start (length r) ∷ views_from (start + length r) rs

-- rows in one buffer, one after the other
abbrev pub packed : List (List ℕ) → ViewedRows
packed rs = viewed (views_from 0 rs) (concat rs ∷ [])

-- n rows of the same bytes, which one buffer holds once
abbrev pub repeated : ℕ → List ℕ → ViewedRows
repeated n r = viewed (replicate n (view_at 0 (length r))) (r ∷ [])

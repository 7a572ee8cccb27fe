-- Values gathered by the numbers of their rows.
use Rattle.std.proofs.Common.{◌≡◌, ◌<◌, inl, inr, ℕ, zero, suc, ℤ, pos, Bool, true, false, if◌then◌else◌, List, [], ◌∷◌, length, map, get_or, replicate, refl, sym, ap, ◌∙◌}
use Rattle.std.proofs.Common.{subst, arith, ◌≤◌}
use Rattle.std.specs.Prelude.{◌&&◌, nat_lt}
use Rattle.std.proofs.lemmas.Bool.Decides.{nat_tests}
use Rattle.std.specs.Cmp.{first_so, second_so}
use Rattle.std.specs.List.{list_all, range_with_len}
use Rattle.std.specs.Str.{is_utf8}
use Rattle.std.proofs.lemmas.Bool.{and_from}
use Rattle.std.proofs.lemmas.List.{length-map}
use Rattle.std.proofs.lemmas.List.FromFn.{length-map-range_with_len}
use Rattle.std.proofs.lemmas.Simd.{map-map}
use Rattle.std.proofs.Math.ListN.{get_or-map as get_or_mapped}
use Rattle.vx_value.specs.Types as type
use Rattle.vx_value.specs.Types.{DataType, primitive}
use Rattle.vx_value.specs.Values.{boolean, integer, decimal, bytes}
use Rattle.vx_value.specs.Cell.{Cell, value, fault}
use Rattle.vx_value.specs.Nullabilities.{with_nullability}
use Rattle.vx_value.specs.Decimals.{has_digits}
use Rattle.vx_value.specs.declared.decimal.DecimalDType.{DecimalDType}
use Rattle.vx_value.specs.declared.dtype.PType.{PType}
use Rattle.vx_value.specs.declared.dtype.Storage.{Storage}
use Rattle.vx_value.specs.declared.dtype.Storage.TheVariants.{Text}
use Rattle.vx_value.specs.declared.error.VortexError.{VortexError}
use Rattle.vx_value.specs.declared.error.VortexError.TheVariants.{OutOfMemory}
use Rattle.vx_value.proofs.DefaultsLemmas.{zero_has_digits}
use Rattle.vx_mask.specs.Logic.{bit_row}
use Rattle.vx_mask.specs.Operands.{bit_in}
use Rattle.vx_mask.specs.declared.operand.BitOperand.{BitOperand}
use Rattle.vx_mask.proofs.Lists.{same_below, all_below}
use Rattle.vx_tree.specs.ColumnTypes.{bytes_type, are_bytes_of}
use Rattle.vx_tree.specs.Tree.{Tree, dtype}
use Rattle.vx_tree.specs.Views.{ViewedRows, viewed, rows_of, view_at, LiesIn, AllLieIn}
use Rattle.vx_tree.specs.Views.{bytes_at as viewed_at}
use Rattle.vx_tree.specs.declared.views.view.View.{View}
use Rattle.vx_column.specs.Arguments.{plain_type, value_at, bytes_at, bytes_in, unscaled_at, unscaled_in, HasDecimals, HasBytes, AreDecimals, AreBytes}
use Rattle.vx_column.specs.Computed.{IsColumnOfCells}
use Rattle.vx_column.specs.LookedUp.{place_at, IsGathered, decimal_cell, view_of, views_named, AreGatheredBytes}
use Rattle.vx_column.specs.Operands.{IsFaultyRow, IsPrimitiveColumnOf, IsDecimalColumnOf}
use Rattle.vx_column.specs.ValidRows.{is_valid, nullability_in}
use Rattle.vx_column.specs.declared.rows.argument.ArgumentRows.{ArgumentRows}
use Rattle.vx_column.specs.declared.rows.argument.ArgumentRows.TheVariants as stored
use Rattle.vx_column.specs.declared.rows.argument.BytesOperand.{BytesOperand}
use Rattle.vx_column.specs.declared.rows.argument.BytesRows.{BytesRows}
use Rattle.vx_column.specs.declared.rows.argument.BytesRows.TheVariants as bytes_rows
use Rattle.vx_column.specs.declared.rows.argument.DecimalOperand.{DecimalOperand}
use Rattle.vx_column.specs.declared.rows.argument.DecimalRows.{DecimalRows}
use Rattle.vx_column.specs.declared.rows.argument.DecimalRows.TheVariants as decimal_rows
use Rattle.vx_column.specs.declared.rows.valid.ValidRows.{ValidRows}
use Rattle.vx_column.proofs.MadeLemmas.{made_by}
use Rattle.vx_column.proofs.TextLemmas.{none_text}
use Rattle.vx_column.proofs.ValidRowsLemmas.{bit_made, row_made}
use Rattle.vx_column.proofs.ViewsLemmas.{rows_stored}

-- ---- numbers

-- rows that are all values
pub no_fault : (valid : ℕ → Bool) (cell : ℕ → Cell) (n : ℕ) (e : VortexError) → ((i : ℕ) → i < n → cell i ≡ fault → ⊥) → IsFaultyRow valid cell n e → e ≡ OutOfMemory
no_fault valid cell n e never (inl memory) = memory
no_fault valid cell n e never (inr h) = absurd (never h.1 h.2 h.4)

pub integers_gathered : (p : PType) (q : PType) (z w : ℕ → ℤ) (places : List ℕ) (valid : ValidRows) (n : ℕ) (u : Tree) → z ≡ w → q ≡ p
    → IsPrimitiveColumnOf p valid (λ i. value (integer (z (place_at places i)))) n u
    → (dtype u ≡ primitive q (nullability_in valid)) × IsColumnOfCells valid (λ i. value (integer (w (place_at places i)))) n u
integers_gathered p q z w places valid n u same kind h =
    (h.0 ∙ ap (λ k. primitive k (nullability_in valid)) (sym kind), subst (λ f. IsColumnOfCells valid (λ i. value (integer (f (place_at places i)))) n u) same h.1)

-- a test that all items and the default pass
passed_or : {X : Type 0} (test : X → Bool) (d : X) (xs : List X) (k : ℕ) → list_all test xs ≡ true → test d ≡ true → test (get_or xs k d) ≡ true
passed_or test d [] k h e = e
passed_or test d (x ∷ xs) zero h e = first_so (test x) _ h
passed_or test d (x ∷ xs) (suc k) h e = passed_or test d xs k (second_so (test x) _ h) e

pub zero_digits : (p : ℕ) → has_digits p (pos 0) ≡ true
zero_digits p = zero_has_digits p

pub place_digits : (d : DecimalDType) (r : DecimalRows) (n k : ℕ) → HasDecimals d r n → has_digits d.precision (unscaled_at r k) ≡ true
place_digits d (decimal_rows.Value z) n k h = h
place_digits d (decimal_rows.Rows ds) n k h = passed_or (has_digits d.precision) (pos 0) _ k (second_so _ _ h.1) (zero_digits d.precision)

pub decimal_shown : (d : DecimalDType) (z : ℤ) → has_digits d.precision z ≡ true → decimal_cell d z ≡ value (decimal z d.scale)
decimal_shown d z h = ap (λ b. if b then value (decimal z d.scale) else fault) h

pub decimal_never : (d : DecimalDType) (z : ℤ) → has_digits d.precision z ≡ true → decimal_cell d z ≡ fault → ⊥
decimal_never d z h e = let both : value (decimal z d.scale) ≡ fault = sym (decimal_shown d z h) ∙ e in absurd (cc (both))

pub decimal_known : (d : DecimalDType) (z y : ℤ) → decimal_cell d y ≡ value (decimal z d.scale) → has_digits d.precision z ≡ true
decimal_known d z y e = by_test (has_digits d.precision y) refl e
  where
    by_test : (b : Bool) → has_digits d.precision y ≡ b → (if b then value (decimal y d.scale) else fault) ≡ value (decimal z d.scale) → has_digits d.precision z ≡ true
    by_test true h k = let same : y ≡ z = cc (k) in subst (λ x. has_digits d.precision x ≡ true) same h
    by_test false h k = absurd (cc (k))

pub decimals_gathered : (ds : DecimalOperand) (m : ℕ) (z : ℕ → ℤ) (places : List ℕ) (valid : ValidRows) (n : ℕ) (u : Tree) → AreDecimals ds m → z ≡ unscaled_in ds
    → IsDecimalColumnOf ds.decimal valid (λ i. decimal_cell ds.decimal (z (place_at places i))) n u → IsGathered (stored.Decimals ds) places valid n u
decimals_gathered ds m z places valid n u are same h = (
  h.0,
  made_by valid _ _ n u
      (λ i lt here. ap (λ f. decimal_cell ds.decimal (f (place_at places i))) same
      ∙ decimal_shown ds.decimal (unscaled_in ds (place_at places i)) (place_digits ds.decimal ds.rows m (place_at places i) are)) h.1,
)

-- ---- bytes

pub place_stored : (st : Storage) (r : BytesRows) (n k : ℕ) → HasBytes st r n → are_bytes_of st (bytes_at r k ∷ []) ≡ true
place_stored st (bytes_rows.Value bs) n k h = h
place_stored Text (bytes_rows.Rows rs) n k h = and_from _ true (passed_or is_utf8 [] (rows_of rs.now) k h.1 none_text) refl
place_stored _ (bytes_rows.Rows rs) n k h = refl

no_bytes : (st : Storage) → are_bytes_of st ([] ∷ []) ≡ true
no_bytes Text = and_from _ true none_text refl
no_bytes _ = refl

-- the bytes of a view that is looked up
bytes_of_view : (rs : ViewedRows) (b : Bool) (k : ℕ) → viewed_at rs.buffers (view_of rs.views b k) ≡ (if b then get_or (rows_of rs) k [] else [])
bytes_of_view rs true k = sym (get_or_mapped (viewed_at rs.buffers) rs.views k (view_at 0 0))
bytes_of_view rs false k = refl

either_stored : (st : Storage) (b : Bool) (x : List ℕ) → are_bytes_of st (x ∷ []) ≡ true → are_bytes_of st ((if b then x else []) ∷ []) ≡ true
either_stored st true x h = h
either_stored st false x h = no_bytes st

pub views_gathered : (bs : BytesOperand) (rs : ViewedRows) (places : List ℕ) (valid : ValidRows) (n m : ℕ) → ((k : ℕ) → bytes_in bs k ≡ get_or (rows_of rs) k [])
    → AreBytes bs m → AreGatheredBytes bs places valid n (viewed (views_named rs.views places valid n) rs.buffers)
views_gathered bs rs places valid n m same are =
    let found = viewed (views_named rs.views places valid n) rs.buffers in
    let f : ℕ → List ℕ = λ i. if is_valid valid i then bytes_in bs (place_at places i) else [] in
    let made : rows_of found ≡ map f (range_with_len 0 n) = all_made in
    record {
      counted = length-map-range_with_len (λ i. view_of rs.views (is_valid valid i) (place_at places i)) 0 n;
      stored = rows_stored bs.storage f (rows_of found) n made
          (λ i lt. either_stored bs.storage (is_valid valid i) (bytes_in bs (place_at places i)) (place_stored bs.storage bs.rows m (place_at places i) are));
      named = λ i lt here. row_made [] f (rows_of found) n i made lt ∙ ap (λ b. if b then bytes_in bs (place_at places i) else []) here;
    }
  where
    all_made : rows_of (viewed (views_named rs.views places valid n) rs.buffers)
        ≡ map (λ i. if is_valid valid i then bytes_in bs (place_at places i) else []) (range_with_len 0 n)
    all_made =
        map-map (viewed_at rs.buffers) (λ i. view_of rs.views (is_valid valid i) (place_at places i)) (range_with_len 0 n)
        ∙ same_below n _ _ (λ i lt. bytes_of_view rs (is_valid valid i) (place_at places i)
        ∙ ap (λ x. if is_valid valid i then x else []) (sym (same (place_at places i))))

-- views that are looked up lie in their buffers
view_lies : (vs : List View) (bs : List (List ℕ)) (b : Bool) (k : ℕ) → AllLieIn bs vs → 0 < length vs → LiesIn bs (view_of vs b k)
view_lies vs bs b k within some = either b
  where
    first : 0 < length bs
    first = let lies = within 0 (view_at 0 0) some in omega (arith, lies.0)

    nothing : LiesIn bs (view_at 0 0)
    nothing = (first, omega arith)

    past : (vs : List View) (k : ℕ) → length vs ≤ k → get_or vs k (view_at 0 0) ≡ view_at 0 0
    past [] k h = refl
    past (v ∷ vs) zero h = absurd (omega arith)
    past (v ∷ vs) (suc k) h = past vs k (omega arith)

    by_test : (t : Bool) → nat_lt k (length vs) ≡ t → LiesIn bs (get_or vs k (view_at 0 0))
    by_test true h = within k (view_at 0 0) (grind (arith, nat_tests))
    by_test false h = let far : length vs ≤ k = grind (arith, nat_tests) in subst (LiesIn bs) (sym (past vs k far)) nothing

    either : (b : Bool) → LiesIn bs (view_of vs b k)
    either true = by_test (nat_lt k (length vs)) refl
    either false = nothing

pub views_lie : (rs : ViewedRows) (vs items : List View) (bs : List (List ℕ)) (places : List ℕ) (valid : ValidRows) (n : ℕ) → rs ≡ viewed vs bs → AllLieIn bs vs
    → 0 < length rs.views → items ≡ views_named vs places valid n → AllLieIn rs.buffers items
views_lie rs vs items bs places valid n are within some made = λ k d lt.
    let f : ℕ → View = λ i. view_of vs (is_valid valid i) (place_at places i) in
    let short : k < n = subst (λ m. k < m) (ap length made ∙ length-map-range_with_len f 0 n) lt in
    let item : get_or items k d ≡ f k = row_made d f items n k made short in
    let buffers : bs ≡ rs.buffers = sym (ap (λ r. r.buffers) are) in
    let any : 0 < length vs = subst (λ r. 0 < length r.views) are some in
    subst (λ x. LiesIn rs.buffers x) (sym item)
    (subst (λ x. LiesIn x (f k)) buffers (view_lies vs bs (is_valid valid k) (place_at places k) within any))

-- rows that all store the same bytes
pub bytes_repeated : (bs : BytesOperand) (places : List ℕ) (valid : ValidRows) (n m : ℕ) (r : ViewedRows) (x : List ℕ) → rows_of r ≡ map (λ i. x) (range_with_len 0 n)
    → ((k : ℕ) → bytes_in bs k ≡ x) → AreBytes bs m → AreGatheredBytes bs places valid n r
bytes_repeated bs places valid n m r x made same are = record {
  counted = sym (length-map r.views (viewed_at r.buffers)) ∙ ap length made ∙ length-map-range_with_len (λ i. x) 0 n;
  stored = rows_stored bs.storage (λ i. x) (rows_of r) n made
      (λ i lt. subst (λ y. are_bytes_of bs.storage (y ∷ []) ≡ true) (same 0) (place_stored bs.storage bs.rows m 0 are));
  named = λ i lt here. row_made [] (λ i. x) (rows_of r) n i made lt ∙ sym (same (place_at places i));
}

no_row : (rs : ViewedRows) (vs : List View) (k : ℕ) → rs.views ≡ vs → length vs ≡ 0 → get_or (rows_of rs) k [] ≡ []
no_row rs [] k is none = ap (λ vs. get_or (map (viewed_at rs.buffers) vs) k []) is
no_row rs (v ∷ vs) k is none = absurd (omega arith)

-- no row at all
pub bytes_empty : (bs : BytesOperand) (rs r : ViewedRows) (places : List ℕ) (valid : ValidRows) (n m : ℕ) → length rs.views ≡ 0
    → ((k : ℕ) → bytes_in bs k ≡ get_or (rows_of rs) k []) → rows_of r ≡ replicate n [] → AreBytes bs m → AreGatheredBytes bs places valid n r
bytes_empty bs rs r places valid n m none same made are =
    bytes_repeated bs places valid n m r [] (made ∙ sym (all_below n (λ i. []) [] (λ i lt. refl)))
    (λ k. same k ∙ no_row rs rs.views k refl none) are

-- ---- the column

pub nulls_gathered : (r : ArgumentRows) (places : List ℕ) (valid : ValidRows) (n : ℕ) (u : Tree) → r ≡ stored.Nulls
    → (dtype u ≡ with_nullability (nullability_in valid) (plain_type r)) × IsColumnOfCells valid (λ i. value (value_at r i)) n u → IsGathered r places valid n u
nulls_gathered r places valid n u is h =
    (h.0, made_by valid _ _ n u (λ i lt here. ap value (ap (λ x. value_at x i) is ∙ ap (λ x. value_at x (place_at places i)) (sym is))) h.1)

pub bits_gathered : (r : ArgumentRows) (bs : BitOperand) (bits : List Bool) (places : List ℕ) (valid : ValidRows) (n : ℕ) (u : Tree) → r ≡ stored.Bits bs
    → bits ≡ map (λ i. is_valid valid i && bit_in bs (place_at places i)) (range_with_len 0 n)
    → (dtype u ≡ type.bool (nullability_in valid)) × IsColumnOfCells valid (λ i. value (boolean (bit_row bits i))) n u → IsGathered r places valid n u
bits_gathered r bs bits places valid n u is made h =
    subst (λ x. IsGathered x places valid n u) (sym is) (
      h.0,
      made_by valid _ _ n u
          (λ i lt here. ap (λ b. value (boolean b)) (bit_made (λ j. is_valid valid j && bit_in bs (place_at places j)) bits n i made lt
          ∙ ap (λ b. b && bit_in bs (place_at places i)) here)) h.1,
    )

pub bytes_gathered : (r : ArgumentRows) (bs : BytesOperand) (rs : ViewedRows) (places : List ℕ) (valid : ValidRows) (n : ℕ) (u : Tree) → r ≡ stored.Bytes bs
    → AreGatheredBytes bs places valid n rs
    → (dtype u ≡ with_nullability (nullability_in valid) (bytes_type bs.storage)) × IsColumnOfCells valid (λ i. value (bytes (get_or (rows_of rs) i []))) n u
    → IsGathered r places valid n u
bytes_gathered r bs rs places valid n u is are h =
    subst (λ x. IsGathered x places valid n u) (sym is) (
      h.0,
      made_by valid _ _ n u (λ i lt here. ap (λ b. value (bytes b)) (are.named i lt here)) h.1,
    )

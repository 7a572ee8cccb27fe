-- What the kernels answer, and why they decline.
use Rattle.std.proofs.Common.{◌≡◌, ◌≢◌, inl, inr, ℕ, zero, suc, ◌+◌, ◌<◌, ◌≤◌, ◌&&◌, ◌||◌, nat_lt, pos, Bool, true, false, List, [], ◌∷◌, ◌++◌, length, map, get_or, Option, Some, None, Ok, Err, refl, sym, ap, subst, ◌∙◌, arith}
use Rattle.std.specs.Prelude.{slice_index_or}
use Rattle.std.specs.List.{range_with_len}
use Rattle.std.proofs.Math.Bool.{not}
use Rattle.std.proofs.lemmas.Bool.{false≢true, and_parts, and_from, and_right}
use Rattle.std.proofs.lemmas.List.FromFn.{fill_by_all, length-map-range_with_len, map-range_with_len_more}
use Rattle.vx_value.specs.Types as type
use Rattle.vx_value.specs.Types.{DataType, nullability_of, is_nullable}
use Rattle.vx_value.specs.Nullabilities.{with_nullability, union}
use Rattle.vx_value.specs.Values.{integer, boolean, null}
use Rattle.vx_value.specs.Cell.{Cell, value, fault}
use Rattle.vx_value.specs.declared.dtype.Nullability.{Nullability}
use Rattle.vx_value.specs.declared.dtype.Nullability.TheVariants.{NonNullable, Nullable}
use Rattle.vx_value.specs.declared.dtype.PType.TheVariants.{U64}
use Rattle.vx_value.specs.declared.error.VortexError.{VortexError}
use Rattle.vx_value.specs.declared.error.VortexError.TheVariants.{Fault}
use Rattle.vx_mask.specs.Places.{chosen}
use Rattle.vx_fn.specs.Meanings.{widen}
use Rattle.vx_fn.specs.Binary.{is_logical}
use Rattle.vx_fn.specs.ReturnTypes.{return_type}
use Rattle.vx_fn.specs.Apply.{apply}
use Rattle.vx_fn.specs.declared.function.Operator.{Operator}
use Rattle.vx_fn.specs.declared.function.Operator.TheVariants as operator
use Rattle.vx_fn.specs.declared.function.ScalarFnRef.{ScalarFnRef}
use Rattle.vx_fn.specs.declared.function.ScalarFnRef.TheVariants as fn_of
use Rattle.vx_tree.specs.Tree as enc
use Rattle.vx_tree.specs.Tree.{Tree, Data, Slots, node, no_slots, absent, slot, slots_of, filled_slots, dtype, len, datum, is_bool, is_canonical, is_columnar, is_constant, is_dict, is_filter, is_function, dict_of, filter_of, booleans, call_of, integers, types_in}
use Rattle.vx_tree.specs.Cells.{rows, HasNoFault}
use Rattle.vx_tree.specs.Lookups.{taken, taken_cells}
use Rattle.vx_tree.specs.Keeps.{KeepsExactly}
use Rattle.vx_tree.specs.SlotTypes.{is_integer}
use Rattle.vx_tree.specs.Well.{Shape, shape, IsNode, IsWell, AreWell, IsValidity, shapes}
use Rattle.vx_tree.proofs.CallsLemmas.{filled_types}
use Rattle.vx_tree.proofs.RefusalsLemmas.{types_back}
use Rattle.vx_tree.proofs.ValiditiesLemmas.{whole}
use Rattle.vx_rule.proofs.FiltersLemmas.{choice_natural}
use Rattle.vx_rule.proofs.PicksLemmas.{exactly_by}
use Rattle.vx_column.specs.LookedUp.{AreTaken, AreNotTaken}
use Rattle.vx_column.specs.Applied.{IsApplied, IsUnapplied, all_constant}
use Rattle.vx_step.specs.Waiting.{AreColumns}
use Rattle.vx_step.specs.Kernels.{places, placed, IsPlaced, is_logical_call, is_plain, holds_plain, are_plain, KernelAnswer, dict_over_filter, bool_binary, KernelAnswers}
use Rattle.vx_step.specs.declared.kernels.builtin.BuiltinKernelKind.{BuiltinKernelKind}
use Rattle.vx_step.specs.declared.kernels.builtin.BuiltinKernelKind.TheVariants.{DictOverFilter, BoolBinary}

none_given : (k : BuiltinKernelKind) (i : ℕ) (t : Tree) → ((u : Tree) → KernelAnswer k i t u → ⊥) → KernelAnswers k i t (Ok None)
none_given k i t h = record { answer = h; stands = tt; err = tt }

-- ---- a dictionary over a filter: no answer

not_slot : (i : ℕ) (t u : Tree) → i ≢ 1 → KernelAnswer DictOverFilter i t u → ⊥
not_slot i t u h (dict_over_filter bits codes c v columnar is) = h refl

pub other_slot : (i : ℕ) (t : Tree) → i ≢ 1 → KernelAnswers DictOverFilter i t (Ok None)
other_slot i t h = none_given DictOverFilter i t (λ u. not_slot i t u h)

not_dict : (i : ℕ) (t u : Tree) → is_dict (datum t) ≡ false → KernelAnswer DictOverFilter i t u → ⊥
not_dict i t u h (dict_over_filter bits codes c v columnar is) = false≢true (sym h)

pub other_parent : (i : ℕ) (t : Tree) → is_dict (datum t) ≡ false → KernelAnswers DictOverFilter i t (Ok None)
other_parent i t h = none_given DictOverFilter i t (λ u. not_dict i t u h)

not_filter : (i : ℕ) (t codes values u : Tree) → t ≡ dict_of codes values → is_filter (datum values) ≡ false → KernelAnswer DictOverFilter i t u → ⊥
not_filter i t codes values u shown h (dict_over_filter bits k c v columnar is) =
    let same : values ≡ filter_of bits c = cc (shown) in
    false≢true (sym h ∙ ap (λ x. is_filter (datum x)) same)

pub other_values : (i : ℕ) (t codes values : Tree) → t ≡ dict_of codes values → is_filter (datum values) ≡ false → KernelAnswers DictOverFilter i t (Ok None)
other_values i t codes values shown h = none_given DictOverFilter i t (λ u. not_filter i t codes values u shown h)

module _ (bits : List Bool) (codes c : Tree) where
  not_column : (i : ℕ) (t u : Tree) → t ≡ dict_of codes (filter_of bits c) → is_columnar (datum codes) ≡ false → KernelAnswer DictOverFilter i t u → ⊥
  not_column i t u shown h (dict_over_filter bs k d v columnar is) =
      let same : k ≡ codes = cc (shown) in
      false≢true (sym h ∙ ap (λ x. is_columnar (datum x)) (sym same) ∙ columnar)

  pub codes_open : is_columnar (datum codes) ≡ false → KernelAnswers DictOverFilter 1 (dict_of codes (filter_of bits c)) (Ok None)
  codes_open h =
      none_given DictOverFilter 1 (dict_of codes (filter_of bits c)) (λ u. not_column 1 (dict_of codes (filter_of bits c)) u refl h)

  not_settled : (i : ℕ) (t u : Tree) → t ≡ dict_of codes (filter_of bits c) → (HasNoFault (placed bits (rows codes)) → ⊥) → KernelAnswer DictOverFilter i t u → ⊥
  not_settled i t u shown h (dict_over_filter bs k d v columnar is) =
      let same : k ≡ codes = cc (shown) in
      let same_bits : bs ≡ bits = cc (shown) in
      h (subst (λ x. HasNoFault (placed bits (rows x))) same (subst (λ x. HasNoFault (placed x (rows k))) same_bits is.settled))

  pub not_placed : (HasNoFault (placed bits (rows codes)) → ⊥) → KernelAnswers DictOverFilter 1 (dict_of codes (filter_of bits c)) (Ok None)
  not_placed h =
      none_given DictOverFilter 1 (dict_of codes (filter_of bits c)) (λ u. not_settled 1 (dict_of codes (filter_of bits c)) u refl h)

-- ---- the places that codes name

number : ℕ → Cell
number i = value (integer (pos i))

head_settled : (c : Cell) (cs : List Cell) → HasNoFault (c ∷ cs) → (c ≢ fault) × HasNoFault cs
head_settled (value v) cs h = ((λ e. absurd (cc (e))), h)
head_settled fault cs h = absurd h

-- of the rows cs, the one at the n-th of these places
named_at : (cs : List Cell) (is : List ℕ) (n : ℕ) → slice_index_or (map number is) n fault ≢ fault
    → slice_index_or (map (λ i. slice_index_or cs i fault) is) n fault ≡ taken cs (slice_index_or (map number is) n fault)
unfolding number
named_at cs [] n h = absurd (h refl)
named_at cs (i ∷ is) zero h = refl
named_at cs (i ∷ is) (suc n) h = named_at cs is n h

-- the chosen rows are those at the chosen places
chosen_named : (bits : List Bool) (cs : List Cell) → length cs ≡ length bits
    → chosen bits cs ≡ map (λ i. slice_index_or cs i fault) (chosen bits (range_with_len 0 (length bits)))
chosen_named bits cs long =
    ap (chosen bits) (fill_by_all (λ i. slice_index_or cs i fault) cs (length bits) fault long (λ k h. refl))
    ∙ choice_natural bits (λ i. slice_index_or cs i fault) (range_with_len 0 (length bits))

taken_one : (bits : List Bool) (cs : List Cell) (k : Cell) → length cs ≡ length bits → taken (places bits) k ≢ fault
    → taken (chosen bits cs) k ≡ taken cs (taken (places bits) k)
unfolding number
taken_one bits cs (value (integer (pos n))) long h =
    ap (λ l. slice_index_or l n fault) (chosen_named bits cs long) ∙ named_at cs (chosen bits (range_with_len 0 (length bits))) n h
taken_one bits cs (value null) long h = refl
taken_one bits cs _ long h = absurd (h refl)

taken_placed : (bits : List Bool) (ks cs : List Cell) → length cs ≡ length bits → HasNoFault (placed bits ks)
    → taken_cells ks (chosen bits cs) ≡ taken_cells (placed bits ks) cs
taken_placed bits [] cs long h = refl
taken_placed bits (k ∷ ks) cs long h =
    let parts = head_settled (taken (places bits) k) (placed bits ks) h in
    subst (λ x. taken (chosen bits cs) k ∷ taken_cells ks (chosen bits cs) ≡ x ∷ taken_cells (placed bits ks) cs) (taken_one bits cs k long parts.0)
    (ap (λ l. taken (chosen bits cs) k ∷ l) (taken_placed bits ks cs long parts.1))

pub placed_answers : (bits : List Bool) (codes c v : Tree) → length bits ≡ len c → length (rows c) ≡ len c → is_columnar (datum codes) ≡ true → IsPlaced bits codes v
    → KernelAnswers DictOverFilter 1 (dict_of codes (filter_of bits c)) (Ok (Some (dict_of v c)))
placed_answers bits codes c v counted_bits counted_rows columnar is =
    let shown : rows (dict_of codes (filter_of bits c)) ≡ rows (dict_of v c) =
    taken_placed bits (rows codes) (rows c) (counted_rows ∙ sym counted_bits) is.settled ∙ ap (λ ks. taken_cells ks (rows c)) (sym is.shown) in
    let typed : widen (dtype codes) (dtype c) ≡ widen (dtype v) (dtype c) =
    ap (λ m. with_nullability (union m (nullability_of (dtype c))) (dtype c)) (sym (ap nullability_of is.typed)) in
    record {
      answer = dict_over_filter bits codes c v columnar is;
      stands =
          exactly_by (dict_of codes (filter_of bits c)) (dict_of v c) typed (sym is.counted) shown
          (λ d. (subst HasNoFault shown d.0, (is.clean, (d.1.1.0.1.0, tt))));
      err = tt;
    }

pub placed_integers : (bits : List Bool) (codes v : Tree) → IsPlaced bits codes v → is_integer (dtype v) ≡ true
placed_integers bits codes v is = ap is_integer is.typed

union_right : (m : Nullability) → union m NonNullable ≡ m
union_right NonNullable = refl
union_right Nullable = refl

module _ (bits : List Bool) (codes ps : Tree) (shown : rows ps ≡ places bits) where
  pub placed_of : (v : Tree) → dtype ps ≡ type.primitive U64 NonNullable → AreTaken codes ps v → is_columnar (datum v) ≡ true → IsPlaced bits codes v
  placed_of v typed is columnar =
      let cells : rows v ≡ placed bits (rows codes) = is.shown ∙ ap (taken_cells (rows codes)) shown in
      record {
        columnar = columnar;
        typed = is.typed ∙ ap (widen (dtype codes)) typed ∙ ap (type.primitive U64) (union_right (nullability_of (dtype codes)));
        counted = is.counted;
        shown = cells;
        clean = is.clean;
        settled = subst HasNoFault cells (whole v is.clean);
      }

  pub unplaced_of : (e : VortexError) → AreNotTaken codes ps e → e ≡ Fault → HasNoFault (placed bits (rows codes)) → ⊥
  unplaced_of e (inl m) f h = absurd (cc (m, f))
  unplaced_of e (inr m) f h = m.1 (subst HasNoFault (ap (taken_cells (rows codes)) (sym shown)) h)

-- ---- the chosen places

map_same : (is : List ℕ) → map (λ i. i) is ≡ is
map_same [] = refl
map_same (i ∷ is) = ap (λ l. i ∷ l) (map_same is)

-- the numbers below n, one more
pub numbers_more : (n : ℕ) → range_with_len 0 (n + 1) ≡ range_with_len 0 n ++ n ∷ []
numbers_more n =
    sym (map_same (range_with_len 0 (n + 1))) ∙ map-range_with_len_more (λ i. i) 0 n n (omega arith) ∙ ap (λ l. l ++ n ∷ []) (map_same (range_with_len 0 n))

pub numbered_len : (n : ℕ) (numbers : Tree) → numbers ≡ integers U64 (map pos (range_with_len 0 n)) → len numbers ≡ n
numbered_len n numbers is = ap len is ∙ length-map-range_with_len pos 0 n

fused : (is : List ℕ) → map (λ z. value (integer z)) (map pos is) ≡ map (λ i. value (integer (pos i))) is
fused [] = refl
fused (i ∷ is) = ap (λ l. value (integer (pos i)) ∷ l) (fused is)

module _ (bits : List Bool) (n : ℕ) (numbers c : Tree) (long : length bits ≡ n) (is : numbers ≡ integers U64 (map pos (range_with_len 0 n)))
    (same : KeepsExactly (filter_of bits numbers) c) where
  pub numbered_shown : rows c ≡ places bits
  numbered_shown =
      sym same.equal ∙ ap (λ t. chosen bits (rows t)) is ∙ ap (chosen bits) (fused (range_with_len 0 n))
      ∙ choice_natural bits (λ i. value (integer (pos i))) (range_with_len 0 n)
      ∙ ap (λ k. map (λ i. value (integer (pos i))) (chosen bits (range_with_len 0 k))) (sym long)

  pub numbered_typed : dtype c ≡ type.primitive U64 NonNullable
  numbered_typed = sym same.keeps.same_type ∙ ap dtype is

-- ---- And and Or: no answer

or_first : (a b : Bool) → (a || b) ≡ true → b ≡ false → a ≡ true
or_first true b h k = refl
or_first false b h k = sym k ∙ h

not_function : (i : ℕ) (t u : Tree) → is_function (datum t) ≡ false → KernelAnswer BoolBinary i t u → ⊥
not_function i t u h (bool_binary j n ty op xs ys v logical same canonical) = false≢true (sym h)

pub no_function : (i : ℕ) (t : Tree) → is_function (datum t) ≡ false → KernelAnswers BoolBinary i t (Ok None)
no_function i t h = none_given BoolBinary i t (λ u. not_function i t u h)

module _ (t : Tree) (f : ScalarFnRef) (ss : Slots) (shown : t ≡ node (dtype t) (len t) (enc.function f) ss) where
  not_logic : (x : Tree) (i : ℕ) (u : Tree) → x ≡ node (dtype t) (len t) (enc.function f) ss → is_logical_call f ≡ false → KernelAnswer BoolBinary i x u → ⊥
  not_logic x i u e h (bool_binary j n ty op xs ys v logical same canonical) =
      let called : f ≡ fn_of.Binary op = cc (e) in
      false≢true (sym h ∙ ap is_logical_call called ∙ logical)

  pub no_logic : (i : ℕ) → is_logical_call f ≡ false → KernelAnswers BoolBinary i t (Ok None)
  no_logic i h = none_given BoolBinary i t (λ u. not_logic t i u shown h)

  not_booleans : (x : Tree) (i : ℕ) (u : Tree) → x ≡ node (dtype t) (len t) (enc.function f) ss → are_plain ss ≡ false → KernelAnswer BoolBinary i x u → ⊥
  not_booleans x i u e h (bool_binary j n ty op xs ys v logical same canonical) =
      let slots : ss ≡ slot (booleans xs) (slot (booleans ys) no_slots) = cc (e) in
      false≢true (sym h ∙ ap are_plain slots)

  pub no_booleans : (i : ℕ) → are_plain ss ≡ false → KernelAnswers BoolBinary i t (Ok None)
  no_booleans i h = none_given BoolBinary i t (λ u. not_booleans t i u shown h)

-- ---- slots of plain columns

pub plain_add : (xs : List (Option Tree)) (s : Option Tree) → are_plain (slots_of xs) ≡ true → holds_plain s ≡ true → are_plain (slots_of (xs ++ s ∷ [])) ≡ true
plain_add [] None h k = absurd (false≢true k)
plain_add [] (Some t) h k = ap (λ b. b && true) k
plain_add (None ∷ xs) s h k = absurd (false≢true h)
plain_add (Some u ∷ xs) s h k =
    let parts = and_parts (is_plain u) (are_plain (slots_of xs)) h in
    and_from (is_plain u) (are_plain (slots_of (xs ++ s ∷ []))) parts.0 (plain_add xs s parts.1 k)

pub not_plain_at : (xs : List (Option Tree)) (i : ℕ) (d : Option Tree) → i < length xs → holds_plain (get_or xs i d) ≡ false → are_plain (slots_of xs) ≡ false
not_plain_at [] i d k h = absurd (omega arith)
not_plain_at (None ∷ xs) i d k h = refl
not_plain_at (Some t ∷ xs) zero d k h = ap (λ b. b && are_plain (slots_of xs)) h
not_plain_at (Some t ∷ xs) (suc i) d k h = and_right (is_plain t) (are_plain (slots_of xs)) (not_plain_at xs i d (omega arith) h)

-- ---- And and Or: the answer

bool_columnar : (d : Data) → is_bool d ≡ true → is_columnar d ≡ true
bool_columnar (enc.bool bs) h = refl
bool_columnar _ h = absurd (false≢true h)

pub plain_columns : (ss : Slots) → are_plain ss ≡ true → AreColumns ss
plain_columns no_slots h = tt
plain_columns (absent ss) h = absurd (false≢true h)
plain_columns (slot t ss) h =
    let parts = and_parts (is_plain t) (are_plain ss) h in
    (bool_columnar (datum t) (and_parts _ _ parts.0).0, plain_columns ss parts.1)

binary_of : (f : ScalarFnRef) → is_logical_call f ≡ true → (op : Operator) × (f ≡ fn_of.Binary op) × (is_logical op ≡ true)
binary_of (fn_of.Binary op) h = (op, refl, h)
binary_of _ h = absurd (false≢true h)

-- a plain column, by its bits
never_null : (m : Nullability) → not (is_nullable m) ≡ true → m ≡ NonNullable
never_null NonNullable h = refl
never_null Nullable h = absurd (false≢true h)

no_validity : (m : Nullability) (n : ℕ) (v : Option Shape) → m ≡ NonNullable → IsValidity m n v → v ≡ None
no_validity m n None e h = refl
no_validity NonNullable n (Some s) e h = absurd h
no_validity Nullable n (Some s) e h = absurd (cc (e))

one_absent : (ss : Slots) → shapes ss ≡ None ∷ [] → ss ≡ absent no_slots
one_absent no_slots h = absurd (cc (h))
one_absent (absent no_slots) h = refl
one_absent (absent (absent ss)) h = absurd (cc (h))
one_absent (absent (slot t ss)) h = absurd (cc (h))
one_absent (slot t ss) h = absurd (cc (h))

plain_is : (t : Tree) → IsWell t → is_plain t ≡ true → (bs : List Bool) × (t ≡ booleans bs)
plain_is (node ty n (enc.bool bs) ss) w h =
    let never : nullability_of ty ≡ NonNullable = never_null (nullability_of ty) h in
    let typed : ty ≡ type.bool NonNullable = w.0.1 ∙ ap (λ m. with_nullability m (type.bool NonNullable)) never in
    let counted : n ≡ length bs = w.0.2 in
    let none : w.0.0 ≡ None = no_validity (nullability_of ty) n w.0.0 never w.0.4 in
    let slots : ss ≡ absent no_slots = one_absent ss (w.0.3 ∙ ap (λ v. v ∷ []) none) in
    (bs, λ i. node (typed i) (counted i) (enc.bool bs) (slots i))
plain_is (node ty n _ ss) w h = absurd (false≢true h)

-- the operators take two
two_plain : (op : Operator) (ty : DataType) (ts : List Tree) → return_type (fn_of.Binary op) (map dtype ts) ≡ Some ty → AreWell (filled_slots ts)
    → are_plain (filled_slots ts) ≡ true → (xs : List Bool) × (ys : List Bool) × (ts ≡ booleans xs ∷ booleans ys ∷ [])
two_plain op ty [] row w h = absurd (cc (row))
two_plain op ty (a ∷ []) row w h = absurd (cc (row))
two_plain op ty (a ∷ b ∷ []) row w h =
    let parts = and_parts (is_plain a) (is_plain b && true) h in
    let first = plain_is a w.0 parts.0 in
    let second = plain_is b w.1.0 (and_parts (is_plain b) true parts.1).0 in
    (first.0, second.0, λ i. first.1 i ∷ second.1 i ∷ [])
two_plain op ty (a ∷ b ∷ c ∷ ts) row w h = absurd (cc (row))

-- no row is a fault
joined_type : (op : Operator) (ty : DataType) → is_logical op ≡ true
    → return_type (fn_of.Binary op) (type.bool NonNullable ∷ type.bool NonNullable ∷ []) ≡ Some ty → type.bool NonNullable ≡ ty
joined_type operator.And ty h row = cc (row)
joined_type operator.Or ty h row = cc (row)
joined_type _ ty h row = absurd (false≢true h)

joined_row : (op : Operator) (tys : List DataType) (a b : Bool) → is_logical op ≡ true
    → apply (fn_of.Binary op) tys (type.bool NonNullable) (value (boolean a) ∷ value (boolean b) ∷ []) ≢ fault
joined_row operator.And tys a b h e = absurd (cc (e))
joined_row operator.Or tys a b h e = absurd (cc (e))
joined_row _ tys a b h e = absurd (false≢true h)

bit_cell : (xs : List Bool) (i : ℕ) → i < length xs → (b : Bool) × (slice_index_or (map (λ x. value (boolean x)) xs) i fault ≡ value (boolean b))
bit_cell [] i h = absurd (omega (arith, h))
bit_cell (x ∷ xs) zero h = (x, refl)
bit_cell (x ∷ xs) (suc i) h = bit_cell xs i (omega (arith, h))

settled_with : (c : Cell) (cs : List Cell) → c ≢ fault → HasNoFault cs → HasNoFault (c ∷ cs)
settled_with (value v) cs h k = k
settled_with fault cs h k = absurd (h refl)

settled_by : (g : ℕ → Cell) (a n m : ℕ) → ((i : ℕ) → i < m → g i ≢ fault) → a + n ≤ m → HasNoFault (map g (range_with_len a n))
settled_by g a zero m h k = tt
settled_by g a (suc n) m h k =
    settled_with (g a) (map g (range_with_len (a + 1) n)) (h a (omega (arith, k))) (settled_by g (a + 1) n m h (omega (arith, k)))

two_long : (tys : List DataType) (n k m : ℕ) (s r : DataType) → Some (shape s k) ∷ Some (shape r m) ∷ [] ≡ map (λ x. Some (shape x n)) tys → (k ≡ n) × (m ≡ n)
two_long [] n k m s r h = absurd (cc (h))
two_long (a ∷ []) n k m s r h = absurd (cc (h))
two_long (a ∷ b ∷ []) n k m s r h = (cc (h), cc (h))
two_long (a ∷ b ∷ c ∷ tys) n k m s r h = absurd (cc (h))

module _ (op : Operator) (ty : DataType) (n : ℕ) (xs ys : List Bool) (logical : is_logical op ≡ true) where
  joined_settled : type.bool NonNullable ≡ ty → length xs ≡ n → length ys ≡ n
      → HasNoFault (rows (node ty n (enc.function (fn_of.Binary op)) (slot (booleans xs) (slot (booleans ys) no_slots))))
  joined_settled typed long_x long_y =
      let tys = type.bool NonNullable ∷ type.bool NonNullable ∷ [] in
      subst (λ t. HasNoFault (rows (node t n (enc.function (fn_of.Binary op)) (slot (booleans xs) (slot (booleans ys) no_slots))))) typed
      (settled_by _ 0 n n
      (λ i h.
      let x = bit_cell xs i (omega (arith, h, long_x)) in
      let y = bit_cell ys i (omega (arith, h, long_y)) in
      subst (λ c. apply (fn_of.Binary op) tys (type.bool NonNullable) (c ∷ slice_index_or (map (λ b. value (boolean b)) ys) i fault ∷ []) ≢ fault) (sym x.1)
      (subst (λ c. apply (fn_of.Binary op) tys (type.bool NonNullable) (value (boolean x.0) ∷ c ∷ []) ≢ fault) (sym y.1)
      (joined_row op tys x.0 y.0 logical)))
      (omega arith))

module _ (f : ScalarFnRef) (t : Tree) (ss : Slots) (ts : List Tree) (shown : t ≡ node (dtype t) (len t) (enc.function f) ss)
    (well : IsNode (dtype t) (len t) (enc.function f) (shapes ss)) (filled : filled_slots ts ≡ ss) where
  typed : return_type f (map dtype ts) ≡ Some (dtype t)
  typed =
      let types : map dtype ts ≡ well.0 = sym (filled_types ts) ∙ ap (λ x. types_in (shapes x)) filled ∙ ap types_in well.1 ∙ types_back (len t) well.0 in
      ap (return_type f) types ∙ well.2

  whole_call : call_of f (dtype t) (len t) ts ≡ t
  whole_call = ap (node (dtype t) (len t) (enc.function f)) filled ∙ sym shown

  module _ (logical : is_logical_call f ≡ true) (plain : are_plain ss ≡ true) (formed : IsWell t) where
    below : AreWell (filled_slots ts)
    below = let under : IsWell (node (dtype t) (len t) (enc.function f) ss) = subst IsWell shown formed in subst AreWell (sym filled) under.1

    -- the operator, and the bits of its arguments
    parts : (op : Operator) × (xs : List Bool) × (ys : List Bool) × (is_logical op ≡ true) × (f ≡ fn_of.Binary op) × (ts ≡ booleans xs ∷ booleans ys ∷ [])
    parts =
        let binary = binary_of f logical in
        let two =
        two_plain binary.0 (dtype t) ts (subst (λ g. return_type g (map dtype ts) ≡ Some (dtype t)) binary.1 typed) below (ap are_plain filled ∙ plain) in
        (binary.0, two.0, two.1, binary.2, binary.1, two.2)

    joined_is : t ≡ node (dtype t) (len t) (enc.function (fn_of.Binary parts.0)) (slot (booleans parts.1) (slot (booleans parts.2) no_slots))
    joined_is = sym whole_call ∙ (λ i. node (dtype t) (len t) (enc.function (parts.4 i)) (filled_slots (parts.5 i)))

    no_fault : HasNoFault (rows t)
    no_fault =
        let row =
        subst (λ g. return_type g (type.bool NonNullable ∷ type.bool NonNullable ∷ []) ≡ Some (dtype t)) parts.4
        (subst (λ l. return_type f (map dtype l) ≡ Some (dtype t)) parts.5 typed) in
        let slots : ss ≡ slot (booleans parts.1) (slot (booleans parts.2) no_slots) = sym filled ∙ ap filled_slots parts.5 in
        let long =
        two_long well.0 (len t) (length parts.1) (length parts.2) (type.bool NonNullable) (type.bool NonNullable) (sym (ap shapes slots) ∙ well.1) in
        subst (λ x. HasNoFault (rows x)) (sym joined_is)
        (joined_settled parts.0 (dtype t) (len t) parts.1 parts.2 parts.3 (joined_type parts.0 (dtype t) parts.3 row) long.0 long.1)

    pub unapplied_answers : (i : ℕ) (e : VortexError) → IsUnapplied f ts (len t) e → KernelAnswers BoolBinary i t (Err e)
    unapplied_answers i e (inl m) = record { answer = tt; stands = tt; err = m }
    unapplied_answers i e (inr m) = absurd (m.1 (dtype t) typed (subst (λ x. HasNoFault (rows x)) (sym whole_call) no_fault))

    pub applied_answers : (i : ℕ) (u : Tree) → IsApplied f ts (len t) u → is_columnar (datum u) ≡ true → KernelAnswers BoolBinary i t (Ok (Some u))
    applied_answers i u is columnar =
        let row : Some (dtype u) ≡ Some (dtype t) = sym is.typed ∙ typed in
        let type_is : dtype u ≡ dtype t = cc (row) in
        let same : call_of f (dtype u) (len t) ts ≡ t = ap (λ x. call_of f x (len t) ts) type_is ∙ whole_call in
        let stands : KeepsExactly t u = subst (λ x. KeepsExactly x u) same is.exactly in
        let closed : is_constant (datum u) ≡ false =
        is.constant_kept ∙ and_right (nat_lt 0 (len t)) (all_constant ts) (ap all_constant parts.5) in
        record {
          answer =
              subst (λ x. KernelAnswer BoolBinary i x u) (sym joined_is)
              (bool_binary i (len t) (dtype t) parts.0 parts.1 parts.2 u parts.3 (subst (λ x. KeepsExactly x u) joined_is stands)
              (or_first (is_canonical (datum u)) (is_constant (datum u)) columnar closed));
          stands = stands;
          err = tt;
        }

-- Values that aren't nested: their order, and the types that hold them.
use Rattle.std.proofs.Common.{◌≡◌, Bool, true, ◌&&◌, if◌then◌else◌, None, refl, ap, sym, ◌∙◌}
use Rattle.vx_value.specs.Types as type
use Rattle.vx_value.specs.Types.{DataType, nullability_of}
use Rattle.vx_value.specs.Nullabilities.{with_nullability, same_but_nullability, same_but_nullability_Decides}
use Rattle.vx_value.specs.Values as value
use Rattle.vx_value.specs.Values.{Value}
use Rattle.vx_value.specs.IsOf.{is_of, is_stored}
use Rattle.vx_value.specs.Storage.{storage_of}
use Rattle.vx_value.specs.declared.dtype.Nullability.{Nullability}
use Rattle.vx_value.specs.declared.dtype.Nullability.TheVariants.{NonNullable}
use Rattle.vx_value.specs.declared.dtype.Storage.{Storage}
use Rattle.vx_value.specs.declared.dtype.Storage.TheVariants.{Bits, Integers, Decimals, Text, Bytes, Nested}
use Rattle.vx_value.specs.Fits.{parts_overflow}
use Rattle.vx_value.specs.Order.{value_cmp, is_unnested}
use Rattle.vx_fn.specs.Comparisons.{is_ordered, compare, same_cmp}

-- no list is in them, so none has too many elements
pub unnested_fits : (t : DataType) (v : Value) → is_unnested v ≡ true → parts_overflow t v ≡ None
unnested_fits (type.list t n) (value.list vs) h = absurd (cc)
unnested_fits (type.fixed_size_list t k n) (value.list vs) h = absurd (cc)
unnested_fits (type.map k t n) (value.list vs) h = absurd (cc)
unnested_fits (type.struct fs n) (value.fields vs) h = absurd (cc)
unnested_fits (type.union us n) (value.tagged tag v) h = absurd (cc)
unnested_fits (type.variant n) (value.variant t v) h = absurd (cc)
unnested_fits _ _ h = refl

-- a type that is ordered has no others: a line for each storage
stored_unnested : (n : Nullability) (s : Storage) (parts : Bool) (v : Value) → ¬ (s ≡ Nested) → is_stored n s parts v ≡ true → is_unnested v ≡ true
stored_unnested n Nested parts v h typed = absurd (h refl)
stored_unnested n s parts value.null h typed = refl
stored_unnested n Bits parts (value.boolean b) h typed = refl
stored_unnested n (Integers p) parts (value.integer z) h typed = refl
stored_unnested n (Decimals p s) parts (value.decimal z r) h typed = refl
stored_unnested n Text parts (value.bytes bs) h typed = refl
stored_unnested n Bytes parts (value.bytes bs) h typed = refl
stored_unnested n _ parts _ h typed = absurd (cc)

ordered_storage : (t : DataType) → is_ordered t ≡ true → ¬ (storage_of t ≡ Nested)
ordered_storage (type.bool n) h = λ e. absurd (cc)
ordered_storage (type.primitive p n) h = λ e. absurd (cc)
ordered_storage (type.decimal p s n) h = λ e. absurd (cc)
ordered_storage (type.utf8 n) h = λ e. absurd (cc)
ordered_storage (type.binary n) h = λ e. absurd (cc)
ordered_storage _ h = absurd (cc)

pub ordered_unnested : (t : DataType) (v : Value) → is_ordered t ≡ true → is_of t v ≡ true → is_unnested v ≡ true
ordered_unnested t v h typed = stored_unnested (nullability_of t) (storage_of t) _ v (ordered_storage t h) typed

-- whatever the nullability
ordered_kept : (n : Nullability) (t : DataType) → is_ordered (with_nullability n t) ≡ is_ordered t
ordered_kept n type.null = refl
ordered_kept n _ = refl

pub ordered_alike : (s t : DataType) → same_but_nullability s t ≡ true → is_ordered s ≡ is_ordered t
ordered_alike s t e =
    sym (ordered_kept NonNullable s) ∙ ap is_ordered ((same_but_nullability_Decides s t).0 e) ∙ ordered_kept NonNullable t

-- and they compare by it
pub by_order : (v w : Value) → is_unnested v ≡ true → is_unnested w ≡ true → compare v w ≡ value_cmp v w
by_order v w first second =
    let both : is_unnested v && is_unnested w ≡ true = (λ i. first i && second i) in
    ap (λ b. if b then value_cmp v w else same_cmp v w) both

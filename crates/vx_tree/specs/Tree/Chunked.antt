-- Chunks: the rows of the slots, one after the other.
use Rattle.std.specs.Prelude.{◌≡◌, ◌+◌, ◌++◌, ◌^◌, ℕ, List, [], ◌∷◌, map, sum, nat_lt, Bool, true, false, ◌==◌, Option, Some, None, codes}
use Rattle.std.specs.Fmt.{decimal}
use Rattle.vx_value.specs.Types.{DataType}
use Rattle.vx_value.specs.declared.error.VortexError.{VortexError}
use Rattle.vx_value.specs.declared.error.VortexError.TheVariants.{InvalidArgument, TooLong}
use Rattle.vx_value.specs.declared.error.ArgKind.TheVariants.{NodeLen}
use Rattle.vx_value.specs.declared.id.Id.TheVariants as id
use Rattle.vx_tree.specs.Tree.Nodes.{Tree, Data, node, filled_slots, len}
pub use Rattle.vx_tree.specs.Tree.Nodes.{chunked}
use Rattle.vx_tree.specs.Tree.ScalarFnValidity.{validity_in}
use Rattle.vx_tree.specs.Conditions.{first_of_both, unless}
use Rattle.vx_tree.specs.Shapes.{Shape, shapes}
use Rattle.vx_tree.specs.SlotCells.{chained}
use Rattle.vx_tree.specs.SlotTypes.{of_lengths, lengths_in, missing_refusal, type_refusal}
use Rattle.vx_tree.specs.Charges.{chunk_charge}
use Rattle.vx_tree.specs.Meanings.{Meaning}
use Rattle.vx_tree.specs.declared.validity.Validity.TheVariants as validity

-- the rows of the trees, which have this type, one after the other
abbrev pub chunked_of : DataType → List Tree → Tree
chunked_of ty ts = node ty (sum (map len ts)) chunked (filled_slots ts)

abbrev pub is_chunked : Data → Bool
is_chunked chunked = true
is_chunked _ = false

-- n rows and those of chunks of these lengths are too many
abbrev pub joined_refusal : ℕ → List ℕ → Option VortexError
joined_refusal n [] = None
joined_refusal n (m ∷ ms) = first_of_both (unless (nat_lt (n + m) (2 ^ 64)) (TooLong n m)) (joined_refusal (n + m) ms)

-- why these trees aren't chunks of an array of this type
abbrev pub chunks_refusal : DataType → List Tree → Option VortexError
chunks_refusal ty ts = first_of_both (type_refusal ty 0 (shapes (filled_slots ts))) (joined_refusal 0 (map len ts))

abbrev pub chunked_refusal : DataType → ℕ → List (Option Shape) → Option VortexError
chunked_refusal ty n ss =
    first_of_both (missing_refusal 0 ss) (first_of_both (type_refusal ty 0 ss) (unless (n == sum (lengths_in ss)) (InvalidArgument NodeLen)))

-- the slots of n rows of a type in chunks
abbrev pub IsChunked : DataType → ℕ → List (Option Shape) → Type 0
IsChunked ty n ss = (ms : List ℕ) × (ss ≡ of_lengths ty ms) × (n ≡ sum ms)

abbrev pub chunked_meaning : Meaning
chunked_meaning = record {
  id = id.Chunked;
  name = λ ty i. Some (codes "chunk" ++ decimal i);
  IsNode = IsChunked;
  refusal = λ i ty n ss. chunked_refusal ty n ss;
  cells = λ ty n tys css. chained css;
  validity = λ ty n ss child. validity.Array (validity_in (node ty n chunked ss));
  charge = chunk_charge;
}

-- The content of a row.
use Rattle.vx_value.specs.Values.{Value}

-- a value, or a fault
pub data Cell : Type 0 where
  value : Value → Cell
  fault : Cell

pub use Rattle.vx_tree.specs.Refusals
pub use Rattle.vx_tree.specs.Validities
pub use Rattle.vx_tree.specs.Calls
pub mod Parts

-- The node that an object spells, given the trees under its keys: a module for each encoding.
pub mod Constant
pub mod Null
pub mod Slice
pub mod Filter
pub mod Masked
pub mod IsValid
pub mod Call
pub mod Dict
pub mod Chunked
pub mod Interleave
pub mod Struct
pub mod Extension

pub mod Bits
pub mod Logic
pub mod Masks
pub mod Operands
pub mod Places
pub mod Words

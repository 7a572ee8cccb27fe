pub mod PatchChildren

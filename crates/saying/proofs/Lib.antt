pub mod Wrote
pub mod Told
pub mod Long
pub mod Recipe
pub mod Loads

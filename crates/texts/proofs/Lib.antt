pub mod DecimalLaws
pub mod Hex
pub mod Fields
pub mod Scans
pub mod Parts
pub mod Turns

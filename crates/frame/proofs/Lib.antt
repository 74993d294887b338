pub mod ByteRule
pub mod SumLaws
pub mod Shape
pub mod Requests
pub mod Round

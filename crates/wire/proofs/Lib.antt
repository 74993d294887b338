pub mod Choices
pub mod Layouts
pub mod Room
pub mod Chunks

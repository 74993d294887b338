-- The log: document 01, "The log program". Start with Texts and Numbers of texts, then Lines, Journal and Blocks; Rules has what is proved of them, and Inner the steps on the way, which nobody has to believe.
pub mod Lines
pub mod Journal
pub mod Blocks
pub mod Rules
pub mod Inner

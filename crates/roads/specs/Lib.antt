-- The calls of the two roads: document 01, "The text road", "The frame road", "Composing a command" and "Answer numbers". Start with Calls; Rules has what is proved of them, and Inner the steps on the way, which nobody has to believe.
pub mod Acknowledgements
pub mod Calls
pub mod Rules
pub mod Inner
pub mod Worked

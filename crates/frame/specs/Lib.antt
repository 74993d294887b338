-- The frame road: document 01, "The frame road". Start with Frame; Rules has what is proved of it.
pub mod Sum
pub mod Frame
pub mod Rules

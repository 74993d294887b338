-- The text road: document 01, "The text road". Start with Line, then Places for document 02, Req 04 and Req 06; Rules has what is proved of it, and Inner the steps on the way, which nobody has to believe.
pub mod Field
pub mod Line
pub mod Places
pub mod Rules
pub mod Worked
pub mod Inner

-- What the two roads have in common, in document 01's words. Start with Road.
-- The type Misread (Unknown, Syntax) is that of the code: src/lib.rt.
pub mod Road
pub mod Room

-- What an operator is told of a line, and where it is wrong (document 02, Req 04, asks for the place), and of a recipe (Req 01). Start with Saying, then Loading; Inner has the steps on the way, which nobody has to believe.
pub mod Saying
pub mod Loading
pub mod Inner

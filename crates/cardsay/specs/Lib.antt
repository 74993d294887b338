-- The program's turns.
pub mod Turns

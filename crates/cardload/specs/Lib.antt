-- What a turn of the program leaves, whatever was read.
pub mod Turns

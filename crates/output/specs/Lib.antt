-- How a program goes on and ends. Start with Output.
pub mod Output

-- Sessions of calls, the buyer's three demands on them, and what requests of document 02 say of them. Start with Demands.
pub mod Sessions
pub mod Changes
pub mod Demands
pub mod Sources
pub mod Bookings
pub mod Inputs
pub mod Order
pub mod Neighbours
pub mod Recipes

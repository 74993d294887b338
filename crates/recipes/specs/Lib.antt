-- Recipes: document 02, Req 01. Start with Recipes; Rules has what is proved of it, Worked some recipes with all that comes of them, and Inner the steps on the way, which nobody has to believe.
pub mod Recipes
pub mod Rules
pub mod Worked
pub mod Inner

-- What came of the recipe is in bounds, whatever it is.
use native.Mathlib.Omega.{arith}
use Rattle.saying.proofs.Loads.{loads_in_bounds}
use Rattle.cardload.proofs.load.Goals as goal

pub say_loaded-filled-requires : goal.say_loaded-filled-requires
say_loaded-filled-requires g c =
    let a = c.args in
    (c.requires, omega arith, rw c.load-loaded.ensures (loads_in_bounds a.r a.recipe.now a.room.now))

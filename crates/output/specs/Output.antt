-- A program goes on, turn after turn, until its input has ended or its output cannot be written, and then it ends with a status.
use Rattle.std.specs.Prelude.{ℕ, zero, suc, Bool, true, false, ◌≡◌}
use Rattle.std.specs.declared.ops.ControlFlow.{ControlFlow}
use Rattle.std.specs.declared.ops.ControlFlow.TheVariants.{Continue, Break}
use Rattle.output.specs.declared.Ending.{Ending}
use Rattle.output.specs.declared.Ending.TheVariants.{Heard, Unheard}

-- whether it goes on: Continue says so, and Break with what it ends
abbrev pub going : ControlFlow Ending Unit → Bool
going (Continue _) = true
going (Break _) = false

-- n turns, one after the other, from state s to state u. GoesOn says of which states there is a turn more, and Turn what a turn does: f is the function that takes it, and h what the turns have made of that function
unfoldable pub Turns : {F S : Type 0} → (S → Type 0) → (F → S → S → F → Type 0) → ℕ → F → S → F → S → Type 0
Turns GoesOn Turn zero f s g t = (g ≡ f) × (t ≡ s)
Turns {F} {S} GoesOn Turn (suc n) f s h u = (g : F) × (t : S) × Turns GoesOn Turn n f s g t × GoesOn t × Turn g t u h

-- how it ends. Heard: by itself, or with a failure that was told; Unheard: since nobody reads on
abbrev pub ending_of : ControlFlow Ending Unit → Ending
ending_of (Continue _) = Heard
ending_of (Break ending) = ending

-- the status: 0, or what a shell tells of a program that a closed pipe has ended: 128, and 13, the number of its signal
abbrev pub status_of : Ending → ℕ
status_of Heard = 0
status_of Unheard = 141

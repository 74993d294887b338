-- Bytes put into a room, one run behind the other. Assumes nothing.
use Prim.Native.Nat.{ℕ, ◌+◌, ◌-◌, ◌≤◌}
use mathlib.Core.Path.{◌≡◌, sym}
use mathlib.Core.List.{List, ◌++◌, append_assoc, append-nil}
use native.Mathlib.Omega.{arith}
use lib.ListN.{length, take, drop, length-append, length-drop, drop_of_length-le}
use lib.Seq.{take-append_seam, drop-append-add, drop-drop, take_all}
use Rattle.wire.specs.Room.{filled, Filled, placed}

-- bytes behind those at the front
pub placed_next : (xs ys room : List ℕ) → placed (filled xs room) (length xs) ys ≡ filled (xs ++ ys) room
unfolding placed
placed_next xs ys room =
    rw (take-append_seam xs (drop (length xs) room), drop-append-add xs (drop (length xs) room) (length ys), drop-drop (length ys) (length xs) room, length-append xs ys)

-- the part of a room from `at` on, lent to a copy and back in its place
pub lent_part : (room src last : List ℕ) (at : ℕ) → at + length src ≤ length room
    → last ≡ filled src (take (length room - at) (drop at room))
    → take at room ++ (last ++ drop (length room - at) (drop at room)) ≡ placed room at src
unfolding placed
lent_part room src last at h e =
    let n : length (drop at room) ≤ length room - at = rw length-drop (omega arith) in
    rw (e, take_all (length room - at) (drop at room) n, drop_of_length-le (drop at room) n, drop-drop (length src) at room, append-nil)
    (sym (append_assoc (take at room) src (drop (at + length src) room)))

-- the part that is lent has as many bytes as are left
pub room_left : (room : List ℕ) (at n : ℕ) → at + n ≤ length room → n ≤ length (take (length room - at) (drop at room))
room_left room at n fits =
    let all : length (drop at room) ≤ length room - at = rw length-drop (omega arith) in
    rw (take_all (length room - at) (drop at room) all, length-drop) (omega arith)

-- bytes put behind those that fill the front fill it with them
pub put_behind : (xs ys before now next : List ℕ) (n : ℕ) → Filled xs before now n → next ≡ placed now n ys → Filled (xs ++ ys) before next (n + length ys)
put_behind xs ys before now next n f e = record {
  count = rw (f.count, length-append xs ys);
  contents = rw (e, f.contents, f.count) (placed_next xs ys before);
}

-- A lent room and what a reply does to it.
use Rattle.std.specs.Prelude.{ℕ, ◌+◌, ◌≡◌, List, ◌++◌, length, take, drop}

-- "A reply of n bytes fills the first n bytes of the lent room, and the rest of it keeps its contents"
abbrev pub filled : List ℕ → List ℕ → List ℕ
filled reply room = reply ++ drop (length reply) room

-- how the functions that put a reply promise it: n bytes, the reply, were put at the front of the room
pub record Filled (reply room after : List ℕ) (n : ℕ) : Type 0 where
  pub count : n ≡ length reply
  pub contents : after ≡ filled reply room

-- a step on the way, and no rule: the room with bytes from index `at` on
unfoldable pub placed : List ℕ → ℕ → List ℕ → List ℕ
placed room at bytes = take at room ++ bytes ++ drop (at + length bytes) room

-- A list cut in chunks of one length. Assumes nothing.
use Prim.Native.Nat.{ℕ, zero, suc, ◌+◌, ◌*◌, ◌<◌}
use mathlib.Core.Path.{◌≡◌, ◌∙◌}
use mathlib.Core.List.{List}
use native.Mathlib.Omega.{arith}
use lib.ListN.{take, drop, get_or}
use lib.Seq.{drop-drop}
use Rattle.std.specs.Simd.{first_chunks}

-- which bytes one of them is
pub chunk_at : {X : Type 0} (n k i : ℕ) (l : List X) (d : List X) → i < k → get_or (first_chunks n k l) i d ≡ take n (drop (i * n) l)
chunk_at n zero i l d h = absurd (omega arith)
chunk_at n (suc k) zero l d h = let z : 0 * n ≡ 0 = omega arith in rw z
chunk_at n (suc k) (suc i) l d h =
    let m : suc i * n ≡ n + i * n = omega arith in
    chunk_at n k i (drop n l) d (omega arith) ∙ rw (drop-drop (i * n) n l, m)

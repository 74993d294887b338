-- No second outcome satisfies what `feed` promises: the record, the output, what is held, and how many bytes of each buffer these are. The promise is the function's own `ensures`, as the check reads it from the source. What stands behind those bytes in the two buffers is not promised. Assumes nothing.
use Prim.Native.Nat.{ℕ, ◌≤◌, ◌*◌}
use mathlib.Core.Path.{◌≡◌, sym, ap, ◌∙◌}
use mathlib.Core.List.{List}
use native.Mathlib.Omega.{arith}
use lib.ListN.{length, take}
use lib.Seq.{length-take-le}
use contract.Lifetimes.{Lfts}
use denote.MutBor.{MutBor}
use Rattle.card.specs.declared.records.Record.{Record}
use Rattle.journal.specs.declared.blocks.Kept.{Kept}
use Rattle.journal.specs.Blocks.{Fed, kept_seen}
use Rattle.journal.proofs.blocks.feed.Reads as feed

-- as many bytes were put as are seen
same_count : (l l' : List ℕ) (n n' : ℕ) → n ≤ length l → n' ≤ length l' → take n l ≡ take n' l' → n ≡ n'
same_count l l' n n' h h' e = sym (length-take-le n l h) ∙ ap length e ∙ length-take-le n' l' h'

pub feed_unique : (κs : Lfts 2) (given : Record) (end : ℕ) (buffer out b b' x x' : MutBor (List ℕ)) (o o' : Kept)
    → end ≤ length b.now → end ≤ length b'.now → 8 * end ≤ length x.now → 8 * end ≤ length x'.now
    → feed.Post κs (given, (buffer, (end, (out, tt)))) o (given, (b, (end, (x, tt))))
    → feed.Post κs (given, (buffer, (end, (out, tt)))) o' (given, (b', (end, (x', tt))))
    → (o ≡ o') × (take o.filled x.now ≡ take o'.filled x'.now) × (take o.held b.now ≡ take o'.held b'.now)
feed_unique κs given end buffer out b b' x x' o o' k k' l l' p q =
    let e : kept_seen o x.now b.now ≡ kept_seen o' x'.now b'.now = p.0 ∙ sym q.0 in
    let output = ap (λ (f : Fed). f.output) e in
    let held = ap (λ (f : Fed). f.held) e in
    let after = ap (λ (f : Fed). f.after) e in
    let m = same_count x.now x'.now o.filled o'.filled (omega (arith, p.1.2)) (omega (arith, q.1.2)) output in
    let n = same_count b.now b'.now o.held o'.held (omega (arith, p.1.1)) (omega (arith, q.1.1)) held in
    ((λ i. record { after = after i; held = n i; filled = m i }), output, held)

-- No second outcome satisfies what a call of the roads promises: number, values, reply length, place, the whole room and the record are one. The promise is the function's own `ensures`, as the check reads it from the source. Assumes nothing.
use Prim.Native.Nat.{ℕ}
use mathlib.Core.Path.{◌≡◌, sym, ap, ◌∙◌}
use mathlib.Core.List.{List}
use contract.Lifetimes.{Lfts}
use denote.MutBor.{MutBor}
use denote.Ref.{Bor}
use Rattle.zone.specs.declared.figures.Command.{Command}
use Rattle.card.specs.declared.records.Record.{Record}
use Rattle.card.proofs.Unique.{one_answer}
use Rattle.roads.specs.declared.calls.Replied.{Replied}
use Rattle.roads.specs.declared.composing.Composed.{Composed}
use Rattle.roads.specs.Calls.{Said, Answered, replied_seen, composed_seen}
use Rattle.roads.proofs.calls.text.Reads as text
use Rattle.roads.proofs.calls.frame.Reads as frame
use Rattle.roads.proofs.composing.compose_line.Reads as compose-line
use Rattle.roads.proofs.composing.compose_frame.Reads as compose-frame

one_reply : (o o' : Replied) (l l' : List ℕ) → replied_seen o l ≡ replied_seen o' l' → o.place ≡ o'.place → (o ≡ o') × (l ≡ l')
one_reply o o' l l' e p =
    let a = one_answer o.answer o'.answer (ap (λ (x : Answered). x.said.number) e) (ap (λ (x : Answered). x.said.values) e) in
    let n = ap (λ (x : Answered). x.said.length) e in
    let r = ap (λ (x : Answered). x.after) e in
    ((λ i. record { answer = a i; length = n i; place = p i; after = r i }), ap (λ (x : Answered). x.said.room) e)

one_composed : (o o' : Composed) (l l' : List ℕ) → composed_seen o l ≡ composed_seen o' l' → (o ≡ o') × (l ≡ l')
one_composed o o' l l' e =
    let a = one_answer o.answer o'.answer (ap (λ (x : Said). x.number) e) (ap (λ (x : Said). x.values) e) in
    let n = ap (λ (x : Said). x.length) e in
    ((λ i. record { answer = a i; length = n i }), ap (λ (x : Said). x.room) e)

pub text_unique : (κs : Lfts 2) (r : Record) (n : ℕ) (line : Bor (List ℕ)) (room x x' : MutBor (List ℕ)) (o o' : Replied)
    → text.Post κs (r, (n, (line, (room, tt)))) o (r, (n, (line, (x, tt)))) → text.Post κs (r, (n, (line, (room, tt)))) o' (r, (n, (line, (x', tt)))) → (o ≡ o') × (x.now ≡ x'.now)
text_unique κs r n line room x x' o o' p q = one_reply o o' x.now x'.now (p.0 ∙ sym q.0) (p.1 ∙ sym q.1)

pub frame_unique : (κs : Lfts 2) (r : Record) (bytes : Bor (List ℕ)) (room x x' : MutBor (List ℕ)) (o o' : Replied)
    → frame.Post κs (r, (bytes, (room, tt))) o (r, (bytes, (x, tt))) → frame.Post κs (r, (bytes, (room, tt))) o' (r, (bytes, (x', tt))) → (o ≡ o') × (x.now ≡ x'.now)
frame_unique κs r bytes room x x' o o' p q = one_reply o o' x.now x'.now (p.0 ∙ sym q.0) (p.1 ∙ sym q.1)

pub compose_line_unique : (κs : Lfts 1) (c : Command) (room x x' : MutBor (List ℕ)) (o o' : Composed)
    → compose-line.Post κs (c, (room, tt)) o (c, (x, tt)) → compose-line.Post κs (c, (room, tt)) o' (c, (x', tt)) → (o ≡ o') × (x.now ≡ x'.now)
compose_line_unique κs c room x x' o o' p q = one_composed o o' x.now x'.now (p ∙ sym q)

pub compose_frame_unique : (κs : Lfts 1) (address : ℕ) (c : Command) (room x x' : MutBor (List ℕ)) (o o' : Composed)
    → compose-frame.Post κs (address, (c, (room, tt))) o (address, (c, (x, tt))) → compose-frame.Post κs (address, (c, (room, tt))) o' (address, (c, (x', tt))) → (o ≡ o') × (x.now ≡ x'.now)
compose_frame_unique κs address c room x x' o o' p q = one_composed o o' x.now x'.now (p ∙ sym q)

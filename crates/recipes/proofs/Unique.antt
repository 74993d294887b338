-- No second outcome satisfies what `load` promises: answer, line number, place, lengths, the whole room and the record are one. The promise is the function's own `ensures`, as the check reads it from the source. Assumes nothing.
use Prim.Native.Nat.{ℕ}
use mathlib.Core.Path.{◌≡◌, sym, ap, ◌∙◌}
use mathlib.Core.List.{List}
use contract.Lifetimes.{Lfts}
use denote.MutBor.{MutBor}
use denote.Ref.{Bor}
use Rattle.card.specs.declared.records.Record.{Record}
use Rattle.card.proofs.Unique.{one_answer}
use Rattle.recipes.specs.declared.loading.Loaded.{Loaded}
use Rattle.recipes.specs.Recipes.{Loading, loaded_seen}
use Rattle.recipes.proofs.loading.load.Reads as load

one_loading : (o o' : Loaded) (l l' : List ℕ) → loaded_seen o l ≡ loaded_seen o' l' → (o ≡ o') × (l ≡ l')
one_loading o o' l l' e =
    let a = one_answer o.answer o'.answer (ap (λ (x : Loading). x.answered.said.number) e) (ap (λ (x : Loading). x.answered.said.values) e) in
    ((λ i. record { answer = a i; line = (e i).line; place = (e i).place; lengths = (e i).lengths; after = (e i).answered.after }), ap (λ (x : Loading). x.answered.said.room) e)

pub load_unique : (κs : Lfts 2) (given : Record) (recipe : Bor (List ℕ)) (room x x' : MutBor (List ℕ)) (o o' : Loaded)
    → load.Post κs (given, (recipe, (room, tt))) o (given, (recipe, (x, tt))) → load.Post κs (given, (recipe, (room, tt))) o' (given, (recipe, (x', tt))) → (o ≡ o') × (x.now ≡ x'.now)
load_unique κs given recipe room x x' o o' p q = one_loading o o' x.now x'.now (p ∙ sym q)

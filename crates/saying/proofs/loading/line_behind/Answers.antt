-- The line is the one that the lines of the text have at that index.
use Rattle.std.proofs.Common.{◌≡◌, [], List, ℕ, Option, Some, None, Bor, ap, refl, ◌∙◌, get_or}
use Rattle.std.specs.Option.{option_map, unwrap_or}
use Rattle.std.proofs.lemmas.Iterator.Consumers.{nth_from_yields_List, YieldsList-from_first}
use Rattle.std.proofs.lemmas.Option.{unwrap_or-slice_get}
use Rattle.texts.specs.Texts.{lines_of}
use Rattle.saying.proofs.Recipe.{line_short}
use Rattle.saying.proofs.loading.line_behind.Goals as goal

behind : (o : Option (Bor (List ℕ))) (d : Bor (List ℕ)) → (unwrap_or o d).now ≡ unwrap_or (option_map (λ (x : Bor (List ℕ)). x.now) o) d.now
behind None d = refl
behind (Some x) d = refl

pub returns : goal.returns
returns c =
    let lines = lines_of c.args.text.now in
    let nth = nth_from_yields_List {all = lines} c.nth.result c.nth.new.self c.args.others c.nth.ensures.ran (YieldsList-from_first (λ x. x.now) (λ s. lines_of s.rest.now) _ (ap (λ (t : List ℕ). lines_of t) c.new-lines.ensures)) in
    let value : c.unwrap_or.result.now ≡ get_or lines c.args.others [] =
    ap (λ (x : Bor (List ℕ)). x.now) c.unwrap_or.ensures ∙ behind c.nth.result _ ∙ ap (λ (o : Option (List ℕ)). unwrap_or o []) nth ∙ unwrap_or-slice_get lines c.args.others [] in
    record { result_value = value; result_in_bounds = rw value (line_short c.args.text.now c.args.others) }

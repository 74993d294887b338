-- What was written on a road is read, and what is read was so written: once for every road whose single figures do so, by induction over a row. Assumes nothing.
use Rattle.std.specs.Prelude.{None, Ok, Option, Some}
use Prim.Native.Nat.{ℕ, suc, ◌+◌, ◌≤◌, ◌<◌}
use mathlib.Core.Path.{◌≡◌, refl, ap, ◌∙◌, subst}
use mathlib.Core.Bool.{true, false}
use mathlib.Core.List.{List, [], ◌∷◌, ◌++◌, append_assoc}
use native.Mathlib.Omega.{arith}
use lib.ListN.{length, drop, length-append, drop_of_length-le}
use lib.Dec.{ltb, eqb}
use borrow.Author.Tests.{lt-ltb, ltb-true, eqb-true, eq-eqb}
use Rattle.zone.specs.declared.figures.Group.{Group}
use Rattle.zone.specs.declared.figures.Figures.{Figures}
use Rattle.zone.specs.declared.figures.Command.{Command}
use Rattle.zone.specs.declared.figures.Command.TheVariants.{Read, Write}
use Rattle.zone.specs.Lists.{every, total}
use Rattle.zone.specs.Table.{Kind, Column, Form, deadline, window, hzbg, rrue, solw, layout, forms_of}
use Rattle.zone.specs.Figures.{form_of, group_of, numbers, entries, made}
use Rattle.zone.proofs.Table.{as_many}
use Rattle.zone.proofs.Tests.{both}
use Rattle.wire.specs.Road.{Road, carried, carries, in_order, figure_bytes, length_of, Numbers, are, none, join, numbers_at, read_as, form_read, write_read, command_read}
use Rattle.wire.proofs.Choices.{by_cond, unknown_never, syntax_never}
use Rattle.zone.proofs.Made.{made_again, form_again, entries_again, AllOf, their_group}

-- what a road has to say of a single figure. Ends tells what may stand behind a figure, Good which bytes are read at all
pub record Lawful (road : Road) : Type 1 where
  pub Ends : List ℕ → Type 0
  pub Good : List ℕ → Type 0
  pub at_end : Ends []
  pub at_next : (k : Kind) (n : ℕ) (rest : List ℕ) → Ends (road.bytes_for k n ++ rest)
  pub size : (k : Kind) (n : ℕ) → length (road.bytes_for k n) ≡ road.width k
  pub there : (k : Kind) (n : ℕ) (pre rest : List ℕ) → n < road.bound k → Ends rest → road.found_at k (pre ++ (road.bytes_for k n ++ rest)) (length pre) ≡ Some n
  pub back : (k : Kind) (n : ℕ) (l : List ℕ) (at : ℕ) → Good l → at + road.width k ≤ length l → road.found_at k l at ≡ Some n
      → (drop at l ≡ road.bytes_for k n ++ drop (at + road.width k) l) × (n < road.bound k)
  -- a read is no write, and the two forms of AHUE differ in length
  pub marks : eqb road.writes road.reads ≡ false
  pub forms : eqb (length_of road window) (length_of road deadline) ≡ false

module _ (road : Road) (lawful : Lawful road) where
  -- ---- there

  ends : (ks : List Column) (ns : List ℕ) → lawful.Ends (in_order road (entries ks ns))
  ends [] ns = lawful.at_end
  ends (k ∷ ks) [] = lawful.at_end
  ends (k ∷ ks) (n ∷ ns) = lawful.at_next k.kind n (in_order road (entries ks ns))

  row_reads : (ks : List Column) (ns pre : List ℕ) → length ns ≡ length ks → every (carried road) (entries ks ns) ≡ true
      → numbers_at road ks (pre ++ in_order road (entries ks ns)) (length pre) ≡ are ns
  row_reads [] [] pre m h = refl
  row_reads [] (n ∷ ns) pre m h = absurd (omega arith)
  row_reads (k ∷ ks) [] pre m h = absurd (omega arith)
  row_reads (k ∷ ks) (n ∷ ns) pre m h =
      let fits = both (ltb n (road.bound k.kind)) (every (carried road) (entries ks ns)) h in
      let fig : List ℕ = road.bytes_for k.kind n in
      let rest : List ℕ = in_order road (entries ks ns) in
      let at : length (pre ++ fig) ≡ length pre + road.width k.kind = length-append pre fig ∙ rw (lawful.size k.kind n) in
      let more : numbers_at road ks (pre ++ (fig ++ rest)) (length pre + road.width k.kind) ≡ are ns =
      rw (← at, ← append_assoc pre fig rest) (row_reads ks ns (pre ++ fig) (omega arith) fits.1) in
      rw (lawful.there k.kind n pre rest (ltb-true _ _ fits.0) (ends ks ns), more)

  -- the figures behind a head of the road's length are read as those of their form
  pub form_reads : (f : Figures) (pre : List ℕ) → length pre ≡ road.head → carries road f ≡ true → form_read road (form_of f) (pre ++ figure_bytes road f) ≡ Ok (Write f)
  unfolding form_read carries
  form_reads f pre e h =
      let read = row_reads (layout (form_of f)).columns (numbers f) pre (as_many f) h in
      ap (read_as (form_of f)) (subst (λ (at : ℕ). numbers_at road (layout (form_of f)).columns (pre ++ figure_bytes road f) at ≡ are (numbers f)) e read)
      ∙ ap (λ (g : Figures). Ok (Write g)) (made_again f)

  bytes_size : (ks : List Column) (ns : List ℕ) → length ns ≡ length ks → length (in_order road (entries ks ns)) ≡ total (λ k. road.width k.kind) ks
  bytes_size [] [] m = refl
  bytes_size [] (n ∷ ns) m = absurd (omega arith)
  bytes_size (k ∷ ks) [] m = absurd (omega arith)
  bytes_size (k ∷ ks) (n ∷ ns) m =
      length-append (road.bytes_for k.kind n) (in_order road (entries ks ns)) ∙ rw (lawful.size k.kind n, bytes_size ks ns (omega arith))

  -- the length of a write is its form's
  pub write_length : (f : Figures) (pre : List ℕ) → length pre ≡ road.head → length (pre ++ figure_bytes road f) ≡ length_of road (form_of f)
  write_length f pre e = length-append pre (figure_bytes road f) ∙ rw (e, bytes_size (layout (form_of f)).columns (numbers f) (as_many f))

  -- a list of a form's length is read as that form
  form_chosen : (form : Form) (l : List ℕ) → length l ≡ length_of road form → write_read road (forms_of (layout form).group) l ≡ form_read road form l
  unfolding write_read
  form_chosen deadline l e = rw (eq-eqb (length l) (length_of road deadline) e)
  form_chosen window l e = rw (e, lawful.forms, eq-eqb (length_of road window) (length_of road window) refl)
  form_chosen hzbg l e = rw (eq-eqb (length l) (length_of road hzbg) e)
  form_chosen rrue l e = rw (eq-eqb (length l) (length_of road rrue) e)
  form_chosen solw l e = rw (eq-eqb (length l) (length_of road solw) e)

  -- a write that the road can carry is read as that write
  pub write_reads : (f : Figures) (pre : List ℕ) → length pre ≡ road.head → carries road f ≡ true → command_read road road.writes (group_of f) (pre ++ figure_bytes road f) ≡ Ok (Write f)
  write_reads f pre e h =
      rw (lawful.marks, eq-eqb road.writes road.writes refl)
      (form_chosen (form_of f) (pre ++ figure_bytes road f) (write_length f pre e) ∙ form_reads f pre e h)

  -- a head alone is read as the read
  pub read_reads : (group : Group) (pre : List ℕ) → length pre ≡ road.head → command_read road road.reads group pre ≡ Ok (Read group)
  read_reads group pre e = rw (eq-eqb road.reads road.reads refl, eq-eqb (length pre) road.head e)

  -- ---- and back

  -- a row that was read: its bytes stand there, and the road carries its numbers
  record Laid (ks : List Column) (ns found : List ℕ) : Type 0 where
    bytes : found ≡ in_order road (entries ks ns)
    fits : every (carried road) (entries ks ns) ≡ true
    count : length ns ≡ length ks

  by_join : {R : Type 0} (x : Option ℕ) (r : Numbers) (ns : List ℕ) → join x r ≡ are ns → ((n : ℕ) (ms : List ℕ) → x ≡ Some n → r ≡ are ms → ns ≡ n ∷ ms → R) → R
  by_join None r ns h f = absurd (let z : ◌≡◌ {A = ℕ} 0 1 = cc in omega arith)
  by_join (Some n) none ns h f = absurd (let z : ◌≡◌ {A = ℕ} 0 1 = cc in omega arith)
  by_join (Some n) (are ms) ns h f = f n ms refl refl cc

  row_only : (ks : List Column) (at : ℕ) (l ns : List ℕ) → lawful.Good l → numbers_at road ks l at ≡ are ns → length l ≡ at + total (λ k. road.width k.kind) ks → Laid ks ns (drop at l)
  row_only [] at l ns good h e = let z : ns ≡ [] = cc in rw z (record { bytes = drop_of_length-le l {i = at} (omega arith); fits = refl; count = refl })
  row_only (k ∷ ks) at l ns good h e =
      by_join (road.found_at k.kind l at) (numbers_at road ks l (at + road.width k.kind)) ns h
      (λ n ms x r z. one_more_lem n ms x z (row_only ks (at + road.width k.kind) l ms good r (omega arith)))
    where
      one_more_lem : (n : ℕ) (ms : List ℕ) → road.found_at k.kind l at ≡ Some n → ns ≡ n ∷ ms → Laid ks ms (drop (at + road.width k.kind) l) → Laid (k ∷ ks) ns (drop at l)
      one_more_lem n ms x z more =
          let fig = lawful.back k.kind n l at good (omega arith) x in
          rw z
          (record {
            bytes = fig.0 ∙ ap (λ (t : List ℕ). road.bytes_for k.kind n ++ t) more.bytes;
            fits = rw (lt-ltb n (road.bound k.kind) fig.1) more.fits;
            count = ap suc more.count;
          })

  by_numbers : {R : Type 0} (form : Form) (r : Numbers) (c : Command) → read_as form r ≡ Ok c → ((ns : List ℕ) → r ≡ are ns → c ≡ Write (made form ns) → R) → R
  by_numbers form none c h k = syntax_never h
  by_numbers form (are ns) c h k = k ns refl cc

  -- what stands where a command was read: a read is a head alone, and a write its figures, which the road carries
  abbrev pub Stands : ℕ → Group → List ℕ → Command → Type 0
  Stands mark group l (Read g) = (mark ≡ road.reads) × (g ≡ group) × (length l ≡ road.head)
  Stands mark group l (Write f) = (mark ≡ road.writes) × (group_of f ≡ group) × (drop road.head l ≡ figure_bytes road f) × (carries road f ≡ true)

  form_only : (mark : ℕ) (form : Form) (l : List ℕ) (c : Command) → lawful.Good l → mark ≡ road.writes → length l ≡ length_of road form → form_read road form l ≡ Ok c → Stands mark (layout form).group l c
  unfolding form_read carries
  form_only mark form l c good m e h =
      by_numbers form (numbers_at road (layout form).columns l road.head) c h
      (λ ns r w.
      let found = row_only (layout form).columns road.head l ns good r e in
      rw w
      (m, ap (λ (x : Form). (layout x).group) (form_again form ns), rw (entries_again form ns found.count) found.bytes, rw (entries_again form ns found.count) found.fits))

  forms_only : (mark : ℕ) (forms : List Form) (group : Group) (l : List ℕ) (c : Command) → lawful.Good l → mark ≡ road.writes → AllOf group forms → write_read road forms l ≡ Ok c → Stands mark group l c
  unfolding write_read
  forms_only mark [] group l c good m a h = syntax_never h
  forms_only mark (form ∷ forms) group l c good m a h =
      by_cond (eqb (length l) (length_of road form)) h
      (λ e k. subst (λ (g : Group). Stands mark g l c) a.0 (form_only mark form l c good m (eqb-true _ _ e) k))
      (λ e k. forms_only mark forms group l c good m a.1 k)

  pub command_only : (mark : ℕ) (group : Group) (l : List ℕ) (c : Command) → lawful.Good l → command_read road mark group l ≡ Ok c → Stands mark group l c
  command_only mark group l c good h =
      by_cond (eqb mark road.reads) h
      (λ first k.
      by_cond (eqb (length l) road.head) k
      (λ size r. let z : c ≡ Read group = cc in rw z (eqb-true mark road.reads first, refl, eqb-true (length l) road.head size))
      (λ size r. syntax_never r))
      (λ first k.
      by_cond (eqb mark road.writes) k
      (λ write r. forms_only mark (forms_of group) group l c good (eqb-true mark road.writes write) (their_group group) r)
      (λ write r. unknown_never r))

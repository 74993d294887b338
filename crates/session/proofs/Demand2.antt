-- Demand 2, gathered from the roads: replies; composing reads back; replies made writes; acknowledgements differ. Assumes nothing.
use Rattle.std.specs.Prelude.{Ok}
use Prim.Native.Nat.{ℕ, ◌≤◌}
use mathlib.Core.Path.{◌≡◌, refl, sym, ap, ◌∙◌}
use mathlib.Core.Bool.{Bool, true, false, cond, not}
use mathlib.Core.List.{List, [], ◌∷◌}
use lib.ListN.{length}
use borrow.Author.Tests.{lt-leb}
use Rattle.zone.specs.declared.figures.Figures.{Figures}
use Rattle.zone.specs.declared.figures.Command.{Command}
use Rattle.zone.specs.declared.figures.Command.TheVariants.{Read, Write}
use Rattle.zone.specs.declared.figures.Group.{Group}
use Rattle.zone.specs.Figures.{group_of, in_range}
use Rattle.zone.specs.Zones.{figures_of, locks}
use Rattle.zone.specs.Lists.{is_zero}
use Rattle.card.specs.declared.records.Record.{Record}
use Rattle.card.specs.Answers.{Result}
use Rattle.card.specs.Refusals.{◌gives◌, first}
use Rattle.card.specs.Records.{zone_at}
use Rattle.card.specs.Calls.{apply_of}
use Rattle.card.proofs.Sets.{read_tells, read_alters_nothing}
use Rattle.wire.specs.Road.{carries_command}
use Rattle.line.specs.Line.{A, text_road, line_with, line_of}
use Rattle.frame.specs.Frame.{frame_road, body_with, framed, frame_of, short_frame, address_in}
use Rattle.frame.proofs.Round.{frame_reads}
use Rattle.roads.specs.declared.answering.Acknowledgement.TheVariants.{Okay}
use Rattle.roads.specs.Acknowledgements.{text_of, text_reply, frame_reply}
use Rattle.roads.specs.Calls.{Said, said, reply_in, text_result, frame_result, in_text_reply, answer_text, in_frame_reply, answer_frame, composed_line, composed_frame}
use Rattle.roads.proofs.CallLaws.{right_sum}
use Rattle.roads.proofs.Applied.{text_applies, frame_applies}
use Rattle.roads.proofs.ReadBack.{line_composed, line_carried, frame_composed, frame_carried, line_reads_back, frame_reads_back}
use Rattle.roads.proofs.Replies.{text_reply_writes, frame_reply_writes, texts_differ, bytes_differ}
use Rattle.session.specs.Sessions.{apply, quiet, answer_to}
use Rattle.session.specs.Demands.{Present, tells, write_number, Same, ReadsAreReplied, WritesAreReplied, WritesAreJudged, ComposedReadsBack, AcknowledgementsDiffer}
use Rattle.session.proofs.Done.{Applied, line_done, frame_done_lem}

-- whichever road the read came by
told : (r : Record) (n : ℕ) (g : Group) → Present r n → apply_of r n (Read g) ≡ record { number = 0; values = figures_of (zone_at r n) g ∷ []; after = r }
told r n g p =
    let t = read_tells r n g p.sound_record p.below p.present in
    λ i. record { number = t.0 i; values = t.1 i; after = read_alters_nothing r n g i }

-- the address under which a frame of a command is answered
own_address : (a : ℕ) (c : Command) → carries_command frame_road c ≡ true → address_in (frame_of a c) ≡ a
own_address a c k = sym (right_sum (frame_of a c) a (Ok c) (frame_reads a c k)).2

read_line : (r : Record) (n : ℕ) (g : Group) (room : List ℕ) → Present r n → 32 ≤ length room
    → answer_text r n (line_of (Read g)) room ≡ record { said = tells (figures_of (zone_at r n) g) (line_with A (figures_of (zone_at r n) g)) room; after = r }
unfolding answer_text text_reply carries_command
read_line r n g room p h = ap (λ (o : Result Record). in_text_reply o room) (text_applies r n (Read g) room h refl ∙ told r n g p)

read_frame : (r : Record) (n : ℕ) (g : Group) (room : List ℕ) → Present r n → 32 ≤ length room
    → answer_frame r (frame_of (zone_at r n).address (Read g)) room
    ≡ record { said = tells (figures_of (zone_at r n) g) (framed (body_with (zone_at r n).address 0x00 (figures_of (zone_at r n) g))) room; after = r }
unfolding answer_frame frame_reply carries_command
read_frame r n g room p h =
    let a = (zone_at r n).address in
    ap (λ (o : Result Record). in_frame_reply (address_in (frame_of a (Read g))) o room) (frame_applies r n (Read g) room p.sound_record p.present h refl ∙ told r n g p)
    ∙ ap (λ (x : ℕ). in_frame_reply x (record { number = 0; values = figures_of (zone_at r n) g ∷ []; after = r }) room) (own_address a (Read g) refl)

pub replies : ReadsAreReplied
replies r n g room p h = record {
  by_line = read_line r n g room p h;
  by_frame = read_frame r n g room p h;
  line_writes = (text_reply_writes r n g p.sound_record p.present).1;
  frame_writes = (frame_reply_writes r n g (zone_at r n).address p.sound_record p.present).1;
}

-- a write tells nothing
no_values : (r : Record) (n : ℕ) (f : Figures) → (apply_of r n (Write f)).values ≡ []
unfolding apply_of
no_values r n f = elim (is_zero (apply_of r n (Write f)).number) as (λ b. cond {A = List Figures} b [] [] ≡ []) [ true ↦ refl | false ↦ refl ]

-- so what came of a done write is 0, nothing told, and the record
write_done : {o : Result Record} (r : Record) (n : ℕ) (f : Figures) → Applied o r n (Write f) → o ≡ record { number = 0; values = []; after = (apply_of r n (Write f)).after }
write_done r n f w = w.same ∙ (λ i. record { number = w.done i; values = no_values r n f i; after = (apply_of r n (Write f)).after })

line_reply : (r : Record) (n : ℕ) (f : Figures) (room : List ℕ) → carries_command text_road (Write f) ≡ true → (answer_text r n (line_of (Write f)) room).said.number ≡ 0
    → (answer_text r n (line_of (Write f)) room).said ≡ said 0 [] (text_of Okay) room
unfolding answer_text text_reply
line_reply r n f room k e = ap (λ (o : Result Record). (in_text_reply o room).said) (write_done r n f (line_done r n (Write f) room k e))

frame_reply_lem : (r : Record) (n : ℕ) (f : Figures) (room : List ℕ) → Present r n → carries_command frame_road (Write f) ≡ true → (answer_frame r (frame_of (zone_at r n).address (Write f)) room).said.number ≡ 0
    → (answer_frame r (frame_of (zone_at r n).address (Write f)) room).said ≡ said 0 [] (short_frame (zone_at r n).address 0x00) room
unfolding answer_frame frame_reply
frame_reply_lem r n f room p k e =
    let a = (zone_at r n).address in
    ap (λ (o : Result Record). (in_frame_reply (address_in (frame_of a (Write f))) o room).said) (write_done r n f (frame_done_lem r n (Write f) room p k e))
    ∙ ap (λ (x : ℕ). said 0 [] (frame_reply x 0 []) room) (own_address a (Write f) k)

pub write_replies : WritesAreReplied
write_replies r n f room = record { by_line = line_reply r n f room; by_frame = frame_reply_lem r n f room }

-- ---- when a write is done

-- past 2 and 3 a write is judged by its ranges, the window's rule and the lock
apply_number : (r : Record) (n : ℕ) (f : Figures) → Present r n → (apply_of r n (Write f)).number ≡ write_number (zone_at r n) f
unfolding apply_of
apply_number r n f p = rw (p.sound_record, lt-leb 16 n p.below, p.present) (by_range (in_range (zone_at r n).range f) (locks (zone_at r n).status.state (group_of f)))
  where
    by_range : (t u : Bool) → first ((not t gives 9) ∷ (u gives 10) ∷ []) ≡ cond t (cond u 10 0) 9
    by_range true u = refl
    by_range false u = refl

line_number : (r : Record) (n : ℕ) (f : Figures) (room : List ℕ) → Present r n → 32 ≤ length room → carries_command text_road (Write f) ≡ true → (answer_text r n (line_of (Write f)) room).said.number ≡ write_number (zone_at r n) f
unfolding answer_text
line_number r n f room p h k = ap (λ (o : Result Record). o.number) (text_applies r n (Write f) room h k) ∙ apply_number r n f p

frame_number : (r : Record) (n : ℕ) (f : Figures) (room : List ℕ) → Present r n → 32 ≤ length room → carries_command frame_road (Write f) ≡ true
    → (answer_frame r (frame_of (zone_at r n).address (Write f)) room).said.number ≡ write_number (zone_at r n) f
unfolding answer_frame
frame_number r n f room p h k = ap (λ (o : Result Record). o.number) (frame_applies r n (Write f) room p.sound_record p.present h k) ∙ apply_number r n f p

pub judged : WritesAreJudged
judged r n f room p h = record { applied = apply_number r n f p; by_line = line_number r n f room p h; by_frame = frame_number r n f room p h }

-- ---- what is composed, and sent

line_said : (c : Command) (room : List ℕ) → (composed_line c room).number ≡ 0 → composed_line c room ≡ said 0 [] (line_of c) room
unfolding composed_line
line_said c room e = rw e

frame_said : (a : ℕ) (c : Command) (room : List ℕ) → (composed_frame a c room).number ≡ 0 → composed_frame a c room ≡ said 0 [] (frame_of a c) room
unfolding composed_frame
frame_said a c room e = rw e

same_of : (o p : Result Record) (s t : Said) → o ≡ p → s.number ≡ o.number → s.values ≡ o.values → t.number ≡ p.number → t.values ≡ p.values → Same (record { said = s; after = o.after }) (record { said = t; after = p.after })
same_of o p s t e a b c d = record { same_record = ap (λ (x : Result Record). x.after) e; same_number = a ∙ ap (λ (x : Result Record). x.number) e ∙ sym c; same_figures = b ∙ ap (λ (x : Result Record). x.values) e ∙ sym d }

line_sent : (c : Command) (room : List ℕ) → (composed_line c room).number ≡ 0 → (r : Record) (n : ℕ) (room' : List ℕ) → 32 ≤ length room'
    → Same (answer_text r n (reply_in (composed_line c room)) room') (answer_to r (quiet (apply n c)))
unfolding answer_text
line_sent c room e r n room' h =
    let same = ap (λ (l : List ℕ). text_result r n l room') (line_composed c room e) ∙ text_applies r n c room' h (line_carried c room e) in
    same_of (text_result r n (reply_in (composed_line c room)) room') (apply_of r n c) _ _ same refl refl refl refl

frame_sent : (a : ℕ) (c : Command) (room : List ℕ) → (composed_frame a c room).number ≡ 0 → (r : Record) (n : ℕ) (room' : List ℕ) → Present r n → (zone_at r n).address ≡ a → 32 ≤ length room'
    → Same (answer_frame r (reply_in (composed_frame a c room)) room') (answer_to r (quiet (apply n c)))
unfolding answer_frame
frame_sent a c room e r n room' p q h =
    let same = ap (λ (l : List ℕ). frame_result r l room') (frame_composed a c room e ∙ ap (λ (x : ℕ). frame_of x c) (sym q)) ∙ frame_applies r n c room' p.sound_record p.present h (frame_carried a c room e) in
    same_of (frame_result r (reply_in (composed_frame a c room)) room') (apply_of r n c) _ _ same refl refl refl refl

pub reads_back : ComposedReadsBack
reads_back a c room = record {
  line_said = line_said c room;
  frame_said = frame_said a c room;
  line_back = line_reads_back c room;
  frame_back = frame_reads_back a c room;
  line_sent = line_sent c room;
  frame_sent = frame_sent a c room;
}

pub differ : AcknowledgementsDiffer
differ a b = record { in_text = texts_differ a b; in_frames = bytes_differ a b }

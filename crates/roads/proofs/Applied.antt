-- A command that a road carries, sent by it, comes to what applying the command comes to; and a done read is replied with the stored figures. Assumes nothing.
use Rattle.std.specs.Prelude.{Ok}
use Prim.Native.Nat.{ℕ, ◌≤◌, ◌<◌}
use mathlib.Core.Path.{◌≡◌, refl, sym, ap, ◌∙◌}
use mathlib.Core.Bool.{true}
use mathlib.Core.List.{List}
use lib.ListN.{length, drop}
use lib.Seq.{take-append_seam}
use Rattle.zone.specs.declared.figures.Group.{Group}
use Rattle.zone.specs.declared.figures.Command.{Command}
use Rattle.zone.specs.declared.figures.Command.TheVariants.{Read}
use Rattle.zone.specs.Zones.{figures_of}
use Rattle.card.specs.declared.records.Record.{Record}
use Rattle.card.specs.Answers.{Result}
use Rattle.card.specs.Records.{zone_at, sound}
use Rattle.card.specs.Calls.{apply_of}
use Rattle.card.specs.Inner.{ask_of}
use Rattle.card.proofs.Finding.{find_own}
use Rattle.card.proofs.Sets.{read_tells}
use Rattle.wire.specs.Road.{carries_command}
use Rattle.line.specs.Line.{A, line_with, line_of}
use Rattle.line.proofs.Round.{line_reads}
use Rattle.frame.specs.Frame.{body_with, framed, frame_of}
use Rattle.frame.proofs.Round.{frame_reads}
use Rattle.roads.specs.Acknowledgements.{text_reply, frame_reply}
use Rattle.roads.specs.Calls.{reply_in, in_text_reply, answer_text, in_frame_reply, answer_frame}
use Rattle.roads.specs.Inner.{asked_by}
use Rattle.roads.specs.Rules.{LineApplies, FrameApplies}
use Rattle.roads.proofs.CallLaws.{asked_text, right_sum, held_right}

ask_known : (r : Record) (n : ℕ) (c : Command) → ask_of r n (Ok c) ≡ apply_of r n c
unfolding ask_of apply_of
ask_known r n c = refl

pub text_applies : LineApplies
text_applies r n c room h k = sym (asked_text r n (line_of c) room h) ∙ ap (λ p. ask_of r n (asked_by p)) (line_reads c k) ∙ ask_known r n c

pub frame_applies : FrameApplies
frame_applies r n c room s p h k =
    let f = frame_of (zone_at r n).address c in
    let q = right_sum f (zone_at r n).address (Ok c) (frame_reads (zone_at r n).address c k) in
    let found = ap (Rattle.card.specs.Records.find_of r) (sym q.2) ∙ find_own r n s p in
    sym (held_right r f room h q.0 n found q.1) ∙ ap (λ x. ask_of r n (asked_by x)) (sym q.3) ∙ ask_known r n c

-- ---- the reply to a read is the stored figures

module _ (r : Record) (n : ℕ) (g : Group) (room : List ℕ) (s : sound r ≡ true) (l : n < 16) (p : (zone_at r n).present ≡ true) (h : 32 ≤ length room) where
  -- "The reply to a read is A in place of S, otherwise the write line of the stored figures"
  pub text_read_reply : reply_in (answer_text r n (line_of (Read g)) room).said ≡ line_with A (figures_of (zone_at r n) g)
  unfolding answer_text text_reply carries_command
  text_read_reply =
      let told = read_tells r n g s l p in
      ap (λ (o : Result Record). reply_in (in_text_reply o room).said) (text_applies r n (Read g) room h refl)
      ∙ rw (told.0, told.1) (take-append_seam (line_with A (figures_of (zone_at r n) g)) (drop (length (line_with A (figures_of (zone_at r n) g))) room))

  -- "A read reply is the frame with function 00 and the stored figures"
  pub frame_read_reply : reply_in (answer_frame r (frame_of (zone_at r n).address (Read g)) room).said ≡ framed (body_with (zone_at r n).address 0x00 (figures_of (zone_at r n) g))
  unfolding answer_frame frame_reply carries_command
  frame_read_reply =
      let a = (zone_at r n).address in
      let told = read_tells r n g s l p in
      let reply = framed (body_with a 0x00 (figures_of (zone_at r n) g)) in
      let q = right_sum (frame_of a (Read g)) a (Ok (Read g)) (frame_reads a (Read g) refl) in
      ap (λ (o : Result Record). reply_in (in_frame_reply (Rattle.frame.specs.Frame.address_in (frame_of a (Read g))) o room).said) (frame_applies r n (Read g) room s p h refl)
      ∙ rw (← q.2, told.0, told.1) (take-append_seam reply (drop (length reply) room))

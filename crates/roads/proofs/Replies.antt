-- Replies are commands again: what is stored, both roads carry, and a read reply made a write is the write of the stored figures. In each section the acknowledgements differ. Assumes nothing.
use Rattle.std.specs.Prelude.{Ok}
use Prim.Native.Nat.{ℕ, ◌-◌, ◌<◌}
use mathlib.Core.Path.{◌≡◌, refl, sym, ap, ◌∙◌}
use mathlib.Core.Bool.{Bool, true, false, cond, ◌||◌}
use mathlib.Core.List.{List, [], ◌∷◌}
use native.Mathlib.Omega.{arith}
use lib.ListN.{get_or, set}
use lib.Dec.{leb, ltb, eqb}
use borrow.Author.Tests.{lt-ltb, ltb-true, leb-true, eqb-true}
use Rattle.zone.specs.declared.figures.Group.{Group}
use Rattle.zone.specs.declared.figures.Group.TheVariants.{Ahue, Hzbg, Rrue, Solw}
use Rattle.zone.specs.declared.figures.Figures.{Figures}
use Rattle.zone.specs.declared.figures.Command.TheVariants.{Write}
use Rattle.zone.specs.declared.zones.Zone.{Zone}
use Rattle.zone.specs.Lists.{within, every}
use Rattle.zone.specs.Table.{Column, Form, deadline, window, hzbg, rrue, solw, layout}
use Rattle.zone.specs.Figures.{form_of, numbers, entries, each_in_range, in_range}
use Rattle.zone.specs.Zones.{figures_of, range_known}
use Rattle.zone.proofs.Tests.{never, both}
use Rattle.zone.proofs.Sound.{Fit, fits, in_range_parts}
use Rattle.card.specs.declared.records.Record.{Record}
use Rattle.card.specs.Records.{zone_at, sound}
use Rattle.card.proofs.Storing.{zone_sound_lem}
use Rattle.wire.specs.Road.{Road, carried, carries, carries_command}
use Rattle.line.specs.Line.{A, S, text_road, line_with, line_of, line_read}
use Rattle.line.proofs.Round.{line_reads}
use Rattle.frame.specs.declared.reading.Framed.TheVariants.{Request}
use Rattle.frame.specs.Frame.{frame_road, body_with, framed, frame_of, frame_read}
use Rattle.frame.proofs.Round.{frame_reads}
use Rattle.roads.specs.declared.answering.Acknowledgement.{Acknowledgement}
use Rattle.roads.specs.declared.answering.Acknowledgement.TheVariants.{Okay, CommandError, SyntaxError, CommandLock, TransferError}
use Rattle.roads.specs.Acknowledgements.{text_of, function_of, text_reply, frame_reply}

-- ---- what is stored, both roads carry

-- each range of a row ends below what the road's bytes can carry
abbrev below : Road → ℕ → List Column → Bool
below road range columns = every (λ k. ltb (k.highest range) (road.bound k.kind)) columns

in_both : (road : Road) (range : ℕ) (ks : List Column) (ns : List ℕ) → below road range ks ≡ true
    → every (λ e. within e.column.lowest (e.column.highest range) e.number) (entries ks ns) ≡ true → every (carried road) (entries ks ns) ≡ true
in_both road range [] ns b h = refl
in_both road range (k ∷ ks) [] b h = refl
in_both road range (k ∷ ks) (n ∷ ns) b h =
    let room = both (ltb (k.highest range) (road.bound k.kind)) (below road range ks) b in
    let judged = both (within k.lowest (k.highest range) n) (every (λ e. within e.column.lowest (e.column.highest range) e.number) (entries ks ns)) h in
    let high = leb-true n (k.highest range) (both (leb k.lowest n) (leb n (k.highest range)) judged.0).1 in
    let small : n < road.bound k.kind = omega (arith, high, ltb-true (k.highest range) (road.bound k.kind) room.0) in
    rw (lt-ltb n (road.bound k.kind) small) (in_both road range ks ns room.1 judged.1)

text_below : (form : Form) → (below text_road 300 (layout form).columns ≡ true) × (below text_road 500 (layout form).columns ≡ true)
text_below deadline = (refl, refl)
text_below window = (refl, refl)
text_below hzbg = (refl, refl)
text_below rrue = (refl, refl)
text_below solw = (refl, refl)

frame_below : (form : Form) → (below frame_road 300 (layout form).columns ≡ true) × (below frame_road 500 (layout form).columns ≡ true)
frame_below deadline = (refl, refl)
frame_below window = (refl, refl)
frame_below hzbg = (refl, refl)
frame_below rrue = (refl, refl)
frame_below solw = (refl, refl)

known : (road : Road) (range : ℕ) (form : Form) → (below road 300 (layout form).columns ≡ true) × (below road 500 (layout form).columns ≡ true) → range_known range ≡ true → below road range (layout form).columns ≡ true
known road range form b h = by_range (eqb range 300) (eqb range 500) refl refl h
  where
    by_range : (t u : Bool) → eqb range 300 ≡ t → eqb range 500 ≡ u → (t || u) ≡ true → below road range (layout form).columns ≡ true
    by_range true u e k h = rw (eqb-true range 300 e) b.0
    by_range false true e k h = rw (eqb-true range 500 k) b.1
    by_range false false e k h = never h

in_range_carried : (road : Road) (range : ℕ) (f : Figures) → ((form : Form) → (below road 300 (layout form).columns ≡ true) × (below road 500 (layout form).columns ≡ true)) → range_known range ≡ true → each_in_range range f ≡ true → carries road f ≡ true
unfolding each_in_range carries
in_range_carried road range f b k h = in_both road range (layout (form_of f)).columns (numbers f) (known road range (form_of f) (b (form_of f)) k) h

-- a figure in its range can be carried by both roads
pub in_range_both : (range : ℕ) (f : Figures) → range_known range ≡ true → in_range range f ≡ true → (carries text_road f ≡ true) × (carries frame_road f ≡ true)
in_range_both range f k h =
    let each = (in_range_parts range f h).0 in
    (in_range_carried text_road range f text_below k each, in_range_carried frame_road range f frame_below k each)

stored_in_range : (z : Zone) (g : Group) → Fit z → in_range z.range (figures_of z g) ≡ true
stored_in_range z Ahue k = k.ahue
stored_in_range z Hzbg k = k.hzbg
stored_in_range z Rrue k = k.rrue
stored_in_range z Solw k = k.solw

pub stored_both : (r : Record) (n : ℕ) (g : Group) → sound r ≡ true → (zone_at r n).present ≡ true → (carries text_road (figures_of (zone_at r n) g) ≡ true) × (carries frame_road (figures_of (zone_at r n) g) ≡ true)
stored_both r n g s p =
    let k = fits (zone_at r n) p (zone_sound_lem r n s) in
    in_range_both (zone_at r n).range (figures_of (zone_at r n) g) k.own.range (stored_in_range (zone_at r n) g k)

-- ---- a read reply made a write

-- the reply to a read of figures f, by each road
pub read_reply : (f : Figures) (address : ℕ) → (text_reply 0 (f ∷ []) ≡ line_with A f) × (frame_reply address 0 (f ∷ []) ≡ framed (body_with address 0x00 f))
unfolding text_reply frame_reply
read_reply f address = (refl, refl)

-- "A read reply with A made S .. is the write command of its figures"
pub text_reply_writes : (r : Record) (n : ℕ) (g : Group) → sound r ≡ true → (zone_at r n).present ≡ true
    → (set (line_with A (figures_of (zone_at r n) g)) 0 S ≡ line_of (Write (figures_of (zone_at r n) g)))
    × (line_read (set (line_with A (figures_of (zone_at r n) g)) 0 S) ≡ Ok (Write (figures_of (zone_at r n) g)))
unfolding line_of carries_command
text_reply_writes r n g s p = (refl, line_reads (Write (figures_of (zone_at r n) g)) (stored_both r n g s p).0)

-- "or with 00 made 69 and a fresh checksum"
pub frame_reply_writes : (r : Record) (n : ℕ) (g : Group) (address : ℕ) → sound r ≡ true → (zone_at r n).present ≡ true
    → (framed (set (body_with address 0x00 (figures_of (zone_at r n) g)) 1 0x69) ≡ frame_of address (Write (figures_of (zone_at r n) g)))
    × (frame_read (framed (set (body_with address 0x00 (figures_of (zone_at r n) g)) 1 0x69)) ≡ Request address (Ok (Write (figures_of (zone_at r n) g))))
unfolding frame_of carries_command
frame_reply_writes r n g address s p = (refl, frame_reads address (Write (figures_of (zone_at r n) g)) (stored_both r n g s p).1)

-- ---- "In each section the five acknowledgements, OK included, have to differ"

-- the acknowledgement that a text's last digit names
text_names : List ℕ → Acknowledgement
text_names l = get_or (Okay ∷ CommandError ∷ SyntaxError ∷ CommandLock ∷ TransferError ∷ []) (get_or l 4 0 - 48) Okay

text_again : (a : Acknowledgement) → text_names (text_of a) ≡ a
unfolding text_names
text_again Okay = refl
text_again CommandError = refl
text_again SyntaxError = refl
text_again CommandLock = refl
text_again TransferError = refl

pub texts_differ : (a b : Acknowledgement) → text_of a ≡ text_of b → a ≡ b
texts_differ a b e = sym (text_again a) ∙ ap text_names e ∙ text_again b

-- the acknowledgement that a function byte names
byte_names : ℕ → Acknowledgement
byte_names x = cond (eqb x 0x10) CommandError (cond (eqb x 0x80) SyntaxError (cond (eqb x 0x08) CommandLock (cond (eqb x 0x20) TransferError Okay)))

byte_again : (a : Acknowledgement) → byte_names (function_of a) ≡ a
unfolding byte_names
byte_again Okay = refl
byte_again CommandError = refl
byte_again SyntaxError = refl
byte_again CommandLock = refl
byte_again TransferError = refl

pub bytes_differ : (a b : Acknowledgement) → function_of a ≡ function_of b → a ≡ b
bytes_differ a b e = sym (byte_again a) ∙ ap byte_names e ∙ byte_again b

-- "Neighbours on the pair" (document 02, Req 12): strike out the traffic of the other zones, and a zone and the replies to what is for it are the same. Above each statement stands where it is proved; how to read them is said at the head of Order.antt, and `strike` stands in Sessions.antt.
-- What has to be replied is said by the demands: a card that refuses every line and frame, or tells the same figures to every read, would satisfy all of it. A card whose answers look at something that no line and no frame alters of a neighbour, such as whether it is there, would satisfy NeighboursDoNotDisturb; HangsOnTheZone and Unplugged rule that one out.
use Rattle.std.specs.Prelude.{ℕ, ◌≡◌, Bool, true, false, not, ◌&&◌, List, [], ◌∷◌, set, replicate, eqb}
use Rattle.zone.specs.declared.figures.Group.TheVariants.{Hzbg}
use Rattle.zone.specs.declared.figures.Command.TheVariants.{Read}
use Rattle.zone.specs.Zones.{new_zone, holds}
use Rattle.zone.specs.Rules.{SameHead}
use Rattle.card.specs.declared.records.Record.{Record}
use Rattle.card.specs.Records.{empty_record, zone_at, with_zone, sound}
use Rattle.frame.specs.Frame.{frame_of, shaped, address_in}
use Rattle.session.specs.Sessions.{add, quiet, run_by, answers_of, strike, heard_besides, SameWithout}
use Rattle.session.specs.Inputs.{Input, on_port, on_pair, next, heard, line_on}

-- ---- "Strike out all text for other zones and all frames that don't carry zone 3's address."

-- what is for zone n: the text of its port, and the frames that carry its address, whatever they are answered. A frame does if it is of document 01's shape and zone n is present in r with the frame's address; of a session, r is the record at the start.
-- So where the zone is absent no frame is for it; and bytes of another shape carry no address, whatever the fifth of them is
abbrev pub is_for : Record → ℕ → Input → Bool
is_for r n (on_port zone line room) = eqb zone n
is_for r n (on_pair bytes room) = shaped bytes && holds (address_in bytes) (zone_at r n)

-- all else is struck out: what is for others, or for nobody
abbrev pub not_for : Record → ℕ → Input → Bool
not_for r n x = not (is_for r n x)

-- ---- "Zone 3's figures and the replies to what remains are the same."

-- The whole session is sent from r; what remains where `out` has been struck out is sent from r', in the request's own statement the same record. At the end zone n is the same, all of it; and to what remains the same is replied, input for input: number, figures, length of the reply, the whole room, and the place. (Each input has a room of its own, lent with the same bytes in it in both.)
abbrev pub SameFor : ℕ → (Input → Bool) → Record → Record → List Input → Type 0
SameFor n out r r' xs = SameWithout out next heard (λ s s'. zone_at s n ≡ zone_at s' n) r r' xs

-- "Take a session of text commands and frames only, from a sound record, with 32 bytes of room each time." Of any zone, and any such session. It holds from every record and in rooms of every size, too: one that is not sound refuses all, and a small room is refused wherever it is met.
-- `undisturbed`, in proofs/Neighbours.antt
abbrev pub NeighboursDoNotDisturb : Type 0
NeighboursDoNotDisturb = (r : Record) (n : ℕ) (xs : List Input) → SameFor n (not_for r n) r r xs

-- ---- why it holds

-- What a line or a frame does at zone n hangs on zone n and on soundness alone. Take two records, both sound or neither, that have zone n in common, and perhaps nothing else:
pub record AtTheZone (r r' : Record) (n : ℕ) (x : Input) : Type 0 where
  -- the zone is left the same
  pub zone : zone_at (next r x) n ≡ zone_at (next r' x) n
  -- what is not for it leaves it as it was
  pub not_for_it : is_for r n x ≡ false → zone_at (next r x) n ≡ zone_at r n
  -- and to what is for it the same is replied
  pub for_it : is_for r n x ≡ true → heard r x ≡ heard r' x

-- `at_the_zone`, in proofs/Neighbours.antt
abbrev pub HangsOnTheZone : Type 0
HangsOnTheZone = (r r' : Record) (n : ℕ) (x : Input) → sound r ≡ sound r' → zone_at r n ≡ zone_at r' n → AtTheZone r r' n x

-- no text and no frame alters whether a zone is there, its address or its range: so is_for may be asked of the record at the start (of one input, and of who holds an address, this is ZonesStay, in Order.antt). `address_stays`, in proofs/Neighbours.antt
abbrev pub AddressStays : Type 0
AddressStays = (r : Record) (n : ℕ) (xs : List Input) → SameHead (zone_at r n) (zone_at (run_by next r xs) n)

-- ---- "the fitters unplug the others": for the card it would be the same

-- what remains may be sent from another record, both sound or neither, that has zone n in common with the first. `even_from_another`, in proofs/Neighbours.antt
abbrev pub EvenFromAnother : Type 0
EvenFromAnother = (r r' : Record) (n : ℕ) (xs : List Input) → sound r ≡ sound r' → zone_at r n ≡ zone_at r' n → SameFor n (not_for r n) r r' xs

-- the record with zone n and no other
abbrev pub alone : Record → ℕ → Record
alone r n = with_zone empty_record n (zone_at r n)

-- so it may be sent from that one. `unplugged`, in proofs/Neighbours.antt
abbrev pub Unplugged : Type 0
Unplugged = (r : Record) (n : ℕ) (xs : List Input) → sound r ≡ true → SameFor n (not_for r n) r (alone r n) xs

-- ---- however bytes of another shape are read

-- another reading of what is struck out: of text, and of frames of document 01's shape, it says what not_for says; of other bytes on the pair, which get 4 (or 1, or 2) and alter nothing, it may say anything
pub record Otherwise (out : Input → Bool) (r : Record) (n : ℕ) : Type 0 where
  pub text : (zone : ℕ) (line room : List ℕ) → out (on_port zone line room) ≡ not_for r n (on_port zone line room)
  pub frame : (bytes room : List ℕ) → shaped bytes ≡ true → out (on_pair bytes room) ≡ not_for r n (on_pair bytes room)

-- `however_read`, in proofs/Neighbours.antt
abbrev pub HoweverRead : Type 0
HoweverRead = (r r' : Record) (n : ℕ) (out : Input → Bool) (xs : List Input) → sound r ≡ sound r' → zone_at r n ≡ zone_at r' n → Otherwise out r n → SameFor n out r r' xs

-- one goes by the fifth byte alone, whatever the shape (what has no fifth byte counts as 0 there, an address that no present zone of a sound record has)
abbrev pub by_fifth_byte : Record → ℕ → Input → Bool
by_fifth_byte r n (on_port zone line room) = not_for r n (on_port zone line room)
by_fifth_byte r n (on_pair bytes room) = not (holds (address_in bytes) (zone_at r n))

-- `by_fifth_byte_too`, in proofs/Neighbours.antt
abbrev pub ByFifthByteToo : Type 0
ByFifthByteToo = (r : Record) (n : ℕ) (xs : List Input) → SameFor n (by_fifth_byte r n) r r xs

-- ---- the other side: zone n does not disturb the others

-- a session, and what remains of it where what is for zone n is struck out: another zone m is left the same, and to what is for it the same is replied. It follows from NeighboursDoNotDisturb, at zone m and for both sessions, since in a sound record nothing is for two zones
pub record LeavesOther (r : Record) (n m : ℕ) (xs : List Input) : Type 0 where
  pub zone : zone_at (run_by next r xs) m ≡ zone_at (run_by next r (strike (is_for r n) xs)) m
  pub replies : heard_besides (not_for r m) next heard r xs ≡ heard_besides (not_for r m) next heard r (strike (is_for r n) xs)

-- `leaves_others`, in proofs/Neighbours.antt
abbrev pub LeavesOthers : Type 0
LeavesOthers = (r : Record) (n m : ℕ) (xs : List Input) → sound r ≡ true → (m ≡ n → ⊥) → LeavesOther r n m xs

-- ---- worked, so that it can be seen what is struck out and what is no part of it

-- zone 3 has address 35 and zone 4 address 36; the others are absent
abbrev pub two : Record
two = with_zone (with_zone empty_record 3 (new_zone 35 300)) 4 (new_zone 36 300)

-- a frame that reads HZBG, the same with its eighth byte, the checksum, made 0, and five bytes that are no frame, each with room of 32 bytes
abbrev pub frame_to : ℕ → Input
frame_to address = on_pair (frame_of address (Read Hzbg)) (replicate 32 0)

abbrev pub damaged_to : ℕ → Input
damaged_to address = on_pair (set (frame_of address (Read Hzbg)) 7 0) (replicate 32 0)

abbrev pub noise : ℕ → Input
noise fifth = on_pair (0 ∷ 0 ∷ 0 ∷ 0 ∷ fifth ∷ []) (replicate 32 0)

-- a session
abbrev pub mixed : List Input
mixed = line_on 4 "SHZBG 050" ∷ frame_to 35 ∷ frame_to 36 ∷ line_on 3 "SHZBG 070" ∷ noise 35 ∷ damaged_to 35 ∷ line_on 7 "LHZBG" ∷ []

-- `struck_out`, in proofs/Worked.antt
pub record StruckOut : Type 0 where
  pub for_three : strike (not_for two 3) mixed ≡ frame_to 35 ∷ line_on 3 "SHZBG 070" ∷ damaged_to 35 ∷ []
  pub by_the_fifth_byte : strike (by_fifth_byte two 3) mixed ≡ frame_to 35 ∷ line_on 3 "SHZBG 070" ∷ noise 35 ∷ damaged_to 35 ∷ []
  -- zone 7 is absent
  pub for_seven : strike (not_for two 7) mixed ≡ line_on 7 "LHZBG" ∷ []
  -- a call that comes by no road may be missed. Here zone 4 is added with address 35 and 300 degrees, and zone 3 cannot have that address then; of each call number and figures
  pub with_addition : answers_of empty_record (quiet (add 4 35 300) ∷ quiet (add 3 35 300) ∷ []) ≡ (0, []) ∷ (11, []) ∷ []
  pub without_addition : answers_of empty_record (quiet (add 3 35 300) ∷ []) ≡ (0, []) ∷ []

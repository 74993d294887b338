-- "Bookings that follow the head" (document 02, Req 07), over calls of every kind: what removing, booking, shipping and merging answer, that no kilogram is lost or made, and what the buyer asked for once a head is merged into another. Above each statement stands where it is proved.
-- "P → ⊥" says that P does not hold, "P ⊎ Q" that one of the two does, "P × Q" that both do; "cond t x y" is x where t holds, and else y.
use Rattle.std.specs.Prelude.{ℕ, ◌+◌, ◌≤◌, ◌<◌, ◌≡◌, ◌⊎◌, true, false, cond, List, [], ◌∷◌, length}
use Rattle.zone.specs.declared.figures.Group.TheVariants.{Hzbg}
use Rattle.zone.specs.Lists.{is_zero, total}
use Rattle.zone.specs.Zones.{empty_zone, figures_of}
use Rattle.card.specs.declared.records.Record.{Record}
use Rattle.card.specs.Records.{empty_record, zone_at, sound}
use Rattle.card.specs.Rules.{Folds}
use Rattle.roads.specs.Calls.{said}
use Rattle.session.specs.Sessions.{Quiet, add, remove, report, apply, choose_source, setpoint_in_use, book, ship, merge, repair, Call, in_room, quiet, answer_to, after, Done, run, answers_of, Throughout}
use Rattle.session.specs.Changes.{Merges, Rebooks, NotAdded}
use Rattle.session.specs.Demands.{refused_silently, later, PointsAt, Present, OtherRoad, Rerouted, Gone}

-- the kilograms on zone n
abbrev pub kilograms_on : Record → ℕ → ℕ
kilograms_on r n = (zone_at r n).kilograms

-- ---- "Refusals: 15 .. 16 .. 17": at zones present in a sound record removing, booking, shipping and merging are each refused where its sentence says so, and otherwise done, whatever the states, sources and addresses; so a card that refuses every booking is ruled out

-- a call gets that number where P holds, and else 0, done; in both cases it tells no figures and replies nothing
abbrev pub RefusedWhere : Type 0 → ℕ → Record → Quiet → Type 0
RefusedWhere P number r call = (P → (answer_to r (quiet call)).said ≡ said number [] [] []) × ((P → ⊥) → (answer_to r (quiet call)).said ≡ said 0 [] [] [])

pub record BookingsJudged (r : Record) (n : ℕ) : Type 0 where
  -- "15 for removing a zone with kilograms on it"
  pub removing : RefusedWhere (1 ≤ kilograms_on r n) 15 r (remove n)
  -- "16 for booking or shipping 0, more than is held when shipping, or a result above the limit"
  pub booking : (kilograms : ℕ) → RefusedWhere ((kilograms ≡ 0) ⊎ (1000000 < kilograms_on r n + kilograms)) 16 r (book n kilograms)
  pub shipping : (kilograms : ℕ) → RefusedWhere ((kilograms ≡ 0) ⊎ (kilograms_on r n < kilograms)) 16 r (ship n kilograms)
  -- "17 for merging a zone with itself"
  pub with_itself : (answer_to r (quiet (merge n n))).said ≡ said 17 [] [] []
  -- so 0 kg may be moved, and 15 is never given
  pub merging : (b : ℕ) → Present r b → (n ≡ b → ⊥) → RefusedWhere (1000000 < kilograms_on r b + kilograms_on r n) 16 r (merge n b)

-- `bookings_judged`, in proofs/Bookings.antt
abbrev pub BookingsAreJudged : Type 0
BookingsAreJudged = (r : Record) (n : ℕ) → Present r n → BookingsJudged r n

-- before these comes 3: in a sound record each call without a room that names an absent zone, or one above 15, adding it apart; a merging for either of its zones, and so before 17. `absent_gives_three`, in proofs/Bookings.antt
abbrev pub AbsentGivesThree : Type 0
AbsentGivesThree = (r : Record) (n : ℕ) (call : Quiet) → sound r ≡ true → (zone_at r n).present ≡ false → PointsAt n call → answer_to r (quiet call) ≡ refused_silently 3 r []

-- ---- "At any moment the kilograms on all zones equal those of all done bookings less all done shipments since the empty record"

-- the kilograms on all zones
abbrev pub on_all_zones : Record → ℕ
on_all_zones r = total (λ z. z.kilograms) r.zones

-- the kilograms that a call asks to book, and those that it asks to ship
pub record Amounts : Type 0 where
  pub books : ℕ
  pub ships : ℕ

abbrev pub nothing : Amounts
nothing = record { books = 0; ships = 0 }

-- only book and ship ask for any; merging moves what is booked already
abbrev pub quiet_amounts : Quiet → Amounts
quiet_amounts (add zone address range) = nothing
quiet_amounts (remove zone) = nothing
quiet_amounts (report zone state actual) = nothing
quiet_amounts (apply zone command) = nothing
quiet_amounts (choose_source zone source millivolts) = nothing
quiet_amounts (setpoint_in_use zone) = nothing
quiet_amounts (book zone kilograms) = record { books = kilograms; ships = 0 }
quiet_amounts (ship zone kilograms) = record { books = 0; ships = kilograms }
quiet_amounts (merge a b) = nothing
quiet_amounts repair = nothing

abbrev pub amounts : Call → Amounts
amounts (in_room call room) = nothing
amounts (quiet call) = quiet_amounts call

-- they count where the call is answered as done, by its number
abbrev pub counted : Record → Call → ℕ → ℕ
counted r call kilograms = cond (is_zero (answer_to r call).said.number) kilograms 0

-- and are summed over a session; part picks what is booked, or what is shipped
abbrev pub done_of : (Amounts → ℕ) → Record → List Call → ℕ
done_of part r [] = 0
done_of part r (call ∷ calls) = counted r call (part (amounts call)) + done_of part (after r call) calls

-- "all done bookings" and "all done shipments"
abbrev pub done_bookings : Record → List Call → ℕ
done_bookings r calls = done_of (λ a. a.books) r calls

abbrev pub done_shipments : Record → List Call → ℕ
done_shipments r calls = done_of (λ a. a.ships) r calls

-- as a sum: what stands on the zones and what was shipped is what was booked. Every beginning of a session is a session, so this holds at any moment. `since_empty`, in proofs/Bookings.antt
abbrev pub SinceEmpty : Type 0
SinceEmpty = (calls : List Call) → on_all_zones (run empty_record calls) + done_shipments empty_record calls ≡ done_bookings empty_record calls

-- and from any record, sound or not, with what stood there at the start on the other side. `conserved`, in proofs/Bookings.antt
abbrev pub Conserved : Type 0
Conserved = (r : Record) (calls : List Call) → on_all_zones (run r calls) + done_shipments r calls ≡ on_all_zones r + done_bookings r calls

-- what a session leaves on zone n
pub record InBounds (left : Record) (n : ℕ) : Type 0 where
  -- "A zone holds 0 to 1,000,000 kg"
  pub limit : kilograms_on left n ≤ 1000000
  -- "New and absent zones hold 0": no kilogram is on an absent zone, and none on one that is then added
  pub absent : (zone_at left n).present ≡ false → kilograms_on left n ≡ 0
  pub new : (address range : ℕ) → Done left (quiet (add n address range)) → kilograms_on (after left (quiet (add n address range))) n ≡ 0

-- at any time from a sound record on, and the empty one is sound (EmptyIsSound, in card/specs/Rules.antt). `in_bounds`, in proofs/Bookings.antt
abbrev pub AlwaysInBounds : Type 0
AlwaysInBounds = (r : Record) (calls : List Call) (n : ℕ) → sound r ≡ true → InBounds (run r calls) n

-- nothing is booked on zone n, shipped from it or merged into it, and it is not merged into another
pub record NotRebooked (n : ℕ) (r : Record) (call : Call) : Type 0 where
  pub not_rebooked : (kilograms : ℕ) → Rebooks n kilograms r call → ⊥
  pub not_merged : (b : ℕ) → Merges n b r call → ⊥

-- all else leaves the kilograms alone: a write, whichever way it comes, a report, a choice of the source, a repair, an addition and a removal too. `left_alone`, in proofs/Bookings.antt
abbrev pub LeftAlone : Type 0
LeftAlone = (r : Record) (n : ℕ) (calls : List Call) → Throughout (NotRebooked n) r calls → kilograms_on (run r calls) n ≡ kilograms_on r n

-- "Demand 3 stands between these calls too": in sessions that differ in roads alone each call gets the same number and figures, so the same is booked and shipped; and the record at the end is the same (SameEnd), kilograms included. `by_either_road`, in proofs/Bookings.antt
pub record SameBookings (r : Record) (xs ys : List Call) : Type 0 where
  pub answers : answers_of r xs ≡ answers_of r ys
  pub bookings : done_bookings r xs ≡ done_bookings r ys
  pub shipments : done_shipments r xs ≡ done_shipments r ys

abbrev pub ByEitherRoad : Type 0
ByEitherRoad = (r : Record) (xs ys : List Call) → Rerouted after OtherRoad r xs ys → SameBookings r xs ys

-- ---- the buyer's case: "fitters folded head 5 into head 4", of any two heads

-- what follows once zone a has been merged into b. Some of it is said out for the buyer: heating_limit is contained in folded, no_booking and no_shipment in gone, and empty in StaysRemoved
pub record Follows (r : Record) (a b : ℕ) : Type 0 where
  -- at once all of a's kilograms stand on b, b is otherwise as it was, a is the empty zone, its address is free again, and no other zone is touched
  pub folded : Folds r a b (after r (quiet (merge a b)))
  -- b's heating limit too is as it was
  pub heating_limit : figures_of (zone_at (after r (quiet (merge a b))) b) Hzbg ≡ figures_of (zone_at r b) Hzbg
  -- a's kilograms stay on b, with b's own, through any session, until something is booked on b, shipped from it or merged into it, or b is merged into another
  pub stand : (calls : List Call) → Throughout (NotRebooked b) (after r (quiet (merge a b))) calls → kilograms_on (later r (quiet (merge a b)) calls) b ≡ kilograms_on r b + kilograms_on r a
  -- through any session, until a is added by a done addition: a stays empty
  pub empty : (calls : List Call) → Throughout (NotAdded a) (after r (quiet (merge a b))) calls → zone_at (later r (quiet (merge a b)) calls) a ≡ empty_zone
  -- text to a, and any call without a room that names a, adding it apart, is 3; and until a zone is added with a's old address a frame of document 01's shape to that address is 5: on the roads with room of 32 bytes, and in silence
  pub gone : (calls : List Call) (room : List ℕ) → 32 ≤ length room → Gone r a (quiet (merge a b)) calls room
  -- so a booking on a, and a shipment from it, is 3
  pub no_booking : (calls : List Call) (kilograms : ℕ) → Throughout (NotAdded a) (after r (quiet (merge a b))) calls
      → answer_to (later r (quiet (merge a b)) calls) (quiet (book a kilograms)) ≡ refused_silently 3 (later r (quiet (merge a b)) calls) []
  pub no_shipment : (calls : List Call) (kilograms : ℕ) → Throughout (NotAdded a) (after r (quiet (merge a b))) calls
      → answer_to (later r (quiet (merge a b)) calls) (quiet (ship a kilograms)) ≡ refused_silently 3 (later r (quiet (merge a b)) calls) []

-- `follows_the_head`, in proofs/Bookings.antt
abbrev pub FollowsTheHead : Type 0
FollowsTheHead = (r : Record) (a b : ℕ) → Done r (quiet (merge a b)) → Follows r a b

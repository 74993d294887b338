-- Which inputs of the two roads may change places (document 02, Req 10), from what each keeps and sets. Assumes nothing.
use Rattle.std.specs.Prelude.{Ok}
use Prim.Native.Nat.{ℕ}
use mathlib.Core.Path.{◌≡◌, refl, sym, ap, ◌∙◌, subst}
use mathlib.Core.Logic.{inl, inr}
use mathlib.Core.Bool.{false, not, ◌||◌}
use mathlib.Core.List.{List, [], ◌∷◌, map}
use native.Mathlib.Omega.{arith}
use lib.Dec.{leb}
use lib.Seq.{set-set, set_comm}
use borrow.Author.Tests.{lt-leb}
use Rattle.zone.specs.declared.figures.Group.{Group}
use Rattle.zone.specs.declared.figures.Figures.{Figures}
use Rattle.zone.specs.declared.figures.Command.{Command}
use Rattle.zone.specs.declared.figures.Command.TheVariants.{Read, Write}
use Rattle.zone.specs.declared.status.Status.{Status}
use Rattle.zone.specs.declared.zones.Zone.{Zone}
use Rattle.zone.specs.Figures.{group_of}
use Rattle.zone.specs.Zones.{figures_of, with_figures}
use Rattle.zone.specs.Rules.{SameHead, SetsFigures}
use Rattle.zone.proofs.Tests.{never}
use Rattle.zone.proofs.Written.{sets_figures}
use Rattle.zone.proofs.Order.{groups_commute, last_stands}
use Rattle.card.specs.declared.records.Record.{Record}
use Rattle.card.specs.Records.{zone_at, with_zone, sound, no_zone}
use Rattle.card.specs.Calls.{apply_of}
use Rattle.card.proofs.Finding.{find_alike}
use Rattle.card.proofs.Sets.{stored_there, write_after, read_alters_nothing}
use Rattle.wire.specs.Road.{Parsed}
use Rattle.frame.specs.Frame.{address_in, body_in, body_read}
use Rattle.roads.specs.Calls.{zone_found}
use Rattle.roads.specs.Rules.{JudgesAlike}
use Rattle.roads.proofs.CallLaws.{right_sum}
use Rattle.roads.proofs.Local.{text_local, frame_local, text_touches, frame_touches}
use Rattle.session.specs.Sessions.{Done}
use Rattle.session.specs.Demands.{Present}
use Rattle.session.specs.Inputs.{Input, on_port, on_pair, sent, next, Heard, heard}
use Rattle.session.specs.Order.{request_in, input_read, IsWrite, IsRead, goes_to, SameGroupOfOneZone, Commute, WritesCommute, NowhereCommutes, RefusedCommutes, TheLastStands, Has, SameZones, ZonesStay, WritesInAnyOrder, InTheWay, both_write, write_read, read_write, OthersCommute, InAnyOrder, AsAtFirst}
use Rattle.session.proofs.Answering.{record_kept, by_done}
use Rattle.session.proofs.Done.{line_is_done, frame_is_done}
use Rattle.session.proofs.Changes.{by_zone, text_after, frame_after, after_of, command_is}
use Rattle.session.proofs.Demand3.{stays_sound}
use Rattle.session.proofs.Demand1.{same_holder}
use Rattle.session.proofs.Standing.{has_former, has_latter}
use Rattle.session.proofs.Reordered.{may_be_reordered}

-- ---- what an input does

-- a done input is a command, applied to the present zone that it goes to
record Does (r : Record) (x : Input) : Type 0 where
  command : Command
  reads_as : input_read x ≡ Ok command
  present : Present r (goes_to r x)
  left : next r x ≡ (apply_of r (goes_to r x) command).after
  done : (apply_of r (goes_to r x) command).number ≡ 0

does : (r : Record) (x : Input) → Done r (sent x) → Does r x
does r (on_port n line room) d =
    let w = line_is_done r n line room d in
    record { command = w.command; reads_as = w.reads; present = w.present; left = text_after r n line room ∙ after_of w.came.same; done = w.came.done }
does r (on_pair bytes room) d =
    let w = frame_is_done r bytes room d in
    let e : w.zone ≡ goes_to r (on_pair bytes room) = ap zone_found (sym w.found) in
    record {
      command = w.command;
      reads_as = ap request_in w.reads;
      present = subst (Present r) e w.present;
      left = frame_after r bytes room ∙ after_of w.came.same ∙ ap (λ (n : ℕ). (apply_of r n w.command).after) e;
      done = ap (λ (n : ℕ). (apply_of r n w.command).number) (sym e) ∙ w.came.done;
    }

-- what was read is one command, and no other
write_one : {f g : Figures} → ◌≡◌ {A = Parsed} (Ok (Write f)) (Ok (Write g)) → f ≡ g
write_one e = cc

read_or_write : {g : Group} {f : Figures} → ◌≡◌ {A = Parsed} (Ok (Read g)) (Ok (Write f)) → ⊥
read_or_write e = let z : ◌≡◌ {A = ℕ} 0 1 = cc in omega arith

-- it is a write, and done
pub record Stores (r : Record) (x : Input) (f : Figures) : Type 0 where
  pub is_write : IsWrite x f
  pub done : Done r (sent x)

-- what it leaves: the record with the figures set in the zone that it goes to
abbrev stored_by : Record → ℕ → Figures → Record
stored_by r n f = with_zone r n (with_figures (zone_at r n) f)

pub stores_there : (r : Record) (x : Input) (f : Figures) → Stores r x f → Present r (goes_to r x)
stores_there r x f s = (does r x s.done).present

stores_left : (r : Record) (x : Input) (f : Figures) → Stores r x f → next r x ≡ stored_by r (goes_to r x) f
stores_left r x f s =
    let w = does r x s.done in
    let c : w.command ≡ Write f = command_is (sym w.reads_as ∙ s.is_write) in
    w.left ∙ ap (λ (c : Command). (apply_of r (goes_to r x) c).after) c ∙ write_after r (goes_to r x) f (ap (λ (c : Command). (apply_of r (goes_to r x) c).number) (sym c) ∙ w.done)

pub stored_zone : (r : Record) (x : Input) (f : Figures) → Stores r x f → zone_at (next r x) (goes_to r x) ≡ with_figures (zone_at r (goes_to r x)) f
stored_zone r x f s =
    let p = stores_there r x f s in
    ap (λ (s : Record). zone_at s (goes_to r x)) (stores_left r x f s) ∙ stored_there r (goes_to r x) (with_figures (zone_at r (goes_to r x)) f) p.sound_record p.below

-- every other zone is left as it was, whatever the input
pub touches : (r : Record) (x : Input) (m : ℕ) → (m ≡ goes_to r x → ⊥) → zone_at (next r x) m ≡ zone_at r m
touches r (on_port n line room) m u = text_touches r n line room m u
touches r (on_pair bytes room) m u = frame_touches r bytes room m u

-- an input that stores nothing leaves the record as it was: a refused one, and a read
abbrev pub Idle : Record → Input → Type 0
Idle r x = (f : Figures) → Stores r x f → ⊥

pub idle_kept : (r : Record) (x : Input) → Idle r x → next r x ≡ r
idle_kept r x u = by_done r (sent x) (λ d. by_command d (does r x d) (does r x d).command refl) (record_kept r (sent x))
  where
    by_command : Done r (sent x) → (w : Does r x) (c : Command) → w.command ≡ c → next r x ≡ r
    by_command d w (Read g) e = w.left ∙ ap (λ (c : Command). (apply_of r (goes_to r x) c).after) e ∙ read_alters_nothing r (goes_to r x) g
    by_command d w (Write f) e = absurd (u f (record { is_write = w.reads_as ∙ ap Ok e; done = d }))

pub data Effect (r : Record) (x : Input) : Type 0 where
  idle : Idle r x → Effect r x
  stores : (f : Figures) → Stores r x f → Effect r x

pub effect : (r : Record) (x : Input) → Effect r x
effect r x = by_done r (sent x) (λ d. by_command (does r x d).command (does r x d).reads_as d) (λ u. idle (λ f s. u s.done))
  where
    by_command : (c : Command) → input_read x ≡ Ok c → Done r (sent x) → Effect r x
    by_command (Read g) e d = idle (λ f s. read_or_write (sym e ∙ s.is_write))
    by_command (Write f) e d = stores f (record { is_write = e; done = d })

-- ---- what an input keeps

-- it is a write, done or not, to that group of zone n, which is there
record WritesTo (r : Record) (x : Input) (n : ℕ) (g : Group) : Type 0 where
  figures : Figures
  is_write : IsWrite x figures
  zone : goes_to r x ≡ n
  there : no_zone r n ≡ false
  group : group_of figures ≡ g

present_there : (r : Record) (n : ℕ) → Present r n → no_zone r n ≡ false
present_there r n p = rw (lt-leb 16 n p.below, p.present)

stores_there_too : (r : Record) (x : Input) (f : Figures) → Stores r x f → no_zone r (goes_to r x) ≡ false
stores_there_too r x f s = present_there r (goes_to r x) (stores_there r x f s)

-- of every zone: whether it is present, with which address and range, its status, and the figures of every group but the one that is written
record Keeps (r : Record) (x : Input) (m : ℕ) : Type 0 where
  head : SameHead (zone_at r m) (zone_at (next r x) m)
  status : (zone_at (next r x) m).status ≡ (zone_at r m).status
  others : (g : Group) → (WritesTo r x m g → ⊥) → figures_of (zone_at (next r x) m) g ≡ figures_of (zone_at r m) g

pub same_head : {z z' : Zone} → z' ≡ z → SameHead z z'
same_head e = record { present = ap (λ (z : Zone). z.present) e; address = ap (λ (z : Zone). z.address) e; range = ap (λ (z : Zone). z.range) e }

-- where the zone is the same all of it is
kept_whole : (r : Record) (x : Input) (m : ℕ) → zone_at (next r x) m ≡ zone_at r m → Keeps r x m
kept_whole r x m e = record {
  head = same_head e;
  status = ap (λ (z : Zone). z.status) e;
  others = λ g u. ap (λ (z : Zone). figures_of z g) e;
}

-- the zone that is written keeps all but the group that is set
kept_besides : (r : Record) (x : Input) (f : Figures) → Stores r x f → SetsFigures (zone_at r (goes_to r x)) f (zone_at (next r x) (goes_to r x)) → Keeps r x (goes_to r x)
kept_besides r x f s k = record {
  head = k.head;
  status = k.status;
  others = λ g u. k.other_groups g (λ e. u (record { figures = f; is_write = s.is_write; zone = refl; there = stores_there_too r x f s; group = sym e }));
}

keeps : (r : Record) (x : Input) (m : ℕ) → Keeps r x m
keeps r x m = by_effect (effect r x)
  where
    by_effect : Effect r x → Keeps r x m
    by_effect (idle u) = kept_whole r x m (ap (λ (s : Record). zone_at s m) (idle_kept r x u))
    by_effect (stores f s) =
        by_zone m (goes_to r x)
        (λ e. subst (Keeps r x) (sym e) (kept_besides r x f s (rw (stored_zone r x f s) (sets_figures (zone_at r (goes_to r x)) f))))
        (λ u. kept_whole r x m (touches r x m u))

pub head_stays : (r : Record) (x : Input) (m : ℕ) → SameHead (zone_at r m) (zone_at (next r x) m)
head_stays r x m = (keeps r x m).head

pub same_sound : (r : Record) (x : Input) → sound r ≡ sound (next r x)
same_sound r x = by_effect (effect r x)
  where
    by_effect : Effect r x → sound r ≡ sound (next r x)
    by_effect (idle u) = ap sound (sym (idle_kept r x u))
    by_effect (stores f s) = let p = (stores_there r x f s).sound_record in p ∙ sym (stays_sound r (sent x ∷ []) p)

pub zones_stay : ZonesStay
zones_stay r x = record {
  there = λ n i. leb 16 n || not ((head_stays r x n).present i);
  held = λ address. find_alike (next r x) r address (λ m. same_holder address (head_stays r x m));
}

judges_alike : (r : Record) (x : Input) (m : ℕ) → JudgesAlike (zone_at r m) (zone_at (next r x) m)
judges_alike r x m = let k = keeps r x m in record { present = sym k.head.present; range = sym k.head.range; state = ap (λ (s : Status). s.state) (sym k.status) }

-- ---- in a record with the same zones each input goes where it went

goes_alike : {r s : Record} → SameZones r s → (x : Input) → goes_to s x ≡ goes_to r x
goes_alike same (on_port n line room) = refl
goes_alike same (on_pair bytes room) = ap zone_found (same.held (address_in bytes))

same_group_at_start : {r s : Record} → SameZones r s → {x y : Input} {g h : Group} → SameGroupOfOneZone s x y g h → SameGroupOfOneZone r x y g h
same_group_at_start {r} {s} same {x} {y} o = record {
  zone = sym (goes_alike same x) ∙ o.zone ∙ goes_alike same y;
  there = sym (same.there (goes_to r x)) ∙ ap (no_zone s) (sym (goes_alike same x)) ∙ o.there;
  group = o.group;
}

in_the_way_at_start : {r s : Record} → SameZones r s → {x y : Input} → InTheWay s x y → InTheWay r x y
in_the_way_at_start same (both_write f g p q o) = both_write f g p q (same_group_at_start same o)
in_the_way_at_start same (write_read f h p q o) = write_read f h p q (same_group_at_start same o)
in_the_way_at_start same (read_write h g p q o) = read_write h g p q (same_group_at_start same o)

-- ---- what is heard of an input behind another

-- x reads nothing that y writes
abbrev Unread : Record → Input → Input → Type 0
Unread r x y = (h : Group) → IsRead x h → WritesTo r y (goes_to r x) h → ⊥

-- a done frame whose body is a read is read as one
done_frame_reads : (r : Record) (bytes room : List ℕ) (h : Group) → Done r (sent (on_pair bytes room)) → body_read (body_in bytes) ≡ Ok (Read h) → IsRead (on_pair bytes room) h
done_frame_reads r bytes room h d q = let w = (frame_is_done r bytes room d).reads in ap request_in w ∙ (right_sum bytes _ _ w).3 ∙ q

module _ (r : Record) (y : Input) where
  same_heard : (x : Input) → (Done r (sent x) → Unread r x y) → heard (next r y) x ≡ heard r x
  same_heard (on_port n line room) u =
      let alike = text_local r (next r y) n line room (same_sound r y) (judges_alike r y n) (λ d h q. sym ((keeps r y n).others h (u d h q))) in
      sym (λ i. record { said = alike.0 i; place = alike.1 i })
  same_heard (on_pair bytes room) u =
      let n = goes_to r (on_pair bytes room) in
      let alike = frame_local r (next r y) bytes room (same_sound r y) (λ p s. (sym ((zones_stay r y).held (address_in bytes)), judges_alike r y n))
      (λ d h q. sym ((keeps r y n).others h (u d h (done_frame_reads r bytes room h d q)))) in
      sym (λ i. record { said = alike i; place = 0 })

-- ---- an input of which the same is heard at two records

-- is done at both or at neither
done_alike : (r s : Record) (x : Input) → heard s x ≡ heard r x → Done r (sent x) → Done s (sent x)
done_alike r s x e d = ap (λ (h : Heard). h.said.number) e ∙ d

-- what stores figures at one stores them at the other
pub stores_too : (r s : Record) (x : Input) (f : Figures) → heard s x ≡ heard r x → Stores r x f → Stores s x f
stores_too r s x f e t = record { is_write = t.is_write; done = done_alike r s x e t.done }

-- and what stores nothing at one stores nothing at the other either, and leaves it as it is
pub idle_too : (r s : Record) (x : Input) → heard s x ≡ heard r x → Idle r x → next s x ≡ s
idle_too r s x e u = idle_kept s x (λ f t. u f (stores_too s r x f (sym e) t))

-- ---- two of them

-- what stores figures stores them behind another in the same zone
stores_behind : (r : Record) (x y : Input) (f : Figures) → heard (next r y) x ≡ heard r x → Stores r x f → next (next r y) x ≡ stored_by (next r y) (goes_to r x) f
stores_behind r x y f e s = stores_left (next r y) x f (stores_too r (next r y) x f e s) ∙ ap (λ (n : ℕ). stored_by (next r y) n f) (goes_alike (zones_stay r y) x)

-- two stored in one zone: the record with that zone, written twice
twice : (r : Record) (x y : Input) (f g : Figures) → heard (next r x) y ≡ heard r y → Stores r x f → Stores r y g → goes_to r x ≡ goes_to r y
    → next (next r x) y ≡ with_zone r (goes_to r x) (with_figures (with_figures (zone_at r (goes_to r x)) f) g)
twice r x y f g e s t q =
    let n = goes_to r x in
    stores_behind r y x g e t
    ∙ ap (λ (m : ℕ). stored_by (next r x) m g) (sym q)
    ∙ ap (λ (z : Zone). with_zone (next r x) n (with_figures z g)) (stored_zone r x f s)
    ∙ ap (λ (a : Record). with_zone a n (with_figures (with_figures (zone_at r n) f) g)) (stores_left r x f s)
    ∙ ap (λ (zs : List Zone). record { zones = zs }) (set-set r.zones n (with_figures (zone_at r n) f) (with_figures (with_figures (zone_at r n) f) g))

-- two stored in different zones: the record with both
each_its_own : (r : Record) (x y : Input) (f g : Figures) → heard (next r x) y ≡ heard r y → Stores r x f → Stores r y g → (goes_to r x ≡ goes_to r y → ⊥)
    → next (next r x) y ≡ with_zone (stored_by r (goes_to r x) f) (goes_to r y) (with_figures (zone_at r (goes_to r y)) g)
each_its_own r x y f g e s t u =
    let n = goes_to r x in
    let m = goes_to r y in
    let same : zone_at (stored_by r n f) m ≡ zone_at r m = ap (λ (a : Record). zone_at a m) (sym (stores_left r x f s)) ∙ touches r x m (λ q. u (sym q)) in
    stores_behind r y x g e t ∙ ap (λ (a : Record). stored_by a m g) (stores_left r x f s) ∙ ap (λ (z : Zone). with_zone (stored_by r n f) m (with_figures z g)) same

pub others_commute : OthersCommute
others_commute r x y apart = record { same_record = by_effects (effect r x) (effect r y); answer_of_x = first; answer_of_y = second }
  where
    first : heard (next r y) x ≡ heard r x
    first = same_heard r y x (λ d h q w. apart (read_write h w.figures q w.is_write (record { zone = sym w.zone; there = w.there; group = sym w.group })))

    second : heard (next r x) y ≡ heard r y
    second = same_heard r x y (λ d h q w. apart (write_read w.figures h w.is_write q (record { zone = w.zone; there = ap (no_zone r) w.zone ∙ w.there; group = w.group })))

    by_effects : Effect r x → Effect r y → next (next r x) y ≡ next (next r y) x
    by_effects (idle u) b = ap (λ (s : Record). next s y) (idle_kept r x u) ∙ sym (idle_too r (next r y) x first u)
    by_effects (stores f s) (idle v) = idle_too r (next r x) y second v ∙ sym (ap (λ (s : Record). next s x) (idle_kept r y v))
    by_effects (stores f s) (stores g t) =
        let n = goes_to r x in
        let m = goes_to r y in
        by_zone n m
        (λ q.
        let differ : group_of f ≡ group_of g → ⊥ = λ h. apart (both_write f g s.is_write t.is_write (record { zone = q; there = stores_there_too r x f s; group = h })) in
        twice r x y f g second s t q
        ∙ ap (λ (z : Zone). with_zone r n z) (groups_commute (zone_at r n) f g differ)
        ∙ ap (λ (k : ℕ). with_zone r k (with_figures (with_figures (zone_at r k) g) f)) q
        ∙ sym (twice r y x g f first t s (sym q)))
        (λ u.
        each_its_own r x y f g second s t u
        ∙ ap (λ (zs : List Zone). record { zones = zs }) (set_comm r.zones n m (with_figures (zone_at r n) f) (with_figures (zone_at r m) g) u)
        ∙ sym (each_its_own r y x g f first t s (λ q. u (sym q))))

-- ---- the two rules

-- two writes are in each other's way in one group of one zone alone
writes_in_the_way : {r : Record} {x y : Input} {f g : Figures} → IsWrite x f → IsWrite y g → InTheWay r x y → SameGroupOfOneZone r x y (group_of f) (group_of g)
writes_in_the_way p q (both_write f g p' q' o) = record { zone = o.zone; there = o.there; group = ap group_of (write_one (sym p ∙ p')) ∙ o.group ∙ ap group_of (write_one (sym q' ∙ q)) }
writes_in_the_way p q (write_read f h p' q' o) = absurd (read_or_write (sym q' ∙ q))
writes_in_the_way p q (read_write h g p' q' o) = absurd (read_or_write (sym p' ∙ p))

pub writes_commute : WritesCommute
writes_commute r x y f g p q u = others_commute r x y (λ w. u (writes_in_the_way p q w))

-- what goes to no present zone, or is no command, is in nobody's way
pub nowhere_commutes : NowhereCommutes
nowhere_commutes r x y (inl e) = others_commute r x y (λ w. never (sym (there w) ∙ e))
  where
    there : InTheWay r x y → no_zone r (goes_to r x) ≡ false
    there (both_write f g p q o) = o.there
    there (write_read f h p q o) = o.there
    there (read_write h g p q o) = o.there
nowhere_commutes r x y (inr u) = others_commute r x y no_command
  where
    no_command : InTheWay r x y → ⊥
    no_command (both_write f g p q o) = u (Write f) p
    no_command (write_read f h p q o) = u (Write f) p
    no_command (read_write h g p q o) = u (Read h) p

-- what is refused is idle, and the record is the same with it and without
pub refused_commutes : RefusedCommutes
refused_commutes r x y u =
    let kept = record_kept r (sent x) u in
    let first = same_heard r y x (λ d. absurd (u d)) in
    record { same_record = ap (λ (s : Record). next s y) kept ∙ sym (idle_too r (next r y) x first (λ f s. u s.done)); answer_of_x = first; answer_of_y = ap (λ (s : Record). heard s y) kept }

pub the_last_stands : TheLastStands
the_last_stands r x y f g p q o d = by_effect (effect r x)
  where
    second : heard (next r x) y ≡ heard r y
    second = same_heard r x y (λ d h e. absurd (read_or_write (sym e ∙ q)))

    stored : Stores r y g
    stored = stores_too (next r x) r y g (sym second) (record { is_write = q; done = d })

    by_effect : Effect r x → (next (next r x) y ≡ next r y) × (heard (next r x) y ≡ heard r y)
    by_effect (idle u) = (ap (λ (s : Record). next s y) (idle_kept r x u), second)
    by_effect (stores e s) =
        let same : group_of e ≡ group_of g = ap group_of (write_one (sym s.is_write ∙ p)) ∙ o.group in (
          twice r x y e g second s stored o.zone
              ∙ ap (λ (z : Zone). with_zone r (goes_to r x) z) (last_stands (zone_at r (goes_to r x)) e g same)
              ∙ ap (λ (k : ℕ). stored_by r k g) o.zone
              ∙ sym (stores_left r y g stored),
          second,
        )

-- ---- whole sessions

stays_same : (r s : Record) (y : Input) → SameZones r s → SameZones r (next s y)
stays_same r s y same = let k = zones_stay s y in record { there = λ n. k.there n ∙ same.there n; held = λ address. k.held address ∙ same.held address }

commute_later : (r s : Record) (x y : Input) → SameZones r s → (InTheWay r x y → ⊥) → Commute s x y
commute_later r s x y same apart = others_commute s x y (λ w. apart (in_the_way_at_start same w))

pub in_any_order : InAnyOrder
in_any_order r xs ys p =
    may_be_reordered (λ s x. next s x.0) (λ s x. heard s x.0) (λ x y. InTheWay r x.0 y.0 → ⊥) (SameZones r)
    (record {
      stays = λ s x same. stays_same r s x.0 same;
      commute = λ s x y same apart. let c = commute_later r s x.0 y.0 same apart in record { same_record = c.same_record; answer_of_x = c.answer_of_x; answer_of_y = c.answer_of_y };
    })
    r xs ys (record { there = λ n. refl; held = λ address. refl }) p

pub writes_in_any_order : WritesInAnyOrder
writes_in_any_order r xs ys all p =
    in_any_order r xs ys
    (record {
      each_once = p.each_once;
      same_calls = p.same_calls;
      change_places = λ x y b c w.
          let f = all x (has_former xs x y b) in
          let g = all y (has_latter xs x y b) in
          p.change_places x y b c f.0 g.0 f.1 g.1 (writes_in_the_way f.1 g.1 w);
    })

abbrev NoReads : List Input → Type 0
NoReads xs = (x : Input) → Has xs x → (group : Group) → IsRead x group → ⊥

-- inputs that are no reads are heard behind another as before it
heard_behind : (r : Record) (y : Input) (xs : List Input) → NoReads xs → map {B = Input × Heard} (λ x. (x, heard (next r y) x)) xs ≡ map (λ x. (x, heard r x)) xs
heard_behind r y [] u = refl
heard_behind r y (x ∷ xs) u = λ i. (x, same_heard r y x (λ d h q w. u x (inl refl) h q) i) ∷ heard_behind r y xs (λ z k. u z (inr k)) i

pub as_at_first : AsAtFirst
as_at_first r [] u = refl
as_at_first r (x ∷ xs) u =
    let rest : NoReads xs = λ z k. u z (inr k) in
    ap (λ (l : List (Input × Heard)). (x, heard r x) ∷ l) (as_at_first (next r x) xs rest ∙ heard_behind r x xs rest)

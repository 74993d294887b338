-- Document 01's worked lines and frames, P1 to P12: what is stored, what is sent, and what comes of it. The bytes stand as it prints them; where it prints no reply, the reply is that of its rules.
use Rattle.std.specs.Prelude.{ℕ, ◌+◌, ◌*◌, ◌-◌, cond, List, [], ◌∷◌, ltb, eqb}
use Prim.Native.String.{String}
use Rattle.zone.specs.declared.figures.Figures.TheVariants.{AhueWindow, HzbgLimit, RrueReference, SolwSetpoint}
use Rattle.zone.specs.declared.status.State.TheVariants.{On}
use Rattle.zone.specs.declared.zones.Zone.{Zone}
use Rattle.zone.specs.Lists.{ascii}
use Rattle.zone.specs.Zones.{new_zone, with_figures, with_status}
use Rattle.card.specs.declared.records.Record.{Record}
use Rattle.card.specs.Records.{empty_record, with_zone}
use Rattle.wire.specs.Room.{filled}
use Rattle.roads.specs.Calls.{Answered, answer_text, answer_frame}

-- a capital hexadecimal digit
abbrev pub digit16 : ℕ → ℕ
digit16 d = cond (ltb d 58) (d - 48) (d - 55)

-- pairs of such digits, with spaces between the pairs
abbrev pub unhex : List ℕ → List ℕ
unhex [] = []
unhex (a ∷ []) = []
unhex (a ∷ b ∷ l) = cond (eqb a 32) (unhex (b ∷ l)) ((digit16 a * 16 + digit16 b) ∷ unhex l)

abbrev pub hex : String → List ℕ
hex s = unhex (ascii s)

pub data By : Type 0 where
  line frame : By

-- zone 5 before, what is sent and by which road; the number, the reply, and zone 5 afterwards
pub record Example : Type 0 where
  pub before : Zone
  pub by : By
  pub sent : List ℕ
  pub number : ℕ
  pub reply : List ℕ
  pub after : Zone

-- "Address 21 throughout; range 300, zone Off"
abbrev pub off : Zone
off = new_zone 0x21 300

abbrev pub heating : ℕ → Zone
heating time = with_figures off (HzbgLimit (record { time = time }))

abbrev pub on : Zone
on = with_status off (record { state = On; actual = 0 })

abbrev pub examples : List Example
examples =
    -- P1 read HZBG, stored 100
    record { before = heating 100; by = frame; sent = hex "68 03 03 68 21 89 70 1A 16"; number = 0; reply = hex "68 05 05 68 21 00 70 64 00 F5 16"; after = heating 100 } ∷
    -- P2 write 50
    record { before = off; by = frame; sent = hex "68 05 05 68 21 69 70 32 00 2C 16"; number = 0; reply = hex "10 21 00 21 16"; after = heating 50 } ∷
    -- P3
    record { before = off; by = line; sent = ascii "SHZBG 050"; number = 0; reply = ascii "QOK00"; after = heating 50 } ∷
    -- P4 write 999
    record { before = off; by = frame; sent = hex "68 05 05 68 21 69 70 E7 03 E4 16"; number = 0; reply = hex "10 21 00 21 16"; after = heating 999 } ∷
    -- P5 write 1000
    record { before = off; by = frame; sent = hex "68 05 05 68 21 69 70 E8 03 E5 16"; number = 9; reply = hex "10 21 80 A1 16"; after = off } ∷
    -- P6 window
    record {
      before = off;
      by = frame;
      sent = hex "68 0A 0A 68 21 69 0B 01 0A 0A 08 00 0C 00 BE 16";
      number = 0;
      reply = hex "10 21 00 21 16";
      after = with_figures off (AhueWindow (record { flag = 1; lower = 10; upper = 10; begin = 8; end = 12 }));
    } ∷
    -- P7
    record {
      before = off;
      by = frame;
      sent = hex "68 06 06 68 21 69 15 01 05 05 AA 16";
      number = 0;
      reply = hex "10 21 00 21 16";
      after = with_figures off (RrueReference (record { flag = 1; lower = 5; upper = 5 }));
    } ∷
    -- P8 stores 185
    record {
      before = off;
      by = frame;
      sent = hex "68 05 05 68 21 69 35 B9 00 78 16";
      number = 0;
      reply = hex "10 21 00 21 16";
      after = with_figures off (SolwSetpoint (record { setpoint = 185 }));
    } ∷
    -- P9
    record { before = off; by = line; sent = ascii "SSOLW 300"; number = 0; reply = ascii "QOK00"; after = with_figures off (SolwSetpoint (record { setpoint = 300 })) } ∷
    record { before = off; by = line; sent = ascii "SSOLW 301"; number = 9; reply = ascii "QFE02"; after = off } ∷
    -- P10 P2 in state On
    record { before = on; by = frame; sent = hex "68 05 05 68 21 69 70 32 00 2C 16"; number = 10; reply = hex "10 21 08 29 16"; after = on } ∷
    -- P11 P1 with last checksum 1B
    record { before = heating 100; by = frame; sent = hex "68 03 03 68 21 89 70 1B 16"; number = 6; reply = hex "10 21 20 41 16"; after = heating 100 } ∷
    -- P12 empty line, empty frame
    record { before = off; by = line; sent = []; number = 7; reply = ascii "QFE01"; after = off } ∷
    record { before = off; by = frame; sent = []; number = 4; reply = []; after = off } ∷
    []

-- a record with that zone at number 5 and no other
abbrev pub with5 : Zone → Record
with5 z = with_zone empty_record 5 z

-- room of 36 bytes, each another, so that one which is cleared, moved or written past the reply is seen
abbrev pub room : List ℕ
room = ascii "abcdefghijklmnopqrstuvwxyz0123456789"

-- what is compared: number, length of the reply, the whole room, and the record. (A read's figures are in its reply.)
pub record Seen : Type 0 where
  pub number : ℕ
  pub length : ℕ
  pub room : List ℕ
  pub after : Record

abbrev pub seen_of : Answered → Seen
seen_of a = record { number = a.said.number; length = a.said.length; room = a.said.room; after = a.after }

abbrev pub answered : By → Record → List ℕ → Answered
answered line r sent = answer_text r 5 sent room
answered frame r sent = answer_frame r sent room

abbrev pub seen : Example → Seen
seen e = seen_of (answered e.by (with5 e.before) e.sent)

abbrev pub expected : Example → Seen
expected e = record { number = e.number; length = lib.ListN.length e.reply; room = filled e.reply room; after = with5 e.after }

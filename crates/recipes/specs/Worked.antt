-- Worked recipes: what is sent to a card with one zone, and all that comes of it. "\t" is a tab, "\n" a line feed.
use Rattle.std.specs.Prelude.{ℕ, ◌≡◌, List, [], ◌∷◌, ◌++◌, replicate}
use Prim.Native.String.{String}
use Rattle.zone.specs.declared.figures.Figures.TheVariants.{HzbgLimit, SolwSetpoint}
use Rattle.zone.specs.Lists.{ascii}
use Rattle.zone.specs.Zones.{new_zone, with_figures}
use Rattle.card.specs.declared.records.Record.{Record}
use Rattle.card.specs.Records.{empty_record, with_zone}
use Rattle.recipes.specs.Recipes.{Loading, load_of}

-- zone 0 is new, with address 33 and 300 degrees
abbrev pub start : Record
start = with_zone empty_record 0 (new_zone 33 300)

-- and here with a heating limit of 50 and a setpoint of 100
abbrev pub loaded : Record
loaded = with_zone empty_record 0 (with_figures (with_figures (new_zone 33 300) (HzbgLimit (record { time = 50 }))) (SolwSetpoint (record { setpoint = 100 })))

-- room for three replies, and four bytes more; each byte of it is 7 before
abbrev pub room : List ℕ
room = replicate 100 7

abbrev pub loading : String → Loading
loading recipe = load_of start (ascii recipe) room

-- record and room as they were, and no lengths
abbrev pub refused : ℕ → ℕ → ℕ → Loading
refused number line place = record {
  answered = record { said = record { number = number; values = []; length = 0; room = room }; after = start };
  line = line;
  place = place;
  lengths = replicate 64 0;
}

-- `worked`, in proofs/Worked.antt
pub record Worked : Type 0 where
  -- three lines, the last without its line feed: each has the record that the one before it left, and its reply in its own 32 bytes
  pub three : loading "0\tSHZBG 050\n0\tLHZBG\n0\tSSOLW 100" ≡ record {
    answered = record {
      said = record {
        number = 0;
        values = [];
        length = 0;
        room = (ascii "QOK00" ++ replicate 27 7) ++ (ascii "AHZBG 050" ++ replicate 23 7) ++ (ascii "QOK00" ++ replicate 27 7) ++ replicate 4 7;
      };
      after = loaded;
    };
    line = 0;
    place = 0;
    lengths = 5 ∷ 9 ∷ 5 ∷ replicate 61 0;
  }
  -- the second line is out of range, its setpoint, at offset 6 of its command, from 0; the first, which would be done, is not kept
  pub out_of_range : loading "0\tSHZBG 050\n0\tSSOLW 301\n0\tLHZBG" ≡ refused 9 2 6
  -- the first line stops short, at offset 7 of its command, before the second is tried
  pub stops_short : loading "0\tSHZBG 0\n0\tSSOLW 301\n" ≡ refused 8 1 7
  -- the third line has no zone: 14, although the first would be refused
  pub no_zone_in_third : loading "0\tSSOLW 301\n0\tLHZBG\nLHZBG\n" ≡ refused 14 0 0
  -- a lone line feed ends a line of nothing
  pub lone_line_feed : loading "\n" ≡ refused 14 0 0
  -- a leading zero is no decimal
  pub leading_zero : loading "05\tLHZBG" ≡ refused 14 0 0
  -- 16 is a zone above 15, 1 an absent one
  pub above_fifteen : loading "16\tLHZBG" ≡ refused 3 1 0
  pub absent : loading "0\tLHZBG\n1\tLHZBG\n" ≡ refused 3 2 0
  -- a zone and its tab, and no command
  pub no_command : loading "0\t" ≡ refused 7 1 0
  -- four lines, where the room holds three replies
  pub no_room : loading "0\tLHZBG\n0\tLHZBG\n0\tLHZBG\n0\tLHZBG\n" ≡ refused 1 0 0
  -- which comes before 14
  pub no_room_first : loading "x\nx\nx\nx\n" ≡ refused 1 0 0
  -- an empty line behind the last one
  pub empty_line : loading "0\tLHZBG\n\n" ≡ refused 14 0 0

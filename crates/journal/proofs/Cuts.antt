-- However the input is cut into blocks, the same is written; a log is a session; and document 01's whole case. Assumes nothing.
use Prim.Native.Nat.{ℕ, zero, suc, ◌-◌, ◌≤◌, ◌<◌}
use mathlib.Core.Path.{◌≡◌, refl, sym, ap, ◌∙◌}
use mathlib.Core.Bool.{true, false}
use mathlib.Core.List.{List, [], ◌∷◌, ◌++◌, append_assoc}
use native.Mathlib.Omega.{arith}
use lib.ListN.{length, take, length-take}
use lib.Dec.{ltb, eqb}
use lib.Seq.{take_all, take-take}
use borrow.Author.Tests.{ltb-true, ltb-false}
use Rattle.texts.specs.Texts.{index_of}
use Rattle.zone.specs.Lists.{ascii}
use Rattle.zone.specs.Figures.{each_in_range, in_range, all_zero}
use Rattle.zone.specs.Zones.{zone_otherwise_sound, zone_sound}
use Rattle.card.specs.declared.records.Record.{Record}
use Rattle.card.specs.Records.{empty_record, differ, sound, find_from}
use Rattle.card.specs.Calls.{add_of, remove_of}
use Rattle.wire.specs.Road.{form_read, write_read}
use Rattle.line.specs.Field.{up_to_space, digits_behind, figure_of}
use Rattle.line.specs.Line.{same, group_named, line_read}
use Rattle.frame.specs.Sum.{sum_of}
use Rattle.frame.specs.Frame.{group_indexed, body_read}
use Rattle.roads.specs.Acknowledgements.{text_reply, frame_reply}
use Rattle.roads.specs.Calls.{answer_text, answer_frame}
use Rattle.session.specs.Sessions.{run}
use Rattle.texts.specs.Numbers.{decimal_of, bytes_read, in_hex}
use Rattle.journal.specs.Lines.{Asks, adds, removes, reports, says, frames, unreadable, decimals, text_asks, frame_asks, asks_of}
use Rattle.texts.specs.Texts.{line_feed, ended_behind, begun_behind, ended, begun, unended, lines_of, zoned}
use Rattle.journal.specs.Journal.{Yield, yield_of, line_yields, lines_yield, call_of, calls_in}
use Rattle.journal.specs.Blocks.{log_of, fed, closed, blocks_yield, joined}
use Rattle.journal.specs.Rules.{CutAnywhere, LogIsSession}
use Rattle.journal.proofs.Fields.{line_long}
use Rattle.texts.proofs.Parts.{by_test, ended_append, begun_append, Plain, none, plain_ended, plain_begun, plain_take, begun_plain, last_lacks}

-- ---- lines in two parts

lines_output : (r : Record) (x y : List (List ℕ)) → (lines_yield r (x ++ y)).output ≡ (lines_yield r x).output ++ (lines_yield (lines_yield r x).after y).output
unfolding lines_yield
lines_output r [] y = refl
lines_output r (l ∷ x) y = rw (lines_output (line_yields r l).after x y, append_assoc)

-- ---- lines that agree in their first 601 bytes are answered alike: either they are the same, or both are too long

abbrev Alike : List ℕ → List ℕ → Type 0
Alike b c = take 601 b ≡ take 601 c

asked_alike : (b c : List ℕ) → Alike b c → asks_of b ≡ asks_of c
asked_alike b c e = by_test (ltb 600 (length b)) long short
  where
    lengths : length (take 601 b) ≡ length (take 601 c)
    lengths = ap length e

    long : ltb 600 (length b) ≡ true → asks_of b ≡ asks_of c
    long t =
        let h : 600 < length b = ltb-true 600 (length b) t in
        let k : 600 < length c = omega (arith, simp length-take at lengths) in
        line_long b h ∙ sym (line_long c k)

    short : ltb 600 (length b) ≡ false → asks_of b ≡ asks_of c
    short t =
        let h : length b ≤ 600 = ltb-false 600 (length b) t in
        let k : length c ≤ 601 = omega (arith, simp length-take at lengths) in
        ap asks_of (sym (take_all 601 b (omega arith)) ∙ e ∙ take_all 601 c k)

line_alike : (r : Record) (b c : List ℕ) (lines : List (List ℕ)) → Alike b c → lines_yield r (b ∷ lines) ≡ lines_yield r (c ∷ lines)
unfolding lines_yield line_yields
line_alike r b c lines e = rw (asked_alike b c e)

-- and they stay so, whatever follows
alike_behind : (n : ℕ) (b c t : List ℕ) → take n b ≡ take n c → take n (b ++ t) ≡ take n (c ++ t)
alike_behind zero b c t e = refl
alike_behind (suc n) [] [] t e = refl
alike_behind (suc n) [] (y ∷ c) t e = absurd (let z : ◌≡◌ {A = ℕ} 0 1 = cc in omega arith)
alike_behind (suc n) (x ∷ b) [] t e = absurd (let z : ◌≡◌ {A = ℕ} 0 1 = cc in omega arith)
alike_behind (suc n) (x ∷ b) (y ∷ c) t e =
    let head : x ≡ y = cc in
    let tail : take n b ≡ take n c = cc in
    rw (head, alike_behind n b c t tail)

lines_alike : (r : Record) (b c t : List ℕ) → Alike b c → lines_yield r (ended_behind b t) ≡ lines_yield r (ended_behind c t)
unfolding ended_behind
lines_alike r b c [] e = refl
lines_alike r b c (x ∷ t) e =
    by_test (eqb x line_feed) (λ f. rw f (line_alike r b c (ended_behind [] t) e))
    (λ f. rw f (lines_alike r (b ++ (x ∷ [])) (c ++ (x ∷ [])) t (alike_behind 601 b c (x ∷ []) e)))

begun_alike : (b c t : List ℕ) → Alike b c → Alike (begun_behind b t) (begun_behind c t)
unfolding begun_behind
begun_alike b c [] e = e
begun_alike b c (x ∷ t) e = by_test (eqb x line_feed) (λ f. rw f) (λ f. rw f (begun_alike (b ++ (x ∷ [])) (c ++ (x ∷ [])) t (alike_behind 601 b c (x ∷ []) e)))

-- ---- block by block

ended_held : (held block : List ℕ) → Plain held → ended (held ++ block) ≡ ended_behind held block
ended_held held block p = rw (ended_append [] held block, plain_ended [] p, plain_begun [] p)

begun_held : (held block : List ℕ) → Plain held → begun (held ++ block) ≡ begun_behind held block
begun_held held block p = rw (begun_append [] held block, plain_begun [] p)

-- the last line, with the line feed that it lacks
last_alike : (r : Record) (held behind : List ℕ) → Plain held → Alike held behind → lines_yield r (ended (closed held)) ≡ lines_yield r (unended behind)
unfolding ended_behind
last_alike r [] [] p e = refl
last_alike r [] (y ∷ behind) p e = absurd (let z : ◌≡◌ {A = ℕ} 0 1 = cc in omega arith)
last_alike r (x ∷ held) [] p e = absurd (let z : ◌≡◌ {A = ℕ} 0 1 = cc in omega arith)
last_alike r (x ∷ held) (y ∷ behind) p e = ap (lines_yield r) (sym (last_lacks x held p)) ∙ line_alike r (x ∷ held) (y ∷ behind) [] e

-- `behind` is the line under way, whole, and `held` what is kept of it
by_blocks : (r : Record) (held behind : List ℕ) (blocks : List (List ℕ)) → Plain held → Alike held behind
    → blocks_yield r held blocks ≡ (lines_yield r (ended_behind behind (joined blocks) ++ unended (begun_behind behind (joined blocks)))).output
unfolding blocks_yield fed ended_behind begun_behind
by_blocks r held behind [] p e = ap (λ (o : Yield). o.output) (last_alike r held behind p e)
by_blocks r held behind (block ∷ blocks) p e =
    let same : lines_yield r (ended (held ++ block)) ≡ lines_yield r (ended_behind behind block) = rw (ended_held held block p) (lines_alike r held behind block e) in
    let kept = take 601 (begun (held ++ block)) in
    let plain = plain_take 601 (begun_plain [] (held ++ block) none) in
    let alike : Alike kept (begun_behind behind block) =
    take-take 601 601 (begun (held ++ block)) (omega arith) ∙ rw (begun_held held block p) (begun_alike held behind block e) in
    let rest = by_blocks (lines_yield r (ended_behind behind block)).after kept (begun_behind behind block) blocks plain alike in
    rw (same, ended_append behind block (joined blocks), begun_append behind block (joined blocks), append_assoc, lines_output, rest)

pub cut_anywhere : CutAnywhere
unfolding log_of
cut_anywhere blocks = by_blocks empty_record [] [] blocks none refl

-- ---- a log is a session: its readable lines, as the calls that they make

pub is_session : LogIsSession
unfolding lines_yield line_yields
is_session r [] = refl
is_session r (line ∷ lines) = by_asks (asks_of line) (λ s. is_session s lines)
  where
    by_asks : (a : Asks) → ((s : Record) → (lines_yield s lines).after ≡ run s (calls_in lines)) → (lines_yield (yield_of r a).after lines).after ≡ run r (call_of a ++ calls_in lines)
    by_asks (adds zone address range) h = h _
    by_asks (removes zone) h = h _
    by_asks (reports zone state actual) h = h _
    by_asks (says zone line) h = h _
    by_asks (frames bytes) h = h _
    by_asks unreadable h = h r

-- ---- document 01's "whole case"

abbrev pub case_in : List ℕ
case_in =
    ascii "N\t5\t33\t300\n"
    ++ ascii "T\t5\tSHZBG 050\n"
    ++ ascii "F\t680303682189701A16\n"
    ++ ascii "X\t5\n"
    ++ ascii "T\t5\tLHZBG\n"
    ++ ascii "F\t680303682189701A16\n"

abbrev pub case_out : List ℕ
case_out =
    ascii "N\t0\t-\n"
    ++ ascii "T\t0\tQOK00\n"
    ++ ascii "F\t0\t680505682100703200C316\n"
    ++ ascii "X\t0\t-\n"
    ++ ascii "T\t3\t-\n"
    ++ ascii "F\t5\t-\n"

pub whole_case : log_of case_in ≡ case_out
unfolding index_of in_range each_in_range all_zero zone_sound zone_otherwise_sound differ sound find_from add_of remove_of form_read write_read up_to_space digits_behind figure_of same group_named line_read sum_of group_indexed body_read text_reply frame_reply answer_text answer_frame decimal_of bytes_read in_hex decimals zoned text_asks frame_asks asks_of line_yields lines_yield ended_behind begun_behind log_of
whole_case = refl

-- "A last line may lack its line end"
abbrev pub case_unended : List ℕ
case_unended = take (length case_in - 1) case_in

same_lines : lines_of case_unended ≡ lines_of case_in
unfolding ended_behind begun_behind
same_lines = refl

pub whole_case_unended : log_of case_unended ≡ case_out
unfolding log_of
whole_case_unended = ap (λ (lines : List (List ℕ)). (lines_yield empty_record lines).output) same_lines ∙ whole_case

-- Plain texts that are wrapped: the lines of a wrap as slices of their text.
use Rattle.std.proofs.Common.{◌≡◌, ℕ, ◌≤◌, ◌<◌, ◌+◌, ◌-◌, ◌&&◌, not, Bool, true, false, cond, List, [], ◌∷◌, ◌++◌, map, length, take, drop, get_or, is_some, Option, Some, None, Result, Ok, Err, Bor, refl, sym, ap, ◌∙◌, subst, arith, append_assoc, append-nil}
use Rattle.std.specs.Prelude.{chars, encode_utf8_all, MatchOption, OnOk}
use Rattle.std.specs.Char.{is_whitespace}
use Rattle.std.specs.List.{AllByRecursion}
use Rattle.std.specs.Str.{IsUtf8, IsCharBoundary, skip_leading_whitespace, trim_start}
use Rattle.std.proofs.Math.Utf8.{scalars, scalar}
use Rattle.std.proofs.lemmas.Bool.{and_parts}
use Rattle.std.proofs.lemmas.List.{map-append, length-append, length-map, append_cancel_left, at_drop_more, at_drop_all}
use Rattle.std.proofs.lemmas.Str.{encodes-chars, encodes-append, scalars-chars, chars-encodes, chars-append, chars-nil, IsCharBoundary-at_seam, IsUtf8-nil, IsUtf8-append}
use Rattle.std.proofs.Math.Seq.{drop-append_seam, take-append_seam}
use Rattle.mad_characters.specs.Columns.{char_columns}
use Rattle.mad_md.specs.Flagged.{FlaggedChar, Run, unflagged, flagged, flags_of, flagged_of, flagged_text, run_of, is_blank}
use Rattle.mad_md.specs.Lines.{content_of}
use Rattle.mad_md.specs.Parts.{AreParts, LineSpan, line_spans, line_text}
use Rattle.mad_md.specs.ReadRaw.{raw_line, unflagged_line, IsReadRaw}
use Rattle.mad_md.specs.Tables.{plain_text}
use Rattle.mad_md.specs.declared.line.Line.{Line}
use Rattle.mad_md.specs.declared.text.Text.{Text}
use Rattle.mad_md.specs.declared.compound.Compound.{Compound}
use Rattle.mad_measure.specs.TextColumns.{columns, width_of}
use Rattle.mad_measure.specs.Tokens.{flagged_token, tokens_text, token_run}
use Rattle.mad_measure.specs.declared.tokens.Token.{Token}
use Rattle.mad_measure.proofs.AllLemmas.{all_front, all_back, all_each}
use Rattle.mad_measure.proofs.FlaggedLemmas.{width_of-flagged}
use Rattle.mad_measure.proofs.TokenTexts.{IsHonest, tokens_text-append, some_flagged, text_of_all, all_honest}
use Rattle.mad_wrap.specs.Breaks.{LineAndGap, lines_and_gaps}
use Rattle.mad_wrap.specs.CleanCut.{AreTexts}
use Rattle.mad_wrap.specs.Keeps.{AllWhite, Keeps}
use Rattle.mad_wrap.specs.LeastWrap.{IsWrap}
use Rattle.mad_wrap.specs.Placings.{GapsForced, LinesForced, BeginsAfter}
use Rattle.mad_wrap.specs.Rooms.{token_limit}
use Rattle.mad_wrap.specs.WrapLines.{runs_of, LinesFit}
use Rattle.mad_wrap.specs.declared.room.Room.{Room}
use Rattle.mad_wrap.proofs.KeepLemmas.{text_of_runs, gap_is_white}
use Rattle.mad_format.specs.Lists.{EachBecomes}
use Rattle.mad_format.specs.PlainWraps.{plain_room, chars_of, AreFronts, IsFront, IsPlainWrap, IsTextWrap}

-- ---- characters of flagged texts

-- the characters of a flagged text
abbrev pub plain : List FlaggedChar → List ℕ
plain xs = map (λ x. x.char) xs

plain-flagged : (f : _) (cs : List ℕ) → plain (flagged f cs) ≡ cs
plain-flagged f [] = refl
plain-flagged f (c ∷ cs) = ap (λ ds. c ∷ ds) (plain-flagged f cs)

plain-append : (xs ys : List FlaggedChar) → plain (xs ++ ys) ≡ plain xs ++ plain ys
plain-append xs ys = map-append (λ x. x.char) xs ys

plain_of : (ps : List Compound) → plain (flagged_text ps) ≡ chars_of ps
plain_of [] = refl
plain_of (p ∷ ps) = plain-append (flagged_of p) (flagged_text ps) ∙ ap (λ cs. cs ++ plain (flagged_text ps)) (plain-flagged (flags_of p) (chars p.src.now)) ∙ ap (λ cs. chars p.src.now ++ cs) (plain_of ps)

-- none of them has a flag
abbrev pub Unflagged : List FlaggedChar → Type 0
Unflagged xs = AllByRecursion (λ x. x.flags ≡ unflagged) xs

unflagged_chars : (cs : List ℕ) → Unflagged (flagged unflagged cs)
unflagged_chars [] = tt
unflagged_chars (c ∷ cs) = (refl, unflagged_chars cs)

-- they are told by their characters
flagged-plain : (xs : List FlaggedChar) → Unflagged xs → xs ≡ flagged unflagged (plain xs)
flagged-plain [] h = refl
flagged-plain (x ∷ xs) h = ap (λ f. record { char = x.char; flags = f } ∷ xs) h.0 ∙ ap (λ ys. record { char = x.char; flags = unflagged } ∷ ys) (flagged-plain xs h.1)

-- ---- whitespace in front

-- what begins with no whitespace, or nothing
abbrev pub BeginsSolid : List FlaggedChar → Type 0
BeginsSolid [] = Unit {0}
BeginsSolid (x ∷ xs) = is_whitespace x.char ≡ false

skip_none : (xs : List FlaggedChar) → BeginsSolid xs → skip_leading_whitespace (plain xs) ≡ plain xs
skip_none [] h = refl
skip_none (x ∷ xs) h = ap (λ t. cond t (skip_leading_whitespace (plain xs)) (x.char ∷ plain xs)) h

skip_white : (gap xs : List FlaggedChar) → AllWhite gap → BeginsSolid xs → skip_leading_whitespace (plain (gap ++ xs)) ≡ plain xs
skip_white [] xs white solid = skip_none xs solid
skip_white (g ∷ gap) xs white solid = ap (λ t. cond t (skip_leading_whitespace (plain (gap ++ xs))) (g.char ∷ plain (gap ++ xs))) white.0 ∙ skip_white gap xs white.1 solid

solid_by : (white code : Bool) → (white && not code) ≡ false → code ≡ false → white ≡ false
solid_by true true h e = cc
solid_by true false h e = cc
solid_by false code h e = refl

solid_text : (xs others : List FlaggedChar) → 0 < length xs → AllByRecursion (λ x. is_blank x ≡ false) xs → Unflagged xs → BeginsSolid (xs ++ others)
solid_text [] others some h plain = absurd (omega arith)
solid_text (x ∷ xs) others some h plain = solid_by (is_whitespace x.char) x.flags.code h.0 (ap (λ f. f.code) plain.0)

solid_token : (max : ℕ) (t : Token) (others : List FlaggedChar) → IsHonest max t → t.blank ≡ false → Unflagged (flagged_token t) → BeginsSolid (flagged_token t ++ others)
solid_token max t others h blank plain = solid_text (flagged_token t) others (some_flagged t h.within) (all_each (λ x. is_blank x ≡ t.blank) (λ x. is_blank x ≡ false) (λ x e. e ∙ blank) (flagged_token t) h.alike.alike) plain

-- ---- lines one after the other

-- Each line is a front of what is left of the characters; then the whitespace after it is dropped.
abbrev pub Fronts : List ℕ → List (List ℕ) → Type 0
Fronts text [] = Unit {0}
Fronts text (line ∷ lines) = (rest : List ℕ) × (text ≡ line ++ rest) × Fronts (skip_leading_whitespace rest) lines

-- the characters of a line's tokens
abbrev pub line_chars : LineAndGap Token → List ℕ
line_chars p = plain (tokens_text p.line)

text_parts : (p : LineAndGap Token) (after : List Token) → tokens_text (p.line ++ (p.gap ++ after)) ≡ tokens_text p.line ++ (tokens_text p.gap ++ tokens_text after)
text_parts p after = tokens_text-append p.line (p.gap ++ after) ∙ ap (λ l. tokens_text p.line ++ l) (tokens_text-append p.gap after)

-- the line after a gap begins with a token that isn't blank
next_solid : (max indent : ℕ) (r : Room) (p q : LineAndGap Token) (ps : List (LineAndGap Token)) → BeginsAfter indent r p q → AllByRecursion (IsHonest max) (lines_and_gaps (q ∷ ps)) → Unflagged (tokens_text (lines_and_gaps (q ∷ ps)))
    → BeginsSolid (tokens_text (lines_and_gaps (q ∷ ps)))
next_solid max indent r p q ps begins honest unflagged_text =
    let t = begins.first in
    let after = begins.others ++ (q.gap ++ lines_and_gaps ps) in
    let all : lines_and_gaps (q ∷ ps) ≡ t ∷ after = ap (λ (l : List Token). l ++ (q.gap ++ lines_and_gaps ps)) begins.begins in
    let h : IsHonest max t = (subst (AllByRecursion (IsHonest max)) all honest).0 in
    let u : Unflagged (flagged_token t ++ tokens_text after) = subst (λ l. Unflagged (tokens_text l)) all unflagged_text in
    subst (λ l. BeginsSolid (tokens_text l)) (sym all) (solid_token max t (tokens_text after) h begins.solid (all_front (λ x. x.flags ≡ unflagged) (flagged_token t) (tokens_text after) u))

fronts_of_break : (max indent : ℕ) (r : Room) (ps : List (LineAndGap Token)) → AllByRecursion (IsHonest max) (lines_and_gaps ps) → GapsForced indent r ps → LinesForced indent r ps → Unflagged (tokens_text (lines_and_gaps ps))
    → Fronts (plain (tokens_text (lines_and_gaps ps))) (map line_chars ps)
fronts_of_break max indent r [] honest gaps forced u = tt
fronts_of_break max indent r (p ∷ []) honest gaps forced u = (
  plain (tokens_text (p.gap ++ [])),
  ap plain (tokens_text-append p.line (p.gap ++ [])) ∙ plain-append (tokens_text p.line) (tokens_text (p.gap ++ [])),
  tt,
)
fronts_of_break max indent r (p ∷ q ∷ ps) honest gaps forced u =
    let after = lines_and_gaps (q ∷ ps) in
    let whole : Unflagged (tokens_text p.line ++ (tokens_text p.gap ++ tokens_text after)) = subst Unflagged (text_parts p after) u in
    let others : Unflagged (tokens_text after) = all_back (λ x. x.flags ≡ unflagged) (tokens_text p.gap) (tokens_text after) (all_back (λ x. x.flags ≡ unflagged) (tokens_text p.line) (tokens_text p.gap ++ tokens_text after) whole) in
    let behind = all_back (IsHonest max) p.line (p.gap ++ after) honest in
    let rest_honest : AllByRecursion (IsHonest max) after = all_back (IsHonest max) p.gap after behind in
    let white : AllWhite (tokens_text p.gap) = gap_is_white max p.gap gaps.0 (all_front (IsHonest max) p.gap after behind) in
    let solid : BeginsSolid (tokens_text after) = next_solid max indent r p q ps forced.0 rest_honest others in (
      plain (tokens_text p.gap ++ tokens_text after),
      ap plain (text_parts p after) ∙ plain-append (tokens_text p.line) (tokens_text p.gap ++ tokens_text after),
      subst (λ cs. Fronts cs (map line_chars (q ∷ ps))) (sym (skip_white (tokens_text p.gap) (tokens_text after) white solid)) (fronts_of_break max r.other r (q ∷ ps) rest_honest gaps.2 forced.1 others),
    )

-- ---- the lines of a wrap are such fronts

texts_of : (max : ℕ) (ps : List Compound) (ts : List Token) → map run_of ps ≡ map token_run ts → AllByRecursion (IsHonest max) ts → AreTexts ps
texts_of max [] ts e h = tt
texts_of max (p ∷ ps) [] e h = absurd (cc)
texts_of max (p ∷ ps) (t ∷ ts) e h =
    let head : run_of p ≡ token_run t = cc in
    let tail : map run_of ps ≡ map token_run ts = cc in
    (subst (λ (x : Run). IsUtf8 x.text) (sym head) h.0.within.utf8, texts_of max ps ts tail h.1)

-- what the lines of a break hold
record AreLines (breaks : List (LineAndGap Token)) (lines : List (List Compound)) : Type 0 where
  chars_are : map line_chars breaks ≡ map chars_of lines
  texts : AllByRecursion AreTexts lines

lines_are : (max : ℕ) (breaks : List (LineAndGap Token)) (lines : List (List Compound)) → map (λ p. map token_run p.line) breaks ≡ map runs_of lines → AllByRecursion (IsHonest max) (lines_and_gaps breaks) → AreLines breaks lines
lines_are max [] [] e h = record { chars_are = refl; texts = tt }
lines_are max [] (l ∷ ls) e h = absurd (cc)
lines_are max (p ∷ ps) [] e h = absurd (cc)
lines_are max (p ∷ ps) (l ∷ ls) e h =
    let head : map token_run p.line ≡ runs_of l = cc in
    let tail : map (λ q. map token_run q.line) ps ≡ map runs_of ls = cc in
    let more = lines_are max ps ls tail (all_back (IsHonest max) p.gap (lines_and_gaps ps) (all_back (IsHonest max) p.line (p.gap ++ lines_and_gaps ps) h)) in
    record {
      chars_are =
          ap (λ cs. cs ∷ map line_chars ps) (sym (sym (plain_of l) ∙ ap plain (text_of_runs l p.line (sym head))))
          ∙ ap (λ css. chars_of l ∷ css) more.chars_are;
      texts = (texts_of max l p.line (sym head) (all_front (IsHonest max) p.line (p.gap ++ lines_and_gaps ps) h), more.texts);
    }

with_texts : (text : List ℕ) (lines : List (List Compound)) → Fronts text (map chars_of lines) → AllByRecursion AreTexts lines → AreFronts text lines
with_texts text [] h texts = tt
with_texts text (l ∷ ls) h texts = (texts.0, (h.0, h.1, with_texts (skip_leading_whitespace h.0) ls h.2 texts.1))

-- the flagged text of a plain compound
source_text : (p : Compound) (line : List ℕ) → run_of p ≡ record { flags = unflagged; text = line } → flagged_text (p ∷ []) ≡ plain_text line
source_text p line e = append-nil (flagged_of p) ∙ ap (λ (r : Run). flagged r.flags (chars r.text)) e

-- each line of the wrap of a plain line is a front of what is left of it
pub wrap_fronts : (width : ℕ) (line : List ℕ) (p : Compound) (lines : List (List Compound)) → run_of p ≡ record { flags = unflagged; text = line } → IsWrap (plain_room width) (p ∷ []) lines → AreFronts (chars line) lines
wrap_fronts width line p lines plain_run h =
    let r = plain_room width in
    let ts = h.tokenized.tokens in
    let fit = (h.least ts h.tokenized.cut).first_fit refl in
    let breaks = fit.breaks in
    let covers : lines_and_gaps breaks ≡ ts = fit.first_fit.placing.covers in
    let honest : AllByRecursion (IsHonest (token_limit r)) (lines_and_gaps breaks) = subst (AllByRecursion (IsHonest (token_limit r))) (sym covers) (all_honest (token_limit r) (p ∷ []) ts h.tokenized.cut) in
    let text : tokens_text (lines_and_gaps breaks) ≡ flagged unflagged (chars line) = ap tokens_text covers ∙ text_of_all (token_limit r) (p ∷ []) ts h.tokenized.cut ∙ source_text p line plain_run in
    let u : Unflagged (tokens_text (lines_and_gaps breaks)) = subst Unflagged (sym text) (unflagged_chars (chars line)) in
    let held : AreLines breaks lines = lines_are (token_limit r) breaks lines fit.runs_are honest in
    let fronts : Fronts (plain (tokens_text (lines_and_gaps breaks))) (map line_chars breaks) = fronts_of_break (token_limit r) 0 r breaks honest fit.first_fit.placing.gaps fit.first_fit.forced u in
    with_texts (chars line) lines
    (subst (λ css. Fronts (chars line) css) held.chars_are (subst (λ cs. Fronts cs (map line_chars breaks)) (ap plain text ∙ plain-flagged unflagged (chars line)) fronts))
    held.texts

-- ---- a wrapped line

keeps_unflagged : (text : List FlaggedChar) (lines : List (List FlaggedChar)) → Keeps text lines → Unflagged text → AllByRecursion Unflagged lines
keeps_unflagged text [] h u = tt
keeps_unflagged text (l ∷ ls) h u =
    let whole : Unflagged (l ++ (h.0 ++ h.1)) = subst Unflagged h.2 u in
    let after = all_back (λ x. x.flags ≡ unflagged) l (h.0 ++ h.1) whole in
    (all_front (λ x. x.flags ≡ unflagged) l (h.0 ++ h.1) whole, keeps_unflagged h.1 ls h.4 (all_back (λ x. x.flags ≡ unflagged) h.0 h.1 after))

plain_lines : (lines : List (List Compound)) → AllByRecursion Unflagged (map flagged_text lines) → map flagged_text lines ≡ map (flagged unflagged) (map chars_of lines)
plain_lines [] h = refl
plain_lines (l ∷ ls) h =
    ap (λ xs. xs ∷ map flagged_text ls) (flagged-plain (flagged_text l) h.0 ∙ ap (flagged unflagged) (plain_of l)) ∙ ap (λ xss. flagged unflagged (chars_of l) ∷ xss) (plain_lines ls h.1)

own_plain : (own : List (List ℕ)) → map (flagged unflagged) (map chars own) ≡ map plain_text own
own_plain [] = refl
own_plain (o ∷ os) = ap (λ xss. plain_text o ∷ xss) (own_plain os)

room_each : (width : ℕ) (cs : List ℕ) → AllByRecursion (λ c. char_columns c ≤ width) cs → AllByRecursion (λ x. 0 + char_columns x.char ≤ width) (flagged unflagged cs)
room_each width [] h = tt
room_each width (c ∷ cs) h = (omega (arith, h.0), room_each width cs h.1)

lines_fit : (width : ℕ) (own : List (List ℕ)) → LinesFit 0 (plain_room width) (map plain_text own) → AllByRecursion (λ l. columns (chars l) ≤ width) own
lines_fit width [] h = tt
lines_fit width (o ∷ os) h = (omega (arith, h.0, width_of-flagged unflagged (chars o)), lines_fit width os h.1)

-- lines with the characters of such a wrap are the wrap of a plain line
pub line_wrapped : (width : ℕ) (line : List ℕ) (p : Compound) (lines : List (List Compound)) (own : List (List ℕ)) → run_of p ≡ record { flags = unflagged; text = line } → width < columns (chars line)
    → IsWrap (plain_room width) (p ∷ []) lines → map chars own ≡ map chars_of lines → IsPlainWrap width line own
line_wrapped width line p lines own plain_run wider h same =
    let r = plain_room width in
    let source : flagged_text (p ∷ []) ≡ plain_text line = source_text p line plain_run in
    let u : AllByRecursion Unflagged (map flagged_text lines) = keeps_unflagged (flagged_text (p ∷ [])) (map flagged_text lines) h.keeps (subst Unflagged (sym source) (unflagged_chars (chars line))) in
    let texts : map flagged_text lines ≡ map plain_text own = plain_lines lines u ∙ ap (map (flagged unflagged)) (sym same) ∙ own_plain own in
    let count : length own ≡ length lines = omega (arith, ap length same, length-map own chars, length-map lines chars_of) in
    record {
      source = p;
      plain = plain_run;
      keeps = subst (λ ls. Keeps (plain_text line) ls) texts (subst (λ t. Keeps t (map flagged_text lines)) source h.keeps);
      fits = λ each. lines_fit width own (subst (LinesFit 0 r) texts (h.fits (record { indent = omega arith; each = subst (AllByRecursion (λ x. 0 + char_columns x.char ≤ width)) (sym source) (room_each width (chars line) each) })));
      least = λ ts tokens breaks trimming. let few : length lines ≤ length breaks = (h.least ts tokens).least_trimming refl breaks trimming in omega (arith, few, count);
      stays = λ fits. absurd (omega (arith, wider, fits));
      wrapped = λ _. (lines, h, texts);
    }

-- a line that fits
pub line_stays : (width : ℕ) (line : List ℕ) (p : Compound) → run_of p ≡ record { flags = unflagged; text = line } → columns (chars line) ≤ width → IsPlainWrap width line (line ∷ [])
line_stays width line p plain_run within = record {
  source = p;
  plain = plain_run;
  keeps = ([], [], sym (append-nil (plain_text line)), tt, refl);
  fits = λ _. (within, tt);
  least = λ ts tokens breaks trimming. trimming.some_line;
  stays = λ _. refl;
  wrapped = λ wider. absurd (omega (arith, wider, within));
}

-- ---- cutting the slices

scalars_by : (c : ℕ) (cs : List ℕ) (white : Bool) → scalars (c ∷ cs) ≡ true → scalars (skip_leading_whitespace cs) ≡ true → scalars (cond white (skip_leading_whitespace cs) (c ∷ cs)) ≡ true
scalars_by c cs true all rest = rest
scalars_by c cs false all rest = all

scalars_skipped : (cs : List ℕ) → scalars cs ≡ true → scalars (skip_leading_whitespace cs) ≡ true
scalars_skipped [] h = refl
scalars_skipped (c ∷ cs) h = scalars_by c cs (is_whitespace c) h (scalars_skipped cs (and_parts (scalar c) (scalars cs) h).1)

chars_trimmed : (bs : List ℕ) → IsUtf8 bs → chars (trim_start bs) ≡ skip_leading_whitespace (chars bs)
unfolding trim_start
chars_trimmed bs utf8 = chars-encodes (skip_leading_whitespace (chars bs)) (scalars_skipped (chars bs) (scalars-chars bs utf8))

-- the first of the lines is a front of the text
pub first_front : (text : List ℕ) (line : List Compound) (lines : List (List Compound)) → AreFronts text (line ∷ lines) → IsFront text line
first_front text line lines h = record { texts = h.0; rest = h.1.0; parts = h.1.1 }

-- the others are fronts of what is left after it, without whitespace in front
pub next_fronts : (text front after trimmed : List ℕ) (line : List Compound) (lines : List (List Compound)) → AreFronts (chars text) (line ∷ lines) → chars front ≡ chars_of line → chars text ≡ chars front ++ chars after → IsUtf8 after → trimmed ≡ trim_start after
    → AreFronts (chars trimmed) lines
next_fronts text front after trimmed line lines h front_is parts utf8 is =
    let left : h.1.0 ≡ chars after = append_cancel_left (chars_of line) h.1.0 (chars after) (sym h.1.1 ∙ parts ∙ ap (λ cs. cs ++ chars after) front_is) in
    subst (λ cs. AreFronts cs lines) (ap skip_leading_whitespace left ∙ sym (ap chars is ∙ chars_trimmed after utf8)) h.1.2

-- The compounds `ps` of `all` are still to be cut off, at the front of `after`; `front` is what was cut off.
pub record FrontCut (text after : List ℕ) (ps all : List Compound) : Type 0 where
  pub utf8 : IsUtf8 after
  pub texts : AreTexts ps
  pub rest : List ℕ
  pub left : chars after ≡ chars_of ps ++ rest
  pub front : List ℕ
  pub parts : text ≡ front ++ after
  pub front_utf8 : IsUtf8 front
  pub said : chars front ++ chars_of ps ≡ chars_of all

-- at first all compounds are still to be cut off
pub cut_none : (text : List ℕ) (all : List Compound) → IsUtf8 text → IsFront (chars text) all → FrontCut text text all all
cut_none text all utf8 h = record { utf8 = utf8; texts = h.texts; rest = h.rest; left = h.parts; front = []; parts = refl; front_utf8 = IsUtf8-nil; said = ap (λ cs. cs ++ chars_of all) chars-nil }

scalars_back : (cs ds : List ℕ) → scalars (cs ++ ds) ≡ true → scalars ds ≡ true
scalars_back [] ds h = h
scalars_back (c ∷ cs) ds h = scalars_back cs ds (and_parts (scalar c) (scalars (cs ++ ds)) h).1

-- the bytes that a compound is, and those after it
record IsCutOff (after own more : List ℕ) : Type 0 where
  parts : after ≡ own ++ encode_utf8_all more
  utf8 : IsUtf8 (encode_utf8_all more)
  chars_are : chars (encode_utf8_all more) ≡ more

cut_off : (after own more : List ℕ) → IsUtf8 after → IsUtf8 own → chars after ≡ chars own ++ more → IsCutOff after own more
cut_off after own more utf8 own_utf8 e =
    let all : scalars more ≡ true = scalars_back (chars own) more (sym (ap scalars e) ∙ scalars-chars after utf8) in
    record {
      parts = sym (encodes-chars after utf8) ∙ ap encode_utf8_all e ∙ encodes-append (chars own) more ∙ ap (λ (bs : List ℕ). bs ++ encode_utf8_all more) (encodes-chars own own_utf8);
      utf8 = (more, (all, refl));
      chars_are = chars-encodes more all;
    }

off_of : (text after : List ℕ) (p : Compound) (ps all : List Compound) (h : FrontCut text after (p ∷ ps) all) → IsCutOff after p.src.now (chars_of ps ++ h.rest)
off_of text after p ps all h = cut_off after p.src.now (chars_of ps ++ h.rest) h.utf8 h.texts.0 (h.left ∙ append_assoc (chars p.src.now) (chars_of ps) h.rest)

-- the next compound ends on the border of a character
pub cut_border : (text after : List ℕ) (p : Compound) (ps all : List Compound) → FrontCut text after (p ∷ ps) all → IsCharBoundary after (length p.src.now)
cut_border text after p ps all h = let off = off_of text after p ps all h in IsCharBoundary-at_seam after p.src.now (encode_utf8_all (chars_of ps ++ h.rest)) off.parts off.utf8

-- the next compound is cut off
pub cut_more : (text after next : List ℕ) (p : Compound) (ps all : List Compound) → FrontCut text after (p ∷ ps) all → next ≡ drop (length p.src.now) after → FrontCut text next ps all
cut_more text after next p ps all h is =
    let off = off_of text after p ps all h in
    let more : List ℕ = encode_utf8_all (chars_of ps ++ h.rest) in
    let next_is : next ≡ more = is ∙ ap (drop (length p.src.now)) off.parts ∙ drop-append_seam p.src.now more in
    record {
      utf8 = subst IsUtf8 (sym next_is) off.utf8;
      texts = h.texts.1;
      rest = h.rest;
      left = ap chars next_is ∙ off.chars_are;
      front = h.front ++ p.src.now;
      parts = h.parts ∙ ap (λ (bs : List ℕ). h.front ++ bs) (off.parts ∙ ap (λ (bs : List ℕ). p.src.now ++ bs) (sym next_is)) ∙ sym (append_assoc h.front p.src.now next);
      front_utf8 = IsUtf8-append h.front p.src.now h.front_utf8 h.texts.0;
      said = ap (λ cs. cs ++ chars_of ps) (chars-append h.front p.src.now h.front_utf8) ∙ append_assoc (chars h.front) (chars p.src.now) (chars_of ps) ∙ h.said;
    }

-- the text is cut at this byte
pub record IsCutAt (text after : List ℕ) (at : ℕ) (all : List Compound) : Type 0 where
  pub border : IsCharBoundary text at
  pub front : chars (take at text) ≡ chars_of all
  pub back : chars text ≡ chars (take at text) ++ chars (drop at text)

-- where none is left, the text is cut behind them
pub cut_all : (text after : List ℕ) (ps all : List Compound) (at : ℕ) → FrontCut text after ps all → ps ≡ [] → at ≡ length text - length after → IsCutAt text after at all
cut_all text after ps all at h none is =
    let counts : at ≡ length h.front = omega (arith, is, ap length h.parts, length-append h.front after) in
    let front : take at text ≡ h.front = ap (λ n. take n text) counts ∙ ap (take (length h.front)) h.parts ∙ take-append_seam h.front after in
    let back : drop at text ≡ after = ap (λ n. drop n text) counts ∙ ap (drop (length h.front)) h.parts ∙ drop-append_seam h.front after in
    record {
      border = subst (IsCharBoundary text) (sym counts) (IsCharBoundary-at_seam text h.front after h.parts h.utf8);
      front = ap chars front ∙ sym (append-nil (chars h.front)) ∙ ap (λ qs. chars h.front ++ chars_of qs) (sym none) ∙ h.said;
      back = ap chars h.parts ∙ chars-append h.front after h.front_utf8 ∙ ap (λ (bs : List ℕ). chars bs ++ chars after) (sym front) ∙ ap (λ (bs : List ℕ). chars (take at text) ++ chars bs) (sym back);
    }

-- ---- the lines of a text

-- The text is cut into lines, of which these are left; `done` is what became of those before them.
pub record ArePartsLeft (width : ℕ) (text : List ℕ) (left : List Line) (done : List (List ℕ)) : Type 0 where
  pub parts : List (List ℕ)
  pub cut : AreParts text parts
  pub spans : List LineSpan
  pub left_are : map content_of left ≡ map (raw_line text) spans
  pub so_far : (more : List (List ℕ)) → EachBecomes (λ span. IsPlainWrap width (line_text text span)) spans more → EachBecomes (λ span. IsPlainWrap width (line_text text span)) (line_spans parts) (done ++ more)

-- at first all lines of a text are left
pub parts_none : (width : ℕ) (text : List ℕ) (raw : Text) → IsReadRaw text raw → ArePartsLeft width text raw.lines.items []
parts_none width text raw h = record { parts = h.parts; cut = h.cut; spans = line_spans h.parts; left_are = h.each h.parts h.cut; so_far = λ more each. each }

-- one line more is wrapped
pub parts_more : (width : ℕ) (text : List ℕ) (part : Line) (left : List Line) (done new own : List (List ℕ)) → ArePartsLeft width text (part ∷ left) done
    → ((line : List ℕ) → content_of part ≡ unflagged_line line → IsPlainWrap width line own) → new ≡ done ++ own → ArePartsLeft width text left new
parts_more width text part left done new own h becomes is = by h.spans h.left_are h.so_far
  where
    Becomes : LineSpan → List (List ℕ) → Type 0
    Becomes span = IsPlainWrap width (line_text text span)

    by : (spans : List LineSpan) → map content_of (part ∷ left) ≡ map (raw_line text) spans → ((more : List (List ℕ)) → EachBecomes Becomes spans more → EachBecomes Becomes (line_spans h.parts) (done ++ more)) → ArePartsLeft width text left new
    by [] e so_far = absurd (cc)
    by (span ∷ spans) e so_far =
        let head : content_of part ≡ raw_line text span = cc in
        let tail : map content_of left ≡ map (raw_line text) spans = cc in
        record {
          parts = h.parts;
          cut = h.cut;
          spans = spans;
          left_are = tail;
          so_far = λ more each. subst (EachBecomes Becomes (line_spans h.parts)) (sym (append_assoc done own more) ∙ ap (λ (ls : List (List ℕ)). ls ++ more) (sym is)) (so_far (own ++ more) (own, more, refl, becomes (line_text text span) head, each));
        }

-- where none is left, the text is wrapped
pub parts_all : (width : ℕ) (text : List ℕ) (left : List Line) (done : List (List ℕ)) → ArePartsLeft width text left done → left ≡ [] → IsTextWrap width text done
parts_all width text left done h none = record { parts = h.parts; cut = h.cut; each = subst (EachBecomes Becomes (line_spans h.parts)) (append-nil done) (by h.spans (sym h.left_are ∙ ap (map content_of) none) h.so_far) }
  where
    Becomes : LineSpan → List (List ℕ) → Type 0
    Becomes span = IsPlainWrap width (line_text text span)

    by : (spans : List LineSpan) → map (raw_line text) spans ≡ [] → ((more : List (List ℕ)) → EachBecomes Becomes spans more → EachBecomes Becomes (line_spans h.parts) (done ++ more)) → EachBecomes Becomes (line_spans h.parts) (done ++ [])
    by [] e so_far = so_far [] refl
    by (span ∷ spans) e so_far = absurd (cc)

-- ---- the steps of the loops

fits_by : (o : Option ℕ) (all most : ℕ) → MatchOption o (most < all) (λ n. (n ≡ all) × (n ≤ most)) → is_some o ≡ true → all ≤ most
fits_by None all most h e = absurd (cc)
fits_by (Some n) all most h e = omega (arith, h.0, h.1)

wider_by : (o : Option ℕ) (all most : ℕ) → MatchOption o (most < all) (λ n. (n ≡ all) × (n ≤ most)) → is_some o ≡ false → most < all
wider_by None all most h e = h
wider_by (Some n) all most h e = absurd (cc)

-- columns that were counted are within the most
pub fits_within : (o : Option ℕ) (all most : ℕ) (b : Bool) → MatchOption o (most < all) (λ n. (n ≡ all) × (n ≤ most)) → b ≡ is_some o → b ≡ true → all ≤ most
fits_within o all most b h is e = fits_by o all most h (sym is ∙ e)

-- where they weren't, there are more
pub is_wider : (o : Option ℕ) (all most : ℕ) (b : Bool) → MatchOption o (most < all) (λ n. (n ≡ all) × (n ≤ most)) → b ≡ is_some o → b ≡ false → most < all
is_wider o all most b h is e = wider_by o all most h (sym is ∙ e)

-- a plain compound that is wider than a line is
pub source_wider : (width : ℕ) (p : Compound) (line : List ℕ) → run_of p ≡ record { flags = unflagged; text = line } → width < columns (chars line) → width < 0 + width_of (flagged_text (p ∷ []))
source_wider width p line plain_run wider = omega (arith, wider, ap width_of (source_text p line plain_run), width_of-flagged unflagged (chars line))

-- the loop over the compounds of a line
at_index : (text after : List ℕ) (all : List Compound) (i : ℕ) (d : Compound) → i < length all → FrontCut text after (drop i all) all → FrontCut text after (get_or all i d ∷ drop (i + 1) all) all
at_index text after all i d inside h = subst (λ (qs : List Compound). FrontCut text after qs all) (at_drop_more (λ l. l) all i d inside) h

-- the compound of the next index ends on the border of a character
pub border_at : (text after : List ℕ) (all : List Compound) (i : ℕ) (d : Compound) → i < length all → FrontCut text after (drop i all) all → IsCharBoundary after (length (get_or all i d).src.now)
border_at text after all i d inside h = cut_border text after (get_or all i d) (drop (i + 1) all) all (at_index text after all i d inside h)

-- the compound of the next index is cut off
pub cut_at : (text after next : List ℕ) (all : List Compound) (i : ℕ) (d : Compound) → i < length all → FrontCut text after (drop i all) all → next ≡ drop (length (get_or all i d).src.now) after → FrontCut text next (drop (i + 1) all) all
cut_at text after next all i d inside h is = cut_more text after next (get_or all i d) (drop (i + 1) all) all (at_index text after all i d inside h) is

-- past the last index the text is cut behind all compounds
pub cut_end : (text after : List ℕ) (all : List Compound) (i : ℕ) → length all ≤ i → FrontCut text after (drop i all) all → IsCutAt text after (length text - length after) all
cut_end text after all i past h = cut_all text after (drop i all) all (length text - length after) h (at_drop_all (λ l. l) all i past) refl

-- the loop over the lines of a text
pub part_more : (width : ℕ) (text : List ℕ) (parts : List Line) (i : ℕ) (d : Line) (done new own : List (List ℕ)) → i < length parts → ArePartsLeft width text (drop i parts) done
    → ((line : List ℕ) → content_of (get_or parts i d) ≡ unflagged_line line → IsPlainWrap width line own) → new ≡ done ++ own → ArePartsLeft width text (drop (i + 1) parts) new
part_more width text parts i d done new own inside h becomes is =
    parts_more width text (get_or parts i d) (drop (i + 1) parts) done new own (subst (λ (ls : List Line). ArePartsLeft width text ls done) (at_drop_more (λ l. l) parts i d inside) h) becomes is

-- past the last index the text is wrapped
pub part_none : (width : ℕ) (text : List ℕ) (parts : List Line) (i : ℕ) (done : List (List ℕ)) → length parts ≤ i → ArePartsLeft width text (drop i parts) done → IsTextWrap width text done
part_none width text parts i done past h = parts_all width text (drop i parts) done h (at_drop_all (λ l. l) parts i past)

-- one more line is a slice
pub said_more : (own : List (List ℕ)) (front : List ℕ) (line : List Compound) (lines : List (List Compound)) (all : List (List ℕ)) → chars front ≡ chars_of line → map chars own ++ map chars_of (line ∷ lines) ≡ all
    → map chars (own ++ front ∷ []) ++ map chars_of lines ≡ all
said_more own front line lines all front_is h =
    ap (λ css. css ++ map chars_of lines) (map-append chars own (front ∷ [])) ∙ append_assoc (map chars own) (chars front ∷ []) (map chars_of lines) ∙ ap (λ cs. map chars own ++ cs ∷ map chars_of lines) front_is ∙ h

-- one more borrowed line is one more of their bytes
pub lines_push : (before new : List (Bor (List ℕ))) (line : Bor (List ℕ)) → new ≡ before ++ line ∷ [] → map (λ (l : Bor (List ℕ)). l.now) new ≡ map (λ (l : Bor (List ℕ)). l.now) before ++ line.now ∷ []
lines_push before new line e = ap (map (λ (l : Bor (List ℕ)). l.now)) e ∙ map-append (λ (l : Bor (List ℕ)). l.now) before (line ∷ [])

-- the slices of a wrap are the wrapped line
pub pushed_wrapped : {T E : Type 0} (width : ℕ) (line : List ℕ) (p : Compound) (lines : List (List Compound)) (before new : List (List ℕ)) (r : Result T E) → run_of p ≡ record { flags = unflagged; text = line } → width < columns (chars line)
    → IsWrap (plain_room width) (p ∷ []) lines → OnOk r ((own : List (List ℕ)) × (new ≡ before ++ own) × (map chars own ≡ map chars_of lines)) → OnOk r ((own : List (List ℕ)) × (new ≡ before ++ own) × IsPlainWrap width line own)
pushed_wrapped width line p lines before new (Ok x) plain_run wider wrap (own, joins, same) = (own, joins, line_wrapped width line p lines own plain_run wider wrap same)
pushed_wrapped width line p lines before new (Err e) plain_run wider wrap h = h

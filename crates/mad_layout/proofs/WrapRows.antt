-- The rows of a line that is wrapped, and of one that stays.
use Rattle.std.proofs.Common.{◌≡◌, ℕ, ◌+◌, ◌<◌, ◌≤◌, Bool, true, false, not, ◌&&◌, List, [], ◌∷◌, ◌++◌, map, length, chars, Option, Some, None, if◌then◌else◌, refl, ap, sym, ◌∙◌, subst, arith}
use Rattle.std.specs.Prelude.{is_some}
use Rattle.std.specs.List.{AllByRecursion}
use Rattle.std.specs.Char.{is_whitespace}
use Rattle.std.proofs.lemmas.Bool.{and_parts}
use Rattle.std.proofs.lemmas.List.{append-nil, length-map}
use Rattle.std.proofs.lemmas.Str.{chars-nil}
use Rattle.mad_wrap.proofs.CutLemmas.{white_flagged}
use Rattle.mad_md.specs.Flagged.{FlaggedChar, Flags, is_blank, flagged, run_of, flags_of, flagged_of, flagged_text}
use Rattle.mad_md.specs.declared.compound.Compound.{Compound}
use Rattle.mad_measure.specs.TextColumns.{width_of}
use Rattle.mad_measure.specs.Tokens.{flagged_token, token_run, tokens_text, AreTokensOf}
use Rattle.mad_measure.specs.declared.tokens.Token.{Token}
use Rattle.mad_measure.proofs.AllLemmas.{all_front, all_back, all_joined}
use Rattle.mad_measure.proofs.TokenTexts.{IsHonest, all_honest}
use Rattle.mad_wrap.specs.Breaks.{LineAndGap, lines_and_gaps, AllBlank}
use Rattle.mad_wrap.specs.CleanCut.{clean_cut, drops_middle, is_white, both_fit}
use Rattle.mad_wrap.specs.Keeps.{Keeps, AllWhite}
use Rattle.mad_wrap.specs.LeastWords.{ArePieceFit, IsWordWrap, IsWrapBy, IsWrapOf}
use Rattle.mad_wrap.specs.LeastWrap.{IsWrap}
use Rattle.mad_wrap.specs.Placings.{GapsForced, ArePlaced}
use Rattle.mad_wrap.specs.Rooms.{token_limit}
use Rattle.mad_wrap.specs.Words.{pieces_of, token_break}
use Rattle.mad_wrap.specs.WrapLines.{runs_of, HasRoom, NoneEmpty}
use Rattle.mad_wrap.specs.declared.room.Room.{Room}
use Rattle.mad_wrap.proofs.WordLemmas.{IsLone, pieces_lone, token_gaps, length-piece_break}
use Rattle.mad_layout.specs.FlaggedRows.{whole, tokens_from, pieces_of_line, AreBroken, AreRowsOf}
use Rattle.mad_layout.specs.Premises.{runs_text}
use Rattle.mad_layout.proofs.DrawnParts.{runs_are}
use Rattle.mad_layout.proofs.FlaggedBreaks.{break_lifts, flagged_piece, joined_by, token_pieces}
use Rattle.mad_layout.proofs.FlaggedPieces.{piece_text, text_piece, pieces_agree, same_lines, gaps_over, covers_tokens, words_lift}
use Rattle.mad_layout.proofs.FlaggedTokens.{tokens_agree}
use Rattle.mad_blocks.proofs.LayoutJoins.{by_bool}
use Rattle.mad_layout.proofs.RowsExist.{line_text, IsSome, WhiteGaps, whole_some, whole_tokens, whole_pieces}

-- the flagged texts of compounds are together their flagged text
pub whole_parts : (ps : List Compound) → whole (map flagged_of ps) ≡ flagged_text ps
whole_parts [] = refl
whole_parts (p ∷ ps) = ap (λ l. flagged_of p ++ l) (whole_parts ps)

-- ---- where they break

tokens_whole : (ts : List Token) → whole (map flagged_token ts) ≡ tokens_text ts
tokens_whole [] = refl
tokens_whole (t ∷ ts) = ap (λ l. flagged_token t ++ l) (tokens_whole ts)

flagged_lines : (qs : List (LineAndGap Token)) → map line_text (map flagged_piece qs) ≡ map (λ (p : LineAndGap Token). tokens_text p.line) qs
flagged_lines [] = refl
flagged_lines (q ∷ qs) = ap (λ l. l ∷ map line_text (map flagged_piece qs)) (tokens_whole q.line) ∙ ap (λ l. tokens_text q.line ∷ l) (flagged_lines qs)

white_char : (x : FlaggedChar) (b : Bool) → is_blank x ≡ b → b ≡ true → is_whitespace x.char ≡ true
white_char x b e on = (and_parts (is_whitespace x.char) (not x.flags.code) (e ∙ on)).0

white_chars : (b : Bool) (xs : List FlaggedChar) → AllByRecursion (λ x. is_blank x ≡ b) xs → b ≡ true → AllWhite xs
white_chars b [] alike on = tt
white_chars b (x ∷ xs) alike on = (white_char x b alike.0 on, white_chars b xs alike.1 on)

white_tokens : (max : ℕ) (ts : List Token) → AllByRecursion (IsHonest max) ts → AllBlank ts → AllWhite (whole (map flagged_token ts))
white_tokens max [] honest blank = tt
white_tokens max (t ∷ ts) honest blank =
    all_joined (λ (x : FlaggedChar). is_whitespace x.char ≡ true) (flagged_token t) (whole (map flagged_token ts)) (white_chars t.blank (flagged_token t) honest.0.alike.alike blank.0) (white_tokens max ts honest.1 blank.1)

white_gaps : (max indent : ℕ) (r : Room) (qs : List (LineAndGap Token)) → AllByRecursion (IsHonest max) (lines_and_gaps qs) → GapsForced indent r qs → WhiteGaps (map flagged_piece qs)
white_gaps max indent r [] honest gaps = tt
white_gaps max indent r (q ∷ qs) honest gaps =
    let later = all_back (IsHonest max) q.line (q.gap ++ lines_and_gaps qs) honest in
    (white_tokens max q.gap (all_front (IsHonest max) q.gap (lines_and_gaps qs) later) gaps.0, white_gaps max r.other r qs (all_back (IsHonest max) q.gap (lines_and_gaps qs) later) gaps.2)

-- a placing is broken at tokens
placed_broken : (r : Room) (ps : List Compound) (ts : List Token) (rows : List (List FlaggedChar)) → r.whole_words ≡ false → AreTokensOf (token_limit r) ps ts → ArePlaced r ts rows → AreBroken r (map flagged_of ps) rows
placed_broken r ps ts rows off cut placed = record {
  breaks = map flagged_piece placed.breaks;
  some = omega (arith, placed.placing.some_line, length-map placed.breaks flagged_piece);
  covers = joined_by flagged_token placed.breaks ∙ ap (map flagged_token) placed.placing.covers ∙ tokens_agree r ps ts cut ∙ sym (token_pieces r (map flagged_of ps) off);
  rows_are = flagged_lines placed.breaks ∙ placed.texts_are;
  dropped = white_gaps (token_limit r) r.first r placed.breaks (subst (AllByRecursion (IsHonest (token_limit r))) (sym placed.placing.covers) (all_honest (token_limit r) ps ts cut)) placed.placing.gaps;
}

texts_are : (lines : List (List Compound)) → map flagged_text lines ≡ map runs_text (map runs_of lines)
texts_are [] = refl
texts_are (l ∷ ls) = ap (λ t. t ∷ map flagged_text ls) (sym (runs_are l)) ∙ ap (λ ts. runs_text (runs_of l) ∷ ts) (texts_are ls)

-- where words stay whole, the lines of a first fit of the pieces are broken between these
tokens_run : (ts : List Token) → runs_text (map token_run ts) ≡ tokens_text ts
tokens_run [] = refl
tokens_run (t ∷ ts) = ap (λ l. flagged_token t ++ l) (tokens_run ts)

runs_lines : (qs : List (LineAndGap Token)) → map runs_text (map (λ (p : LineAndGap Token). map token_run p.line) qs) ≡ map (λ (p : LineAndGap Token). tokens_text p.line) qs
runs_lines [] = refl
runs_lines (q ∷ qs) = ap (λ l. l ∷ map runs_text (map (λ (p : LineAndGap Token). map token_run p.line) qs)) (tokens_run q.line) ∙ ap (λ l. tokens_text q.line ∷ l) (runs_lines qs)

words_broken : (r : Room) (ps : List Compound) (ts : List Token) (lines : List (List Compound)) → r.whole_words ≡ true → AreTokensOf (token_limit r) ps ts → ArePieceFit r (pieces_of (token_limit r) ts) (map runs_of lines)
    → AreBroken r (map flagged_of ps) (map flagged_text lines)
words_broken r ps ts lines on cut fit =
    let max : ℕ = token_limit r in
    let qs = fit.breaks in
    let covers : lines_and_gaps (token_break qs) ≡ ts = covers_tokens max ts qs fit.covers in
    let gaps = token_gaps r.first r qs (subst (AllByRecursion IsLone) (sym fit.covers) (pieces_lone max ts)) fit.first_fit.placing.gaps in
    record {
      breaks = map text_piece qs;
      some = omega (arith, fit.first_fit.placing.some_line, length-piece_break qs, length-map qs text_piece);
      covers = joined_by piece_text qs ∙ ap (map piece_text) fit.covers ∙ pieces_agree r ps ts on cut;
      rows_are = sym (same_lines qs) ∙ flagged_lines (token_break qs) ∙ sym (runs_lines (token_break qs)) ∙ ap (map runs_text) fit.runs_are ∙ sym (texts_are lines);
      dropped = gaps_over AllWhite qs (white_gaps max r.first r (token_break qs) (subst (AllByRecursion (IsHonest max)) (sym covers) (all_honest max ps ts cut)) gaps);
    }

-- two lines of a compound each, with a middle of whitespace
two_broken : (r : Room) (front middle back : Compound) (lines : List (List Compound)) → r.whole_words ≡ false → AllWhite (flagged_of middle) → map runs_of lines ≡ (run_of front ∷ []) ∷ (run_of back ∷ []) ∷ []
    → AreBroken r (map flagged_of (front ∷ middle ∷ back ∷ [])) (map flagged_text lines)
two_broken r front middle back lines off white two =
    let limit : ℕ = token_limit r in
    let cut : Compound → List (List FlaggedChar) = λ p. tokens_from limit [] (flagged_of p) in
    record {
      breaks = record { line = cut front; gap = cut middle } ∷ record { line = cut back; gap = [] } ∷ [];
      some = omega arith;
      covers = sym (token_pieces r (map flagged_of (front ∷ middle ∷ back ∷ [])) off);
      rows_are = ap (λ l. l ∷ whole (cut back) ∷ []) (whole_tokens limit [] (flagged_of front) ∙ sym (append-nil (flagged_of front)))
          ∙ ap (λ l. (flagged_of front ++ []) ∷ l ∷ []) (whole_tokens limit [] (flagged_of back) ∙ sym (append-nil (flagged_of back)))
          ∙ sym (texts_are lines ∙ ap (map runs_text) two);
      dropped = (subst AllWhite (sym (whole_tokens limit [] (flagged_of middle))) white, (tt, tt));
    }

abbrev chosen : Bool → Compound → Compound → Option (Compound × Compound)
chosen b front back = if b then Some (front, back) else None

-- where a clean cut drops a middle
cut_broken : (r : Room) (ps : List Compound) (lines : List (List Compound)) → r.whole_words ≡ false → drops_middle r ps ≡ true
    → ((front back : Compound) → clean_cut r ps ≡ Some (front, back) → map runs_of lines ≡ (run_of front ∷ []) ∷ (run_of back ∷ []) ∷ []) → AreBroken r (map flagged_of ps) (map flagged_text lines)
cut_broken r (front ∷ middle ∷ back ∷ []) lines parted clean two =
    by_bool (λ b. (is_white middle && both_fit r front back) ≡ b → is_some (chosen b front back) ≡ true → ((f k : Compound) → chosen b front back ≡ Some (f, k) → map runs_of lines ≡ (run_of f ∷ []) ∷ (run_of k ∷ []) ∷ [])
    → AreBroken r (map flagged_of (front ∷ middle ∷ back ∷ [])) (map flagged_text lines)) (is_white middle && both_fit r front back)
    (λ on e c two. two_broken r front middle back lines parted (white_flagged (flags_of middle) (chars middle.src.now) (and_parts (is_white middle) (both_fit r front back) on).0) (two front back refl))
    (λ off e c two. absurd (cc)) refl clean two
cut_broken r _ lines parted clean two = absurd (cc)

-- ---- none is empty

some_source : (f : Flags) (t : List ℕ) → 0 < length (flagged f (chars t)) → 0 < length t
some_source f [] h = absurd (omega (arith, h, ap (λ cs. length (flagged f cs)) chars-nil))
some_source f (c ∷ cs) h = omega arith

none_empty : (ps : List Compound) → AllByRecursion IsSome (map flagged_of ps) → NoneEmpty ps
none_empty [] h = tt
none_empty (p ∷ ps) h = (some_source (flags_of p) p.src.now h.0, none_empty ps h.1)

filled_lines : (lines : List (List Compound)) → AllByRecursion (λ l. 0 < length (flagged_text l)) lines → AllByRecursion IsSome (map flagged_text lines)
filled_lines [] h = tt
filled_lines (l ∷ ls) h = (h.0, filled_lines ls h.1)

-- ---- their rows

-- a line that fits is its one row
pub kept_rows : (r : Room) (text : List FlaggedChar) (parts : List (List FlaggedChar)) → whole parts ≡ text → r.first + width_of text ≤ r.width → AreRowsOf r parts (text ∷ [])
kept_rows r text parts same fits = record {
  keeps = ([], [], same ∙ sym (append-nil text), tt, refl);
  broken = record {
    breaks = record { line = pieces_of_line r parts; gap = [] } ∷ [];
    some = omega arith;
    covers = append-nil (pieces_of_line r parts);
    rows_are = ap (λ l. l ∷ []) (whole_pieces r parts ∙ same);
    dropped = (tt, tt);
  };
  alone = λ within. ap (λ l. l ∷ []) (sym same);
  fits = λ room. (fits, tt);
  filled = λ room some each. (subst IsSome same (whole_some parts some each), tt);
  least = λ breaks b. b.some;
}

-- the lines of a wrap at tokens are the rows of what was wrapped
token_rows : (r : Room) (ps : List Compound) (lines : List (List Compound)) → r.whole_words ≡ false → r.width < r.first + width_of (flagged_text ps) → IsWrap r ps lines
    → AreRowsOf r (map flagged_of ps) (map flagged_text lines)
token_rows r ps lines parted wide wrap =
    let same : whole (map flagged_of ps) ≡ flagged_text ps = whole_parts ps in
    let ts = wrap.tokenized.tokens in
    let cut = wrap.tokenized.cut in
    let best = wrap.least ts cut in
    record {
      keeps = subst (λ l. Keeps l (map flagged_text lines)) (sym same) wrap.keeps;
      broken = by_bool (λ b. drops_middle r ps ≡ b → AreBroken r (map flagged_of ps) (map flagged_text lines)) (drops_middle r ps)
          (λ on e. cut_broken r ps lines parted on wrap.cut) (λ off e. placed_broken r ps ts (map flagged_text lines) parted cut (best.placed off)) refl;
      alone = λ within. absurd (omega (arith, wide, within, ap width_of same));
      fits = λ room. wrap.fits (subst (HasRoom r) same room);
      filled = λ room some each. filled_lines lines (wrap.some (subst (HasRoom r) same room) (none_empty ps each));
      least = λ breaks b.
          let lifted = break_lifts r ps ts breaks parted cut b in
          let fewest = best.least lifted.0 lifted.1 in
          omega (arith, fewest, lifted.2, length-map lines flagged_text);
    }

-- so are those of a wrap with whole words
word_rows : (r : Room) (ps : List Compound) (lines : List (List Compound)) → r.whole_words ≡ true → r.width < r.first + width_of (flagged_text ps) → IsWordWrap r ps lines
    → AreRowsOf r (map flagged_of ps) (map flagged_text lines)
word_rows r ps lines on wide wrap =
    let same : whole (map flagged_of ps) ≡ flagged_text ps = whole_parts ps in
    let ts = wrap.tokenized.tokens in
    let cut = wrap.tokenized.cut in
    let best = wrap.least ts cut in
    record {
      keeps = subst (λ l. Keeps l (map flagged_text lines)) (sym same) wrap.keeps;
      broken = words_broken r ps ts lines on cut best.first_fit;
      alone = λ within. absurd (omega (arith, wide, within, ap width_of same));
      fits = λ room. wrap.fits (subst (HasRoom r) same room);
      filled = λ room some each. filled_lines lines (wrap.some (subst (HasRoom r) same room));
      least = λ breaks b.
          let lifted = words_lift r ps ts breaks on cut b in
          omega (arith, best.least lifted.0 lifted.1 lifted.2, lifted.3, length-map lines flagged_text);
    }

rows_by : (b : Bool) (r : Room) (ps : List Compound) (lines : List (List Compound)) → r.whole_words ≡ b → r.width < r.first + width_of (flagged_text ps) → IsWrapBy b r ps lines
    → AreRowsOf r (map flagged_of ps) (map flagged_text lines)
rows_by true r ps lines is wide wrap = word_rows r ps lines is wide wrap
rows_by false r ps lines is wide wrap = token_rows r ps lines is wide wrap

-- the lines of a wrap are the rows of what was wrapped
pub wrapped_rows : (r : Room) (ps : List Compound) (lines : List (List Compound)) → r.width < r.first + width_of (flagged_text ps) → IsWrapOf r ps lines
    → AreRowsOf r (map flagged_of ps) (map flagged_text lines)
wrapped_rows r ps lines wide wrap = rows_by r.whole_words r ps lines refl wide wrap

-- What `wrap_starts` promises: its starts pass the checker, and are as few as the lines of some fitting break.
use Rattle.std.proofs.Common.{◌≡◌, ℕ, zero, suc, ◌≤◌, ◌<◌, ◌+◌, ◌==◌, ◌&&◌, not, Bool, true, false, None, is_some, List, [], ◌∷◌, ◌++◌, chars, length, take, drop, slice_range, slice_get, refl, sym, ap, ◌∙◌, arith, subst, append-nil, inl, inr}
use Rattle.std.proofs.lemmas.Bool.{and_parts, eqb-true, leb-true}
use Rattle.std.proofs.lemmas.List.{take-append-drop}
use Rattle.std.specs.List.{AllByRecursion, list_all}
use Rattle.std.specs.Char.{is_whitespace}
use Rattle.mad_md.specs.Flagged.{Flags, FlaggedChar, flagged, flags_of, flagged_of, flagged_text, is_blank}
use Rattle.mad_md.specs.declared.compound.Compound.{Compound}
use Rattle.mad_measure.specs.TextColumns.{width_of}
use Rattle.mad_measure.specs.Tokens.{AreTokensFrom, flagged_token, tokens_text}
use Rattle.mad_measure.specs.declared.tokens.Token.{Token}
use Rattle.mad_measure.proofs.AllLemmas.{all_each, all_front, all_back}
use Rattle.mad_measure.proofs.TokenTexts.{IsHonest, tokens_honest, text_from, some_flagged}
use Rattle.mad_measure.proofs.UniqueLemmas.{all_unique}
use Rattle.mad_wrap.specs.Bounds.{is_blank_token, are_starts_from, are_starts}
use Rattle.mad_wrap.specs.Breaks.{LineAndGap, lines_and_gaps, total_width, AllBlank, FittingBreak}
use Rattle.mad_wrap.specs.CleanCut.{fits_after, both_fit, is_white, clean_cut, is_cut_clean}
use Rattle.mad_wrap.specs.LeastBound.{IsBound, AreChecked, drops_code, AreStartsOf, AreFewest, AreCutStarts, IsFirstPast}
use Rattle.mad_wrap.specs.LeastWrap.{AreTokensIn}
use Rattle.mad_wrap.specs.LineStarts.{starts_of}
use Rattle.mad_wrap.specs.TokenLines.{ArePlacedStarts}
use Rattle.mad_wrap.specs.Placings.{IsFirstFit}
use Rattle.mad_wrap.specs.Rooms.{most_indent, token_limit}
use Rattle.mad_wrap.specs.WrapLines.{HasRoom}
use Rattle.mad_wrap.specs.declared.room.Room.{Room}
use Rattle.mad_wrap.proofs.BoundLemmas.{bound, total_width-append}
use Rattle.mad_wrap.proofs.CutLemmas.{some_made}
use Rattle.mad_wrap.proofs.KeepLemmas.{width_is}
use Rattle.mad_wrap.proofs.CheckerSteps.{step_true, none_left}
use Rattle.mad_wrap.proofs.ClosedBreaks.{ClosedBreak, closed, length-starts}
use Rattle.mad_wrap.proofs.LeastLemmas.{TokensHaveRoom, fits_with_room}
use Rattle.mad_wrap.proofs.PassLemmas.{starts_pass, starts_each}
use Rattle.mad_wrap.proofs.UniqueLemmas.{one_first_fit}
use Rattle.mad_wrap.proofs.WrapLemmas.{room_for_tokens, total_is}

-- a single start is 0
one_start : (r : Room) (ts : List Token) (starts : List ℕ) → are_starts r ts starts ≡ true → length starts ≤ 1 → starts ≡ 0 ∷ []
one_start r ts [] e h = absurd (cc)
one_start r ts (s ∷ []) e h = ap (λ n. n ∷ []) (eqb-true s 0 (and_parts (s == 0) (are_starts_from r.first r ts s []) e).0)
one_start r ts (s ∷ n ∷ ns) e h = absurd (omega arith)

-- all tokens on one line, where they fit
one_line_break : (r : Room) (ts : List Token) → r.first + total_width ts ≤ r.width → FittingBreak r ts (record { line = ts; gap = [] } ∷ [])
one_line_break r ts fits = record { trimming = record { some_line = omega arith; covers = append-nil ts; fits = (fits, tt, tt) }; ends = refl }

-- ---- outside clean cuts

-- room on later lines
other_room : (r : Room) (ts : List Token) → TokensHaveRoom r ts → AllByRecursion (λ t. r.other + t.width ≤ r.width) ts
other_room r ts room = all_each (λ t. most_indent r + t.width ≤ r.width) (λ t. r.other + t.width ≤ r.width) (λ t h. omega arith) ts room.each

-- a break that ends with a line, of as many lines as a first fit has starts
closed_break : (r : Room) (ts : List Token) (ps : List (LineAndGap Token)) → IsFirstFit r ts ps → TokensHaveRoom r ts → ClosedBreak r.first r ps
closed_break r ts ps h room =
    closed r.first r ps h.placing.some_line (fits_with_room r ts ps h room) (subst (AllByRecursion (λ t. r.other + t.width ≤ r.width)) (sym h.placing.covers) (other_room r ts room))

fitting_of : (r : Room) (ts : List Token) (ps : List (LineAndGap Token)) → lines_and_gaps ps ≡ ts → (c : ClosedBreak r.first r ps) → FittingBreak r ts c.breaks
fitting_of r ts ps covers c = record { trimming = record { some_line = c.some_line; covers = c.covers ∙ covers; fits = c.fits }; ends = c.ends }

-- the one placing
pub placed_starts_of : (r : Room) (ps : List Compound) (ts : List Token) (starts : List ℕ) → AreTokensIn r ps ts → clean_cut r ps ≡ None → ArePlacedStarts r ts starts → AreStartsOf r ps starts
placed_starts_of r ps ts starts tokens uncut h = record {
  lines = λ _ us others breaks first_fit.
      let same = all_unique (token_limit r) ps us ts others tokens in
      h.starts_are ∙ ap starts_of (one_first_fit r ts h.breaks breaks h.first_fit (subst (λ (x : List Token). IsFirstFit r x breaks) same first_fit));
  cut = λ on. absurd (let off : is_cut_clean r ps ≡ false = ap is_some uncut in cc);
}

-- the starts of placed lines pass the checker
pub placed_passes : (r : Room) (ts : List Token) (starts : List ℕ) → ArePlacedStarts r ts starts → are_starts r ts starts ≡ true
placed_passes r ts starts h = ap (are_starts r ts) h.starts_are ∙ starts_pass r ts h.breaks h.first_fit

-- with room for each character, the starts of placed lines are the fewest
pub placed_fewest : (r : Room) (ps : List Compound) (ts : List Token) (starts : List ℕ) → AreTokensIn r ps ts → clean_cut r ps ≡ None → ArePlacedStarts r ts starts → HasRoom r (flagged_text ps) → AreFewest r ps starts
placed_fewest r ps ts starts tokens uncut h space =
    let room = room_for_tokens r ps ts tokens space in
    let passes = placed_passes r ts starts h in
    let c = closed_break r ts h.breaks h.first_fit room in
    let size : length c.breaks ≡ length starts = omega (arith, c.count, length-starts h.breaks, ap length (h.starts_are ∙ starts_each r ts h.breaks h.first_fit room)) in
    record {
      attained = λ _. (ts, tokens, c.breaks, fitting_of r ts h.breaks h.first_fit.placing.covers c, size);
      cut = λ on. absurd (let off : is_cut_clean r ps ≡ false = ap is_some uncut in cc);
      whole = λ fits. one_start r ts starts passes (bound r ts starts passes (record { line = ts; gap = [] } ∷ []) (one_line_break r ts (omega (arith, fits, total_is r ps ts tokens))));
    }

-- ---- clean cuts

-- the tokens of a compound take its columns
compound_width : (max : ℕ) (p : Compound) (own : List Token) → AreTokensFrom max p 0 own → total_width own ≡ width_of (flagged_of p)
compound_width max p own tokens = width_is max own (tokens_honest max 0 p own tokens) ∙ ap width_of (text_from max 0 p own tokens)

white_blank : (f : Flags) (cs : List ℕ) → list_all is_whitespace cs ≡ true → f.code ≡ false → AllByRecursion (λ x. is_blank x ≡ true) (flagged f cs)
white_blank f [] h off = tt
white_blank f (c ∷ cs) h off = let parts = and_parts (is_whitespace c) (list_all is_whitespace cs) h in (ap (λ (w : Bool). w && not f.code) parts.0 ∙ ap not off, white_blank f cs parts.1 off)

-- a token of blank characters is blank
pub blank_token : (b : Bool) (xs : List FlaggedChar) → 0 < length xs → AllByRecursion (λ x. is_blank x ≡ b) xs → AllByRecursion (λ x. is_blank x ≡ true) xs → b ≡ true
blank_token b [] some h g = absurd (omega arith)
blank_token b (x ∷ xs) some h g = sym h.0 ∙ g.0

-- blank text is that of blank tokens
pub blank_tokens : (max : ℕ) (ts : List Token) → AllByRecursion (IsHonest max) ts → AllByRecursion (λ x. is_blank x ≡ true) (tokens_text ts) → AllBlank ts
blank_tokens max [] h g = tt
blank_tokens max (t ∷ ts) h g = (
  blank_token t.blank (flagged_token t) (some_flagged t h.0.within) h.0.alike.alike (all_front (λ x. is_blank x ≡ true) (flagged_token t) (tokens_text ts) g),
  blank_tokens max ts h.1 (all_back (λ x. is_blank x ≡ true) (flagged_token t) (tokens_text ts) g),
)

middle_blank : (max : ℕ) (m : Compound) (own : List Token) → AreTokensFrom max m 0 own → is_white m ≡ true → m.code ≡ false → AllBlank own
middle_blank max m own tokens white off =
    blank_tokens max own (tokens_honest max 0 m own tokens) (subst (AllByRecursion (λ x. is_blank x ≡ true)) (sym (text_from max 0 m own tokens)) (white_blank (flags_of m) (chars m.src.now) white off))

-- a break of two lines
TwoLines : Room → List Token → Type 0
TwoLines r ts = (breaks : List (LineAndGap Token)) × FittingBreak r ts breaks × (length breaks ≡ 2)

cut_break : (r : Room) (ps : List Compound) (ts : List Token) → is_cut_clean r ps ≡ true → drops_code r ps ≡ false → AreTokensIn r ps ts → TwoLines r ts
unfolding TwoLines
cut_break r [] ts on off tokens = absurd (cc)
cut_break r (a ∷ []) ts on off tokens = absurd (cc)
cut_break r (a ∷ b ∷ []) ts on off (own, others, joins, first, (own', others', joins', second, none)) =
    let max = token_limit r in
    let fit = and_parts (fits_after r.first r.width a) (fits_after r.other r.width b) (some_made (both_fit r a b) (a, b) on) in
    let front : LineAndGap Token = record { line = own; gap = [] } in
    let back : LineAndGap Token = record { line = own'; gap = [] } in (
      front ∷ back ∷ [],
      record {
        trimming = record {
          some_line = omega arith;
          covers = ap (λ l. own ++ l) (ap (λ l. own' ++ l) (sym none) ∙ sym joins') ∙ sym joins;
          fits = (
            omega (arith, leb-true (r.first + width_of (flagged_of a)) r.width fit.0, compound_width max a own first),
            tt,
            (omega (arith, leb-true (r.other + width_of (flagged_of b)) r.width fit.1, compound_width max b own' second), tt, tt),
          );
        };
        ends = refl;
      },
      refl,
    )
cut_break r (a ∷ m ∷ b ∷ []) ts on off (own, others, joins, first, (own', others', joins', middle, (own'', others'', joins'', last, none))) =
    let max = token_limit r in
    let test = some_made (is_white m && both_fit r a b) (a, b) on in
    let white = and_parts (is_white m) (both_fit r a b) test in
    let fit = and_parts (fits_after r.first r.width a) (fits_after r.other r.width b) white.1 in
    let plain : m.code ≡ false = sym (ap (λ (t : Bool). t && m.code) on) ∙ off in
    let front : LineAndGap Token = record { line = own; gap = own' } in
    let back : LineAndGap Token = record { line = own''; gap = [] } in (
      front ∷ back ∷ [],
      record {
        trimming = record {
          some_line = omega arith;
          covers = ap (λ l. own ++ l) (ap (λ l. own' ++ l) (ap (λ l. own'' ++ l) (sym none) ∙ sym joins'') ∙ sym joins') ∙ sym joins;
          fits = (
            omega (arith, leb-true (r.first + width_of (flagged_of a)) r.width fit.0, compound_width max a own first),
            middle_blank max m own' middle white.0 plain,
            (omega (arith, leb-true (r.other + width_of (flagged_of b)) r.width fit.1, compound_width max b own'' last), tt, tt),
          );
        };
        ends = refl;
      },
      refl,
    )
cut_break r (a ∷ b ∷ c ∷ d ∷ ps) ts on off tokens = absurd (cc)

-- the first token fits, so the one that passes the line isn't the first
pub some_past : (r : Room) (ts : List Token) (i : ℕ) → IsFirstPast r ts i → TokensHaveRoom r ts → 0 < i
some_past r [] i h room = absurd (omega (arith, h.inside))
some_past r (t ∷ ts) zero h room = absurd (omega (arith, h.passes, room.each.0))
some_past r (t ∷ ts) (suc i) h room = omega arith

total_take-le : (i : ℕ) (ts : List Token) → total_width (take i ts) ≤ total_width ts
total_take-le i ts = omega (arith, total_width-append (take i ts) (drop i ts), ap total_width (take-append-drop i ts))

-- the starts of a clean cut are those of its compounds
pub cut_starts_of : (r : Room) (ps : List Compound) (ts : List Token) (starts : List ℕ) → AreTokensIn r ps ts → is_cut_clean r ps ≡ true → AreCutStarts r ts starts → AreStartsOf r ps starts
cut_starts_of r ps ts starts tokens on h = record {
  lines = λ off. absurd (cc);
  cut = λ _ us others. subst (λ (x : List Token). AreCutStarts r x starts) (all_unique (token_limit r) ps ts us tokens others) h;
}

-- with room for each character, the starts of a clean cut are the fewest
pub cut_fewest : (r : Room) (ps : List Compound) (ts : List Token) (starts : List ℕ) → AreTokensIn r ps ts → is_cut_clean r ps ≡ true → AreCutStarts r ts starts → HasRoom r (flagged_text ps) → AreFewest r ps starts
unfolding TwoLines
cut_fewest r ps ts starts tokens on (inl (fits, are)) space = record {
  attained = λ _. (ts, tokens, record { line = ts; gap = [] } ∷ [], one_line_break r ts fits, ap length (sym are));
  cut = λ _ wide. absurd (omega (arith, fits, wide, total_is r ps ts tokens));
  whole = λ _. are;
}
cut_fewest r ps ts starts tokens on (inr (i, past, is, none)) space =
    let room = room_for_tokens r ps ts tokens space in
    let are : starts ≡ 0 ∷ i ∷ [] = is (some_past r ts i past room) in
    record {
      attained = λ off. let two = cut_break r ps ts on off tokens in (ts, tokens, two.0, two.1, two.2 ∙ ap length (sym are));
      cut = λ _ _. ap length are;
      whole = λ fits. absurd (omega (arith, past.passes, fits, total_is r ps ts tokens, total_take-le (i + 1) ts));
    }

-- ---- what the checker says, with room or without

-- what holds of the tokens holds of each list of them
each_tokens : (r : Room) (ps : List Compound) (ts : List Token) (starts : List ℕ) → AreTokensIn r ps ts → are_starts r ts starts ≡ true → AreChecked r ps starts
each_tokens r ps ts starts tokens passes us others = subst (λ (x : List Token). are_starts r x starts ≡ true) (all_unique (token_limit r) ps ts us tokens others) passes

-- the checker says yes to the starts of placed lines
pub placed_checked : (r : Room) (ps : List Compound) (ts : List Token) (starts : List ℕ) → AreTokensIn r ps ts → ArePlacedStarts r ts starts → AreChecked r ps starts
placed_checked r ps ts starts tokens h = each_tokens r ps ts starts tokens (placed_passes r ts starts h)

cut_passes : (r : Room) (ts : List Token) (starts : List ℕ) (i : ℕ) → IsFirstPast r ts i → (0 < i → starts ≡ 0 ∷ i ∷ []) → (i ≡ 0 → starts ≡ 0 ∷ []) → are_starts r ts starts ≡ true
cut_passes r ts starts zero past some none = ap (are_starts r ts) (none refl)
cut_passes r ts starts (suc n) past some none =
    let i = suc n in
    let slice : slice_range ts 0 (i + 1) ≡ take (i + 1) ts = ap (λ n. take n ts) (omega arith) in
    ap (are_starts r ts) (some (omega arith)) ∙ step_true r.first 0 i r ts [] (omega arith) past.inside (omega (arith, past.passes, ap total_width slice)) (none_left 0 (not (is_blank_token (slice_get ts i))) refl) refl

-- the checker says yes to the starts of a clean cut
pub cut_checked : (r : Room) (ps : List Compound) (ts : List Token) (starts : List ℕ) → AreTokensIn r ps ts → AreCutStarts r ts starts → AreChecked r ps starts
cut_checked r ps ts starts tokens (inl (fits, are)) = each_tokens r ps ts starts tokens (ap (are_starts r ts) are)
cut_checked r ps ts starts tokens (inr (i, past, some, none)) = each_tokens r ps ts starts tokens (cut_passes r ts starts i past some none)

-- so each fitting break has as many lines
pub checked_bound : (r : Room) (ps : List Compound) (starts : List ℕ) → AreChecked r ps starts → IsBound r ps (length starts)
checked_bound r ps starts checked us others breaks fitting = bound r us starts (checked us others) breaks fitting

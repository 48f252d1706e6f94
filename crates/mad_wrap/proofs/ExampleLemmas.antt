-- The definitions refuse some wrong answers.
use Rattle.std.proofs.Common.{◌≡◌, ℕ, ◌+◌, ◌<◌, true, false, List, [], ◌∷◌, ◌++◌, map, length, get_or, refl, sym, ap, ◌∙◌, arith, subst}
use Rattle.std.proofs.lemmas.Bool.Decides.{nat_tests}
use Rattle.std.specs.Char.{is_whitespace}
use Rattle.std.specs.Prelude.{codes, ◌==◌}
use Rattle.mad_md.specs.Flagged.{FlaggedChar, Run, unflagged, flagged, flagged_text, run_of}
use Rattle.mad_md.specs.declared.compound.Compound.{Compound}
use Rattle.mad_measure.specs.TextColumns.{width_of}
use Rattle.mad_measure.specs.Tokens.{token_run}
use Rattle.mad_measure.specs.declared.tokens.Token.{Token}
use Rattle.mad_measure.proofs.TokenTexts.{all_honest}
use Rattle.mad_wrap.specs.Bounds.{are_starts}
use Rattle.mad_wrap.specs.Breaks.{LineAndGap, TrimmingBreak, FittingBreak}
use Rattle.mad_wrap.specs.Examples.{lines_of, IsWord, IsSpace}
use Rattle.mad_wrap.specs.Keeps.{AllWhite, Keeps}
use Rattle.mad_wrap.specs.LeastBound.{AreStartsOf}
use Rattle.mad_wrap.specs.LeastWrap.{AreTokensIn, IsWrap}
use Rattle.mad_wrap.specs.Placings.{IsFirstFit}
use Rattle.mad_wrap.specs.Rooms.{token_limit}
use Rattle.mad_wrap.specs.WrapLines.{runs_of}
use Rattle.mad_wrap.specs.declared.room.Room.{Room}
use Rattle.mad_wrap.proofs.KeepLemmas.{text_of_runs, width_is}
use Rattle.mad_wrap.proofs.UniqueLemmas.{one_first_fit}

-- the character at an index
abbrev char_at : ℕ → List FlaggedChar → FlaggedChar
char_at n xs = get_or xs n (record { char = 0; flags = unflagged })

-- ---- texts that aren't kept

-- `aaa bb` isn't wrapped as `aaabb`
pub glued : (r : Room) (ps : List Compound) (lines : List (List Compound)) → flagged_text ps ≡ flagged unflagged (codes "aaa bb") → map flagged_text lines ≡ flagged unflagged (codes "aaabb") ∷ [] → ¬ (IsWrap r ps lines)
glued r ps lines text are wrap =
    let kept : Keeps (flagged unflagged (codes "aaa bb")) (flagged unflagged (codes "aaabb") ∷ []) = subst (Keeps (flagged unflagged (codes "aaa bb"))) are (subst (λ t. Keeps t (map flagged_text lines)) text wrap.keeps) in
    let fourth : false ≡ true = ap (λ (xs : List FlaggedChar). (char_at 3 xs).char == 98) kept.2 in
    cc

-- the gap after `aa` is none, a space or more
no_gap : (gap rest more : List FlaggedChar) → flagged unflagged (codes "aa ") ++ flagged (record unflagged { bold = true }) (codes "bb") ≡ flagged unflagged (codes "aa") ++ (gap ++ rest) → AllWhite gap → rest ≡ flagged unflagged (codes "bb") ++ more → ⊥
no_gap [] rest more e white next = let third : false ≡ true = ap (λ (xs : List FlaggedChar). (char_at 2 xs).char == 98) (e ∙ ap (λ (l : List FlaggedChar). flagged unflagged (codes "aa") ++ l) next) in cc
no_gap (x ∷ []) rest more e white next =
    let fourth : true ≡ false = ap (λ (xs : List FlaggedChar). (char_at 3 xs).flags.bold) (e ∙ ap (λ (l : List FlaggedChar). flagged unflagged (codes "aa") ++ (x ∷ l)) next) in cc
no_gap (x ∷ y ∷ gap) rest more e white next = let fourth : false ≡ true = ap (λ (xs : List FlaggedChar). is_whitespace (char_at 3 xs).char) e ∙ white.1.0 in cc

-- `aa` and a bold `bb` after a space aren't wrapped as `aa` and an unflagged `bb`
pub lost_flags : (r : Room) (ps : List Compound) (lines : List (List Compound)) → flagged_text ps ≡ flagged unflagged (codes "aa ") ++ flagged (record unflagged { bold = true }) (codes "bb")
    → map flagged_text lines ≡ flagged unflagged (codes "aa") ∷ flagged unflagged (codes "bb") ∷ [] → ¬ (IsWrap r ps lines)
lost_flags r ps lines text are wrap =
    let source = flagged unflagged (codes "aa ") ++ flagged (record unflagged { bold = true }) (codes "bb") in
    let kept : Keeps source (flagged unflagged (codes "aa") ∷ flagged unflagged (codes "bb") ∷ []) = subst (Keeps source) are (subst (λ t. Keeps t (map flagged_text lines)) text wrap.keeps) in
    no_gap kept.0 kept.1 (kept.4.0 ++ kept.4.1) kept.2 kept.3 kept.4.2

-- ---- tokens on lines

-- `aaa bb cc` isn't wrapped at 6 in three lines
pub token_a_line : (ps : List Compound) (a s b t c : Token) (lines : List (List Compound)) → IsWord 3 a → IsSpace 1 s → IsWord 2 b → IsSpace 1 t → IsWord 2 c → AreTokensIn (lines_of 6) ps (a ∷ s ∷ b ∷ t ∷ c ∷ [])
    → length lines ≡ 3 → ¬ (IsWrap (lines_of 6) ps lines)
token_a_line ps a s b t c lines ha hs hb ht hc tokens three wrap =
    let breaks : List (LineAndGap Token) = record { line = a ∷ s ∷ b ∷ []; gap = t ∷ [] } ∷ record { line = c ∷ []; gap = [] } ∷ [] in
    let fitting : FittingBreak (lines_of 6) (a ∷ s ∷ b ∷ t ∷ c ∷ []) breaks = record {
      trimming = record { some_line = omega arith; covers = refl; fits = (omega (arith, ha.width, hs.width, hb.width), (ht.blank, tt), (omega (arith, hc.width), tt, tt)) };
      ends = refl;
    } in
    omega (arith, three, (wrap.least (a ∷ s ∷ b ∷ t ∷ c ∷ []) tokens).least breaks fitting)

-- `aaa` and three spaces aren't wrapped at 3 in two lines
pub trailing_blanks : (p : Compound) (a s : Token) (lines : List (List Compound)) → IsWord 3 a → IsSpace 3 s → AreTokensIn (lines_of 3) (p ∷ []) (a ∷ s ∷ []) → length lines ≡ 2 → ¬ (IsWrap (lines_of 3) (p ∷ []) lines)
trailing_blanks p a s lines ha hs tokens two wrap =
    let breaks : List (LineAndGap Token) = record { line = a ∷ []; gap = s ∷ [] } ∷ [] in
    let trimming : TrimmingBreak (lines_of 3) (a ∷ s ∷ []) breaks = record { some_line = omega arith; covers = refl; fits = (omega (arith, ha.width), (hs.blank, tt), tt) } in
    omega (arith, two, (wrap.least (a ∷ s ∷ []) tokens).least_trimming refl breaks trimming)

-- `ab cccc` at 5 by first fit
cut_breaks : Token → Token → Token → List (LineAndGap Token)
cut_breaks a s c = record { line = a ∷ s ∷ []; gap = [] } ∷ record { line = c ∷ []; gap = [] } ∷ []

cut_fit : (a s c : Token) → IsWord 2 a → IsSpace 1 s → IsWord 4 c → IsFirstFit (lines_of 5) (a ∷ s ∷ c ∷ []) (cut_breaks a s c)
unfolding cut_breaks
cut_fit a s c ha hs hc = record {
  placing = record { some_line = omega arith; covers = refl; gaps = (tt, λ t others e. absurd (cc), (tt, λ t others e. absurd (cc), tt)) };
  forced = (record { first = c; others = []; begins = refl; solid = hc.solid; passes = omega (arith, ha.width, hs.width, hc.width) }, tt);
  within = (λ _. omega (arith, ha.width, hs.width), (λ l. absurd (omega arith), tt));
}

-- `ab cccc` isn't wrapped at 5 with a first line of five columns
pub cut_at_the_width : (p : Compound) (a s c : Token) (front : List Compound) (others : List (List Compound)) → IsWord 2 a → IsSpace 1 s → IsWord 4 c → AreTokensIn (lines_of 5) (p ∷ []) (a ∷ s ∷ c ∷ [])
    → width_of (flagged_text front) ≡ 5 → ¬ (IsWrap (lines_of 5) (p ∷ []) (front ∷ others))
unfolding cut_breaks
cut_at_the_width p a s c front others ha hs hc tokens five wrap =
    let fit = (wrap.least (a ∷ s ∷ c ∷ []) tokens).first_fit refl in
    let same = one_first_fit (lines_of 5) (a ∷ s ∷ c ∷ []) fit.breaks (cut_breaks a s c) fit.first_fit (cut_fit a s c ha hs hc) in
    let runs : map (λ (q : LineAndGap Token). map token_run q.line) (cut_breaks a s c) ≡ runs_of front ∷ map runs_of others = sym (ap (map (λ (q : LineAndGap Token). map token_run q.line)) same) ∙ fit.runs_are in
    let first : map token_run (a ∷ s ∷ []) ≡ map run_of front = ap (λ (xs : List (List Run)). get_or xs 0 []) runs in
    let text = text_of_runs front (a ∷ s ∷ []) (sym first) in
    let honest = all_honest (token_limit (lines_of 5)) (p ∷ []) (a ∷ s ∷ c ∷ []) tokens in
    omega (arith, five, ap width_of text, width_is (token_limit (lines_of 5)) (a ∷ s ∷ []) (honest.0, (honest.1.0, tt)), ha.width, hs.width)

-- `aaa bb cc` at 6 by first fit
two_breaks : Token → Token → Token → Token → Token → List (LineAndGap Token)
two_breaks a s b t c = record { line = a ∷ s ∷ b ∷ []; gap = t ∷ [] } ∷ record { line = c ∷ []; gap = [] } ∷ []

no_fit : (a s b t c : Token) → IsWord 3 a → IsSpace 1 s → IsWord 2 b → IsSpace 1 t → (u : Token) (others : List Token) → t ∷ [] ≡ u ∷ others → 6 < 0 + (a.width + (s.width + (b.width + 0))) + u.width
no_fit a s b t c ha hs hb ht u others e = let same : t ≡ u = cc in omega (arith, ha.width, hs.width, hb.width, ht.width, ap (λ (x : Token). x.width) same)

two_fit : (a s b t c : Token) → IsWord 3 a → IsSpace 1 s → IsWord 2 b → IsSpace 1 t → IsWord 2 c → IsFirstFit (lines_of 6) (a ∷ s ∷ b ∷ t ∷ c ∷ []) (two_breaks a s b t c)
unfolding two_breaks
two_fit a s b t c ha hs hb ht hc = record {
  placing = record { some_line = omega arith; covers = refl; gaps = ((ht.blank, tt), no_fit a s b t c ha hs hb ht, (tt, λ t others e. absurd (cc), tt)) };
  forced = (record { first = c; others = []; begins = refl; solid = hc.solid; passes = omega (arith, ha.width, hs.width, hb.width, ht.width, hc.width) }, tt);
  within = (λ _. omega (arith, ha.width, hs.width, hb.width), (λ l. absurd (omega arith), tt));
}

-- the start 0 alone isn't that of `aaa bb cc` at 6
pub one_start : (p : Compound) (a s b t c : Token) → IsWord 3 a → IsSpace 1 s → IsWord 2 b → IsSpace 1 t → IsWord 2 c → AreTokensIn (lines_of 6) (p ∷ []) (a ∷ s ∷ b ∷ t ∷ c ∷ []) → ¬ (AreStartsOf (lines_of 6) (p ∷ []) (0 ∷ []))
unfolding two_breaks
one_start p a s b t c ha hs hb ht hc tokens h =
    omega (arith, ap length (h.lines refl (a ∷ s ∷ b ∷ t ∷ c ∷ []) tokens (two_breaks a s b t c) (two_fit a s b t c ha hs hb ht hc)))

-- the starts 0 and 2 of `aaa bb cc` at 6 don't pass the checker
pub early_start : (a s b t c : Token) → IsWord 3 a → IsSpace 1 s → IsWord 2 b → IsSpace 1 t → IsWord 2 c → are_starts (lines_of 6) (a ∷ s ∷ b ∷ t ∷ c ∷ []) (0 ∷ 2 ∷ []) ≡ false
early_start a s b t c ha hs hb ht hc = grind (arith, nat_tests, ha.width, hs.width, hb.width)

-- First fit makes no more lines than any break that fits, and with room its lines fit and have tokens.
use Rattle.std.proofs.Common.{◌≡◌, ℕ, ◌+◌, ◌<◌, ◌≤◌, true, false, List, [], ◌∷◌, ◌++◌, length, sym, ap, ◌∙◌, subst, arith, append_assoc, refl, inl, inr}
use Rattle.std.proofs.lemmas.List.{length-append}
use Rattle.std.specs.List.{AllByRecursion}
use Rattle.mad_measure.specs.declared.tokens.Token.{Token}
use Rattle.mad_wrap.specs.Breaks.{LineAndGap, lines_and_gaps, total_width, AllBlank, FitsFrom, TrimmingBreak}
use Rattle.mad_wrap.specs.Placings.{GapsForced, LinesForced, LinesWithin, IsFirstFit}
use Rattle.mad_wrap.specs.Rooms.{most_indent}
use Rattle.mad_wrap.specs.declared.room.Room.{Room}
use Rattle.mad_wrap.proofs.BoundLemmas.{total_width-append, ends, all_at}
use Rattle.mad_wrap.proofs.KeepLemmas.{SomeOnEach, line_of, rest_of}

-- ---- the fewest lines

some_left : (qs : List (LineAndGap Token)) (xs after : List Token) (t : Token) → lines_and_gaps qs ≡ xs ++ t ∷ after → 0 < length qs
some_left [] xs after t e = absurd (omega (arith, ap length e, length-append xs (t ∷ after)))
some_left (q ∷ qs) xs after t e = omega arith

blank_and_solid : (t : Token) → t.blank ≡ true → t.blank ≡ false → ⊥
blank_and_solid t on off = let both : true ≡ false = sym on ∙ off in cc

-- the break's line began where the placed one did, or before it, with the tokens extra
pub least_from : (i : ℕ) (r : Room) (extra : List Token) (ps qs : List (LineAndGap Token)) → 0 < length qs → LinesForced i r ps → FitsFrom i r qs → lines_and_gaps qs ≡ extra ++ lines_and_gaps ps → length ps ≤ length qs
least_from i r extra [] qs some forced fits e = omega arith
least_from i r extra (p ∷ []) qs some forced fits e = omega arith
least_from i r extra (p ∷ p' ∷ ps) [] some forced fits e = absurd (omega arith)
least_from i r extra (p ∷ p' ∷ ps) (q ∷ qs) some (b, forced) fits e =
    let before = extra ++ (p.line ++ p.gap) in
    let after = b.others ++ (p'.gap ++ lines_and_gaps ps) in
    let begins : lines_and_gaps (p' ∷ ps) ≡ b.first ∷ after = ap (λ l. l ++ (p'.gap ++ lines_and_gaps ps)) b.begins in
    let tokens : q.line ++ (q.gap ++ lines_and_gaps qs) ≡ before ++ b.first ∷ after =
    e ∙ ap (λ l. extra ++ l) (sym (append_assoc p.line p.gap (lines_and_gaps (p' ∷ ps)))) ∙ sym (append_assoc extra (p.line ++ p.gap) (lines_and_gaps (p' ∷ ps))) ∙ ap (λ l. before ++ l) begins in
    elim (ends q.line (q.gap ++ lines_and_gaps qs) before b.first after tokens) as (λ _. length (p ∷ p' ∷ ps) ≤ length (q ∷ qs)) [
      | inr (zs, longer) ↦ absurd (omega (arith, fits.0, b.passes, ap total_width longer, total_width-append before (b.first ∷ zs), total_width-append extra (p.line ++ p.gap), total_width-append p.line p.gap))
      | inl (more, shorter, next) ↦ elim (ends q.gap (lines_and_gaps qs) more b.first after next) as (λ _. length (p ∷ p' ∷ ps) ≤ length (q ∷ qs)) [
        | inr (zs, over) ↦ absurd (blank_and_solid b.first (all_at (λ t. t.blank ≡ true) more zs b.first (subst AllBlank over fits.1)) b.solid)
        | inl (extra', gone, rest) ↦
            let again : lines_and_gaps qs ≡ extra' ++ lines_and_gaps (p' ∷ ps) = rest ∙ ap (λ l. extra' ++ l) (sym begins) in
            omega (arith, least_from r.other r extra' (p' ∷ ps) qs (some_left qs extra' after b.first rest) forced fits.2 again)
      ]
    ]

-- first fit makes no more lines than a trimming break
pub least : (r : Room) (ts : List Token) (ps qs : List (LineAndGap Token)) → IsFirstFit r ts ps → TrimmingBreak r ts qs → length ps ≤ length qs
least r ts ps qs h b = least_from r.first r [] ps qs b.some_line h.forced b.fits (b.covers ∙ sym h.placing.covers)

-- ---- with room each line fits

-- each token fits on each line
pub record TokensHaveRoom (r : Room) (ts : List Token) : Type 0 where
  pub indent : most_indent r ≤ r.width
  pub each : AllByRecursion (λ t. most_indent r + t.width ≤ r.width) ts

one_fits : (i : ℕ) (r : Room) (line : List Token) → i ≤ most_indent r → most_indent r ≤ r.width → AllByRecursion (λ t. most_indent r + t.width ≤ r.width) line → (1 < length line → i + total_width line ≤ r.width) → i + total_width line ≤ r.width
one_fits i r [] l indent room more = omega arith
one_fits i r (t ∷ []) l indent room more = omega (arith, room.0)
one_fits i r (t ∷ u ∷ ts) l indent room more = more (omega arith)

others_fit : (r : Room) (ps : List (LineAndGap Token)) → most_indent r ≤ r.width → AllByRecursion (λ t. most_indent r + t.width ≤ r.width) (lines_and_gaps ps) → GapsForced r.other r ps → LinesWithin 1 r.other r ps → FitsFrom r.other r ps
others_fit r [] indent room gaps within = tt
others_fit r (p ∷ ps) indent room gaps within = (
  one_fits r.other r p.line (omega arith) indent (line_of (λ t. most_indent r + t.width ≤ r.width) p ps room) within.0,
  gaps.0,
  others_fit r ps indent (rest_of (λ t. most_indent r + t.width ≤ r.width) p ps room) gaps.2 within.1,
)

all_fit : (r : Room) (ps : List (LineAndGap Token)) → most_indent r ≤ r.width → AllByRecursion (λ t. most_indent r + t.width ≤ r.width) (lines_and_gaps ps) → GapsForced r.first r ps → LinesWithin 0 r.first r ps → FitsFrom r.first r ps
all_fit r [] indent room gaps within = tt
all_fit r (p ∷ ps) indent room gaps within = (
  one_fits r.first r p.line (omega arith) indent (line_of (λ t. most_indent r + t.width ≤ r.width) p ps room) (λ l. within.0 (omega arith)),
  gaps.0,
  others_fit r ps indent (rest_of (λ t. most_indent r + t.width ≤ r.width) p ps room) gaps.2 within.1,
)

-- room for the tokens of a break
pub room_of_break : (r : Room) (ts : List Token) (ps : List (LineAndGap Token)) → IsFirstFit r ts ps → TokensHaveRoom r ts → AllByRecursion (λ t. most_indent r + t.width ≤ r.width) (lines_and_gaps ps)
room_of_break r ts ps h room = subst (AllByRecursion (λ t. most_indent r + t.width ≤ r.width)) (sym h.placing.covers) room.each

-- with room for each token, each line of the first fit fits
pub fits_with_room : (r : Room) (ts : List Token) (ps : List (LineAndGap Token)) → IsFirstFit r ts ps → TokensHaveRoom r ts → FitsFrom r.first r ps
fits_with_room r ts ps h room = all_fit r ps room.indent (room_of_break r ts ps h room) h.placing.gaps h.within

-- ---- with room each line has a token

-- a first line without one would have no room for what comes next
pub first_some : (r : Room) (line gap : List Token) (ps : List (LineAndGap Token)) → GapsForced r.first r (record { line = line; gap = gap } ∷ ps) → LinesForced r.first r (record { line = line; gap = gap } ∷ ps)
    → AllByRecursion (λ t. most_indent r + t.width ≤ r.width) (lines_and_gaps (record { line = line; gap = gap } ∷ ps)) → 0 < length (lines_and_gaps (record { line = line; gap = gap } ∷ ps)) → 0 < length line
first_some r (x ∷ line) gap ps gaps forced room some = omega arith
first_some r [] (g ∷ gs) ps gaps forced room some = absurd (omega (arith, gaps.1 g gs refl, room.0))
first_some r [] [] [] gaps forced room some = absurd (omega arith)
first_some r [] [] (q ∷ qs) gaps forced room some =
    let b = forced.0 in
    let first = (subst (AllByRecursion (λ t. most_indent r + t.width ≤ r.width)) b.begins (line_of (λ t. most_indent r + t.width ≤ r.width) q qs room)).0 in
    absurd (omega (arith, b.passes, first))

others_some : (i : ℕ) (r : Room) (p : LineAndGap Token) (ps : List (LineAndGap Token)) → LinesForced i r (p ∷ ps) → SomeOnEach ps
others_some i r p [] forced = tt
others_some i r p (q ∷ qs) forced = (omega (arith, ap length forced.0.begins), others_some r.other r q qs forced.1)

-- with room for each token, each line of the first fit has one
pub some_with_room : (r : Room) (ts : List Token) (ps : List (LineAndGap Token)) → IsFirstFit r ts ps → TokensHaveRoom r ts → 0 < length ts → SomeOnEach ps
some_with_room r ts [] h room some = tt
some_with_room r ts (p ∷ ps) h room some = (
  first_some r p.line p.gap ps h.placing.gaps h.forced (room_of_break r ts (p ∷ ps) h room) (omega (arith, some, ap length h.placing.covers)),
  others_some r.first r p ps h.forced,
)

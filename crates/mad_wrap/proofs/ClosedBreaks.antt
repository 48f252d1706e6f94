-- A break that ends with a line, of as many lines as a break that needn't has starts.
use Rattle.std.proofs.Common.{◌≡◌, ℕ, ◌≤◌, ◌<◌, ◌+◌, ◌==◌, Bool, true, false, if◌then◌else◌, List, [], ◌∷◌, ◌++◌, length, refl, sym, ap, ◌∙◌, arith, subst, append-nil}
use Rattle.std.proofs.lemmas.Bool.Decides.{nat_tests}
use Rattle.std.proofs.lemmas.List.{length-append}
use Rattle.std.specs.List.{AllByRecursion}
use Rattle.mad_measure.specs.declared.tokens.Token.{Token}
use Rattle.mad_measure.proofs.AllLemmas.{all_front, all_back}
use Rattle.mad_wrap.specs.Breaks.{LineAndGap, lines_and_gaps, total_width, AllBlank, FitsFrom, EndsWithLine}
use Rattle.mad_wrap.specs.LineStarts.{starts_from, dropped_from}
use Rattle.mad_wrap.specs.declared.room.Room.{Room}
use Rattle.mad_wrap.proofs.KeepLemmas.{rest_of}

-- ---- a break with as many lines

-- one where a last line has blanks dropped after it, none else
abbrev pub dropped_at_end : List (LineAndGap Token) → ℕ
dropped_at_end [] = 0
dropped_at_end (p ∷ []) = if length p.gap == 0 then 0 else 1
dropped_at_end (p ∷ q ∷ ps) = dropped_at_end (q ∷ ps)

split_last : (x : Token) (xs : List Token) → (front : List Token) × (last : Token) × (front ++ last ∷ [] ≡ x ∷ xs)
split_last x [] = ([], x, refl)
split_last x (y ∷ ys) = let more = split_last y ys in (x ∷ more.0, more.1, ap (λ l. x ∷ l) more.2)

-- a break of the same tokens that ends with a line: what was dropped at the end ends with a line of one token
pub record ClosedBreak (i : ℕ) (r : Room) (ps : List (LineAndGap Token)) : Type 0 where
  pub breaks : List (LineAndGap Token)
  pub some_line : 0 < length breaks
  pub covers : lines_and_gaps breaks ≡ lines_and_gaps ps
  pub fits : FitsFrom i r breaks
  pub ends : EndsWithLine breaks
  pub count : length breaks ≡ length ps + dropped_at_end ps

close_last : (i : ℕ) (r : Room) (line gap : List Token) → i + total_width line ≤ r.width → AllBlank gap → AllByRecursion (λ t. r.other + t.width ≤ r.width) gap → ClosedBreak i r (record { line = line; gap = gap } ∷ [])
close_last i r line [] fit blank room = record {
  breaks = record { line = line; gap = [] } ∷ [];
  some_line = omega arith;
  covers = refl;
  fits = (fit, tt, tt);
  ends = refl;
  count = refl;
}
close_last i r line (g ∷ gs) fit blank room =
    let parts = split_last g gs in
    let front = parts.0 in
    let last = parts.1 in
    record {
      breaks = record { line = line; gap = front } ∷ record { line = last ∷ []; gap = [] } ∷ [];
      some_line = omega arith;
      covers = ap (λ l. line ++ l) (parts.2 ∙ sym (append-nil (g ∷ gs)));
      fits = (
        fit,
        all_front (λ t. t.blank ≡ true) front (last ∷ []) (subst AllBlank (sym parts.2) blank),
        (omega (arith, (all_back (λ t. r.other + t.width ≤ r.width) front (last ∷ []) (subst (AllByRecursion (λ t. r.other + t.width ≤ r.width)) (sym parts.2) room)).0), tt, tt),
      );
      ends = refl;
      count = let some : (length (g ∷ gs) == 0) ≡ false = grind (arith, nat_tests) in ap (λ (b : Bool). 1 + (if b then 0 else 1)) (sym some);
    }

ends_cons : (p : LineAndGap Token) (ps : List (LineAndGap Token)) → 0 < length ps → EndsWithLine ps → EndsWithLine (p ∷ ps)
ends_cons p [] some h = absurd (omega arith)
ends_cons p (q ∷ qs) some h = h

close_from : (i : ℕ) (r : Room) (p : LineAndGap Token) (ps : List (LineAndGap Token)) → FitsFrom i r (p ∷ ps) → AllByRecursion (λ t. r.other + t.width ≤ r.width) (lines_and_gaps (p ∷ ps)) → ClosedBreak i r (p ∷ ps)
close_from i r p [] fits room =
    close_last i r p.line p.gap fits.0 fits.1 (all_front (λ t. r.other + t.width ≤ r.width) p.gap [] (all_back (λ t. r.other + t.width ≤ r.width) p.line (p.gap ++ []) room))
close_from i r p (q ∷ qs) fits room =
    let more = close_from r.other r q qs fits.2 (rest_of (λ t. r.other + t.width ≤ r.width) p (q ∷ qs) room) in
    record {
      breaks = p ∷ more.breaks;
      some_line = omega arith;
      covers = ap (λ l. p.line ++ (p.gap ++ l)) more.covers;
      fits = (fits.0, fits.1, more.fits);
      ends = ends_cons p more.breaks more.some_line more.ends;
      count = omega (arith, more.count);
    }

-- a break that fits has a closed one, where each of its tokens fits on later lines
pub closed : (i : ℕ) (r : Room) (ps : List (LineAndGap Token)) → 0 < length ps → FitsFrom i r ps → AllByRecursion (λ t. r.other + t.width ≤ r.width) (lines_and_gaps ps) → ClosedBreak i r ps
closed i r [] some fits room = absurd (omega arith)
closed i r (p ∷ ps) some fits room = close_from i r p ps fits room

-- ---- how many starts there are

length-starts_from : (n : ℕ) (ps : List (LineAndGap Token)) → length (starts_from n ps) ≡ length ps
length-starts_from n [] = refl
length-starts_from n (p ∷ ps) = omega (arith, length-starts_from (n + (length p.line + length p.gap)) ps)

length-dropped_after : (n : ℕ) (p : LineAndGap Token) (b : Bool) → length (if b then [] else (n + length p.line) ∷ []) ≡ (if b then 0 else 1)
length-dropped_after n p true = refl
length-dropped_after n p false = refl

length-dropped_from : (n : ℕ) (ps : List (LineAndGap Token)) → length (dropped_from n ps) ≡ dropped_at_end ps
length-dropped_from n [] = refl
length-dropped_from n (p ∷ []) = length-dropped_after n p (length p.gap == 0)
length-dropped_from n (p ∷ q ∷ ps) = length-dropped_from (n + (length p.line + length p.gap)) (q ∷ ps)

-- there is a start for each line, and one for the blanks that are dropped after the last
pub length-starts : (ps : List (LineAndGap Token)) → length (starts_from 0 ps ++ dropped_from 0 ps) ≡ length ps + dropped_at_end ps
length-starts ps = omega (arith, length-append (starts_from 0 ps) (dropped_from 0 ps), length-starts_from 0 ps, length-dropped_from 0 ps)

-- The starts of placed lines, step by step.
use Rattle.std.proofs.Common.{◌≡◌, ℕ, zero, suc, ◌≤◌, ◌<◌, ◌+◌, ◌==◌, Bool, true, false, Option, Some, None, is_some, if◌then◌else◌, List, [], ◌∷◌, ◌++◌, length, refl, sym, ap, ◌∙◌, arith, subst, append-nil, ◌⊎◌, inl}
use Rattle.std.proofs.lemmas.List.{length-append}
use Rattle.std.specs.Option.{option_or}
use Rattle.mad_measure.specs.declared.tokens.Token.{Token}
use Rattle.mad_wrap.specs.Breaks.{LineAndGap, lines_and_gaps}
use Rattle.mad_wrap.specs.LineRoom.{left_of, fits_in, taken}
use Rattle.mad_wrap.specs.LineStarts.{starts_from, dropped_after, dropped_from, from_first, starts_of}
use Rattle.mad_wrap.specs.TokenLines.{ArePlacedStarts}
use Rattle.mad_wrap.specs.Placings.{LinesForced}
use Rattle.mad_wrap.specs.declared.room.Room.{Room}
use Rattle.mad_wrap.proofs.PassLemmas.{dropped_some}
use Rattle.mad_wrap.proofs.PlacingLemmas.{Shape, shape_start, shape_fits, shape_ends, shape_begins, lines_and_gaps-push, whole_fit}

starts_from-push : (n : ℕ) (ps : List (LineAndGap Token)) (p : LineAndGap Token) → starts_from n (ps ++ p ∷ []) ≡ starts_from n ps ++ (n + length (lines_and_gaps ps)) ∷ []
starts_from-push n [] p = ap (λ m. m ∷ []) (omega arith)
starts_from-push n (q ∷ ps) p =
    let next = n + (length q.line + length q.gap) in
    let place : next + length (lines_and_gaps ps) ≡ n + length (lines_and_gaps (q ∷ ps)) = omega (arith, length-append q.line (q.gap ++ lines_and_gaps ps), length-append q.gap (lines_and_gaps ps)) in
    ap (λ l. n ∷ l) (starts_from-push next ps p) ∙ ap (λ m. n ∷ (starts_from next ps ++ m ∷ [])) place

dropped_from-push : (n : ℕ) (ps : List (LineAndGap Token)) (p : LineAndGap Token) → dropped_from n (ps ++ p ∷ []) ≡ dropped_after (n + length (lines_and_gaps ps)) p
dropped_from-push n [] p = ap (λ m. dropped_after m p) (omega arith)
dropped_from-push n (q ∷ []) p =
    ap (λ m. dropped_after m p) (omega (arith, length-append q.line (q.gap ++ []), length-append q.gap []))
dropped_from-push n (q ∷ q' ∷ ps) p =
    let next = n + (length q.line + length q.gap) in
    let place : next + length (lines_and_gaps (q' ∷ ps)) ≡ n + length (lines_and_gaps (q ∷ q' ∷ ps)) = omega (arith, length-append q.line (q.gap ++ lines_and_gaps (q' ∷ ps)), length-append q.gap (lines_and_gaps (q' ∷ ps))) in
    dropped_from-push next (q' ∷ ps) p ∙ ap (λ m. dropped_after m p) place

-- a start after others
from_first-push : (ns : List ℕ) (i : ℕ) → 0 < i → 0 < length ns → from_first (ns ++ i ∷ []) ≡ from_first ns ++ i ∷ []
from_first-push [] i some there = absurd (omega arith)
from_first-push (n ∷ []) zero some there = absurd (omega arith)
from_first-push (n ∷ []) (suc i) some there = refl
from_first-push (n ∷ zero ∷ ns) i some there = refl
from_first-push (n ∷ suc m ∷ ns) i some there = refl

-- the starts of the lines so far, and the first token that was dropped after the last
pub record StartsSoFar (r : Room) (ts : List Token) (left : Option ℕ) (dropped : Option ℕ) (starts : List ℕ) : Type 0 where
  pub shape : Shape r ts left (is_some dropped)
  pub begun : starts ≡ from_first (starts_from 0 shape.breaks ++ length (lines_and_gaps shape.breaks) ∷ [])
  pub dropped_is : (n : ℕ) → dropped ≡ Some n → n ≡ length (lines_and_gaps shape.breaks) + length shape.tokens

-- before the first token the one start is 0
pub starts_begin : (r : Room) → StartsSoFar r [] (left_of r.width r.first) None (0 ∷ [])
unfolding shape_start
starts_begin r = record { shape = shape_start r; begun = refl; dropped_is = λ n e. absurd (cc) }

-- a token that fits on the line is no start
pub starts_fit : (r : Room) (ts : List Token) (t : Token) (left new_left : Option ℕ) (dropped : Option ℕ) (ended : Bool) (starts : List ℕ) → StartsSoFar r ts left dropped starts → ended ≡ is_some dropped
    → ended ≡ false → fits_in left t.width ≡ true → taken left t.width ≡ new_left → StartsSoFar r (ts ++ t ∷ []) new_left dropped starts
unfolding shape_fits
starts_fit r ts t left new_left (Some n) ended starts h is none fits took = absurd (cc)
starts_fit r ts t left new_left None ended starts h is none fits took =
    subst (λ l. StartsSoFar r (ts ++ t ∷ []) l None starts) took (record { shape = shape_fits r ts t left h.shape fits; begun = h.begun; dropped_is = λ n e. absurd (cc) })

length_so_far : (r : Room) (ts : List Token) (left : Option ℕ) (ended : Bool) (h : Shape r ts left ended) → length ts ≡ length (lines_and_gaps h.breaks) + (length h.tokens + length h.gap)
length_so_far r ts left ended h = omega (arith, ap length h.covers, length-append (lines_and_gaps h.breaks) (h.tokens ++ h.gap), length-append h.tokens h.gap)

-- a blank token that doesn't fit, or comes after a gap has begun, is no start yet
pub starts_end : (r : Room) (ts : List Token) (t : Token) (left : Option ℕ) (dropped new_dropped : Option ℕ) (ended : Bool) (starts : List ℕ) (i : ℕ) → StartsSoFar r ts left dropped starts → ended ≡ is_some dropped → i ≡ length ts
    → t.blank ≡ true → (ended ≡ true) ⊎ (fits_in left t.width ≡ false) → new_dropped ≡ option_or dropped (Some i) → StartsSoFar r (ts ++ t ∷ []) left new_dropped starts
unfolding shape_ends
starts_end r ts t left (Some m) new_dropped ended starts i h is place blank why new =
    subst (λ d. StartsSoFar r (ts ++ t ∷ []) left d starts) (sym new) (record { shape = shape_ends r ts t left true h.shape blank (inl refl); begun = h.begun; dropped_is = h.dropped_is })
starts_end r ts t left None new_dropped ended starts i h is place blank why new =
    let fails : (false ≡ true) ⊎ (fits_in left t.width ≡ false) = subst (λ e. (e ≡ true) ⊎ (fits_in left t.width ≡ false)) is why in
    subst (λ d. StartsSoFar r (ts ++ t ∷ []) left d starts) (sym new) (record {
      shape = shape_ends r ts t left false h.shape blank fails;
      begun = h.begun;
      dropped_is = λ n e. let same : i ≡ n = cc in omega (arith, place, same, length_so_far r ts left false h.shape, ap length (h.shape.no_gap refl));
    })

-- lines after the first begin with a token
last_some : (i : ℕ) (r : Room) (ps : List (LineAndGap Token)) (q : LineAndGap Token) → LinesForced i r (ps ++ q ∷ []) → 0 < length ps → 0 < length q.line
last_some i r [] q h some = absurd (omega arith)
last_some i r (p ∷ []) q h some = omega (arith, ap length h.0.begins)
last_some i r (p ∷ p' ∷ ps) q h some = last_some r.other r (p' ∷ ps) q h.1 (omega arith)

-- a line's start after those so far: one that is 0 is that of the first line
next_start : (r : Room) (ts : List Token) (left : Option ℕ) (ended : Bool) (s : Shape r ts left ended) (starts new : List ℕ) (n : ℕ) → starts ≡ from_first (starts_from 0 s.breaks ++ length (lines_and_gaps s.breaks) ∷ [])
    → length (lines_and_gaps s.breaks) + length s.tokens ≤ n → (0 < n → new ≡ starts ++ n ∷ []) → (n ≡ 0 → new ≡ starts) → new ≡ from_first ((starts_from 0 s.breaks ++ length (lines_and_gaps s.breaks) ∷ []) ++ n ∷ [])
next_start r ts left ended s starts new zero begun place some none =
    let by : (ps : List (LineAndGap Token)) → s.breaks ≡ ps → new ≡ from_first ((starts_from 0 s.breaks ++ length (lines_and_gaps s.breaks) ∷ []) ++ 0 ∷ []) =
    λ ps. elim ps as (λ ps. s.breaks ≡ ps → new ≡ from_first ((starts_from 0 s.breaks ++ length (lines_and_gaps s.breaks) ∷ []) ++ 0 ∷ [])) [
      | [] ↦ λ e.
          none refl ∙ begun ∙ ap (λ (qs : List (LineAndGap Token)). from_first (starts_from 0 qs ++ length (lines_and_gaps qs) ∷ [])) e
          ∙ ap (λ (qs : List (LineAndGap Token)). from_first ((starts_from 0 qs ++ length (lines_and_gaps qs) ∷ []) ++ 0 ∷ [])) (sym e)
      | p ∷ ps ↦ λ e. absurd (omega (arith, place, last_some r.first r s.breaks (record { line = s.tokens; gap = s.gap }) s.forced (omega (arith, ap length e))))
    ] in
    by s.breaks refl
next_start r ts left ended s starts new (suc n) begun place some none =
    let before = starts_from 0 s.breaks ++ length (lines_and_gaps s.breaks) ∷ [] in
    let there : 0 < length before = omega (arith, length-append (starts_from 0 s.breaks) (length (lines_and_gaps s.breaks) ∷ [])) in
    some (omega arith) ∙ ap (λ l. l ++ suc n ∷ []) begun ∙ sym (from_first-push before (suc n) (omega arith) there)

-- a token that begins a line is a start, unless it is the first token
pub starts_next : (r : Room) (ts : List Token) (t : Token) (left new_left : Option ℕ) (dropped : Option ℕ) (ended : Bool) (starts new_starts : List ℕ) (i : ℕ) → StartsSoFar r ts left dropped starts → ended ≡ is_some dropped → i ≡ length ts
    → t.blank ≡ false → (ended ≡ true) ⊎ (fits_in left t.width ≡ false) → (0 < i → new_starts ≡ starts ++ i ∷ []) × (i ≡ 0 → new_starts ≡ starts) → new_left ≡ left_of r.width (r.other + t.width) → StartsSoFar r (ts ++ t ∷ []) new_left None new_starts
unfolding shape_begins
starts_next r ts t left new_left dropped ended starts new_starts i h is place solid why pushed room_is =
    let s = h.shape in
    let p : LineAndGap Token = record { line = s.tokens; gap = s.gap } in
    let fails : (is_some dropped ≡ true) ⊎ (fits_in left t.width ≡ false) = subst (λ e. (e ≡ true) ⊎ (fits_in left t.width ≡ false)) is why in
    let all : length (lines_and_gaps (s.breaks ++ p ∷ [])) ≡ i = ap length (lines_and_gaps-push s.breaks p ∙ s.covers) ∙ sym place in
    subst (λ l. StartsSoFar r (ts ++ t ∷ []) l None new_starts) (sym room_is) (record {
      shape = shape_begins r ts t left (is_some dropped) s solid fails;
      begun = next_start r ts left (is_some dropped) s starts new_starts i h.begun (omega (arith, place, length_so_far r ts left (is_some dropped) s)) pushed.0 pushed.1
          ∙ ap (λ m. from_first ((starts_from 0 s.breaks ++ m ∷ []) ++ i ∷ [])) (omega arith)
          ∙ ap (λ l. from_first (l ++ i ∷ [])) (sym (starts_from-push 0 s.breaks p)) ∙ ap (λ m. from_first (starts_from 0 (s.breaks ++ p ∷ []) ++ m ∷ [])) (sym all);
      dropped_is = λ n e. absurd (cc);
    })

dropped_none : (n : ℕ) (p : LineAndGap Token) → p.gap ≡ [] → dropped_after n p ≡ []
dropped_none n p e = ap (λ (g : List Token). if length g == 0 then [] else (n + length p.line) ∷ []) e

-- the end: the last line is whole, and the first token that was dropped after it is a start too
pub starts_all : (r : Room) (ts : List Token) (left : Option ℕ) (dropped : Option ℕ) (starts all : List ℕ) → StartsSoFar r ts left dropped starts
    → (dropped ≡ None → all ≡ starts) → ((n : ℕ) → dropped ≡ Some n → (0 < n → all ≡ starts ++ n ∷ []) × (n ≡ 0 → all ≡ starts)) → ArePlacedStarts r ts all
starts_all r ts left dropped starts all h none some =
    let s = h.shape in
    let p : LineAndGap Token = record { line = s.tokens; gap = s.gap } in
    let same : starts_from 0 s.breaks ++ length (lines_and_gaps s.breaks) ∷ [] ≡ starts_from 0 (s.breaks ++ p ∷ []) =
    ap (λ m. starts_from 0 s.breaks ++ m ∷ []) (omega arith) ∙ sym (starts_from-push 0 s.breaks p) in
    let each : (d : Option ℕ) → dropped ≡ d → all ≡ starts_of (s.breaks ++ p ∷ []) =
    λ d. elim d as (λ d. dropped ≡ d → all ≡ starts_of (s.breaks ++ p ∷ [])) [
      | None ↦ λ e.
          let empty = dropped_none (0 + length (lines_and_gaps s.breaks)) p (s.no_gap (ap (λ (d : Option ℕ). is_some d) e)) in
          none e ∙ h.begun ∙ ap from_first (same ∙ sym (append-nil (starts_from 0 (s.breaks ++ p ∷ []))) ∙ ap (λ l. starts_from 0 (s.breaks ++ p ∷ []) ++ l) (sym (dropped_from-push 0 s.breaks p ∙ empty)))
      | Some n ↦ λ e.
          let gap = s.some_gap (ap (λ (d : Option ℕ). is_some d) e) in
          let place = h.dropped_is n e in
          let one = dropped_some (0 + length (lines_and_gaps s.breaks)) p gap in
          let here : n ≡ 0 + length (lines_and_gaps s.breaks) + length s.tokens = omega (arith, place) in
          next_start r ts left (is_some dropped) s starts all n h.begun (omega (arith, place)) (some n e).0 (some n e).1
          ∙ ap (λ l. from_first (l ++ n ∷ [])) same ∙ ap (λ m. from_first (starts_from 0 (s.breaks ++ p ∷ []) ++ m ∷ [])) here
          ∙ ap (λ l. from_first (starts_from 0 (s.breaks ++ p ∷ []) ++ l)) (sym (dropped_from-push 0 s.breaks p ∙ one))
    ] in
    record { breaks = s.breaks ++ p ∷ []; first_fit = whole_fit r ts left (is_some dropped) s; starts_are = each dropped refl }

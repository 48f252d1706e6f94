-- The starts of a first fit pass the checker, and with room there is one for each line.
use Rattle.std.proofs.Common.{◌≡◌, ℕ, zero, suc, ◌≤◌, ◌<◌, ◌+◌, ◌==◌, true, false, if◌then◌else◌, List, [], ◌∷◌, ◌++◌, length, refl, sym, ap, ◌∙◌, arith, subst, append-nil, append_assoc, inl, inr}
use Rattle.std.specs.List.{AllByRecursion}
use Rattle.std.proofs.lemmas.Bool.Decides.{nat_tests}
use Rattle.std.proofs.lemmas.List.{length-append}
use Rattle.mad_measure.specs.declared.tokens.Token.{Token}
use Rattle.mad_wrap.specs.Bounds.{are_starts, are_starts_from}
use Rattle.mad_wrap.specs.Breaks.{LineAndGap, lines_and_gaps, total_width}
use Rattle.mad_wrap.specs.LineStarts.{starts_from, dropped_after, dropped_from, from_first, starts_of}
use Rattle.mad_wrap.specs.Placings.{GapsForced, BeginsAfter, LinesForced, IsFirstFit}
use Rattle.mad_wrap.specs.Rooms.{most_indent}
use Rattle.mad_wrap.specs.declared.room.Room.{Room}
use Rattle.mad_wrap.proofs.BoundLemmas.{total_width-append}
use Rattle.mad_wrap.proofs.CheckerSteps.{start_after}
use Rattle.mad_wrap.proofs.LeastLemmas.{TokensHaveRoom, first_some}

-- the starts after that of a line which begins at the n-th token
abbrev others_of : ℕ → LineAndGap Token → List (LineAndGap Token) → List ℕ
others_of n p ps = starts_from (n + (length p.line + length p.gap)) ps ++ dropped_from n (p ∷ ps)

-- where a gap comes after a last line, its first token is dropped
pub dropped_some : (n : ℕ) (p : LineAndGap Token) → 0 < length p.gap → dropped_after n p ≡ (n + length p.line) ∷ []
dropped_some n p some = let e : (length p.gap == 0) ≡ false = grind (arith, nat_tests) in ap (λ b. if b then [] else (n + length p.line) ∷ []) e

-- What passes the width after an indent, with at least the tokens of a line, passes it after another.
abbrev Wider : ℕ → ℕ → Room → List Token → Type 0
Wider i indent r line = (w : ℕ) → total_width line ≤ w → r.width < i + w → r.width < indent + w

-- the first token that is dropped after the last line
last_passes : (indent i : ℕ) (r : Room) (ts pre line gap : List Token) (n : ℕ) → ts ≡ pre ++ (line ++ gap) → n ≡ length pre → 0 < length line → Wider i indent r line
    → ((t : Token) (others : List Token) → gap ≡ t ∷ others → r.width < i + total_width line + t.width) → are_starts_from indent r ts n (dropped_after n (record { line = line; gap = gap })) ≡ true
last_passes indent i r ts pre line [] n e place some wider forced = refl
last_passes indent i r ts pre line (g ∷ gs) n e place some wider forced =
    let wide = wider (total_width line + g.width) (omega arith) (omega (arith, forced g gs refl)) in
    ap (are_starts_from indent r ts n) (dropped_some n (record { line = line; gap = g ∷ gs }) (omega arith))
    ∙ start_after indent r ts pre line gs g [] n (n + length line) e place refl some (omega (arith, wide)) (inl refl) refl

-- the next line's first token
next_passes : (indent i : ℕ) (r : Room) (ts pre : List Token) (p q : LineAndGap Token) (qs : List (LineAndGap Token)) (n : ℕ) (ns : List ℕ) → ts ≡ pre ++ lines_and_gaps (p ∷ q ∷ qs) → n ≡ length pre → 0 < length (p.line ++ p.gap)
    → Wider i indent r p.line → BeginsAfter i r p q → are_starts_from r.other r ts (n + (length p.line + length p.gap)) ns ≡ true
    → are_starts_from indent r ts n ((n + (length p.line + length p.gap)) ∷ ns) ≡ true
next_passes indent i r ts pre p q qs n ns e place some wider b more =
    let rest = q.gap ++ lines_and_gaps qs in
    let joins : ts ≡ pre ++ ((p.line ++ p.gap) ++ b.first ∷ (b.others ++ rest)) =
    e ∙ ap (λ l. pre ++ l) (sym (append_assoc p.line p.gap (lines_and_gaps (q ∷ qs)))) ∙ ap (λ l. pre ++ ((p.line ++ p.gap) ++ (l ++ rest))) b.begins in
    let wide = wider (total_width p.line + total_width p.gap + b.first.width) (omega arith) (omega (arith, b.passes)) in
    start_after indent r ts pre (p.line ++ p.gap) (b.others ++ rest) b.first ns n (n + (length p.line + length p.gap)) joins place (omega (arith, length-append p.line p.gap)) some
    (omega (arith, wide, total_width-append p.line p.gap)) (inr b.solid) more

past_line : (ts pre : List Token) (p q : LineAndGap Token) (qs : List (LineAndGap Token)) → ts ≡ pre ++ lines_and_gaps (p ∷ q ∷ qs) → ts ≡ (pre ++ (p.line ++ p.gap)) ++ lines_and_gaps (q ∷ qs)
past_line ts pre p q qs e = e ∙ ap (λ l. pre ++ l) (sym (append_assoc p.line p.gap (lines_and_gaps (q ∷ qs)))) ∙ sym (append_assoc pre (p.line ++ p.gap) (lines_and_gaps (q ∷ qs)))

-- the starts after that of a line with a token
pass_from : (indent i : ℕ) (r : Room) (ts pre : List Token) (p : LineAndGap Token) (ps : List (LineAndGap Token)) (n : ℕ) → ts ≡ pre ++ lines_and_gaps (p ∷ ps) → n ≡ length pre → 0 < length p.line → Wider i indent r p.line
    → GapsForced i r (p ∷ ps) → LinesForced i r (p ∷ ps) → are_starts_from indent r ts n (others_of n p ps) ≡ true
pass_from indent i r ts pre p [] n e place some wider gaps forced =
    last_passes indent i r ts pre p.line p.gap n (e ∙ ap (λ l. pre ++ (p.line ++ l)) (append-nil p.gap)) place some wider gaps.1
pass_from indent i r ts pre p (q ∷ qs) n e place some wider gaps forced =
    let more = pass_from r.other r.other r ts (pre ++ (p.line ++ p.gap)) q qs (n + (length p.line + length p.gap)) (past_line ts pre p q qs e)
    (omega (arith, place, length-append pre (p.line ++ p.gap), length-append p.line p.gap)) (omega (arith, ap length forced.0.begins)) (λ w l h. h) gaps.2 forced.1 in
    next_passes indent i r ts pre p q qs n (others_of (n + (length p.line + length p.gap)) q qs) e place (omega (arith, some, length-append p.line p.gap)) wider forced.0 more

-- ---- a start for each line

rises : (n m : ℕ) (ns : List ℕ) → 0 < m → from_first (n ∷ m ∷ ns) ≡ n ∷ m ∷ ns
rises n zero ns some = absurd (omega arith)
rises n (suc m) ns some = refl

each_end : (line gap : List Token) → 0 < length line → starts_of (record { line = line; gap = gap } ∷ []) ≡ 0 ∷ dropped_after 0 (record { line = line; gap = gap })
each_end line [] some = refl
each_end line (g ∷ gs) some =
    let one = dropped_some 0 (record { line = line; gap = g ∷ gs }) (omega arith) in
    ap (λ (l : List ℕ). from_first (0 ∷ l)) one ∙ rises 0 (0 + length line) [] (omega arith) ∙ ap (λ (l : List ℕ). 0 ∷ l) (sym one)

each_line : (p : LineAndGap Token) (ps : List (LineAndGap Token)) → 0 < length p.line → starts_of (p ∷ ps) ≡ 0 ∷ others_of 0 p ps
each_line p [] some = each_end p.line p.gap some
each_line p (q ∷ qs) some = rises 0 (0 + (length p.line + length p.gap)) (others_of (0 + (length p.line + length p.gap)) q qs) (omega arith)

each_with_room : (r : Room) (line gap : List Token) (ps : List (LineAndGap Token)) → GapsForced r.first r (record { line = line; gap = gap } ∷ ps) → LinesForced r.first r (record { line = line; gap = gap } ∷ ps)
    → AllByRecursion (λ t. most_indent r + t.width ≤ r.width) (lines_and_gaps (record { line = line; gap = gap } ∷ ps)) → starts_of (record { line = line; gap = gap } ∷ ps) ≡ 0 ∷ others_of 0 (record { line = line; gap = gap }) ps
each_with_room r (x ∷ line) gap ps gaps forced room = each_line (record { line = x ∷ line; gap = gap }) ps (omega arith)
each_with_room r [] [] [] gaps forced room = refl
each_with_room r [] (g ∷ gs) ps gaps forced room = absurd (omega (arith, first_some r [] (g ∷ gs) ps gaps forced room (omega arith)))
each_with_room r [] [] (q ∷ qs) gaps forced room =
    absurd (omega (arith, first_some r [] [] (q ∷ qs) gaps forced room (omega (arith, ap length forced.0.begins, length-append q.line (q.gap ++ lines_and_gaps qs)))))

-- with room for each token, each line has a start of its own
pub starts_each : (r : Room) (ts : List Token) (ps : List (LineAndGap Token)) → IsFirstFit r ts ps → TokensHaveRoom r ts → starts_of ps ≡ starts_from 0 ps ++ dropped_from 0 ps
starts_each r ts [] h room = absurd (omega (arith, h.placing.some_line))
starts_each r ts (p ∷ ps) h room = each_with_room r p.line p.gap ps h.placing.gaps h.forced (subst (AllByRecursion (λ t. most_indent r + t.width ≤ r.width)) (sym h.placing.covers) room.each)

-- ---- all starts pass

-- where the second line begins after a token
second_passes : (r : Room) (ts : List Token) (p q : LineAndGap Token) (qs : List (LineAndGap Token)) → ts ≡ lines_and_gaps (p ∷ q ∷ qs) → 0 < length (p.line ++ p.gap) → GapsForced r.first r (p ∷ q ∷ qs) → LinesForced r.first r (p ∷ q ∷ qs)
    → are_starts r ts (starts_of (p ∷ q ∷ qs)) ≡ true
second_passes r ts p q qs e some gaps forced =
    let m = 0 + (length p.line + length p.gap) in
    let more = pass_from r.other r.other r ts (p.line ++ p.gap) q qs m (past_line ts [] p q qs e) (omega (arith, length-append p.line p.gap)) (omega (arith, ap length forced.0.begins)) (λ w l h. h) gaps.2 forced.1 in
    ap (are_starts r ts) (rises 0 m (others_of m q qs) (omega (arith, some, length-append p.line p.gap)))
    ∙ next_passes r.first r.first r ts [] p q qs 0 (others_of m q qs) e refl some (λ w l h. h) forced.0 more

-- where the second line begins at the first token, the first line has none
second_at_first : (r : Room) (ts : List Token) (q : LineAndGap Token) (qs : List (LineAndGap Token)) → ts ≡ lines_and_gaps (q ∷ qs) → GapsForced r.other r (q ∷ qs) → BeginsAfter r.first r (record { line = []; gap = [] }) q → LinesForced r.other r (q ∷ qs)
    → are_starts_from r.first r ts 0 (others_of 0 q qs) ≡ true
second_at_first r ts q qs e gaps b forced =
    let wider : Wider r.other r.first r q.line = λ w l h. omega (arith, b.passes, l, ap total_width b.begins) in
    pass_from r.first r.other r ts [] q qs 0 e refl (omega (arith, ap length b.begins)) wider gaps forced

pass_all : (r : Room) (ts line gap : List Token) (ps : List (LineAndGap Token)) → ts ≡ lines_and_gaps (record { line = line; gap = gap } ∷ ps) → GapsForced r.first r (record { line = line; gap = gap } ∷ ps)
    → LinesForced r.first r (record { line = line; gap = gap } ∷ ps) → are_starts r ts (starts_of (record { line = line; gap = gap } ∷ ps)) ≡ true
pass_all r ts (x ∷ line) gap ps e gaps forced =
    let p : LineAndGap Token = record { line = x ∷ line; gap = gap } in
    ap (are_starts r ts) (each_line p ps (omega arith)) ∙ pass_from r.first r.first r ts [] p ps 0 e refl (omega arith) (λ w l h. h) gaps forced
pass_all r ts [] [] [] e gaps forced = refl
pass_all r ts [] (g ∷ gs) [] e gaps forced = ap (λ (l : List ℕ). are_starts r ts (from_first (0 ∷ l))) (dropped_some 0 (record { line = []; gap = g ∷ gs }) (omega arith))
pass_all r ts [] [] (q ∷ qs) e gaps forced = second_at_first r ts q qs e gaps.2 forced.0 forced.1
pass_all r ts [] (g ∷ gs) (q ∷ qs) e gaps forced = second_passes r ts (record { line = []; gap = g ∷ gs }) q qs e (omega arith) gaps forced

-- the starts of a first fit pass the checker
pub starts_pass : (r : Room) (ts : List Token) (ps : List (LineAndGap Token)) → IsFirstFit r ts ps → are_starts r ts (starts_of ps) ≡ true
starts_pass r ts [] h = absurd (omega (arith, h.placing.some_line))
starts_pass r ts (p ∷ ps) h = pass_all r ts p.line p.gap ps (sym h.placing.covers) h.placing.gaps h.forced

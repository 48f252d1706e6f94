-- Runs that grow: by a character in the open run, and by the open run that ends.
use Rattle.std.proofs.Common.{◌≡◌, ℕ, suc, ◌+◌, ◌-◌, ◌<◌, ◌≤◌, Bool, true, false, cond, List, [], ◌∷◌, ◌++◌, length, map, take, drop, chars, refl, ap, sym, ◌∙◌, arith, append_assoc, length-drop}
use Rattle.std.specs.Prelude.{nat_le, nat_lt, encode_utf8}
use Rattle.std.specs.Str.{IsUtf8}
use Rattle.std.specs.Char.{IsScalar}
use Rattle.std.proofs.Math.Seq.{take-length, drop-length, take-nil, drop-nil}
use Rattle.std.proofs.lemmas.Bool.Decides.{nat_tests}
use Rattle.std.proofs.lemmas.Bool.{leb-true, le-leb, and_from}
use Rattle.std.proofs.lemmas.List.{take-append-le, drop-append-le, map-append, append-nil, nil_from_length, take-append-drop}
use Rattle.std.proofs.lemmas.Str.{chars-append, chars-nil, chars_past_char, IsUtf8-encode, length-le-encodes, encodes-chars}
use Rattle.mad_plain.specs.declared.pens.Pen.{Pen}
use Rattle.mad_plain.specs.declared.runs.StyleRun.{StyleRun}
use Rattle.mad_plain.specs.Pens.{plain_pen}
use Rattle.mad_plain.specs.Runs.{StyledChar, styled, said, spread, are_within, next_runs, first_style}
use Rattle.mad_plain.proofs.PenLemmas.{both_true}

-- a run that has this style and ends at this number
abbrev pub run : Pen → ℕ → StyleRun
run style end = record { style = style; end = end }

-- runs within a number begin no later than there
pub ends_within : (at : ℕ) (rs : List StyleRun) (n : ℕ) → are_within at rs n ≡ true → at ≤ n
ends_within at [] n h = leb-true at n h
ends_within at (r ∷ rs) n h =
    let b = both_true (nat_le at r.end) (are_within r.end rs n) h in
    omega (arith, leb-true at r.end b.0, ends_within r.end rs n b.1)

-- runs within a number are within the next one
pub within_more : (at : ℕ) (rs : List StyleRun) (n : ℕ) → are_within at rs n ≡ true → are_within at rs (n + 1) ≡ true
within_more at [] n h = le-leb at (n + 1) (omega (arith, leb-true at n h))
within_more at (r ∷ rs) n h =
    let b = both_true (nat_le at r.end) (are_within r.end rs n) h in
    and_from (nat_le at r.end) (are_within r.end rs (n + 1)) b.0 (within_more r.end rs n b.1)

-- with the open run, which ends at the number, they are within it
pub closed_within : (d : Pen) (at : ℕ) (rs : List StyleRun) (n : ℕ) → are_within at rs n ≡ true → are_within at (rs ++ run d n ∷ []) n ≡ true
closed_within d at [] n h = and_from (nat_le at n) (nat_le n n) h (le-leb n n (omega arith))
closed_within d at (r ∷ rs) n h =
    let b = both_true (nat_le at r.end) (are_within r.end rs n) h in
    and_from (nat_le at r.end) (are_within r.end (rs ++ run d n ∷ []) n) b.0 (closed_within d r.end rs n b.1)

-- no characters
pub spread_nothing : (d : Pen) (at : ℕ) (rs : List StyleRun) → spread d at rs [] ≡ []
spread_nothing d at [] = refl
spread_nothing d at (r ∷ rs) =
    ap (λ (l : List ℕ). map (styled r.style) l ++ spread d r.end rs (drop (r.end - at) [])) (take-nil (r.end - at)) ∙ ap (spread d r.end rs) (drop-nil (r.end - at)) ∙ spread_nothing d r.end rs

left_of : (at e n : ℕ) (cs : List ℕ) → at ≤ e → e ≤ n → n ≡ at + length cs → n ≡ e + length (drop (e - at) cs)
left_of at e n cs h k q = omega (arith, length-drop (e - at) cs)

-- one more character is in the open run
pub spread_more : (d : Pen) (at : ℕ) (rs : List StyleRun) (cs : List ℕ) (c n : ℕ) → are_within at rs n ≡ true → n ≡ at + length cs → spread d at rs (cs ++ c ∷ []) ≡ spread d at rs cs ++ styled d c ∷ []
spread_more d at [] cs c n h q = map-append (styled d) cs (c ∷ [])
spread_more d at (r ∷ rs) cs c n h q =
    let b = both_true (nat_le at r.end) (are_within r.end rs n) h in
    let low : at ≤ r.end = leb-true at r.end b.0 in
    let high : r.end ≤ n = ends_within r.end rs n b.1 in
    let k = r.end - at in
    let short : r.end - at ≤ length cs = omega arith in
    ap (λ (l : List ℕ). map (styled r.style) l ++ spread d r.end rs (drop (r.end - at) (cs ++ c ∷ []))) (take-append-le (r.end - at) cs (c ∷ []) short)
    ∙ ap (λ (l : List ℕ). map (styled r.style) (take (r.end - at) cs) ++ spread d r.end rs l) (drop-append-le (r.end - at) cs (c ∷ []) short)
    ∙ ap (λ (l : List StyledChar). map (styled r.style) (take (r.end - at) cs) ++ l) (spread_more d r.end rs (drop (r.end - at) cs) c n b.1 (left_of at r.end n cs low high q))
    ∙ sym (append_assoc (map (styled r.style) (take (r.end - at) cs)) (spread d r.end rs (drop (r.end - at) cs)) (styled d c ∷ []))

whole : (d e : Pen) (k : ℕ) (cs : List ℕ) → k ≡ length cs → map (styled d) (take k cs) ++ map (styled e) (drop k cs) ≡ map (styled d) cs
whole d e k cs q =
    ap (λ j. map (styled d) (take j cs) ++ map (styled e) (drop j cs)) q
    ∙ ap (λ (l : List ℕ). map (styled d) l ++ map (styled e) (drop (length cs) cs)) (take-length cs)
    ∙ ap (λ (l : List ℕ). map (styled d) cs ++ map (styled e) l) (drop-length cs)
    ∙ append-nil (map (styled d) cs)

-- the open run ends, and another one is open
pub spread_closed : (d e : Pen) (at : ℕ) (rs : List StyleRun) (cs : List ℕ) (n : ℕ) → are_within at rs n ≡ true → n ≡ at + length cs → spread e at (rs ++ run d n ∷ []) cs ≡ spread d at rs cs
spread_closed d e at [] cs n h q = whole d e (n - at) cs (omega arith)
spread_closed d e at (r ∷ rs) cs n h q =
    let b = both_true (nat_le at r.end) (are_within r.end rs n) h in
    let low : at ≤ r.end = leb-true at r.end b.0 in
    let high : r.end ≤ n = ends_within r.end rs n b.1 in
    ap (λ (l : List StyledChar). map (styled r.style) (take (r.end - at) cs) ++ l) (spread_closed d e r.end rs (drop (r.end - at) cs) n b.1 (left_of at r.end n cs low high q))

-- a character behind a text
pub chars_pushed : (bs : List ℕ) (c : ℕ) → IsUtf8 bs → IsScalar c → chars (bs ++ encode_utf8 c) ≡ chars bs ++ c ∷ []
chars_pushed bs c u s =
    chars-append bs (encode_utf8 c) u
    ∙ ap (λ (l : List ℕ). chars bs ++ l) (chars_past_char (encode_utf8 c) [] c (IsUtf8-encode c s) (sym (append-nil (encode_utf8 c))) ∙ ap (λ (l : List ℕ). c ∷ l) chars-nil)

-- where there are no characters, the open run may have any style
pub spread_empty : (d e : Pen) (at : ℕ) (rs : List StyleRun) (cs : List ℕ) (n : ℕ) → n ≡ 0 → n ≡ length cs → spread d at rs cs ≡ spread e at rs cs
spread_empty d e at rs cs n z q =
    let none : cs ≡ [] = nil_from_length cs (sym q ∙ z) in
    ap (spread d at rs) none ∙ spread_nothing d at rs ∙ sym (spread_nothing e at rs) ∙ ap (spread e at rs) (sym none)

-- no more characters than bytes
pub chars_short : (bs : List ℕ) → IsUtf8 bs → length (chars bs) ≤ length bs
chars_short bs u = omega (arith, length-le-encodes (chars bs), ap length (encodes-chars bs u))

-- ---- from a number on

same_end : (at e : ℕ) → nat_le at e ≡ true → nat_lt at e ≡ false → e ≡ at
same_end at e h k = grind (arith, nat_tests, h, k)

-- the run ends here: those behind it end here or later
passed_within : (at : ℕ) (r : StyleRun) (rs : List StyleRun) (n : ℕ) → r.end ≡ at → are_within r.end rs n ≡ true → are_within at rs n ≡ true
passed_within at r rs n e h = ap (λ j. are_within j rs n) (sym e) ∙ h

next_by : (d : Pen) (at : ℕ) (r : StyleRun) (rs : List StyleRun) (cs : List ℕ) (n : ℕ) (b : Bool) → nat_lt at r.end ≡ b → nat_le at r.end ≡ true → are_within r.end rs n ≡ true
    → ((h : are_within at rs n ≡ true) → spread d at rs cs ≡ spread d at (next_runs rs at) cs)
    → spread d at (r ∷ rs) cs ≡ spread d at (cond b (r ∷ rs) (next_runs rs at)) cs
next_by d at r rs cs n true h low later k = refl
next_by d at r rs cs n false h low later k =
    let e : r.end ≡ at = same_end at r.end low h in
    let none : r.end - at ≡ 0 = omega arith in
    ap (λ j. map (styled r.style) (take j cs) ++ spread d r.end rs (drop j cs)) none ∙ ap (λ j. spread d j rs cs) e ∙ k (passed_within at r rs n e later)

-- runs that have ended are passed
pub next_spread : (d : Pen) (at : ℕ) (rs : List StyleRun) (cs : List ℕ) (n : ℕ) → are_within at rs n ≡ true → spread d at rs cs ≡ spread d at (next_runs rs at) cs
next_spread d at [] cs n h = refl
next_spread d at (r ∷ rs) cs n h =
    let b = both_true (nat_le at r.end) (are_within r.end rs n) h in
    next_by d at r rs cs n (nat_lt at r.end) refl b.0 b.1 (λ k. next_spread d at rs cs n k)

-- the first character is in the first run that is left
first_by : (at : ℕ) (r : StyleRun) (rs : List StyleRun) (c : ℕ) (cs : List ℕ) (n : ℕ) (b : Bool) → nat_lt at r.end ≡ b → nat_le at r.end ≡ true → are_within r.end rs n ≡ true
    → ((h : are_within at rs n ≡ true) → spread plain_pen at (next_runs rs at) (c ∷ cs) ≡ styled (first_style (next_runs rs at)) c ∷ spread plain_pen (at + 1) (next_runs rs at) cs)
    → spread plain_pen at (cond b (r ∷ rs) (next_runs rs at)) (c ∷ cs) ≡ styled (first_style (cond b (r ∷ rs) (next_runs rs at))) c ∷ spread plain_pen (at + 1) (cond b (r ∷ rs) (next_runs rs at)) cs
first_by at r rs c cs n true h low later k =
    let more : r.end - at ≡ suc (r.end - (at + 1)) = grind (arith, nat_tests, h) in
    ap (λ j. map (styled r.style) (take j (c ∷ cs)) ++ spread plain_pen r.end rs (drop j (c ∷ cs))) more
first_by at r rs c cs n false h low later k = k (passed_within at r rs n (same_end at r.end low h) later)

first_spread : (at : ℕ) (rs : List StyleRun) (c : ℕ) (cs : List ℕ) (n : ℕ) → are_within at rs n ≡ true
    → spread plain_pen at (next_runs rs at) (c ∷ cs) ≡ styled (first_style (next_runs rs at)) c ∷ spread plain_pen (at + 1) (next_runs rs at) cs
first_spread at [] c cs n h = refl
first_spread at (r ∷ rs) c cs n h =
    let b = both_true (nat_le at r.end) (are_within r.end rs n) h in
    first_by at r rs c cs n (nat_lt at r.end) refl b.0 b.1 (λ k. first_spread at rs c cs n k)

rest_by : (at : ℕ) (r : StyleRun) (rs : List StyleRun) (n : ℕ) (b : Bool) → nat_lt at r.end ≡ b → nat_le at r.end ≡ true → are_within r.end rs n ≡ true
    → ((h : are_within at rs n ≡ true) → are_within (at + 1) (next_runs rs at) n ≡ true)
    → are_within (at + 1) (cond b (r ∷ rs) (next_runs rs at)) n ≡ true
rest_by at r rs n true h low later k = and_from (nat_le (at + 1) r.end) (are_within r.end rs n) (grind (arith, nat_tests, h)) later
rest_by at r rs n false h low later k = k (passed_within at r rs n (same_end at r.end low h) later)

rest_within : (at : ℕ) (rs : List StyleRun) (n : ℕ) → at < n → are_within at rs n ≡ true → are_within (at + 1) (next_runs rs at) n ≡ true
rest_within at [] n some h = le-leb (at + 1) n (omega arith)
rest_within at (r ∷ rs) n some h =
    let b = both_true (nat_le at r.end) (are_within r.end rs n) h in
    rest_by at r rs n (nat_lt at r.end) refl b.0 b.1 (λ k. rest_within at rs n some k)

-- one character further on
pub step_rest : (at : ℕ) (rs new : List StyleRun) (old cs : List ℕ) (c : ℕ) (style : Pen) → are_within at rs (at + length old) ≡ true → old ≡ c ∷ cs → new ≡ next_runs rs at → style ≡ first_style new
    → spread plain_pen at rs old ≡ styled style c ∷ spread plain_pen (at + 1) new cs
step_rest at rs new old cs c style h e is first =
    ap (spread plain_pen at rs) e
    ∙ next_spread plain_pen at rs (c ∷ cs) (at + length old) h
    ∙ first_spread at rs c cs (at + length old) h
    ∙ ap (λ (l : List StyleRun). styled (first_style l) c ∷ spread plain_pen (at + 1) l cs) (sym is)
    ∙ ap (λ (s : Pen). styled s c ∷ spread plain_pen (at + 1) new cs) (sym first)

-- past one more character the runs that are left are within the same number
pub step_within : (at : ℕ) (rs new : List StyleRun) (old cs : List ℕ) (c : ℕ) → are_within at rs (at + length old) ≡ true → old ≡ c ∷ cs → new ≡ next_runs rs at → are_within (at + 1) new (at + 1 + length cs) ≡ true
step_within at rs new old cs c h e is =
    let n : at + length old ≡ at + 1 + length cs = omega (arith, ap length e) in
    ap (λ (l : List StyleRun). are_within (at + 1) l (at + 1 + length cs)) is
    ∙ ap (λ j. are_within (at + 1) (next_runs rs at) j) (sym n)
    ∙ rest_within at rs (at + length old) (omega (arith, n)) h

-- the characters of runs are those that were spread
pub said_styled : (d : Pen) (cs : List ℕ) → said (map (styled d) cs) ≡ cs
said_styled d [] = refl
said_styled d (c ∷ cs) = ap (λ (l : List ℕ). c ∷ l) (said_styled d cs)

-- spreading runs over characters changes none of them
pub said_spread : (d : Pen) (at : ℕ) (rs : List StyleRun) (cs : List ℕ) → said (spread d at rs cs) ≡ cs
said_spread d at [] cs = said_styled d cs
said_spread d at (r ∷ rs) cs =
    map-append (λ (c : StyledChar). c.char) (map (styled r.style) (take (r.end - at) cs)) (spread d r.end rs (drop (r.end - at) cs))
    ∙ ap (λ l. l ++ said (spread d r.end rs (drop (r.end - at) cs))) (said_styled r.style (take (r.end - at) cs))
    ∙ ap (λ l. take (r.end - at) cs ++ l) (said_spread d r.end rs (drop (r.end - at) cs))
    ∙ take-append-drop (r.end - at) cs

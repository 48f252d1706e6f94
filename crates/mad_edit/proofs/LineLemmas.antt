-- The line of a position, said of the text before the position and after it.
use Rattle.std.proofs.lemmas.Bool.{cases_lt}
use Rattle.std.proofs.lemmas.List.Sums.{suffix_len_is, sum_by-cons}
use Rattle.std.proofs.Common.{inl, inr, get_or, ℕ, suc, ◌+◌, ◌-◌, ◌<◌, ◌≤◌, ◌≡◌, ◌==◌, List, [], ◌∷◌, ◌++◌, length, take, drop, reverse, refl, ap, sym, ◌∙◌, arith, append-nil, append_assoc, cond, true, false, Bool, not, ◌&&◌, length-append, zero-add}
use Rattle.std.specs.Prelude.{All, count_by}
use Rattle.std.specs.List.{prefix_len, suffix_len}
use Rattle.std.proofs.lemmas.List.{take_at, drop_at, length-take-le, length-drop, reverse-append}
use Rattle.std.proofs.lemmas.List.Elements.{All-head, All-tail, All-take, All-drop, All-get_or}
use Rattle.mad_edit_lines.specs.declared.position.Pos.{Pos}
use Rattle.mad_edit.proofs.SplitLemmas.{IsLineChar, not_newline}
use Rattle.mad_edit.specs.Editor.{is_in_line}
use Rattle.mad_edit_lines.specs.TextLines.{is_newline, led_lines, text_of, line_at, IsPosition, IsLineText, is_accepted, offset_of}
use Rattle.mad_edit_lines.proofs.PositionLemmas.{before, after, take_before, drop_after, led_cons, earlier_line}

none_in_line : (b r : Bool) → (not b && r) ≡ true → not b ≡ true
none_in_line true r h = cc
none_in_line false r h = refl

-- a run ends at a character that fails
prefix_stops : (p : ℕ → Bool) (xs ys : List ℕ) → p 10 ≡ false → prefix_len p (xs ++ 10 ∷ ys) ≡ prefix_len p xs
prefix_stops p [] ys h = ap (λ b. cond b (1 + prefix_len p ys) 0) h
prefix_stops p (x ∷ xs) ys h = ap (λ n. cond (p x) (1 + n) 0) (prefix_stops p xs ys h)

-- all of a line's text is in the line
prefix_text : (l : List ℕ) → IsLineText l → prefix_len is_in_line l ≡ length l
prefix_text [] h = refl
prefix_text (c ∷ l) h =
    ap (λ b. cond b (1 + prefix_len is_in_line l) 0) (none_in_line (c == 10) (is_accepted c) (All-head IsLineChar c l h).0)
    ∙ ap (λ n. 1 + n) (prefix_text l (All-tail IsLineChar c l h)) ∙ omega arith

suffix_text : (l : List ℕ) (x : ℕ) → x ≤ length l → IsLineText l → suffix_len is_in_line (take x l) ≡ x
suffix_text l x h texts =
    let n = length-take-le x l h in
    let all : (k : ℕ) → 0 ≤ k → k < length (take x l) → is_in_line (get_or (take x l) k 0) ≡ true = λ k low high.
    none_in_line (get_or (take x l) k 0 == 10) (is_accepted (get_or (take x l) k 0)) (All-get_or IsLineChar (take x l) k 0 high (All-take IsLineChar x l texts)).0 in
    suffix_len_is is_in_line (take x l) 0 0 (omega arith) all (λ low. absurd (omega arith)) ∙ omega arith

suffix_cut : (p : ℕ → Bool) (a m : List ℕ) → p 10 ≡ false → suffix_len p (a ++ 10 ∷ m) ≡ suffix_len p m
suffix_cut p a m h =
    ap (prefix_len p) (reverse-append a (10 ∷ m) ∙ ap (λ r. r ++ reverse a) (reverse-append (10 ∷ []) m) ∙ append_assoc (reverse m) (10 ∷ []) (reverse a))
    ∙ prefix_stops p (reverse m) (reverse a) h

-- the text before a position, after a newline
text_before : (ls : List (List ℕ)) (p : Pos) → IsPosition ls p → 10 ∷ take (offset_of ls p) (text_of ls) ≡ led_lines (take p.y ls) ++ (10 ∷ take p.x (line_at ls p.y))
unfolding before
text_before ls p h = ap (take (suc (offset_of ls p))) (sym (led_cons ls (omega arith))) ∙ take_before ls p h

text_after : (ls : List (List ℕ)) (p : Pos) → IsPosition ls p → drop (offset_of ls p) (text_of ls) ≡ drop p.x (line_at ls p.y) ++ led_lines (drop (suc p.y) ls)
unfolding after
text_after ls p h = ap (drop (suc (offset_of ls p))) (sym (led_cons ls (omega arith))) ∙ drop_after ls p h

text_of_line : (ls : List (List ℕ)) (y : ℕ) → y < length ls → All IsLineText ls → IsLineText (line_at ls y)
text_of_line ls y h texts = All-get_or IsLineText ls y [] h texts

prefix_after : (l : List ℕ) (ls : List (List ℕ)) → IsLineText l → prefix_len is_in_line (l ++ led_lines ls) ≡ length l
prefix_after l [] h = ap (prefix_len is_in_line) (append-nil l) ∙ prefix_text l h
prefix_after l (m ∷ ls) h = prefix_stops is_in_line l (m ++ led_lines ls) refl ∙ prefix_text l h

-- how much of the line is after a position
pub length_after : (ls : List (List ℕ)) (p : Pos) → IsPosition ls p → All IsLineText ls → prefix_len is_in_line (drop (offset_of ls p) (text_of ls)) ≡ length (line_at ls p.y) - p.x
length_after ls p h texts =
    ap (prefix_len is_in_line) (text_after ls p h)
    ∙ prefix_after (drop p.x (line_at ls p.y)) (drop (suc p.y) ls) (All-drop IsLineChar p.x (line_at ls p.y) (text_of_line ls p.y h.0 texts))
    ∙ length-drop p.x (line_at ls p.y)

-- the rest of a position's line
pub rest_after : (ls : List (List ℕ)) (p : Pos) → IsPosition ls p → All IsLineText ls → take (prefix_len is_in_line (drop (offset_of ls p) (text_of ls))) (drop (offset_of ls p) (text_of ls)) ≡ drop p.x (line_at ls p.y)
rest_after ls p h texts =
    ap (take (prefix_len is_in_line (drop (offset_of ls p) (text_of ls)))) (text_after ls p h)
    ∙ take_at (drop p.x (line_at ls p.y)) (led_lines (drop (suc p.y) ls)) _ (length-drop p.x (line_at ls p.y) ∙ sym (length_after ls p h texts))

-- how much of the line is before a position
pub length_front : (ls : List (List ℕ)) (p : Pos) → IsPosition ls p → All IsLineText ls → suffix_len is_in_line (take (offset_of ls p) (text_of ls)) ≡ p.x
length_front ls p h texts =
    sym (suffix_cut is_in_line [] (take (offset_of ls p) (text_of ls)) refl)
    ∙ ap (suffix_len is_in_line) (text_before ls p h)
    ∙ suffix_cut is_in_line (led_lines (take p.y ls)) (take p.x (line_at ls p.y)) refl
    ∙ suffix_text (line_at ls p.y) p.x h.1 (text_of_line ls p.y h.0 texts)

-- the front of a position's line
pub front_before : (ls : List (List ℕ)) (p : Pos) → IsPosition ls p → All IsLineText ls → drop (offset_of ls p - suffix_len is_in_line (take (offset_of ls p) (text_of ls))) (take (offset_of ls p) (text_of ls)) ≡ take p.x (line_at ls p.y)
front_before ls p h texts =
    let start : offset_of ls p - p.x ≡ length (led_lines (take p.y ls)) = omega arith in
    let led : length (led_lines (take p.y ls) ++ 10 ∷ []) ≡ suc (length (led_lines (take p.y ls))) = length-append (led_lines (take p.y ls)) (10 ∷ []) ∙ omega arith in
    ap (λ n. drop (offset_of ls p - n) (take (offset_of ls p) (text_of ls))) (length_front ls p h texts)
    ∙ ap (λ n. drop n (take (offset_of ls p) (text_of ls))) start
    ∙ ap (drop (suc (length (led_lines (take p.y ls))))) (text_before ls p h)
    ∙ ap (drop (suc (length (led_lines (take p.y ls))))) (sym (append_assoc (led_lines (take p.y ls)) (10 ∷ []) (take p.x (line_at ls p.y))))
    ∙ drop_at (led_lines (take p.y ls) ++ 10 ∷ []) (take p.x (line_at ls p.y)) _ led

count_cons : (c : ℕ) (cs : List ℕ) → count_by is_newline (c ∷ cs) ≡ cond (is_newline c) 1 0 + count_by is_newline cs
count_cons c cs = sum_by-cons (λ x. cond (is_newline x) 1 0) c cs

count_text : (l ys : List ℕ) → IsLineText l → count_by is_newline (l ++ ys) ≡ count_by is_newline ys
count_text [] ys h = refl
count_text (c ∷ l) ys h =
    count_cons c (l ++ ys) ∙ ap (λ b. cond b 1 0 + count_by is_newline (l ++ ys)) (not_newline (c == 10) (is_accepted c) (All-head IsLineChar c l h).0)
    ∙ zero-add _ ∙ count_text l ys (All-tail IsLineChar c l h)

count_led : (ls : List (List ℕ)) (ys : List ℕ) → All IsLineText ls → count_by is_newline (led_lines ls ++ ys) ≡ length ls + count_by is_newline ys
count_led [] ys h = omega arith
count_led (l ∷ ls) ys h =
    count_cons 10 ((l ++ led_lines ls) ++ ys)
    ∙ ap (λ t. 1 + count_by is_newline t) (append_assoc l (led_lines ls) ys)
    ∙ ap (λ n. 1 + n) (count_text l (led_lines ls ++ ys) (All-head IsLineText l ls h) ∙ count_led ls ys (All-tail IsLineText l ls h))
    ∙ omega arith

-- the newlines before a position are as many as its line's number
pub newlines_before : (ls : List (List ℕ)) (p : Pos) → IsPosition ls p → All IsLineText ls → count_by is_newline (take (offset_of ls p) (text_of ls)) ≡ p.y
newlines_before ls p h texts =
    let all = sym (count_cons 10 (take (offset_of ls p) (text_of ls))) ∙ ap (count_by is_newline) (text_before ls p h) in
    let led = count_led (take p.y ls) (10 ∷ take p.x (line_at ls p.y)) (All-take IsLineText p.y ls texts) in
    let front = ap (count_by is_newline) (append-nil (take p.x (line_at ls p.y))) in
    let next = count_cons 10 (take p.x (line_at ls p.y)) in
    let line = count_text (take p.x (line_at ls p.y)) [] (All-take IsLineChar p.x (line_at ls p.y) (text_of_line ls p.y h.0 texts)) in
    let n = length-take-le p.y ls (omega arith) in
    omega (arith, all, led, front, next, line, n)

-- the lesser offset is not on a later line
pub lines_in_order : (ls : List (List ℕ)) (p q : Pos) → IsPosition ls p → IsPosition ls q → offset_of ls p ≤ offset_of ls q → p.y ≤ q.y
lines_in_order ls p q hp hq h = elim (cases_lt q.y p.y) [ inl less ↦ absurd (let e = earlier_line ls q p hq hp less in omega arith) | inr le ↦ le ]

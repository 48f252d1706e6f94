-- Positions in a text, and edits between two positions.
use Rattle.std.proofs.Common.{ℕ, zero, suc, ◌+◌, ◌<◌, ◌≤◌, ◌≡◌, ◌⊎◌, inl, inr, List, [], ◌∷◌, ◌++◌, ◌-◌, length, take, drop, get_or, slice_get, Some, None, refl, ap, sym, ◌∙◌, arith, append_assoc, length-append}
use Rattle.std.proofs.lemmas.Bool.{cases_lt}
use Rattle.std.proofs.lemmas.List.{take_at, drop_at, length-take-le, take-append-drop, get_or_append_left, get_or-append_right, take-append-le, take_more, drop_more, length-drop, drop_all}
use Rattle.std.proofs.lemmas.List.Elements.{All-append, All-take, All-drop}
use Rattle.std.specs.Prelude.{All}
use Rattle.mad_edit_lines.specs.declared.position.Pos.{Pos}
use Rattle.mad_edit_lines.specs.TextLines.{led_lines, text_of, line_at, IsPosition, offset_of}

-- lines and more of them, each after its newline
pub led_lines-append : (xs ys : List (List ℕ)) → led_lines (xs ++ ys) ≡ led_lines xs ++ led_lines ys
led_lines-append [] ys = refl
led_lines-append (x ∷ xs) ys = ap (λ t. (10 ∷ x) ++ t) (led_lines-append xs ys) ∙ sym (append_assoc (10 ∷ x) (led_lines xs) (led_lines ys))

-- the lines before, the line, and those after
pub led_split : (ls : List (List ℕ)) (y : ℕ) → y < length ls → led_lines ls ≡ led_lines (take y ls) ++ ((10 ∷ line_at ls y) ++ led_lines (drop (suc y) ls))
led_split [] y h = absurd (omega arith)
led_split (l ∷ ls) zero h = refl
led_split (l ∷ ls) (suc y) h = ap (λ t. (10 ∷ l) ++ t) (led_split ls y (omega arith)) ∙ sym (append_assoc (10 ∷ l) (led_lines (take y ls)) _)

-- what is before a position, after the first newline
unfoldable pub before : List (List ℕ) → Pos → List ℕ
before ls p = led_lines (take p.y ls) ++ (10 ∷ take p.x (line_at ls p.y))

-- what is after a position
unfoldable pub after : List (List ℕ) → Pos → List ℕ
after ls p = drop p.x (line_at ls p.y) ++ led_lines (drop (suc p.y) ls)

-- a text is what is before a position and what is after it
pub led_at : (ls : List (List ℕ)) (p : Pos) → IsPosition ls p → led_lines ls ≡ before ls p ++ after ls p
unfolding before after
led_at ls p h =
    led_split ls p.y h.0
    ∙ ap (λ l. led_lines (take p.y ls) ++ ((10 ∷ l) ++ led_lines (drop (suc p.y) ls))) (sym (take-append-drop p.x (line_at ls p.y)))
    ∙ ap (λ t. led_lines (take p.y ls) ++ (10 ∷ t)) (append_assoc (take p.x (line_at ls p.y)) _ _)
    ∙ sym (append_assoc (led_lines (take p.y ls)) (10 ∷ take p.x (line_at ls p.y)) _)

-- how long that front is, its first newline with it
pub length-before : (ls : List (List ℕ)) (p : Pos) → IsPosition ls p → length (before ls p) ≡ suc (offset_of ls p)
unfolding before
length-before ls p h = omega (arith, length-append (led_lines (take p.y ls)) (10 ∷ take p.x (line_at ls p.y)), length-take-le p.x (line_at ls p.y) h.1)

-- a text's front up to an offset is what is before the position there
pub take_before : (ls : List (List ℕ)) (p : Pos) → IsPosition ls p → take (suc (offset_of ls p)) (led_lines ls) ≡ before ls p
take_before ls p h = ap (take (suc (offset_of ls p))) (led_at ls p h) ∙ take_at (before ls p) (after ls p) _ (length-before ls p h)

-- and the rest is what is after it
pub drop_after : (ls : List (List ℕ)) (p : Pos) → IsPosition ls p → drop (suc (offset_of ls p)) (led_lines ls) ≡ after ls p
drop_after ls p h = ap (drop (suc (offset_of ls p))) (led_at ls p h) ∙ drop_at (before ls p) (after ls p) _ (length-before ls p h)

-- there is a line
pub led_cons : (ls : List (List ℕ)) → 0 < length ls → led_lines ls ≡ 10 ∷ text_of ls
led_cons [] h = absurd (omega arith)
led_cons (l ∷ ls) h = refl

-- the text of lines in which those from one position's to another's were made anew
pub edited : (ls made : List (List ℕ)) (p q : Pos) (mid : List ℕ) → IsPosition ls p → IsPosition ls q → 0 < length made → text_of made ≡ take p.x (line_at ls p.y) ++ (mid ++ drop q.x (line_at ls q.y)) → text_of (take p.y ls ++ (made ++ drop (suc q.y) ls)) ≡ take (offset_of ls p) (text_of ls) ++ (mid ++ drop (offset_of ls q) (text_of ls))
unfolding before after
edited ls made p q mid hp hq some e =
    let t = text_of ls in
    let whole : led_lines ls ≡ 10 ∷ t = led_cons ls (omega arith) in
    let front : 10 ∷ take (offset_of ls p) t ≡ before ls p = ap (take (suc (offset_of ls p))) (sym whole) ∙ take_before ls p hp in
    let back : drop (offset_of ls q) t ≡ after ls q = ap (drop (suc (offset_of ls q))) (sym whole) ∙ drop_after ls q hq in
    let m : led_lines made ≡ 10 ∷ (take p.x (line_at ls p.y) ++ (mid ++ drop q.x (line_at ls q.y))) = led_cons made some ∙ ap (λ s. 10 ∷ s) e in
    let all : led_lines (take p.y ls ++ (made ++ drop (suc q.y) ls)) ≡ 10 ∷ (take (offset_of ls p) t ++ (mid ++ drop (offset_of ls q) t)) =
    led_lines-append (take p.y ls) _ ∙ ap (λ s. led_lines (take p.y ls) ++ s) (led_lines-append made _)
    ∙ ap (λ s. led_lines (take p.y ls) ++ (s ++ led_lines (drop (suc q.y) ls))) m
    ∙ ap (λ s. led_lines (take p.y ls) ++ (10 ∷ s)) (append_assoc (take p.x (line_at ls p.y)) _ _ ∙ ap (λ s. take p.x (line_at ls p.y) ++ s) (append_assoc mid _ _))
    ∙ sym (append_assoc (led_lines (take p.y ls)) (10 ∷ take p.x (line_at ls p.y)) _)
    ∙ ap (λ s. before ls p ++ (mid ++ s)) (sym back)
    ∙ ap (λ s. s ++ (mid ++ drop (offset_of ls q) t)) (sym front) in
    ap (drop 1) all

-- the lines up to y, and k more of those after
take_over : (xs made : List (List ℕ)) (k : ℕ) → take (length xs + k) (xs ++ made) ≡ xs ++ take k made
take_over [] made k = ap (λ n. take n made) (omega arith)
take_over (x ∷ xs) made k =
    let e : length xs + suc k ≡ suc (length xs + k) = omega arith in
    let f : suc (length xs) + k ≡ suc (length xs + k) = omega arith in
    rw f (ap (λ t. x ∷ t) (take_over xs made k))

-- a position of lines that were put in, among all
pub moved_in : (ls made rest : List (List ℕ)) (y : ℕ) (p q : Pos) → y ≤ length ls → IsPosition made p → q.y ≡ y + p.y → q.x ≡ p.x → IsPosition (take y ls ++ (made ++ rest)) q × (offset_of (take y ls ++ (made ++ rest)) q ≡ length (led_lines (take y ls)) + offset_of made p)
moved_in ls made rest y p q h at ey ex =
    let n : length (take y ls) ≡ y = length-take-le y ls h in
    let some : p.y < length (made ++ rest) = omega (arith, length-append made rest) in
    let within : q.y < length (take y ls ++ (made ++ rest)) = omega (arith, length-append (take y ls) (made ++ rest)) in
    let line : line_at (take y ls ++ (made ++ rest)) q.y ≡ line_at made p.y =
    get_or-append_right (take y ls) (made ++ rest) y q.y [] n (omega arith)
    ∙ ap (λ k. get_or (made ++ rest) k []) (omega arith)
    ∙ get_or_append_left made rest [] p.y at.0 in
    let wide : q.x ≤ length (line_at (take y ls ++ (made ++ rest)) q.y) = rw (line, ex) at.1 in
    let reach : q.y ≡ length (take y ls) + p.y = omega arith in
    let cut : take q.y (take y ls ++ (made ++ rest)) ≡ take y ls ++ take p.y made =
    ap (λ k. take k (take y ls ++ (made ++ rest))) reach ∙ take_over (take y ls) (made ++ rest) p.y ∙ ap (λ t. take y ls ++ t) (take-append-le p.y made rest (omega arith)) in
    let size = ap (λ t. length t) (ap led_lines cut ∙ led_lines-append (take y ls) (take p.y made)) in
    ((within, wide), omega (arith, size, ex, length-append (led_lines (take y ls)) (led_lines (take p.y made))))

-- what holds of each line
pub all_lines : (P : List ℕ → Type 0) (ls made : List (List ℕ)) (y z : ℕ) → All P ls → All P made → All P (take y ls ++ (made ++ drop z ls))
all_lines P ls made y z h m = All-append P (take y ls) _ (All-take P y ls h) (All-append P made _ m (All-drop P z ls h))

-- the start of the next line is one after the end of a line
pub next_line : (ls : List (List ℕ)) (y : ℕ) → y < length ls → length (led_lines (take (y + 1) ls)) ≡ length (led_lines (take y ls)) + (length (line_at ls y) + 1)
next_line ls y h =
    let e = ap (λ t. length (led_lines t)) (take_more ls y [] h) in
    let f = ap length (led_lines-append (take y ls) (line_at ls y ∷ [])) in
    let g = length-append (led_lines (take y ls)) (led_lines (line_at ls y ∷ [])) in
    let k = length-append (10 ∷ line_at ls y) [] in
    omega (arith, e, f, g, k)

-- more lines are no shorter
pub lines_up : (ls : List (List ℕ)) (y z : ℕ) → y ≤ z → length (led_lines (take y ls)) ≤ length (led_lines (take z ls))
lines_up ls zero z h = omega arith
lines_up [] (suc y) z h = omega arith
lines_up (l ∷ ls) (suc y) zero h = absurd (omega arith)
lines_up (l ∷ ls) (suc y) (suc z) h = omega (arith, lines_up ls y z (omega arith), length-append (10 ∷ l) (led_lines (take y ls)), length-append (10 ∷ l) (led_lines (take z ls)))

-- how far the end is
pub length-text : (ls : List (List ℕ)) (p : Pos) → IsPosition ls p → length (text_of ls) ≡ offset_of ls p + ((length (line_at ls p.y) - p.x) + length (led_lines (drop (suc p.y) ls)))
unfolding after
length-text ls p h =
    let w = ap length (led_cons ls (omega arith)) in
    let e = ap length (led_at ls p h) in
    let f = length-append (before ls p) (after ls p) in
    let b = length-before ls p h in
    let a = length-append (drop p.x (line_at ls p.y)) (led_lines (drop (suc p.y) ls)) in
    let d = length-drop p.x (line_at ls p.y) in
    omega (arith, w, e, f, b, a, d)

-- there are characters in the lines after
pub more_lines : (ls : List (List ℕ)) (y : ℕ) → y < length ls → 0 < length (led_lines (drop y ls))
more_lines ls y h =
    let e = ap (λ t. length (led_lines t)) (drop_more ls y [] h) in
    let f = length-append (10 ∷ line_at ls y) (led_lines (drop (y + 1) ls)) in
    omega (arith, e, f)

-- past the last line there is nothing
pub no_lines : (ls : List (List ℕ)) (y : ℕ) → length ls ≤ y → length (led_lines (drop y ls)) ≡ 0
no_lines ls y h = ap (λ t. length (led_lines t)) (drop_all y ls h)

-- on an earlier line, or on the same line and earlier in it
abbrev pub IsEarlier : Pos → Pos → Type 0
IsEarlier p q = (p.y < q.y) ⊎ ((p.y ≡ q.y) × (p.x < q.x))

-- a position on an earlier line is before one on a later line
pub earlier_line : (ls : List (List ℕ)) (p q : Pos) → IsPosition ls p → IsPosition ls q → p.y < q.y → offset_of ls p < offset_of ls q
earlier_line ls p q hp hq h =
    let n = next_line ls p.y hp.0 in
    let up = lines_up ls (p.y + 1) q.y (omega arith) in
    omega (arith, n, up)

-- the order of positions is that of their offsets
pub earlier_position : (ls : List (List ℕ)) (p q : Pos) → IsPosition ls p → IsPosition ls q → IsEarlier p q → offset_of ls p < offset_of ls q
earlier_position ls p q hp hq (inl less) = earlier_line ls p q hp hq less
earlier_position ls p q hp hq (inr same) = let e = ap (λ y. length (led_lines (take y ls))) same.0 in omega (arith, e, same.1)

-- a position with a lesser offset is earlier
pub lesser_offset : (ls : List (List ℕ)) (p q : Pos) → IsPosition ls p → IsPosition ls q → offset_of ls p < offset_of ls q → IsEarlier p q
lesser_offset ls p q hp hq h = elim (cases_lt p.y q.y) [
  | inl less ↦ inl less
  | inr le ↦ elim (cases_lt q.y p.y) [
    | inl more ↦ absurd (let e = earlier_line ls q p hq hp more in omega (arith, e, h))
    | inr ge ↦
        let same : p.y ≡ q.y = omega (arith, le, ge) in
        let e = ap (λ y. length (led_lines (take y ls))) same in
        inr (same, omega (arith, e, h))
  ]
]

slice_get_at : (p q : List ℕ) (n : ℕ) → length p ≡ n → slice_get (p ++ q) n ≡ slice_get q 0
slice_get_at [] q zero h = refl
slice_get_at (x ∷ p) q (suc n) h = slice_get_at p q n (omega arith)
slice_get_at _ q _ h = absurd (omega arith)

-- the character at a position is the first of those after it
pub char_after : (ls : List (List ℕ)) (p : Pos) → IsPosition ls p → slice_get (text_of ls) (offset_of ls p) ≡ slice_get (after ls p) 0
char_after ls p h =
    ap (λ t. slice_get t (suc (offset_of ls p))) (sym (led_cons ls (omega arith)) ∙ led_at ls p h) ∙ slice_get_at (before ls p) (after ls p) _ (length-before ls p h)

-- the character at a position in a line
pub char_in_line : (ls : List (List ℕ)) (p : Pos) (d : ℕ) → IsPosition ls p → p.x < length (line_at ls p.y) → slice_get (text_of ls) (offset_of ls p) ≡ Some (get_or (line_at ls p.y) p.x d)
unfolding after
char_in_line ls p d h low = char_after ls p h ∙ ap (λ t. slice_get (t ++ led_lines (drop (suc p.y) ls)) 0) (drop_more (line_at ls p.y) p.x d low)

-- at the end of a line, but the last one, it is the newline (10)
pub char_at_line_end : (ls : List (List ℕ)) (p : Pos) → IsPosition ls p → length (line_at ls p.y) ≤ p.x → suc p.y < length ls → slice_get (text_of ls) (offset_of ls p) ≡ Some 10
unfolding after
char_at_line_end ls p h high more =
    char_after ls p h ∙ ap (λ t. slice_get (t ++ led_lines (drop (suc p.y) ls)) 0) (drop_all p.x (line_at ls p.y) high) ∙ ap (λ t. slice_get (led_lines t) 0) (drop_more ls (suc p.y) [] more)

-- at the end of the text there is none
pub char_at_end : (ls : List (List ℕ)) (p : Pos) → IsPosition ls p → length (line_at ls p.y) ≤ p.x → length ls ≤ suc p.y → slice_get (text_of ls) (offset_of ls p) ≡ None
unfolding after
char_at_end ls p h high last =
    char_after ls p h ∙ ap (λ t. slice_get (t ++ led_lines (drop (suc p.y) ls)) 0) (drop_all p.x (line_at ls p.y) high) ∙ ap (λ t. slice_get (led_lines t) 0) (drop_all (suc p.y) ls last)

-- Parts as they are written.
use Rattle.std.proofs.Common.{◌≡◌, ℕ, ◌+◌, Bool, true, false, not, cond, Option, List, [], ◌∷◌, ◌++◌, map, filter, length, refl, sym, ap, ◌∙◌, arith, append_assoc, append-nil}
use Rattle.std.specs.Prelude.{encode_utf8_all, chars}
use Rattle.std.specs.Char.{encode_utf8, is_whitespace}
use Rattle.std.proofs.StrCases.{chars_of_empty}
use Rattle.std.proofs.lemmas.Str.{encodes-append}
use Rattle.mad_term.specs.declared.styles.ContentStyle.{ContentStyle}
use Rattle.mad_term.specs.Styles.{closing_bytes, opening_bytes}
use Rattle.mad_links.specs.LinkRows.{change_bytes}
use Rattle.mad_mark_runs.specs.Marks.{count_of}
use Rattle.mad_mark_runs.specs.declared.mark_runs.MarkRun.{MarkRun}
use Rattle.mad_marked_rows.specs.LinkedTexts.{char_bytes, first_bytes, mark_link, part_link, pieces_on, text_links}
use Rattle.mad_marked_rows.specs.MarkedTexts.{mark_value, number_next, Letter, letters_of, goes_on, LetterPart, parts_from, next_value}

-- what a row becomes whose last part, of this value, is open
abbrev pub part_on : (ℕ → ContentStyle → ContentStyle) → List (Option (List ℕ)) → ContentStyle → List ℕ → ℕ → List Letter → List ℕ × Option ℕ
part_on paint a style row v [] = (row ++ closing_bytes (paint v style), mark_link a v)
part_on paint a style row v (c ∷ cs) = part_on paint a style (row ++ char_bytes paint a style v c.value c.char) (next_value v c.value c.char) cs

more_chars : (cs : List ℕ) (c : ℕ) → encode_utf8_all (cs ++ c ∷ []) ≡ encode_utf8_all cs ++ encode_utf8 c
more_chars cs c = encodes-append cs (c ∷ []) ∙ ap (λ l. encode_utf8_all cs ++ l) (append-nil (encode_utf8 c))

-- a row with a part that has begun
abbrev begun_part : (ℕ → ContentStyle → ContentStyle) → List (Option (List ℕ)) → ContentStyle → List ℕ × Option ℕ → LetterPart → List ℕ
begun_part paint a style row p = row.0 ++ (change_bytes a row.1 (mark_link a p.value) ++ (opening_bytes (paint p.value style) ++ encode_utf8_all p.chars))

part_closed : (paint : ℕ → ContentStyle → ContentStyle) (a : List (Option (List ℕ))) (style : ContentStyle) (row : List ℕ × Option ℕ) (p : LetterPart) (more : List ℕ)
    → row.0 ++ (change_bytes a row.1 (mark_link a p.value) ++ (opening_bytes (paint p.value style) ++ (encode_utf8_all p.chars ++ more))) ≡ begun_part paint a style row p ++ more
part_closed paint a style row p more =
    let x = change_bytes a row.1 (mark_link a p.value) in
    let o = opening_bytes (paint p.value style) in
    let t = encode_utf8_all p.chars in
    ap (λ l. row.0 ++ (x ++ l)) (sym (append_assoc o t more)) ∙ ap (λ l. row.0 ++ l) (sym (append_assoc x (o ++ t) more)) ∙ sym (append_assoc row.0 (x ++ (o ++ t)) more)

on_by_part : (paint : ℕ → ContentStyle → ContentStyle) (a : List (Option (List ℕ))) (style : ContentStyle) (row : List ℕ × Option ℕ) (p : LetterPart) (c : Letter) (cs : List Letter) (t : Bool)
    → ((row : List ℕ × Option ℕ) (q : LetterPart) → pieces_on a row (map (part_link paint style) (parts_from q cs)) ≡ part_on paint a style (begun_part paint a style row q) q.value cs)
    → pieces_on a row (map (part_link paint style) (cond t (parts_from (record { value = p.value; chars = p.chars ++ c.char ∷ [] }) cs) (p ∷ parts_from (record { value = c.value; chars = c.char ∷ [] }) cs)))
    ≡ part_on paint a style (begun_part paint a style row p ++ cond t (encode_utf8 c.char) (closing_bytes (paint p.value style) ++ first_bytes paint a style (mark_link a p.value) c.value c.char)) (cond t p.value c.value) cs
on_by_part paint a style row p c cs true more =
    more row (record { value = p.value; chars = p.chars ++ c.char ∷ [] })
    ∙ ap (λ (l : List ℕ). part_on paint a style (row.0 ++ (change_bytes a row.1 (mark_link a p.value) ++ (opening_bytes (paint p.value style) ++ l))) p.value cs) (more_chars p.chars c.char)
    ∙ ap (λ (l : List ℕ). part_on paint a style l p.value cs) (part_closed paint a style row p (encode_utf8 c.char))
on_by_part paint a style row p c cs false more =
    let close = closing_bytes (paint p.value style) in
    let change = change_bytes a (mark_link a p.value) (mark_link a c.value) in
    let begin = opening_bytes (paint c.value style) in
    let before = row.0 ++ (change_bytes a row.1 (mark_link a p.value) ++ (opening_bytes (paint p.value style) ++ (encode_utf8_all p.chars ++ close))) in
    let first = first_bytes paint a style (mark_link a p.value) c.value c.char in
    more (before, mark_link a p.value) (record { value = c.value; chars = c.char ∷ [] })
    ∙ ap (λ (l : List ℕ). part_on paint a style (before ++ (change ++ (begin ++ l))) c.value cs) (append-nil (encode_utf8 c.char))
    ∙ ap (λ (l : List ℕ). part_on paint a style (l ++ first) c.value cs) (part_closed paint a style row p close)
    ∙ ap (λ (l : List ℕ). part_on paint a style l c.value cs) (append_assoc (begun_part paint a style row p) close first)

from_on : (paint : ℕ → ContentStyle → ContentStyle) (a : List (Option (List ℕ))) (style : ContentStyle) (row : List ℕ × Option ℕ) (p : LetterPart) (cs : List Letter)
    → pieces_on a row (map (part_link paint style) (parts_from p cs)) ≡ part_on paint a style (begun_part paint a style row p) p.value cs
from_on paint a style row p [] = ap (λ (l : List ℕ). let x : List ℕ × Option ℕ = (l, mark_link a p.value) in x) (part_closed paint a style row p (closing_bytes (paint p.value style)))
from_on paint a style row p (c ∷ cs) = on_by_part paint a style row p c cs (goes_on p.value c.value c.char) (λ r q. from_on paint a style r q cs)

-- a text that begins with a character
text_on : (paint : ℕ → ContentStyle → ContentStyle) (a : List (Option (List ℕ))) (runs : List MarkRun) (style : ContentStyle) (row : List ℕ × Option ℕ) (n c : ℕ) (cs : List ℕ)
    → pieces_on a row (text_links paint runs style n (c ∷ cs)) ≡ part_on paint a style (row.0 ++ first_bytes paint a style row.1 (mark_value runs n c) c) (mark_value runs n c) (letters_of runs (number_next n c) cs)
text_on paint a runs style row n c cs =
    let v = mark_value runs n c in
    from_on paint a style row (record { value = v; chars = c ∷ [] }) (letters_of runs (number_next n c) cs)
    ∙ ap (λ (l : List ℕ). part_on paint a style (row.0 ++ (change_bytes a row.1 (mark_link a v) ++ (opening_bytes (paint v style) ++ l))) v (letters_of runs (number_next n c) cs)) (append-nil (encode_utf8 c))

-- a character is counted or not
pub count_step : (n c : ℕ) (cs : List ℕ) → number_next n c + count_of cs ≡ n + count_of (c ∷ cs)
count_step n c cs = by_blank (is_whitespace c)
  where
    by_blank : (w : Bool) → cond w n (n + 1) + count_of cs ≡ n + length (cond (not w) (c ∷ filter (λ x. not (is_whitespace x)) cs) (filter (λ x. not (is_whitespace x)) cs))
    by_blank true = refl
    by_blank false = omega arith

-- ---- a text, character by character

-- a part begins
pub first_on : (paint : ℕ → ContentStyle → ContentStyle) (a : List (Option (List ℕ))) (style : ContentStyle) (was now : Option ℕ) (v c : ℕ) (old one two new : List ℕ) → now ≡ mark_link a v
    → one ≡ old ++ change_bytes a was now → two ≡ one ++ opening_bytes (paint v style) → new ≡ two ++ encode_utf8 c → new ≡ old ++ first_bytes paint a style was v c
first_on paint a style was now v c old one two new now_is one_is two_is is =
    let o = opening_bytes (paint v style) in
    let x = encode_utf8 c in
    is ∙ ap (λ l. l ++ x) (two_is ∙ ap (λ l. l ++ o) (one_is ∙ ap (λ (n : Option ℕ). old ++ change_bytes a was n) now_is))
    ∙ append_assoc (old ++ change_bytes a was (mark_link a v)) o x ∙ append_assoc old (change_bytes a was (mark_link a v)) (o ++ x)

-- the first character
pub part_begun : (paint : ℕ → ContentStyle → ContentStyle) (a : List (Option (List ℕ))) (runs : List MarkRun) (style : ContentStyle) (old new : List ℕ) (was : Option ℕ) (text rest : List ℕ) (n c v m : ℕ) → chars text ≡ c ∷ chars rest → v ≡ mark_value runs n c → m ≡ number_next n c
    → new ≡ old ++ first_bytes paint a style was v c → part_on paint a style new v (letters_of runs m (chars rest)) ≡ pieces_on a (old, was) (text_links paint runs style n (chars text))
part_begun paint a runs style old new was text rest n c v m chars_is v_is m_is is =
    ap (λ (l : List ℕ). part_on paint a style l v (letters_of runs m (chars rest))) is
    ∙ ap (λ (k : ℕ). part_on paint a style (old ++ first_bytes paint a style was v c) v (letters_of runs k (chars rest))) m_is
    ∙ ap (λ (k : ℕ). part_on paint a style (old ++ first_bytes paint a style was k c) k (letters_of runs (number_next n c) (chars rest))) v_is
    ∙ sym (text_on paint a runs style (old, was) n c (chars rest))
    ∙ ap (λ (cs : List ℕ). pieces_on a (old, was) (text_links paint runs style n cs)) (sym chars_is)

-- one more
pub part_gone : (paint : ℕ → ContentStyle → ContentStyle) (a : List (Option (List ℕ))) (runs : List MarkRun) (style : ContentStyle) (old new : List ℕ) (all : List ℕ × Option ℕ) (rest next : List ℕ) (n c v u w m : ℕ) → chars rest ≡ c ∷ chars next → u ≡ mark_value runs n c → m ≡ number_next n c
    → new ≡ old ++ char_bytes paint a style v u c → w ≡ next_value v u c → part_on paint a style old v (letters_of runs n (chars rest)) ≡ all → part_on paint a style new w (letters_of runs m (chars next)) ≡ all
part_gone paint a runs style old new all rest next n c v u w m chars_is u_is m_is is w_is h =
    ap (λ (l : List ℕ). part_on paint a style l w (letters_of runs m (chars next))) is
    ∙ ap (λ (k : ℕ). part_on paint a style (old ++ char_bytes paint a style v u c) w (letters_of runs k (chars next))) m_is
    ∙ ap (λ (k : ℕ). part_on paint a style (old ++ char_bytes paint a style v u c) k (letters_of runs (number_next n c) (chars next))) w_is
    ∙ ap (λ (k : ℕ). part_on paint a style (old ++ char_bytes paint a style v k c) (next_value v k c) (letters_of runs (number_next n c) (chars next))) u_is
    ∙ ap (λ (cs : List ℕ). part_on paint a style old v (letters_of runs n cs)) (sym chars_is) ∙ h

-- the end
pub part_ended : (paint : ℕ → ContentStyle → ContentStyle) (a : List (Option (List ℕ))) (runs : List MarkRun) (style : ContentStyle) (old new : List ℕ) (now : Option ℕ) (all : List ℕ × Option ℕ) (rest : List ℕ) (n v : ℕ) → length rest ≡ 0 → new ≡ old ++ closing_bytes (paint v style) → now ≡ mark_link a v
    → part_on paint a style old v (letters_of runs n (chars rest)) ≡ all → all ≡ (new, now)
part_ended paint a runs style old new now all rest n v none is now_is h =
    sym h ∙ ap (λ (cs : List ℕ). part_on paint a style old v (letters_of runs n cs)) (chars_of_empty rest none)
    ∙ ap (λ (l : List ℕ). let x : List ℕ × Option ℕ = (l, mark_link a v) in x) (sym is) ∙ ap (λ (o : Option ℕ). let x : List ℕ × Option ℕ = (new, o) in x) (sym now_is)

-- a text without characters
pub empty_on : (paint : ℕ → ContentStyle → ContentStyle) (a : List (Option (List ℕ))) (runs : List MarkRun) (style : ContentStyle) (row : List ℕ × Option ℕ) (text : List ℕ) (n : ℕ) → length text ≡ 0 → pieces_on a row (text_links paint runs style n (chars text)) ≡ row
empty_on paint a runs style row text n none = ap (λ (cs : List ℕ). pieces_on a row (text_links paint runs style n cs)) (chars_of_empty text none)

-- nothing is counted of it
pub empty_count : (text : List ℕ) (n : ℕ) → length text ≡ 0 → n ≡ n + count_of (chars text)
empty_count text n none =
    let zero_is : count_of (chars text) ≡ 0 = ap count_of (chars_of_empty text none) in
    omega arith

-- what is counted of it
pub text_counted_on : (rest next : List ℕ) (n c m : ℕ) → chars rest ≡ c ∷ chars next → m ≡ number_next n c → m + count_of (chars next) ≡ n + count_of (chars rest)
text_counted_on rest next n c m chars_is m_is = ap (λ (k : ℕ). k + count_of (chars next)) m_is ∙ count_step n c (chars next) ∙ ap (λ (cs : List ℕ). n + count_of cs) (sym chars_is)

-- at its end nothing is left to count
pub no_more : (rest : List ℕ) (m t : ℕ) → length rest ≡ 0 → m + count_of (chars rest) ≡ t → m ≡ t
no_more rest m t none h =
    let zero_is : count_of (chars rest) ≡ 0 = ap count_of (chars_of_empty rest none) in
    omega arith

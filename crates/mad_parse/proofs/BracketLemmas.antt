-- The bracket that opens a text.
use Rattle.std.proofs.Common.{◌≡◌, ◌≢◌, ℕ, suc, ◌≤◌, ◌<◌, ◌+◌, Bool, true, false, List, [], ◌∷◌, ◌++◌, chars, length, take, drop, refl, sym, ap, ◌∙◌, arith, subst, lit<, ne_eqb, lt-ltb}
use Rattle.std.specs.List.{prefix_len}
use Rattle.std.specs.Char.{encode_utf8, len_utf8}
use Rattle.std.specs.Str.{IsUtf8, IsCharBoundary, encode_utf8_all}
use Rattle.std.proofs.Math.Seq.{drop-append_seam}
use Rattle.std.proofs.lemmas.Bool.{and_right, and_from, cond-false, cond-true}
use Rattle.std.proofs.lemmas.List.{length-append, length-take, length-drop}
use Rattle.std.proofs.lemmas.Str.{chars-nil, chars_past_char, encode_ascii, encodes-chars, len_utf8_ascii, drop_past_char, IsUtf8-past_char, IsUtf8-drop, IsUtf8-take, IsCharBoundary-from_drop, length-encode}
use Rattle.mad_parse.specs.Cuts.{bracket_len, closed_len, begins_with, is_inside_char}
use Rattle.mad_md.proofs.CharLemmas.{chars_cut, chars_take_more}
use Rattle.mad_parse.proofs.CutLemmas.{counted_chars}

-- a text after an opening bracket
led_by : (k : ℕ) → k < 128 → (text inside : List ℕ) → text ≡ k ∷ inside → text ≡ encode_utf8 k ++ inside
led_by k l text inside e = e ∙ ap (λ x. x ++ inside) (sym (encode_ascii k l))

opened : (text inside : List ℕ) → IsUtf8 text → text ≡ 40 ∷ inside → chars text ≡ 40 ∷ chars inside
opened text inside u e = chars_past_char text inside 40 u (led_by 40 (lit< tt) text inside e)

-- what comes after the characters inside
after_inside : (p : ℕ → Bool) (bs : List ℕ) (end : ℕ) → IsUtf8 bs → IsCharBoundary bs end → length (chars (take end bs)) ≡ prefix_len p (chars bs)
    → drop (prefix_len p (chars bs)) (chars bs) ≡ chars (drop end bs)
after_inside p bs end u border len =
    let whole = chars_cut bs end u border.0 (IsUtf8-drop bs end u border) in
    ap (λ n. drop n (chars bs)) (sym len) ∙ ap (drop (length (chars (take end bs)))) whole ∙ drop-append_seam (chars (take end bs)) (chars (drop end bs))

-- the length of the bracket by what is inside and after
pub bracket_is : (text inside : List ℕ) (end : ℕ) → IsUtf8 text → IsUtf8 inside → text ≡ 40 ∷ inside → IsCharBoundary inside end
    → length (chars (take end inside)) ≡ prefix_len is_inside_char (chars inside)
    → bracket_len (chars text) ≡ closed_len (length (chars (take end inside))) (chars (drop end inside))
bracket_is text inside end u v e border len =
    ap bracket_len (opened text inside u e) ∙ ap (closed_len (prefix_len is_inside_char (chars inside))) (after_inside is_inside_char inside end v border len)
    ∙ ap (λ n. closed_len n (chars (drop end inside))) (sym len)

-- no bracket: nothing inside, or something else than a closing one after
pub closed_none : (rest : List ℕ) → closed_len 0 rest ≡ 0
closed_none rest = refl

-- without `)` (41) nothing is closed
pub closed_not : (n : ℕ) (rest : List ℕ) → begins_with 41 rest ≡ false → closed_len n rest ≡ 0
closed_not n rest e = cond-false _ _ _ (and_right _ _ e)

-- with it the closed part has the characters before it, and two more
pub closed_is : (n : ℕ) (rest : List ℕ) → 0 < n → begins_with 41 rest ≡ true → closed_len n rest ≡ n + 2
closed_is n rest h e = cond-true _ _ _ (and_from _ _ (lt-ltb 0 n h) e)

-- a text that doesn't begin with an ASCII character
otherwise_at : (k : ℕ) → k < 128 → (text cs : List ℕ) → encode_utf8_all cs ≡ text → ((rest : List ℕ) → text ≢ k ∷ rest) → begins_with k cs ≡ false
otherwise_at k l text [] e other = refl
otherwise_at k l text (c ∷ cs) e other =
    ne_eqb c k (λ same. other (encode_utf8_all cs) (sym e ∙ ap (λ x. encode_utf8 x ++ encode_utf8_all cs) same ∙ ap (λ x. x ++ encode_utf8_all cs) (encode_ascii k l)))

-- a text that doesn't begin with an ASCII character
pub otherwise : (k : ℕ) → k < 128 → (text : List ℕ) → IsUtf8 text → ((rest : List ℕ) → text ≢ k ∷ rest) → begins_with k (chars text) ≡ false
otherwise k l text u other = otherwise_at k l text (chars text) (encodes-chars text u) other

unopened_len : (cs : List ℕ) → begins_with 40 cs ≡ false → bracket_len cs ≡ 0
unopened_len [] e = refl
unopened_len (c ∷ cs) e = cond-false _ _ _ e

-- without `(` (40) there is no bracket
pub unopened : (text : List ℕ) → IsUtf8 text → ((rest : List ℕ) → text ≢ 40 ∷ rest) → bracket_len (chars text) ≡ 0
unopened text u other = unopened_len (chars text) (otherwise 40 (lit< tt) text u other)

-- a text whose front has characters
pub front_counts : (bs : List ℕ) (end : ℕ) → IsUtf8 bs → IsCharBoundary bs end → 0 < end → 0 < length (chars (take end bs))
front_counts bs end u border h =
    counted_chars (chars (take end bs)) (take end bs) (encodes-chars (take end bs) (IsUtf8-take bs end u border)) (omega (arith, h, border.0, length-take end bs))

-- the whole bracket: one more on each side
pub closed_front : (text inside rest : List ℕ) (end : ℕ) → IsUtf8 text → IsUtf8 inside → text ≡ 40 ∷ inside → IsCharBoundary inside end → drop end inside ≡ encode_utf8 41 ++ rest
    → IsCharBoundary text (end + 2) × (length (chars (take (end + 2) text)) ≡ length (chars (take end inside)) + 2)
closed_front text inside rest end u v e border beyond =
    let w = IsUtf8-drop inside end v border in
    let one : len_utf8 41 ≡ 1 = len_utf8_ascii 41 (lit< tt) in
    let more : chars (take (end + 1) inside) ≡ chars (take end inside) ++ 41 ∷ [] = subst (λ n. chars (take (end + n) inside) ≡ chars (take end inside) ++ 41 ∷ []) one (chars_take_more inside rest end 41 v border.0 w beyond) in
    let past : drop (end + 1) inside ≡ rest = subst (λ n. drop (end + n) inside ≡ rest) one (drop_past_char inside rest end 41 beyond) in
    let two : end + 2 ≡ suc (end + 1) = omega arith in
    let front : take (end + 2) text ≡ 40 ∷ take (end + 1) inside = ap (λ n. take n text) two ∙ ap (take (suc (end + 1))) e in
    let back : drop (end + 2) text ≡ rest = ap (λ n. drop n text) two ∙ ap (drop (suc (end + 1))) e ∙ past in
    let u3 : IsUtf8 rest = IsUtf8-past_char (drop end inside) rest 41 w beyond in
    let fits : end + 2 ≤ length text = omega (arith, ap length e, border.0, length-drop end inside, one, length-encode 41, (simp length-append at (ap length beyond))) in
    let b : IsCharBoundary text (end + 2) = IsCharBoundary-from_drop text (end + 2) fits (subst IsUtf8 (sym back) u3) in
    let opened_front : chars (take (end + 2) text) ≡ 40 ∷ chars (take (end + 1) inside) = opened (take (end + 2) text) (take (end + 1) inside) (IsUtf8-take text (end + 2) u b) front in
    (b, omega (arith, ap length opened_front, ap length more, length-append (chars (take end inside)) (41 ∷ [])))

-- what bracket_end answers
pub ends_none : (text inside : List ℕ) (end : ℕ) → IsUtf8 text → IsUtf8 inside → text ≡ 40 ∷ inside → IsCharBoundary inside end
    → length (chars (take end inside)) ≡ prefix_len is_inside_char (chars inside) → end ≡ 0 → bracket_len (chars text) ≡ 0
ends_none text inside end u v e border len none =
    bracket_is text inside end u v e border len ∙ ap (λ n. closed_len n (chars (drop end inside))) (ap (λ n. length (chars (take n inside))) none ∙ ap length chars-nil)

-- a bracket that isn't closed
pub ends_open : (text inside beyond : List ℕ) (end : ℕ) → IsUtf8 text → IsUtf8 inside → text ≡ 40 ∷ inside → IsCharBoundary inside end
    → length (chars (take end inside)) ≡ prefix_len is_inside_char (chars inside) → beyond ≡ drop end inside → ((rest : List ℕ) → beyond ≢ 41 ∷ rest) → bracket_len (chars text) ≡ 0
ends_open text inside beyond end u v e border len is other =
    bracket_is text inside end u v e border len
    ∙ closed_not (length (chars (take end inside))) (chars (drop end inside)) (otherwise 41 (lit< tt) (drop end inside) (IsUtf8-drop inside end v border) (λ rest same. other rest (is ∙ same)))

-- a bracket that is closed
pub ends_closed : (text inside beyond rest : List ℕ) (end : ℕ) → IsUtf8 text → IsUtf8 inside → text ≡ 40 ∷ inside → IsCharBoundary inside end
    → length (chars (take end inside)) ≡ prefix_len is_inside_char (chars inside) → beyond ≡ drop end inside → beyond ≡ 41 ∷ rest → 0 < end
    → IsCharBoundary text (end + 2) × (length (chars (take (end + 2) text)) ≡ bracket_len (chars text))
ends_closed text inside beyond rest end u v e border len is closes h =
    let w = IsUtf8-drop inside end v border in
    let at : drop end inside ≡ encode_utf8 41 ++ rest = led_by 41 (lit< tt) (drop end inside) rest (sym is ∙ closes) in
    let front = closed_front text inside rest end u v e border at in
    let begins : begins_with 41 (chars (drop end inside)) ≡ true = ap (begins_with 41) (chars_past_char (drop end inside) rest 41 w at) in
    (front.0, front.1 ∙ sym (bracket_is text inside end u v e border len ∙ closed_is (length (chars (take end inside))) (chars (drop end inside)) (front_counts inside end v border h) begins))

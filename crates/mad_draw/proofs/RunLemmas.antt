-- A character that is repeated over a place: the columns that it fills, and that it is shown.
use Rattle.std.proofs.Common.{◌≡◌, ℕ, zero, suc, ◌+◌, List, [], ◌∷◌, ◌++◌, refl, ap, sym, ◌∙◌, subst, arith}
use Rattle.std.specs.List.{repeat}
use Rattle.std.specs.Str.{chars, IsUtf8}
use Rattle.std.specs.Prelude.{encode_utf8}
use Rattle.std.proofs.lemmas.Str.{chars-append, chars-nil, IsUtf8-nil, IsUtf8-append}
use Rattle.mad_screen.specs.Painting.{IsPrinted, IsWhole}
use Rattle.mad_screen.proofs.Paints.{printed_both}
use Rattle.mad_style.specs.declared.styled_chars.StyledChar.{StyledChar}
use Rattle.mad_style.specs.StyledChars.{char_alone}
use Rattle.mad_measure.specs.TextColumns.{columns}
use Rattle.mad_draw.specs.Pieces.{char_piece, char_repeat, AreShownPieces, IsColumnPiece, pieces_columns}

columns-append : (cs ds : List ℕ) → columns (cs ++ ds) ≡ columns cs + columns ds
columns-append [] ds = omega arith
columns-append (c ∷ cs) ds = let rest : columns (cs ++ ds) ≡ columns cs + columns ds = columns-append cs ds in omega (arith, rest)

repeat_utf8 : (n : ℕ) (t : List ℕ) → IsUtf8 t → IsUtf8 (repeat n t)
repeat_utf8 zero t h = IsUtf8-nil
repeat_utf8 (suc n) t h = IsUtf8-append t (repeat n t) h (repeat_utf8 n t h)

repeat_columns : (n : ℕ) (t : List ℕ) → IsUtf8 t → columns (chars t) ≡ 1 → columns (chars (repeat n t)) ≡ n
repeat_columns zero t utf8 one = ap columns chars-nil
repeat_columns (suc n) t utf8 one =
    let rest : columns (chars (repeat n t)) ≡ n = repeat_columns n t utf8 one in
    let both : columns (chars (t ++ repeat n t)) ≡ columns (chars t) + columns (chars (repeat n t)) = ap columns (chars-append t (repeat n t) utf8) ∙ columns-append (chars t) (chars (repeat n t)) in
    omega (arith, rest, both, one)

repeat_printed : (n : ℕ) (t : List ℕ) → IsUtf8 t → IsPrinted (chars t) → IsPrinted (chars (repeat n t))
repeat_printed zero t utf8 h = subst IsPrinted (sym chars-nil) tt
repeat_printed (suc n) t utf8 h = subst IsPrinted (sym (chars-append t (repeat n t) utf8)) (printed_both (chars t) (chars (repeat n t)) h (repeat_printed n t utf8 h))

whole-append : (cs ds : List ℕ) → columns cs ≡ 1 → IsWhole cs → IsWhole (cs ++ ds)
whole-append [] ds one h = absurd (omega (arith, one))
whole-append (c ∷ cs) ds one h = h

-- a character of one column shows cells of its own where it is repeated
pub run_shown : (c : StyledChar) (n : ℕ) → IsColumnPiece (char_piece c) → AreShownPieces (char_repeat c n)
run_shown c zero h = tt
run_shown c (suc n) h =
    let t : List ℕ = encode_utf8 (char_alone c) in
    let utf8 : IsUtf8 t = h.shown.utf8 in
    let whole : IsWhole (chars (t ++ repeat n t)) = subst IsWhole (sym (chars-append t (repeat n t) utf8)) (whole-append (chars t) (chars (repeat n t)) h.one h.shown.shown.whole) in
    (record { utf8 = repeat_utf8 (suc n) t utf8; shown = record { printed = repeat_printed (suc n) t utf8 h.shown.shown.printed; whole = whole } }, tt)

-- a character of one column takes a column each time that it is repeated
pub run_columns : (c : StyledChar) (n : ℕ) → IsColumnPiece (char_piece c) → pieces_columns (char_repeat c n) ≡ n
run_columns c zero h = refl
run_columns c (suc n) h = let text : columns (chars (repeat (suc n) (encode_utf8 (char_alone c)))) ≡ suc n = repeat_columns (suc n) (encode_utf8 (char_alone c)) h.shown.utf8 h.one in omega (arith, text)

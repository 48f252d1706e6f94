-- The pieces of a field's rows.
use Rattle.std.proofs.Common.{◌≡◌, ℕ, zero, suc, ◌+◌, ◌/◌, ◌%◌, Bool, true, false, List, [], ◌∷◌, ◌++◌, map, ap, sym, ◌∙◌, arith, append_assoc}
use Rattle.std.specs.Prelude.{encode_utf8, Result, Ok, Err, OnOk, if◌then◌else◌}
use Rattle.std.specs.List.{repeat}
use Rattle.std.proofs.lemmas.List.{map-append}
use Rattle.mad_term.specs.Styles.{IsStyle, piece_bytes}
use Rattle.mad_style.specs.declared.compound_styles.CompoundStyle.{CompoundStyle}
use Rattle.mad_term.proofs.Repeating.{repeat-more}
use Rattle.mad_style.specs.StyledChars.{char_style, styled_char}
use Rattle.mad_style.specs.declared.styled_chars.StyledChar.{StyledChar}
use Rattle.mad_draw.specs.Fillings.{piece_chars, filling_pieces}
use Rattle.mad_draw.specs.Pieces.{RowPiece, AreKnown, pieces_bytes, spaces, char_repeat}
use Rattle.mad_draw.proofs.FillingLemmas.{piece_chars_is, filling_written, spaces_repeat}
use Rattle.mad_draw.proofs.PieceLemmas.{bytes_both, bytes_one, known_both, char_repeat_known}
use Rattle.mad_field_rows.specs.declared.line_rows.RowChar.{RowChar}
use Rattle.mad_field_rows.specs.RowPieces.{char_pieces}

-- ---- characters

-- a character's piece
abbrev pub char_piece : CompoundStyle → CompoundStyle → RowChar → RowPiece
char_piece marked others c = record { style = (if c.marked then marked else others).object_style; text = encode_utf8 c.c }

-- one character more
pub chars_more : (marked others : CompoundStyle) (cs : List RowChar) (c : RowChar)
    → pieces_bytes (char_pieces marked others (cs ++ c ∷ [])) ≡ pieces_bytes (char_pieces marked others cs) ++ piece_bytes (char_piece marked others c).style (char_piece marked others c).text
chars_more marked others cs c =
    ap pieces_bytes (map-append (char_piece marked others) cs (c ∷ [])) ∙ bytes_both (map (char_piece marked others) cs) (char_piece marked others c ∷ [])
    ∙ ap (λ bs. pieces_bytes (map (char_piece marked others) cs) ++ bs) (bytes_one (char_piece marked others c))

-- what a turn of the loop appends
pub appended_more : (marked others style : CompoundStyle) (cs : List RowChar) (c : RowChar) (start now next text : List ℕ) → now ≡ start ++ pieces_bytes (char_pieces marked others cs)
    → style ≡ (if c.marked then marked else others) → text ≡ encode_utf8 c.c → next ≡ now ++ piece_bytes style.object_style text → next ≡ start ++ pieces_bytes (char_pieces marked others (cs ++ c ∷ []))
appended_more marked others style cs c start now next text so_far is utf8 more =
    more ∙ ap (λ bs. bs ++ piece_bytes style.object_style text) so_far ∙ append_assoc start (pieces_bytes (char_pieces marked others cs)) (piece_bytes style.object_style text)
    ∙ ap (λ (s : CompoundStyle). start ++ (pieces_bytes (char_pieces marked others cs) ++ piece_bytes s.object_style text)) is
    ∙ ap (λ (t : List ℕ). start ++ (pieces_bytes (char_pieces marked others cs) ++ piece_bytes (if c.marked then marked else others).object_style t)) utf8
    ∙ ap (λ bs. start ++ bs) (sym (chars_more marked others cs c))

one_known : (marked others : CompoundStyle) (b : Bool) → IsStyle marked.object_style → IsStyle others.object_style → IsStyle (if b then marked else others).object_style
one_known marked others true m o = m
one_known marked others false m o = o

-- the pieces of a row are in styles that a program can hold
pub chars_known : (marked others : CompoundStyle) (cs : List RowChar) → IsStyle marked.object_style → IsStyle others.object_style → AreKnown (char_pieces marked others cs)
chars_known marked others [] m o = tt
chars_known marked others (c ∷ cs) m o = (one_known marked others c.marked m o, chars_known marked others cs m o)

-- ---- spaces

-- one piece more
pub blanks_more : (piece : List ℕ) (n : ℕ) (start now next : List ℕ) → now ≡ start ++ repeat n piece → next ≡ now ++ piece → next ≡ start ++ repeat (n + 1) piece
blanks_more piece n start now next so_far more = more ∙ ap (λ bs. bs ++ piece) so_far ∙ append_assoc start (repeat n piece) piece ∙ ap (λ bs. start ++ bs) (repeat-more n piece)

-- and what is left of them
blanks_done : (style : CompoundStyle) (most count n : ℕ) (start now next : List ℕ) → most ≡ piece_chars → n ≡ count / most → now ≡ start ++ repeat n (pieces_bytes (spaces style most))
    → next ≡ now ++ pieces_bytes (spaces style (count % most)) → next ≡ start ++ pieces_bytes (filling_pieces (styled_char style 32) count)
blanks_done style most count n start now next is whole so_far more =
    let c : StyledChar = styled_char style 32 in
    let piece : List ℕ = pieces_bytes (spaces style most) in
    let last : List ℕ = pieces_bytes (spaces style (count % most)) in
    let thousand : most ≡ 1000 = is ∙ piece_chars_is in
    let last_is : last ≡ pieces_bytes (char_repeat c (count % 1000)) = spaces_repeat style (count % most) ∙ ap (λ m. pieces_bytes (char_repeat c (count % m))) thousand in
    more ∙ ap (λ bs. bs ++ last) so_far ∙ append_assoc start (repeat n piece) last
    ∙ ap (λ k. start ++ (repeat k piece ++ last)) (whole ∙ ap (λ m. count / m) thousand)
    ∙ ap (λ bs. start ++ bs) (filling_written c count most piece last (spaces_repeat style most) last_is (omega (arith, is)) (λ _. is))

-- the last blanks, after those that were written in whole pieces
pub blanks_written : {T E : Type 0} (r : Result T E) (style : CompoundStyle) (most count n : ℕ) (start now next : List ℕ) → most ≡ piece_chars → n ≡ count / most → now ≡ start ++ repeat n (pieces_bytes (spaces style most))
    → OnOk r (next ≡ now ++ pieces_bytes (spaces style (count % most))) → OnOk r (next ≡ start ++ pieces_bytes (filling_pieces (styled_char style 32) count))
blanks_written {T} {E} (Ok x) style most count n start now next is whole so_far more = blanks_done style most count n start now next is whole so_far more
blanks_written {T} {E} (Err e) style most count n start now next is whole so_far more = tt

times_known : (n : ℕ) (ps : List RowPiece) → AreKnown ps → AreKnown (repeat n ps)
times_known zero ps h = tt
times_known (suc n) ps h = known_both ps (repeat n ps) h (times_known n ps h)

-- so are those of a filling
pub blanks_known : (c : StyledChar) (count : ℕ) → IsStyle (char_style c).object_style → AreKnown (filling_pieces c count)
blanks_known c count h = known_both (repeat (count / piece_chars) (char_repeat c piece_chars)) (char_repeat c (count % piece_chars)) (times_known (count / piece_chars) (char_repeat c piece_chars) (char_repeat_known c piece_chars h)) (char_repeat_known c (count % piece_chars) h)

-- ---- results

-- what holds anyway holds where the call succeeds
pub always_ok : {T E P : Type 0} (r : Result T E) → P → OnOk r P
always_ok {T} {E} {P} (Ok x) p = p
always_ok {T} {E} {P} (Err e) p = tt

-- The characters of a row are shown, each in its columns.
use Rattle.std.proofs.Common.{◌≡◌, ℕ, zero, suc, ◌+◌, ◌-◌, ◌*◌, ◌/◌, ◌%◌, ◌<◌, ◌==◌, Bool, true, false, cond, List, [], ◌∷◌, ◌++◌, replicate, Option, Some, None, nat_lt, refl, ap, ◌∙◌, subst, sym, arith}
use Rattle.std.specs.Prelude.{IsSome, unwrap_or, encode_utf8, ◌&&◌}
use Rattle.std.specs.Char.{IsScalar}
use Rattle.std.specs.Str.{chars, IsUtf8}
use Rattle.std.specs.List.{AllByRecursion, repeat}
use Rattle.std.proofs.lemmas.Nat.{div-add-mod'}
use Rattle.std.proofs.lemmas.Str.{IsUtf8-encode}
use Rattle.std.proofs.lemmas.Bool.Decides.{nat_tests}
use Rattle.unicode_width.specs.Width.{char_width as unicode_char_width}
use Rattle.unicode_width.proofs.Computing.{unicode_width}
use Rattle.mad_characters.specs.Columns.{char_columns}
use Rattle.mad_characters.proofs.CharColumns.{char_columns-ascii}
use Rattle.mad_screen.specs.Painting.{IsShown}
use Rattle.mad_style.specs.declared.compound_styles.CompoundStyle.{CompoundStyle}
use Rattle.mad_style.specs.declared.styled_chars.StyledChar.{StyledChar}
use Rattle.mad_measure.specs.TextColumns.{columns}
use Rattle.mad_draw.specs.Fillings.{piece_chars, filling_pieces}
use Rattle.mad_draw.specs.Pieces.{RowPiece, char_piece as style_piece, AreShownPieces, IsColumnPiece, IsShownPiece, char_repeat, pieces_columns}
use Rattle.mad_draw.proofs.ColumnChars.{one_char}
use Rattle.mad_draw.proofs.PieceLemmas.{columns-both}
use Rattle.mad_draw.proofs.RunLemmas.{run_shown, run_columns}
use Rattle.mad_edit_lines.specs.LineColumns.{char_width}
use Rattle.mad_field_rows.specs.declared.line_rows.RowChar.{RowChar}
use Rattle.mad_field_rows.specs.RowChars.{row_columns, ellipsis, space, does_fit, fitted, spaces_after, filled_row, from_column}
use Rattle.mad_field_rows.specs.RowPieces.{char_pieces}
use Rattle.mad_field_rows.proofs.Choices.{by_bool}
use Rattle.mad_field_rows.proofs.PieceLemmas.{char_piece}
use Rattle.mad_field_rows.proofs.ColumnLemmas.{columns-cons}
use Rattle.mad_field_rows.proofs.WidthLemmas.{ellipsis_column}

-- ---- the characters of a row

-- a character that is shown, and takes columns
abbrev pub IsRowChar : RowChar → Type 0
IsRowChar c = IsScalar c.c × (0 < char_columns c.c)

-- all characters are such
abbrev pub AreRowChars : List RowChar → Type 0
AreRowChars = AllByRecursion IsRowChar

-- so are those from a column on
pub from_all : (cs : List RowChar) (column : ℕ) → AreRowChars cs → AreRowChars (from_column cs column)
from_all [] column h = tt
from_all (c ∷ cs) column h = by_bool (λ b. AreRowChars (cond b (c ∷ cs) (from_column cs (column - char_width c.c)))) (column == 0) (λ on. h) (λ off. from_all cs (column - char_width c.c) h.1)

-- the ellipsis is one
pub mark_all : IsScalar 8230 × (0 < char_columns 8230)
mark_all = (refl, omega (arith, ellipsis_column))

fitted_all : (cs : List RowChar) (room : ℕ) → AreRowChars cs → AreRowChars (fitted cs room)
fitted_all [] room h = tt
fitted_all (c ∷ cs) room h =
    by_bool (λ b. AreRowChars (cond b [] (cond (does_fit c cs room) (c ∷ fitted cs (room - char_width c.c)) (record { c = ellipsis; marked = c.marked } ∷ [])))) (room == 0) (λ on. tt)
    (λ off. by_bool (λ b. AreRowChars (cond b (c ∷ fitted cs (room - char_width c.c)) (record { c = ellipsis; marked = c.marked } ∷ []))) (does_fit c cs room) (λ on. (h.0, fitted_all cs (room - char_width c.c) h.1)) (λ off'. (mark_all, tt)))

space_all : IsScalar 32 × (0 < char_columns 32)
space_all = (refl, let one : char_columns 32 ≡ 1 = char_columns-ascii 32 (omega arith) (omega arith) in omega (arith, one))

blanks_all : (n : ℕ) → AreRowChars (replicate n (record { c = space; marked = false }))
blanks_all zero = tt
blanks_all (suc n) = (space_all, blanks_all n)

spaces_all : (e : Bool) (n : ℕ) → AreRowChars (spaces_after e n)
spaces_all e n =
    by_bool (λ b. AreRowChars (cond b (record { c = space; marked = true } ∷ replicate (n - 1) (record { c = space; marked = false })) (replicate n (record { c = space; marked = false })))) (e && nat_lt 0 n)
    (λ on. (space_all, blanks_all (n - 1))) (λ off. blanks_all n)

both_all : (cs ds : List RowChar) → AreRowChars cs → AreRowChars ds → AreRowChars (cs ++ ds)
both_all [] ds h k = k
both_all (c ∷ cs) ds h k = (h.0, both_all cs ds h.1 k)

-- a row that is filled up has no others
pub filled_all : (cs : List RowChar) (e : Bool) (room : ℕ) → AreRowChars cs → AreRowChars (filled_row cs e room)
filled_all cs e room h = both_all (fitted cs room) (spaces_after e (room - row_columns (fitted cs room))) (fitted_all cs room h) (spaces_all e (room - row_columns (fitted cs room)))

-- ---- their pieces

some_of : (o : Option ℕ) → 0 < unwrap_or o 0 → IsSome o
some_of None h = absurd (omega arith)
some_of (Some n) h = refl

printed_one : (c : ℕ) → 0 < char_columns c → IsShown (c ∷ [])
unfolding char_columns
printed_one c h = record { printed = (some_of (unicode_char_width false c) h, tt); whole = h }

-- the piece of such a character is shown in its columns
pub char_shown : (c : ℕ) (p : RowPiece) → p.text ≡ encode_utf8 c → IsScalar c → 0 < char_columns c → IsShownPiece p × (columns (chars p.text) ≡ char_columns c)
char_shown c p is scalar takes =
    let text : chars p.text ≡ c ∷ [] = ap chars is ∙ one_char c scalar in (
      record { utf8 = subst IsUtf8 (sym is) (IsUtf8-encode c scalar); shown = subst IsShown (sym text) (printed_one c takes) },
      ap columns text ∙ omega arith,
    )

tab_column : char_columns 9 ≡ 0
unfolding char_columns unicode_width
tab_column = refl

no_tab : (c : ℕ) → 0 < char_columns c → char_width c ≡ char_columns c
no_tab c h =
    by_bool (λ b. (c == 9) ≡ b → cond b 2 (char_columns c) ≡ char_columns c) (c == 9)
    (λ on is. let nine : c ≡ 9 = grind (arith, nat_tests) in let none : char_columns c ≡ 0 = ap char_columns nine ∙ tab_column in absurd (omega arith)) (λ off is. refl) refl

-- the pieces of a row are shown in its columns
pub chars_shown : (marked others : CompoundStyle) (cs : List RowChar) → AreRowChars cs → AreShownPieces (char_pieces marked others cs) × (pieces_columns (char_pieces marked others cs) ≡ row_columns cs)
chars_shown marked others [] h = (tt, refl)
chars_shown marked others (c ∷ cs) h =
    let rest : AreShownPieces (char_pieces marked others cs) × (pieces_columns (char_pieces marked others cs) ≡ row_columns cs) = chars_shown marked others cs h.1 in
    let p : RowPiece = char_piece marked others c in
    let one : IsShownPiece p × (columns (chars p.text) ≡ char_columns c.c) = char_shown c.c p refl h.0.0 h.0.1 in
    ((one.0, rest.0), omega (arith, one.1, rest.1, no_tab c.c h.0.1, columns-cons c cs))

-- ---- spaces past the last line

shown_both : (ps qs : List RowPiece) → AreShownPieces ps → AreShownPieces qs → AreShownPieces (ps ++ qs)
shown_both [] qs h k = k
shown_both (p ∷ ps) qs h k = (h.0, shown_both ps qs h.1 k)

times_shown : (n m : ℕ) (ps : List RowPiece) → AreShownPieces ps → pieces_columns ps ≡ m → AreShownPieces (repeat n ps) × (pieces_columns (repeat n ps) ≡ n * m)
times_shown zero m ps h wide = (tt, omega arith)
times_shown (suc n) m ps h wide =
    let rest : AreShownPieces (repeat n ps) × (pieces_columns (repeat n ps) ≡ n * m) = times_shown n m ps h wide in
    let more : suc n * m ≡ m + n * m = grind arith in
    (shown_both ps (repeat n ps) h rest.0, columns-both ps (repeat n ps) ∙ omega (arith, wide, rest.1, more))

-- the pieces of a filling are shown in as many columns
pub blanks_shown : (c : StyledChar) (count : ℕ) → IsColumnPiece (style_piece c) → AreShownPieces (filling_pieces c count) × (pieces_columns (filling_pieces c count) ≡ count)
blanks_shown c count h =
    let full : List RowPiece = repeat (count / piece_chars) (char_repeat c piece_chars) in
    let last : List RowPiece = char_repeat c (count % piece_chars) in
    let many : AreShownPieces full × (pieces_columns full ≡ count / piece_chars * piece_chars) = times_shown (count / piece_chars) piece_chars (char_repeat c piece_chars) (run_shown c piece_chars h) (run_columns c piece_chars h) in (
      shown_both full last many.0 (run_shown c (count % piece_chars) h),
      columns-both full last ∙ ap (λ n. n + pieces_columns last) many.1 ∙ ap (λ n. count / piece_chars * piece_chars + n) (run_columns c (count % piece_chars) h) ∙ div-add-mod' count piece_chars,
    )

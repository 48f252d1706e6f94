-- Pieces of spaces, and pieces in a row.
use Rattle.std.proofs.Common.{◌≡◌, ℕ, zero, suc, ◌+◌, ◌==◌, false, List, [], ◌∷◌, ◌++◌, map, replicate, ◌<◌, length, length-append, take, get_or, refl, ap, sym, ◌∙◌, subst, append_assoc, arith, lit<}
use Rattle.std.proofs.lemmas.Bool.Decides.{nat_tests}
use Rattle.std.specs.List.{AllByRecursion, flat_map, repeat, sum_by}
use Rattle.std.specs.Str.{chars, IsAscii}
use Rattle.std.proofs.lemmas.Str.Ascii.{IsAscii-cons, IsAscii-nil}
use Rattle.std.proofs.lemmas.Str.{IsUtf8-from_ascii, chars-IsAscii}
use Rattle.std.proofs.lemmas.List.{append-nil, length-replicate, map-append, take_more}
use Rattle.std.proofs.lemmas.List.Concat.{flat_map-append}
use Rattle.std.proofs.lemmas.List.Sums.{sum_by-cons}
use Rattle.mad_characters.specs.Columns.{char_columns}
use Rattle.mad_term.specs.Styles.{IsStyle, piece_bytes, styled_repeat_bytes}
use Rattle.mad_screen.specs.Glyph.{Glyph}
use Rattle.mad_screen.specs.Grid.{plain_pen}
use Rattle.mad_screen.specs.Painting.{Paints, piece_cells, IsShown, look_of_style}
use Rattle.mad_screen.proofs.Lines.{piece_more}
use Rattle.mad_screen.proofs.Paints.{paints_row, paints_piece, spaces_shown, spaces_cells}
use Rattle.mad_screen.proofs.PaintingLemmas.{length-cells_of}
use Rattle.mad_style.specs.declared.compound_styles.CompoundStyle.{CompoundStyle}
use Rattle.mad_style.specs.declared.styled_chars.StyledChar.{StyledChar}
use Rattle.mad_style.specs.Repeats.{repeat_bytes}
use Rattle.mad_style.specs.StyledChars.{char_style, char_alone}
use Rattle.std.specs.Prelude.{encode_utf8}
use Rattle.mad_measure.specs.TextColumns.{columns}
use Rattle.mad_draw.specs.Pieces.{RowPiece, pieces_bytes, spaces, single_spaces, char_repeat, AreKnown, AreShownPieces, pieces_columns}

-- ---- bytes

-- a text of one byte `count` times
pub repeat-one : (n b : ℕ) → repeat n (b ∷ []) ≡ replicate n b
repeat-one zero b = refl
repeat-one (suc n) b = ap (λ xs. b ∷ xs) (repeat-one n b)

not_zero : (n : ℕ) → (suc n == 0) ≡ false
not_zero n = grind (arith, nat_tests)

-- a run of spaces is a piece of them
pub run-spaces : (style : CompoundStyle) (n : ℕ) → repeat_bytes style (32 ∷ []) n ≡ pieces_bytes (spaces style n)
run-spaces style zero = refl
run-spaces style (suc n) =
    rw (not_zero n) (ap (λ text. piece_bytes style.object_style text) (repeat-one (suc n) 32) ∙ sym (append-nil (piece_bytes style.object_style (replicate (suc n) 32))))

-- a run of spaces, as a device or a formatter is given it
pub repeat_of_spaces : (style : CompoundStyle) (n : ℕ) → styled_repeat_bytes style.object_style (32 ∷ []) n ≡ pieces_bytes (spaces style n)
repeat_of_spaces style n = run-spaces style n

-- a character `n` times, as a formatter is given it
pub repeat_of_chars : (c : StyledChar) (n : ℕ) → styled_repeat_bytes (char_style c).object_style (encode_utf8 (char_alone c)) n ≡ pieces_bytes (char_repeat c n)
repeat_of_chars c zero = refl
repeat_of_chars c (suc n) = rw (not_zero n) (sym (append-nil (piece_bytes (char_style c).object_style (repeat (suc n) (encode_utf8 (char_alone c))))))

-- single spaces, one more
single-suc : (style : CompoundStyle) (n : ℕ) → pieces_bytes (single_spaces style (suc n)) ≡ pieces_bytes (single_spaces style n) ++ piece_bytes style.object_style (32 ∷ [])
single-suc style zero = append-nil (piece_bytes style.object_style (32 ∷ []))
single-suc style (suc n) =
    let space : List ℕ = piece_bytes style.object_style (32 ∷ []) in
    ap (λ bytes. space ++ bytes) (single-suc style n) ∙ sym (append_assoc space (pieces_bytes (single_spaces style n)) space)

-- the bytes of one single space more come after those of the others
pub single-more : (style : CompoundStyle) (n : ℕ) → pieces_bytes (single_spaces style (n + 1)) ≡ pieces_bytes (single_spaces style n) ++ piece_bytes style.object_style (32 ∷ [])
single-more style n = let e : n + 1 ≡ suc n = omega arith in ap (λ k. pieces_bytes (single_spaces style k)) e ∙ single-suc style n

-- the bytes of the pieces of one element more
pub pieces_taken : {X : Type 0} (f : X → RowPiece) (xs : List X) (i : ℕ) (d : X) → i < length xs
    → pieces_bytes (map f (take i xs)) ++ piece_bytes (f (get_or xs i d)).style (f (get_or xs i d)).text ≡ pieces_bytes (map f (take (i + 1) xs))
pieces_taken {X} f xs i d inside =
    let last : RowPiece = f (get_or xs i d) in
    ap (λ r. pieces_bytes (map f (take i xs)) ++ r) (sym (append-nil (piece_bytes last.style last.text)))
    ∙ sym (flat_map-append (λ (p : RowPiece). piece_bytes p.style p.text) (map f (take i xs)) (last ∷ []))
    ∙ ap pieces_bytes (sym (map-append f (take i xs) (get_or xs i d ∷ [])))
    ∙ ap (λ ys. pieces_bytes (map f ys)) (sym (take_more xs i d inside))

-- the bytes, or the pieces, of one element more
pub bytes_taken_of : {X Y : Type 0} (f : X → List Y) (xs : List X) (i : ℕ) (x : X) → i < length xs → x ≡ get_or xs i x → flat_map f (take i xs) ++ f x ≡ flat_map f (take (i + 1) xs)
bytes_taken_of f xs i x inside is = ap (λ y. flat_map f (take i xs) ++ f y) is ∙ piece_more f xs i x inside

-- joined pieces have the bytes of the first, and then those of the others
pub bytes_both : (ps qs : List RowPiece) → pieces_bytes (ps ++ qs) ≡ pieces_bytes ps ++ pieces_bytes qs
bytes_both ps qs = flat_map-append (λ (p : RowPiece). piece_bytes p.style p.text) ps qs

-- one piece
pub bytes_one : (p : RowPiece) → pieces_bytes (p ∷ []) ≡ piece_bytes p.style p.text
bytes_one p = append-nil (piece_bytes p.style p.text)

-- ---- colors

-- the numbers of the colors of spaces are bytes where those of their style are
pub spaces_known : (style : CompoundStyle) (n : ℕ) → IsStyle style.object_style → AreKnown (spaces style n)
spaces_known style zero known = tt
spaces_known style (suc n) known = (known, tt)

-- the numbers of the colors of single spaces are bytes where those of their style are
pub single_known : (style : CompoundStyle) (n : ℕ) → IsStyle style.object_style → AreKnown (single_spaces style n)
single_known style zero known = tt
single_known style (suc n) known = (known, single_known style n known)

-- the numbers of the colors of a repeated character are bytes where those of its style are
pub char_repeat_known : (c : StyledChar) (n : ℕ) → IsStyle (char_style c).object_style → AreKnown (char_repeat c n)
char_repeat_known c zero known = tt
char_repeat_known c (suc n) known = (known, tt)

-- pieces after pieces
pub known_both : (ps qs : List RowPiece) → AreKnown ps → AreKnown qs → AreKnown (ps ++ qs)
known_both [] qs h k = k
known_both (p ∷ ps) qs h k = (h.0, known_both ps qs h.1 k)

-- ---- what pieces paint

-- the cells that pieces show
abbrev pub pieces_cells : List RowPiece → List Glyph
pieces_cells ps = flat_map (λ p. piece_cells p.style p.text) ps

each_paints : (ps : List RowPiece) → AreKnown ps → AreShownPieces ps → AllByRecursion (λ p. Paints (piece_bytes p.style p.text) (piece_cells p.style p.text)) ps
each_paints [] known shown = tt
each_paints (p ∷ ps) known shown = (paints_piece p.style p.text known.0 shown.0.utf8 shown.0.shown, each_paints ps known.1 shown.1)

-- the bytes of pieces that show cells of their own paint these
pub pieces_paint : (ps : List RowPiece) → AreKnown ps → AreShownPieces ps → Paints (pieces_bytes ps) (pieces_cells ps)
pieces_paint ps known shown = paints_row (λ (p : RowPiece). piece_bytes p.style p.text) (λ (p : RowPiece). piece_cells p.style p.text) ps (each_paints ps known shown)

-- ---- how many columns they fill

sum_columns : (cs : List ℕ) → sum_by char_columns cs ≡ columns cs
sum_columns [] = refl
sum_columns (c ∷ cs) = sum_by-cons char_columns c cs ∙ ap (λ n. char_columns c + n) (sum_columns cs)

-- pieces have as many cells as they take columns
pub length-pieces_cells : (ps : List RowPiece) → length (pieces_cells ps) ≡ pieces_columns ps
length-pieces_cells [] = refl
length-pieces_cells (p ∷ ps) =
    let own : length (piece_cells p.style p.text) ≡ columns (chars p.text) = length-cells_of (look_of_style p.style) (chars p.text) ∙ sum_columns (chars p.text) in
    let rest : length (pieces_cells ps) ≡ pieces_columns ps = length-pieces_cells ps in
    let both : length (piece_cells p.style p.text ++ pieces_cells ps) ≡ length (piece_cells p.style p.text) + length (pieces_cells ps) = length-append (piece_cells p.style p.text) (pieces_cells ps) in
    both ∙ ap (λ n. n + length (pieces_cells ps)) own ∙ ap (λ n. columns (chars p.text) + n) rest

-- joined pieces take as many columns as both together
pub columns-both : (ps qs : List RowPiece) → pieces_columns (ps ++ qs) ≡ pieces_columns ps + pieces_columns qs
columns-both [] qs = omega arith
columns-both (p ∷ ps) qs = let rest : pieces_columns (ps ++ qs) ≡ pieces_columns ps + pieces_columns qs = columns-both ps qs in omega (arith, rest)

-- spaces are ASCII
pub ascii_spaces : (n : ℕ) → IsAscii (replicate n 32)
ascii_spaces zero = IsAscii-nil
ascii_spaces (suc n) = IsAscii-cons 32 (replicate n 32) (lit< tt) (ascii_spaces n)

columns-spaces : (n : ℕ) → columns (replicate n 32) ≡ n
columns-spaces n =
    sym (sum_columns (replicate n 32)) ∙ sym (length-cells_of plain_pen (replicate n 32)) ∙ ap length (spaces_cells plain_pen n)
    ∙ length-replicate n (record { chars = 32 ∷ []; pen = plain_pen })

-- spaces take a column each
pub spaces_columns : (style : CompoundStyle) (n : ℕ) → pieces_columns (spaces style n) ≡ n
spaces_columns style zero = refl
spaces_columns style (suc n) =
    let text : columns (chars (replicate (suc n) 32)) ≡ suc n = ap columns (chars-IsAscii (replicate (suc n) 32) (ascii_spaces (suc n))) ∙ columns-spaces (suc n) in
    omega (arith, text)

-- a piece of spaces shows cells of its own
pub shown_spaces : (style : CompoundStyle) (n : ℕ) → AreShownPieces (spaces style n)
shown_spaces style zero = tt
shown_spaces style (suc n) = (
  record {
    utf8 = IsUtf8-from_ascii (replicate (suc n) 32) (ascii_spaces (suc n));
    shown = subst IsShown (sym (chars-IsAscii (replicate (suc n) 32) (ascii_spaces (suc n)))) (spaces_shown (suc n));
  },
  tt,
)

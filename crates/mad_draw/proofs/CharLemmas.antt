-- Characters that take one column, as pieces and as cells.
use Rattle.std.proofs.Common.{◌≡◌, ℕ, zero, suc, ◌+◌, ◌&&◌, Bool, true, false, List, [], ◌∷◌, ◌++◌, map, replicate, Option, Some, None, refl, ap, sym, ◌∙◌, subst, arith, append-nil, append_assoc}
use Rattle.std.specs.Prelude.{IsSome, unwrap_or, encode_utf8}
use Rattle.std.specs.Char.{IsScalar}
use Rattle.std.specs.List.{AllByRecursion}
use Rattle.std.specs.Str.{chars}
use Rattle.std.proofs.Math.Utf8.{scalar}
use Rattle.std.proofs.lemmas.List.Concat.{flat_map-append}
use Rattle.std.proofs.lemmas.Str.{IsUtf8-encode, chars-encodes, chars-IsAscii}
use Rattle.unicode_width.specs.Width.{char_width}
use Rattle.mad_characters.specs.Columns.{char_columns}
use Rattle.mad_screen.specs.Glyph.{Glyph, Look}
use Rattle.mad_screen.specs.Painting.{IsShown, attach, look_of_style}
use Rattle.mad_style.specs.Repeats.{styled_char_bytes}
use Rattle.mad_style.specs.StyledChars.{char_alone, char_style}
use Rattle.mad_style.specs.declared.compound_styles.CompoundStyle.{CompoundStyle}
use Rattle.mad_style.specs.declared.styled_chars.StyledChar.{StyledChar}
use Rattle.mad_measure.specs.TextColumns.{columns}
use Rattle.mad_draw.specs.Pieces.{IsColumnChar}
use Rattle.mad_draw.specs.Pieces.{RowPiece, PennedChar, IsColumnPiece, char_piece, single_chars, spaces, penned_chars, AreShownPieces, AreKnown, pieces_bytes, pieces_columns}
use Rattle.mad_draw.specs.PennedCells.{penned_attached, penned_cells}
use Rattle.mad_draw.proofs.PieceLemmas.{ascii_spaces}
use Rattle.mad_term.specs.Styles.{IsStyle}

-- ---- one character

some_of : (o : Option ℕ) → unwrap_or o 0 ≡ 1 → IsSome o
some_of None h = absurd (omega (arith, h))
some_of (Some n) h = refl

printed_char : (c : ℕ) → char_columns c ≡ 1 → IsSome (char_width false c)
unfolding char_columns
printed_char c h = some_of (char_width false c) h

also_nil : (b : Bool) → b ≡ true → (b && true) ≡ true
also_nil true h = refl
also_nil false h = cc

-- a character is a text of itself alone
pub one_char : (c : ℕ) → IsScalar c → chars (encode_utf8 c) ≡ c ∷ []
one_char c h = ap chars (sym (append-nil (encode_utf8 c))) ∙ chars-encodes (c ∷ []) (also_nil (scalar c) h)

-- a character that takes one column is a piece that is shown in one
pub column_piece : (c : StyledChar) → IsColumnChar (char_alone c) → IsColumnPiece (char_piece c)
column_piece c h =
    let n : ℕ = char_alone c in
    let text : chars (encode_utf8 n) ≡ n ∷ [] = one_char n h.scalar in
    record {
      shown = record {
        utf8 = IsUtf8-encode n h.scalar;
        shown = subst IsShown (sym text) (record { printed = (printed_char n h.one, tt); whole = omega (arith, h.one) });
      };
      one = ap columns text ∙ omega (arith, h.one);
    }

-- ---- some of them

-- single characters of one column show cells of their own
pub single_shown : (c : StyledChar) (n : ℕ) → IsColumnChar (char_alone c) → AreShownPieces (single_chars c n)
single_shown c zero h = tt
single_shown c (suc n) h = ((column_piece c h).shown, single_shown c n h)

-- single characters of one column take a column each
pub single_columns : (c : StyledChar) (n : ℕ) → IsColumnChar (char_alone c) → pieces_columns (single_chars c n) ≡ n
single_columns c zero h = refl
single_columns c (suc n) h = let one = (column_piece c h).one in let rest : pieces_columns (single_chars c n) ≡ n = single_columns c n h in omega (arith, one, rest)

-- the numbers of the colors of single characters are bytes where those of their style are
pub single_chars_known : (c : StyledChar) (n : ℕ) → IsStyle (char_style c).object_style → AreKnown (single_chars c n)
single_chars_known c zero known = tt
single_chars_known c (suc n) known = (known, single_chars_known c n known)

-- their bytes, one more
single_chars_suc : (c : StyledChar) (n : ℕ) → pieces_bytes (single_chars c (suc n)) ≡ pieces_bytes (single_chars c n) ++ styled_char_bytes c
single_chars_suc c zero = append-nil (styled_char_bytes c)
single_chars_suc c (suc n) =
    ap (λ bytes. styled_char_bytes c ++ bytes) (single_chars_suc c n) ∙ sym (append_assoc (styled_char_bytes c) (pieces_bytes (single_chars c n)) (styled_char_bytes c))

-- the bytes of one single character more come after those of the others
pub single_chars_more : (c : StyledChar) (n : ℕ) → pieces_bytes (single_chars c (n + 1)) ≡ pieces_bytes (single_chars c n) ++ styled_char_bytes c
single_chars_more c n = let e : n + 1 ≡ suc n = omega arith in ap (λ k. pieces_bytes (single_chars c k)) e ∙ single_chars_suc c n

-- ---- their cells

-- a character with its pen, and in a cell
abbrev pub penned : Look → ℕ → PennedChar
penned pen c = record { char = c; pen = pen }

-- a character with its pen, alone in a cell
abbrev pub in_cell : Look → ℕ → Glyph
in_cell pen c = record { chars = c ∷ []; pen = pen }

-- joined pieces have the penned characters of the first, and then those of the others
pub penned_both : (ps qs : List RowPiece) → penned_chars (ps ++ qs) ≡ penned_chars ps ++ penned_chars qs
penned_both ps qs = flat_map-append (λ (p : RowPiece). map (λ c. penned (look_of_style p.style) c) (chars p.text)) ps qs

-- the piece of a character puts it, with its pen, before those of the others
pub penned_piece : (c : StyledChar) (ps : List RowPiece) → IsScalar (char_alone c) → penned_chars (char_piece c ∷ ps) ≡ penned (look_of_style (char_style c).object_style) (char_alone c) ∷ penned_chars ps
penned_piece c ps h = ap (λ cs. map (penned (look_of_style (char_style c).object_style)) cs ++ penned_chars ps) (one_char (char_alone c) h)

-- single characters are one character so many times, with its pen
pub penned_single : (c : StyledChar) (n : ℕ) → IsScalar (char_alone c) → penned_chars (single_chars c n) ≡ map (penned (look_of_style (char_style c).object_style)) (replicate n (char_alone c))
penned_single c zero h = refl
penned_single c (suc n) h =
    penned_piece c (single_chars c n) h
    ∙ ap (λ rest. penned (look_of_style (char_style c).object_style) (char_alone c) ∷ rest) (penned_single c n h)

-- a piece of spaces is so many spaces, with their pen
pub penned_spaces : (style : CompoundStyle) (n : ℕ) → penned_chars (spaces style n) ≡ map (penned (look_of_style style.object_style)) (replicate n 32)
penned_spaces style zero = refl
penned_spaces style (suc n) =
    append-nil (map (penned (look_of_style style.object_style)) (chars (replicate (suc n) 32)))
    ∙ ap (map (penned (look_of_style style.object_style))) (chars-IsAscii (replicate (suc n) 32) (ascii_spaces (suc n)))

attached_chars : (pen : Look) (cs : List ℕ) → AllByRecursion (λ c. char_columns c ≡ 1) cs → penned_attached (map (penned pen) cs) ≡ ([], map (in_cell pen) cs)
attached_chars pen [] h = refl
attached_chars pen (c ∷ cs) h =
    ap (attach (Some (char_columns c)) pen c) (attached_chars pen cs h.1)
    ∙ ap (λ (n : ℕ). attach (Some n) pen c ([], map (in_cell pen) cs)) h.0

-- each of them has a cell
pub cells_of_chars : (pen : Look) (cs : List ℕ) → AllByRecursion (λ c. char_columns c ≡ 1) cs → penned_cells (map (penned pen) cs) ≡ map (in_cell pen) cs
cells_of_chars pen cs h = ap (λ (r : List ℕ × List Glyph). r.1) (attached_chars pen cs h)

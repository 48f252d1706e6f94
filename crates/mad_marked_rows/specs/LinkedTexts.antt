-- A text with marks as pieces with links: each part in the link of its mark. What is written of them, one after the other.
use Rattle.std.specs.Prelude.{ℕ, ◌-◌, nat_le, List, [], ◌∷◌, ◌++◌, map, Option, Some, None, encode_utf8, encode_utf8_all, if◌then◌else◌}
use Rattle.mad_term.specs.declared.styles.ContentStyle.{ContentStyle}
use Rattle.mad_term.specs.Styles.{closing_bytes, opening_bytes, piece_bytes}
use Rattle.mad_mark_runs.specs.declared.mark_runs.MarkRun.{MarkRun}
use Rattle.mad_links.specs.LinkRows.{LinkedPiece, change_bytes, written_link}
use Rattle.mad_marked_rows.specs.MarkedTexts.{LetterPart, letters_of, parts_of, goes_on}

-- ---- links of marks

-- the link of a mark: none up to 8, which are tones, and then one link after the other, the first being number 0 among the addresses
abbrev pub link_of_mark : ℕ → Option ℕ
link_of_mark value = if nat_le value 8 then None else Some (value - 9)

-- the one that is written, if it has an address
abbrev pub mark_link : List (Option (List ℕ)) → ℕ → Option ℕ
mark_link addresses value = written_link addresses (link_of_mark value)

-- a part in the style that its mark makes of another, in the link of its mark
abbrev pub part_link : (ℕ → ContentStyle → ContentStyle) → ContentStyle → LetterPart → LinkedPiece
part_link paint style p = record { style = paint p.value style; text = encode_utf8_all p.chars; link = link_of_mark p.value }

-- THE DEFINITION: the pieces of a text in a style, with their links
abbrev pub text_links : (ℕ → ContentStyle → ContentStyle) → List MarkRun → ContentStyle → ℕ → List ℕ → List LinkedPiece
text_links paint runs style n cs = map (part_link paint style) (parts_of (letters_of runs n cs))

-- ---- what is written

-- A row so far is its bytes and the number of the link that is open. A piece behind it: as `linked_bytes` has it, but
-- for the end of the last link.
abbrev pub piece_on : List (Option (List ℕ)) → List ℕ × Option ℕ → LinkedPiece → List ℕ × Option ℕ
piece_on addresses row p = (row.0 ++ (change_bytes addresses row.1 (written_link addresses p.link) ++ piece_bytes p.style p.text), written_link addresses p.link)

-- so are pieces, one after the other
abbrev pub pieces_on : List (Option (List ℕ)) → List ℕ × Option ℕ → List LinkedPiece → List ℕ × Option ℕ
pieces_on addresses row [] = row
pieces_on addresses row (p ∷ ps) = pieces_on addresses (piece_on addresses row p) ps

-- ---- as they are written, character by character

-- what is written of the first character of a part, where this link is open
abbrev pub first_bytes : (ℕ → ContentStyle → ContentStyle) → List (Option (List ℕ)) → ContentStyle → Option ℕ → ℕ → ℕ → List ℕ
first_bytes paint addresses style was value c = change_bytes addresses was (mark_link addresses value) ++ (opening_bytes (paint value style) ++ encode_utf8 c)

-- what is written of a character, where a part of this value is open
abbrev pub char_bytes : (ℕ → ContentStyle → ContentStyle) → List (Option (List ℕ)) → ContentStyle → ℕ → ℕ → ℕ → List ℕ
char_bytes paint addresses style value other c =
    if goes_on value other c then encode_utf8 c else closing_bytes (paint value style) ++ first_bytes paint addresses style (mark_link addresses value) other c

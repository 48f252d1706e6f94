-- Which link each byte of a leaf's links belongs to.
use Rattle.std.specs.Prelude.{◌≡◌, ℕ, ◌==◌, ◌&&◌, Bool, not, List, [], ◌∷◌, ◌++◌, map, encode_utf8, Option, Some, None}
use Rattle.std.specs.List.{filter, flat_map}
use Rattle.markdown_html_text.specs.HtmlPieces.{html_cut}
use Rattle.markdown_inlines.specs.Inlines.{leaf_text, shown_cut}
use Rattle.markdown_inlines.specs.Styled.{Shown}
use Rattle.markdown_lines.specs.Leaf.{cell_runs, html_lines, leaf_rows}
use Rattle.markdown_lines.specs.LinkNumbers.{cell_numbers, html_numbers, leaf_numbers}
use Rattle.mad_link_marks.specs.LinkMarks.{link_texts, run_texts}

-- a byte, and the number of the link that it belongs to
pub record LinkByte : Type 0 where
  pub byte : ℕ
  pub link : ℕ

-- bytes that belong to one link
abbrev pub bytes_of : ℕ → List ℕ → List LinkByte
bytes_of number bytes = map (λ b. record { byte = b; link = number }) bytes

-- of texts, each of which belongs to the link of its number
abbrev pub numbered_bytes : List ℕ → List (List ℕ) → List LinkByte
numbered_bytes [] texts = []
numbered_bytes (number ∷ numbers) [] = []
numbered_bytes (number ∷ numbers) (text ∷ texts) = bytes_of number text ++ numbered_bytes numbers texts

-- bytes that belong to a link, or to none
abbrev pub bytes_in : Option ℕ → List ℕ → List LinkByte
bytes_in None bytes = []
bytes_in (Some number) bytes = bytes_of number bytes

-- of a character of a leaf
abbrev pub char_bytes : Shown → List LinkByte
char_bytes s = bytes_in s.look.link (encode_utf8 s.char)

-- without spaces and breaks, which are not shown at the ends of rows
abbrev pub seen : List LinkByte → List LinkByte
seen bytes = filter (λ (b : LinkByte). not (b.byte == 10) && not (b.byte == 32)) bytes

-- Of the text of each leaf: the bytes of the runs that belong to links are those of the characters that do, in the same order and each of the same link.
abbrev pub RunsHaveTheirLinks : Type 0
RunsHaveTheirLinks = (labels : List (List ℕ)) (text : List ℕ) → seen (numbered_bytes (leaf_numbers labels text) (link_texts (leaf_rows labels text))) ≡ seen (flat_map char_bytes (leaf_text labels text))

-- so it is with the text of each cell
abbrev pub CellsHaveTheirLinks : Type 0
CellsHaveTheirLinks = (labels : List (List ℕ)) (bold : Bool) (text : List ℕ) → seen (numbered_bytes (cell_numbers labels bold text) (flat_map run_texts (cell_runs labels bold text))) ≡ seen (flat_map char_bytes (leaf_text labels text))

-- and with the text of each leaf of html
abbrev pub HtmlHasItsLinks : Type 0
HtmlHasItsLinks = (text : List ℕ) → seen (numbered_bytes (html_numbers text) (link_texts (html_lines text))) ≡ seen (flat_map char_bytes (shown_cut (html_cut text) text))

-- From the bytes of a leaf's text to its rows.
use Rattle.std.specs.Prelude.{◌≡◌, ℕ, Bool, false, List, map}
use Rattle.markdown_pieces.specs.Cut.{cut_text}
use Rattle.markdown_pieces.specs.Spelling.{spell}
use Rattle.markdown_inlines.specs.Inlines.{char_of, leaf_text}
use Rattle.markdown_lines.specs.Leaf.{leaf_rows, cell_runs}
use Rattle.markdown_text_laws.specs.Shown.{IsShownText}
use Rattle.markdown_row_laws.specs.Rows.{SayCell, SayRows, leaf_chars}

-- Each byte of a text is of one piece. Each piece is shown once, in order, or is markup by the list of `IsShownText`. The rows of a leaf say what is shown, and so does a cell.
pub record IsKept (labels : List (List ℕ)) (text : List ℕ) : Type 0 where
  pub spelled : spell text (cut_text labels text).pieces ≡ text
  pub shown : IsShownText (cut_text labels text) text (map char_of (leaf_text labels text))
  pub rows : SayRows (leaf_chars labels false text) (leaf_rows labels text)
  pub cell : (bold : Bool) → SayCell bold (leaf_chars labels bold text) (cell_runs labels bold text)

-- From its bytes to its rows no text of a leaf is lost.
abbrev pub BytesAreKept : Type 0
BytesAreKept = (labels : List (List ℕ)) (text : List ℕ) → IsKept labels text

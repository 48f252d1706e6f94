-- What is drawn once more of a row, by its line.
use Rattle.std.proofs.Common.{◌≡◌, ℕ, ◌-◌, List, [], ◌++◌, Some, ap, sym, ◌∙◌}
use Rattle.std.specs.Prelude.{slice_get}
use Rattle.std.proofs.lemmas.List.{append-nil}
use Rattle.regex.specs.Patterns.{Re}
use Rattle.mad_format.specs.declared.composite.FmtComposite.{FmtComposite}
use Rattle.mad_format.specs.declared.line.FmtLine.{FmtLine}
use Rattle.mad_format.specs.declared.line.FmtLine.TheVariants.{Normal}
use Rattle.mad_rows.specs.declared.row_skin.RowSkin.{RowSkin}
use Rattle.mad_patterns.specs.Breaks.{line_rows, line_start}
use Rattle.mad_hits.specs.Hits.{Marked, placed_line, placed_texts}
use Rattle.mad_hits.specs.Parts.{AreRowHits, text_hits, texts_hits}

-- a row that shows this line
pub row_hit : (skin : RowSkin) (width : ℕ) (sought : Re) (lines : List FmtLine) (starts : List ℕ) (row : ℕ) (line shown : FmtLine) (hits : List Marked) → slice_get lines row ≡ Some line → line ≡ shown
    → hits ≡ texts_hits skin (placed_texts skin sought width lines starts row shown) → AreRowHits skin width sought lines starts row hits
row_hit skin width sought lines starts row line shown hits is same are = record { line = line; is = is; are = are ∙ ap (λ (l : FmtLine). texts_hits skin (placed_texts skin sought width lines starts row l)) (sym same) }

-- what was put after nothing
pub all_put : (old new added : List Marked) → old ≡ [] → new ≡ old ++ added → new ≡ added
all_put old new added none put = put ∙ ap (λ (m : List Marked). m ++ added) none

-- the hits of a line of text alone
pub one_line : (skin : RowSkin) (width : ℕ) (sought : Re) (lines : List FmtLine) (starts : List ℕ) (row : ℕ) (l : FmtComposite) (hits : List Marked)
    → hits ≡ text_hits skin (placed_line skin sought width (line_rows lines starts row) (row - line_start lines starts row) l) → hits ≡ texts_hits skin (placed_texts skin sought width lines starts row (Normal l))
one_line skin width sought lines starts row l hits are = are ∙ sym (append-nil (text_hits skin (placed_line skin sought width (line_rows lines starts row) (row - line_start lines starts row) l)))

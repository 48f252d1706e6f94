-- Cells, one after the other.
use Rattle.std.proofs.Common.{◌≡◌, ℕ, suc, ◌-◌, ◌<◌, Bool, true, false, ◌&&◌, List, [], ◌∷◌, ◌++◌, map, length, refl, sym, ap, ◌∙◌, arith, append_assoc, append-nil, length-append}
use Rattle.std.specs.List.{list_all}
use Rattle.std.specs.Str.Lossy.{utf8_lossy}
use Rattle.std.proofs.lemmas.List.{map-append}
use Rattle.std.proofs.lemmas.List.Folds.{list_all-append}
use Rattle.mad_md.specs.Flagged.{Run}
use Rattle.mad_md.specs.Lines.{StyledRuns, LineContent, table_row}
use Rattle.mad_md.specs.declared.alignment.Alignment.{Alignment}
use Rattle.mad_md.specs.declared.composite.CompositeStyle.TheVariants.{Paragraph}
use Rattle.markdown_lines.specs.Leaf.{cell_runs}
use Rattle.markdown_lines.specs.Lines.{cell_said, lines_said, is_within, all_within}
use Rattle.markdown_cells.specs.Cells.{cell_of, after_cell, unbarred, alignment_of, alignments}
use Rattle.markdown_lines.specs.Tables.{cells, cell_said as first_cell}
use Rattle.markdown_lines.specs.declared.lines.MarkdownLine.{MarkdownLine}
use Rattle.markdown_lines.specs.declared.places.RunRange.{RunRange}
use Rattle.markdown_lines.proofs.LineLemmas.{ranges_more, cells_same, lines_same, within_new, range_new}

cells_suc : (labels : List (List ℕ)) (bold : Bool) (more : ℕ) (row : List ℕ) → cells labels bold (suc more) row ≡ first_cell labels bold row ∷ cells labels bold more (after_cell row)
unfolding cells
cells_suc labels bold more row = refl

-- the runs of a cell more
pub cells_next : (labels : List (List ℕ)) (bold : Bool) (all added whole : List Run) (ranges now : List RunRange) (range : RunRange) (row next : List ℕ) (more : ℕ) → 0 < more → list_all (is_within (length all)) ranges ≡ true
    → whole ≡ all ++ added → range ≡ record { start = length all; count = length added } → now ≡ ranges ++ range ∷ [] → added ≡ cell_runs labels bold (utf8_lossy (unbarred [] false (cell_of row))) → next ≡ after_cell row
    → map (cell_said whole) now ++ cells labels bold (more - 1) next ≡ map (cell_said all) ranges ++ cells labels bold more row
cells_next labels bold all added whole ranges now range row next more some held whole_is range_is now_is added_is next_is =
    let e : more ≡ suc (more - 1) = omega arith in
    let others = cells labels bold (more - 1) next in
    let after : List StyledRuns = cells labels bold (more - 1) (after_cell row) in
    let len : length added ≡ length whole - length all = omega (arith, ap length whole_is, length-append all added) in
    let here : cell_said whole range ≡ first_cell labels bold row =
    ap (cell_said whole) range_is ∙ ap (λ (rs : List Run). let s : StyledRuns = record { style = Paragraph; runs = rs } in s) (range_new all added whole (length all) (length added) whole_is refl len ∙ added_is) in
    ap (λ (rs : List RunRange). map (cell_said whole) rs ++ others) now_is
    ∙ ap (λ (cs : List StyledRuns). cs ++ others) (map-append (cell_said whole) ranges (range ∷ []))
    ∙ append_assoc (map (cell_said whole) ranges) (cell_said whole range ∷ []) others
    ∙ ap (λ (w : List Run). map (cell_said w) ranges ++ cell_said whole range ∷ others) whole_is
    ∙ ap (λ (cs : List StyledRuns). cs ++ cell_said whole range ∷ others) (cells_same all added ranges held)
    ∙ ap (λ (c : StyledRuns). map (cell_said all) ranges ++ c ∷ others) here
    ∙ ap (λ (r : List ℕ). map (cell_said all) ranges ++ first_cell labels bold row ∷ cells labels bold (more - 1) r) next_is
    ∙ ap (λ (cs : List StyledRuns). map (cell_said all) ranges ++ cs) (sym (cells_suc labels bold (more - 1) row))
    ∙ ap (λ (n : ℕ). map (cell_said all) ranges ++ cells labels bold n row) (sym e)

-- with the range of one more cell each is among the runs
pub ranges_next : (all added whole : List Run) (ranges now : List RunRange) (range : RunRange) → list_all (is_within (length all)) ranges ≡ true
    → whole ≡ all ++ added → range ≡ record { start = length all; count = length added } → now ≡ ranges ++ range ∷ [] → list_all (is_within (length whole)) now ≡ true
ranges_next all added whole ranges now range held whole_is range_is now_is =
    let len : length added ≡ length whole - length all = omega (arith, ap length whole_is, length-append all added) in
    let before : list_all (is_within (length whole)) ranges ≡ true = ranges_more (length all) (length whole) ranges (omega (arith, ap length whole_is, length-append all added)) held in
    let here : is_within (length whole) range ≡ true = ap (is_within (length whole)) range_is ∙ within_new (length all) (length added) (length whole) len (omega (arith, ap length whole_is, length-append all added)) in
    ap (list_all (is_within (length whole))) now_is ∙ list_all-append (is_within (length whole)) ranges (range ∷ [])
    ∙ ap (λ (b : Bool). b && (is_within (length whole) range && true)) before ∙ ap (λ (b : Bool). true && (b && true)) here

-- the lines before say the same where runs were added
pub lines_kept : (all added whole : List Run) (lines now : List MarkdownLine) → all_within (length all) lines ≡ true → whole ≡ all ++ added → now ≡ lines → lines_said whole now ≡ lines_said all lines
lines_kept all added whole lines now held whole_is now_is =
    ap (λ (ls : List MarkdownLine). lines_said whole ls) now_is ∙ ap (λ (w : List Run). lines_said w lines) whole_is ∙ lines_same all added lines held

-- where no cell is to come, the row is put
pub row_done : (labels : List (List ℕ)) (bold : Bool) (before now old : List LineContent) (made all : List StyledRuns) (row : List ℕ) (more : ℕ) → more ≡ 0 → now ≡ before ++ table_row made ∷ [] → before ≡ old → made ++ cells labels bold more row ≡ all
    → now ≡ old ++ table_row all ∷ []
unfolding cells
row_done labels bold before now old made all row more none now_is before_is made_is =
    now_is ∙ ap (λ (ls : List LineContent). ls ++ table_row made ∷ []) before_is
    ∙ ap (λ (cs : List StyledRuns). old ++ table_row cs ∷ []) (sym (append-nil made) ∙ sym (ap (λ (n : ℕ). made ++ cells labels bold n row) none) ∙ made_is)

-- Lines of leaves: nothing that a terminal obeys.
use Rattle.std.proofs.Common.{ℕ, zero, suc, Bool, true, false, ◌&&◌, ◌==◌, List, [], ◌∷◌, ◌++◌, map, length, refl, if◌then◌else◌}
use Rattle.std.specs.Prelude.{chars}
use Rattle.std.specs.List.{AllByRecursion}
use Rattle.std.specs.Str.{NoCharPasses, NonePass}
use Rattle.std.specs.Str.Lossy.{utf8_lossy}
use Rattle.markdown_marks.specs.Remaining.{Remaining}
use Rattle.mad_md.specs.Lines.{LineContent, normal, table_row, table_rule, horizontal_rule}
use Rattle.mad_md.specs.declared.alignment.Alignment.{Alignment}
use Rattle.mad_md.specs.declared.composite.CompositeStyle.{CompositeStyle}
use Rattle.markdown_lines.specs.Code.{spaces, expanded_char, next_column, expanded, code_text, code_line, code_lines}
use Rattle.markdown_inlines.specs.Printable.{shown_char}
use Rattle.markdown_lines.specs.Leaf.{shown_text}
use Rattle.markdown_reader.proofs.GlyphsPrinted.{none_obeyed, none_append, nothing_printed, cons_printed, cell_printed}
use Rattle.markdown_lines.specs.Printed.{is_obeyed, IsPrintedRun, IsPrintedCell, IsPrintedLine, ArePrinted}
use Rattle.markdown_lines.specs.Restyled.{empty_line, row_runs, restyled}
use Rattle.markdown_cells.specs.Cells.{after_cell, alignments}
use Rattle.markdown_marks.specs.Tables.{row_of}
use Rattle.markdown_lines.specs.Tables.{cells, shown_cells, row_said, body, ruled, table_lines}

-- ---- characters

none_shown : (cs : List ℕ) → NonePass is_obeyed (map shown_char cs)
none_shown [] = tt
none_shown (c ∷ cs) = (none_obeyed c, none_shown cs)

none_spaces : (count : ℕ) → NonePass is_obeyed (spaces count)
unfolding spaces
none_spaces zero = tt
none_spaces (suc count) = (refl, none_spaces count)

none_char : (t : Bool) (count c : ℕ) → NonePass is_obeyed (if t then spaces count else shown_char c ∷ [])
none_char true count c = none_spaces count
none_char false count c = (none_obeyed c, tt)

none_expanded : (column : ℕ) (cs : List ℕ) → NonePass is_obeyed (expanded column cs)
unfolding expanded
none_expanded column [] = tt
none_expanded column (c ∷ cs) = none_append (expanded_char column c) (expanded (next_column column c) cs) (none_char (c == 9) _ c) (none_expanded (next_column column c) cs)

-- no character of a text is obeyed as it is shown
pub text_printed : (text : List ℕ) → NoCharPasses is_obeyed (shown_text text)
unfolding shown_text
text_printed text = (map shown_char (chars text), refl, none_shown (chars text))

code_printed : (column : ℕ) (line : Remaining) → NoCharPasses is_obeyed (code_text column line)
unfolding code_text
code_printed column line =
    let cs = expanded line.pending (chars (utf8_lossy line.bytes)) in
    (spaces column ++ spaces line.pending ++ cs, refl, none_append (spaces column ++ spaces line.pending) cs (none_append (spaces column) (spaces line.pending) (none_spaces column) (none_spaces line.pending)) (none_expanded line.pending (chars (utf8_lossy line.bytes))))

-- ---- lines

first_printed : (line : LineContent) (lines : List LineContent) → ArePrinted (line ∷ lines) → IsPrintedLine line × ArePrinted lines
unfolding ArePrinted
first_printed line lines h = h

-- where no character of some lines and of others is obeyed, none is of all
pub append_printed : (xs ys : List LineContent) → ArePrinted xs → ArePrinted ys → ArePrinted (xs ++ ys)
append_printed [] ys h k = k
append_printed (x ∷ xs) ys h k = let parts = first_printed x xs h in cons_printed x (xs ++ ys) parts.0 (append_printed xs ys parts.1 k)

runs_printed : (row : LineContent) → IsPrintedLine row → AllByRecursion IsPrintedRun (row_runs row)
runs_printed (normal row) h = h
runs_printed (table_row cells) h = tt
runs_printed (table_rule rule) h = tt
runs_printed horizontal_rule h = tt

-- where no character of rows is obeyed, none is in other styles
pub restyled_printed : (first others : CompositeStyle) (rows : List LineContent) → ArePrinted rows → ArePrinted (restyled first others rows)
unfolding restyled
restyled_printed first others [] h = nothing_printed
restyled_printed first others (row ∷ rows) h = let parts = first_printed row rows h in cons_printed _ (restyled others others rows) (runs_printed row parts.0) (restyled_printed others others rows parts.1)

empty_printed : (styles : List CompositeStyle) → ArePrinted (map empty_line styles)
empty_printed [] = nothing_printed
empty_printed (style ∷ styles) = cons_printed (empty_line style) (map empty_line styles) tt (empty_printed styles)

if_line : (t : Bool) (a b : LineContent) → IsPrintedLine a → IsPrintedLine b → IsPrintedLine (if t then a else b)
if_line true a b h k = h
if_line false a b h k = k

-- no character of lines of code is obeyed
pub code_lines_printed : (column : ℕ) (lines : List Remaining) → ArePrinted (code_lines column lines)
unfolding code_lines
code_lines_printed column [] = nothing_printed
code_lines_printed column (line ∷ lines) = cons_printed (code_line column line) (map (code_line column) lines) (if_line ((line.pending == 0) && (length line.bytes == 0)) _ _ tt (code_printed column line, tt)) (code_lines_printed column lines)

cells_printed : (labels : List (List ℕ)) (bold : Bool) (columns : ℕ) (row : List ℕ) → AllByRecursion IsPrintedCell (cells labels bold columns row)
unfolding cells
cells_printed labels bold zero row = tt
cells_printed labels bold (suc columns) row = (cell_printed labels bold _, cells_printed labels bold columns (after_cell row))

rows_printed : (labels : List (List ℕ)) (columns : ℕ) (lines : List Remaining) → ArePrinted (map (row_said labels false columns) lines)
rows_printed labels columns [] = nothing_printed
rows_printed labels columns (line ∷ lines) = cons_printed (row_said labels false columns line) (map (row_said labels false columns) lines) (cells_printed labels false (shown_cells columns line.bytes) (row_of line.bytes)) (rows_printed labels columns lines)

body_printed : (labels : List (List ℕ)) (columns : ℕ) (rule : List Alignment) (lines : List Remaining) → ArePrinted (body labels columns rule lines)
body_printed labels columns rule [] = nothing_printed
body_printed labels columns rule (line ∷ lines) = cons_printed (table_rule rule) (map (row_said labels false columns) (line ∷ lines)) tt (rows_printed labels columns (line ∷ lines))

ruled_printed : (labels : List (List ℕ)) (columns : ℕ) (rule : List Alignment) (head : Remaining) (lines : List Remaining) → ArePrinted (ruled labels columns rule head lines)
ruled_printed labels columns rule head lines =
    cons_printed (table_rule rule) _ tt (cons_printed (row_said labels true columns head) _ (cells_printed labels true (shown_cells columns head.bytes) (row_of head.bytes))
    (append_printed (body labels columns rule lines) (table_rule rule ∷ []) (body_printed labels columns rule lines) (cons_printed (table_rule rule) [] tt nothing_printed)))

-- no character of a table's lines is obeyed
pub table_printed : (labels : List (List ℕ)) (columns : ℕ) (lines : List Remaining) → ArePrinted (table_lines labels columns lines)
unfolding table_lines
table_printed labels columns [] = nothing_printed
table_printed labels columns (head ∷ []) = nothing_printed
table_printed labels columns (head ∷ delimiters ∷ lines) = ruled_printed labels columns (alignments columns (row_of delimiters.bytes)) head lines

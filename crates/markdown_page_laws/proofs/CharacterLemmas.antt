-- Rows that keep lines show each of their characters once.
use Rattle.std.proofs.Common.{◌≡◌, ℕ, zero, suc, ◌≤◌, Bool, List, [], ◌∷◌, ◌++◌, map, length, chars, if◌then◌else◌, refl, ap, ap₂, sym, ◌∙◌, arith, append-nil}
use Rattle.std.specs.Char.{is_whitespace}
use Rattle.std.specs.List.{AllByRecursion, flat_map}
use Rattle.std.proofs.lemmas.List.Concat.{flat_map-append}
use Rattle.mad_md.specs.Flagged.{FlaggedChar, Run, flagged}
use Rattle.mad_md.specs.Lines.{StyledRuns, LineContent, normal, table_row, table_rule, horizontal_rule}
use Rattle.mad_wrap.specs.Keeps.{Keeps, AllWhite}
use Rattle.mad_blocks.specs.Tables.{least_room}
use Rattle.mad_format.specs.LineRules.{LineRules}
use Rattle.mad_format.specs.Lists.{EachBecomes}
use Rattle.mad_format.specs.Wraps.{text_of}
use Rattle.mad_format.specs.declared.composite.FmtComposite.{FmtComposite}
use Rattle.mad_format.specs.declared.line.FmtLine.{FmtLine}
use Rattle.mad_format.specs.declared.line.FmtLine.TheVariants.{Normal, TableRow}
use Rattle.mad_format.specs.declared.table.FmtTableRow.{FmtTableRow}
use Rattle.mad_format.proofs.ListLemmas.{become_by}
use Rattle.mad_blocks.proofs.LayoutJoins.{by_bool}
use Rattle.mad_sections.specs.TableTexts.{runs_text, cell_text}
use Rattle.mad_sections.specs.UnfoldLaws.{line_text, lines_text}
use Rattle.mad_layout.specs.FlaggedLines.{marked_parts}
use Rattle.mad_layout.specs.FlaggedRows.{whole}
use Rattle.markdown_page_laws.specs.KeptCharacters.{first_texts, other_columns, AreEmpty, KeepCells, cells_of_rows, IsLineKept}
use Rattle.markdown_page_laws.specs.KeptMarkdown.{solid, texts_in, text_at, solid_at, IsShownBy, solid_in}
use Rattle.markdown_page_laws.specs.TableSections.{IsNoRow, HaveNoRow}

-- ---- texts

solid_both : (xs ys : List FlaggedChar) → solid (xs ++ ys) ≡ solid xs ++ solid ys
solid_both [] ys = refl
solid_both (x ∷ xs) ys =
    let more = solid_both xs ys in
    by_bool (λ b. (if b then solid (xs ++ ys) else x ∷ solid (xs ++ ys)) ≡ (if b then solid xs else x ∷ solid xs) ++ solid ys) (is_whitespace x.char) (λ on. more) (λ off. ap (λ l. x ∷ l) more)

solid_white : (xs : List FlaggedChar) → AllWhite xs → solid xs ≡ []
solid_white [] h = refl
solid_white (x ∷ xs) h = ap (λ (b : Bool). if b then solid xs else x ∷ solid xs) h.0 ∙ solid_white xs h.1

-- lines that keep a text have its characters
solid_kept : (text : List FlaggedChar) (rows : List (List FlaggedChar)) → Keeps text rows → flat_map solid rows ≡ solid text
solid_kept text [] h = ap solid (sym h)
solid_kept text (row ∷ rows) (gap, rest, joins, white, more) =
    ap (λ (l : List FlaggedChar). solid row ++ l) (solid_kept rest rows more ∙ ap (λ (l : List FlaggedChar). l ++ solid rest) (sym (solid_white gap white)) ∙ sym (solid_both gap rest))
    ∙ sym (solid_both row (gap ++ rest)) ∙ ap solid (sym joins)

runs_whole : (runs : List Run) → whole (map (λ r. flagged r.flags (chars r.text)) runs) ≡ runs_text runs
runs_whole [] = refl
runs_whole (run ∷ runs) = ap (λ (l : List FlaggedChar). flagged run.flags (chars run.text) ++ l) (runs_whole runs)

solid_said : (said : StyledRuns) (rows : List (List FlaggedChar)) → Keeps (whole (marked_parts said)) rows → flat_map solid rows ≡ solid (cell_text said)
solid_said said rows keeps = solid_kept (whole (marked_parts said)) rows keeps ∙ ap solid (runs_whole said.runs)

solid_empty : (texts : List (List FlaggedChar)) → AreEmpty texts → flat_map solid texts ≡ []
solid_empty [] h = refl
solid_empty (text ∷ texts) h = ap (λ (t : List FlaggedChar). solid t ++ flat_map solid texts) h.0 ∙ solid_empty texts h.1

-- ---- composites

first_of_composites : (rows : List FmtComposite) → solid_at zero (map Normal rows) ≡ flat_map solid (map text_of rows)
first_of_composites [] = refl
first_of_composites (row ∷ rows) = ap (λ (l : List FlaggedChar). solid (text_of row) ++ l) (first_of_composites rows)

others_of_composites : (i : ℕ) (rows : List FmtComposite) → solid_at (suc i) (map Normal rows) ≡ []
others_of_composites i [] = refl
others_of_composites i (row ∷ rows) = others_of_composites i rows

-- ---- cells

first_of_cells : (rows : List (List FmtComposite)) → flat_map (λ (row : List FmtComposite). solid (text_at zero (map text_of row))) rows ≡ flat_map solid (first_texts rows)
first_of_cells [] = refl
first_of_cells ([] ∷ rows) = first_of_cells rows
first_of_cells ((x ∷ xs) ∷ rows) = ap (λ (l : List FlaggedChar). solid (text_of x) ++ l) (first_of_cells rows)

others_of_cells : (i : ℕ) (rows : List (List FmtComposite))
    → flat_map (λ (row : List FmtComposite). solid (text_at (suc i) (map text_of row))) rows ≡ flat_map (λ (row : List FmtComposite). solid (text_at i (map text_of row))) (other_columns rows)
others_of_cells i [] = refl
others_of_cells i ([] ∷ rows) = others_of_cells i rows
others_of_cells i ((x ∷ xs) ∷ rows) = ap (λ (l : List FlaggedChar). solid (text_at i (map text_of xs)) ++ l) (others_of_cells i rows)

no_cells : (i : ℕ) (rows : List (List FmtComposite)) → AllByRecursion (λ (row : List FmtComposite). row ≡ []) rows → flat_map (λ (row : List FmtComposite). solid (text_at i (map text_of row))) rows ≡ []
no_cells i [] h = refl
no_cells i (row ∷ rows) h =
    ap (λ (r : List FmtComposite). solid (text_at i (map text_of r)) ++ flat_map (λ (row : List FmtComposite). solid (text_at i (map text_of row))) rows) h.0 ∙ no_cells i rows h.1

cells_shown : (rules : LineRules) (ws : List ℕ) (cells : List StyledRuns) (rows : List (List FmtComposite)) → length cells ≤ length ws → KeepCells rules ws cells rows
    → (i : ℕ) → flat_map (λ (row : List FmtComposite). solid (text_at i (map text_of row))) rows ≡ solid (text_at i (map cell_text cells))
cells_shown rules [] [] rows few kept i = no_cells i rows kept
cells_shown rules [] (cell ∷ cells) rows few kept i = absurd (omega (arith, few))
cells_shown rules (w ∷ ws) [] rows few kept zero = first_of_cells rows ∙ solid_empty (first_texts rows) kept.0
cells_shown rules (w ∷ ws) [] rows few kept (suc i) = others_of_cells i rows ∙ cells_shown rules ws [] (other_columns rows) (omega arith) kept.1 i
cells_shown rules (w ∷ ws) (cell ∷ cells) rows few (own, below, joins, are, empty, more) zero =
    first_of_cells rows ∙ ap (flat_map solid) joins ∙ flat_map-append solid own below ∙ ap (λ (l : List FlaggedChar). flat_map solid own ++ l) (solid_empty below empty) ∙ append-nil (flat_map solid own)
    ∙ solid_said cell own are.keeps
cells_shown rules (w ∷ ws) (cell ∷ cells) rows few (own, below, joins, are, empty, more) (suc i) = others_of_cells i rows ∙ cells_shown rules ws cells (other_columns rows) (omega (arith, few)) more i

rows_shown : (i : ℕ) (rows : List FmtTableRow) → solid_at i (map TableRow rows) ≡ flat_map (λ (row : List FmtComposite). solid (text_at i (map text_of row))) (cells_of_rows rows)
rows_shown i [] = refl
rows_shown i (row ∷ rows) = ap (λ (l : List FlaggedChar). solid (text_at i (map text_of row.cells.items)) ++ l) (rows_shown i rows)

-- ---- lines

text_shown : (said : StyledRuns) (rows : List FmtComposite) → Keeps (whole (marked_parts said)) (map text_of rows) → (i : ℕ) → solid_at i (map Normal rows) ≡ solid (text_at i (cell_text said ∷ []))
text_shown said rows keeps zero = first_of_composites rows ∙ solid_said said (map text_of rows) keeps
text_shown said rows keeps (suc i) = others_of_composites i rows

-- a line that is no row of a table is shown
none_shown : (rules : LineRules) (room count : ℕ) (line : LineContent) (own : List FmtLine) → IsNoRow line → IsLineKept rules room count line own → IsShownBy line own
none_shown rules room count (normal said) own none (rows, same, are) i = ap (solid_at i) same ∙ text_shown said rows are.keeps i
none_shown rules room count (table_row cells) own none kept i = absurd none
none_shown rules room count (table_rule aligns) own none (rule, same) i = ap (solid_at i) same
none_shown rules room count horizontal_rule own none same i = ap (solid_at i) same

-- where the columns of a table have room, each line is shown
line_shown : (rules : LineRules) (room count : ℕ) → least_room rules.cell_blanks count ≤ room → (line : LineContent) (own : List FmtLine) → IsLineKept rules room count line own → IsShownBy line own
line_shown rules room count wide (normal said) own kept = none_shown rules room count (normal said) own tt kept
line_shown rules room count wide (table_row cells) own (rows, same, kept) = λ i. ap (solid_at i) same ∙ rows_shown i rows ∙ cells_shown rules kept.widths cells (cells_of_rows rows) (kept.all wide) kept.cells_kept i
line_shown rules room count wide (table_rule aligns) own kept = none_shown rules room count (table_rule aligns) own tt kept
line_shown rules room count wide horizontal_rule own kept = none_shown rules room count horizontal_rule own tt kept

-- lines without a row of a table are shown
pub nones_shown : (rules : LineRules) (room count : ℕ) (lines : List LineContent) (own : List FmtLine) → HaveNoRow lines → EachBecomes (IsLineKept rules room count) lines own → EachBecomes IsShownBy lines own
nones_shown rules room count [] own none kept = kept
nones_shown rules room count (line ∷ lines) own none (here, there, joins, one, more) = (here, there, joins, none_shown rules room count line here none.0 one, nones_shown rules room count lines there none.1 more)

-- so are those of a table whose columns have room
pub lines_shown : (rules : LineRules) (room count : ℕ) (lines : List LineContent) (own : List FmtLine) → least_room rules.cell_blanks count ≤ room → EachBecomes (IsLineKept rules room count) lines own → EachBecomes IsShownBy lines own
lines_shown rules room count lines own wide kept = become_by (IsLineKept rules room count) IsShownBy (line_shown rules room count wide) lines own kept

-- ---- texts of lines

-- a line is a composite
abbrev pub IsText : LineContent → Type 0
IsText (normal said) = Unit {0}
IsText _ = ⊥

-- all lines are composites
abbrev pub AreTexts : List LineContent → Type 0
AreTexts lines = AllByRecursion IsText lines

no_row : (line : LineContent) → IsText line → IsNoRow line
no_row (normal said) h = tt
no_row (table_row cells) h = absurd h
no_row (table_rule aligns) h = tt
no_row horizontal_rule h = tt

-- composites are no rows of a table
pub texts_have_no_row : (lines : List LineContent) → AreTexts lines → HaveNoRow lines
texts_have_no_row [] h = tt
texts_have_no_row (line ∷ lines) h = (no_row line h.0, texts_have_no_row lines h.1)

composites_solid : (rows : List FmtComposite) → solid_in (map Normal rows) ≡ flat_map solid (map text_of rows)
composites_solid [] = refl
composites_solid (row ∷ rows) = ap₂ (λ (l m : List FlaggedChar). l ++ m) (append-nil (solid (text_of row))) (composites_solid rows)

one_solid : (rules : LineRules) (room count : ℕ) (line : LineContent) (own : List FmtLine) → IsText line → IsLineKept rules room count line own → solid_in own ≡ solid (line_text line)
one_solid rules room count (normal said) own text (rows, same, are) = ap solid_in same ∙ composites_solid rows ∙ solid_said said (map text_of rows) are.keeps
one_solid rules room count _ own text kept = absurd text

-- the rows of composites show their text
pub texts_solid : (rules : LineRules) (room count : ℕ) (lines : List LineContent) (own : List FmtLine) → AreTexts lines → EachBecomes (IsLineKept rules room count) lines own → solid_in own ≡ solid (lines_text lines)
texts_solid rules room count [] own texts kept = ap solid_in kept
texts_solid rules room count (line ∷ lines) own texts (here, there, joins, one, more) =
    ap solid_in joins ∙ flat_map-append (λ (row : FmtLine). flat_map solid (texts_in row)) here there
    ∙ ap₂ (λ (l m : List FlaggedChar). l ++ m) (one_solid rules room count line here texts.0 one) (texts_solid rules room count lines there texts.1 more)
    ∙ sym (solid_both (line_text line) (lines_text lines))

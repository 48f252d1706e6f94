-- The lines of a table that was written are told as a table.
use Rattle.std.proofs.Common.{◌≡◌, ℕ, Bool, true, false, not, ◌&&◌, ◌==◌, List, [], ◌∷◌, ◌++◌, length, map, flat_map, refl, sym, ap, ◌∙◌, append_assoc, append-nil, arith}
use Rattle.std.proofs.lemmas.Bool.Decides.{nat_tests}
use Rattle.mad_md.specs.declared.alignment.Alignment.{Alignment}
use Rattle.markdown_marks.specs.Bytes.{count_in_front, is_blank, is_run_alone}
use Rattle.markdown_marks.specs.Marks.{fence_start, heading_level, is_rule, underline_level}
use Rattle.markdown_marks.specs.Remaining.{Remaining, columns_in_front, one_column, take_columns, whole}
use Rattle.markdown_marks.specs.Tables.{cell_count, delimited_columns}
use Rattle.markdown_html.specs.Starts.{html_start}
use Rattle.markdown_blocks.specs.Containers.{container_start, ends_in_item, matched, opened}
use Rattle.markdown_blocks.specs.Events.{events_from}
use Rattle.markdown_blocks.specs.Leaves.{going_on, leaf_start, mark_start}
use Rattle.markdown_blocks.specs.Steps.{begun_line, line_step, step}
use Rattle.markdown_blocks.specs.declared.leaves.Deed.TheVariants.{Begins, Blank, GoesOn, Tabulates}
use Rattle.markdown_blocks.specs.declared.leaves.Leaf.TheVariants.{Nothing as NothingLeaf, Paragraph as ParagraphLeaf, Table as TableLeaf}
use Rattle.markdown_leaves.specs.Defining.{kept_lines}
use Rattle.markdown_leaves.specs.Gather.{Gathering, closed, line_done}
use Rattle.markdown_leaves.specs.Parts.{PartContent, block}
use Rattle.markdown_leaves.specs.Told.{told}
use Rattle.markdown_leaves.specs.declared.parts.Kind.TheVariants.{Table}
use Rattle.markdown_laws.proofs.LineLemmas.{state_with}
use Rattle.markdown_part_laws.proofs.ParagraphLemmas.{after_line, inside_of, outside_of, words_after_outside}
use Rattle.markdown_part_laws.proofs.TextLemmas.{done_at}
use Rattle.markdown_writing.specs.Phrases.{Phrase}
use Rattle.markdown_writing.specs.Tables.{cell_text, delimiter, delimiters, row_text, table_lines}
use Rattle.markdown_writing.proofs.ParagraphLemmas.{Behind, blank_told, ends_told, finished, last, line_went, more, told_of}
use Rattle.markdown_writing.proofs.TableLemmas.{delimiters_counted, row_counted}

-- ---- the steps

-- a row begins a paragraph where nothing is open
head_step : (bs : List ℕ) → step (state_with NothingLeaf 0) (124 ∷ bs) ≡ done_at ParagraphLeaf (cell_count (124 ∷ bs)) (Begins ParagraphLeaf) (whole (124 ∷ bs))
unfolding step line_step begun_line matched opened going_on ends_in_item container_start leaf_start mark_start columns_in_front take_columns one_column is_blank is_rule heading_level count_in_front fence_start html_start
head_step bs = refl

-- below it a row of as many delimiters makes a table of it
delimiters_step : (cells : ℕ) (bs : List ℕ) → (cells == 0) ≡ false → (delimited_columns (124 ∷ bs) == cells) ≡ true
    → step (state_with ParagraphLeaf cells) (124 ∷ bs) ≡ done_at TableLeaf 0 (Tabulates cells) (whole (124 ∷ bs))
unfolding step line_step begun_line matched opened going_on ends_in_item container_start leaf_start mark_start columns_in_front take_columns one_column is_blank is_rule underline_level is_run_alone heading_level count_in_front fence_start html_start
delimiters_step cells bs some e = rw some (rw e refl)

-- there a row goes on
row_step : (bs : List ℕ) → step (state_with TableLeaf 0) (124 ∷ bs) ≡ done_at TableLeaf 0 GoesOn (whole (124 ∷ bs))
unfolding step line_step begun_line matched opened going_on ends_in_item container_start leaf_start mark_start columns_in_front take_columns one_column is_blank is_rule heading_level count_in_front fence_start html_start
row_step bs = refl

-- and an empty line ends it
end_step : step (state_with TableLeaf 0) [] ≡ done_at NothingLeaf 0 Blank (whole [])
unfolding step line_step begun_line matched opened going_on ends_in_item container_start leaf_start columns_in_front take_columns one_column is_blank is_rule
end_step = refl

-- ---- what is told

-- in a table with these lines
abbrev within_table : List PartContent → (apart : Bool) → ℕ → List Remaining → Gathering
within_table parts apart columns lines = record { parts = parts; kind = Table columns; apart = apart; lines = lines; passed = false; fresh = false; around = [] }

-- a table with these lines
abbrev pub table_part : Bool → ℕ → List Remaining → PartContent
table_part apart columns lines = block (record { kind = Table columns; apart = apart; lines = lines })

begun_table : (parts : List PartContent) (apart : Bool) (columns : ℕ) (head text : Remaining) → after_line (Tabulates columns) text (inside_of parts apart (head ∷ [])) ≡ within_table parts apart columns (head ∷ text ∷ [])
unfolding line_done kept_lines
begun_table parts true columns head text = refl
begun_table parts false columns head text = refl

more_rows : (parts : List PartContent) (apart : Bool) (columns : ℕ) (lines : List Remaining) (text : Remaining) → after_line GoesOn text (within_table parts apart columns lines) ≡ within_table parts apart columns (lines ++ text ∷ [])
unfolding line_done
more_rows parts apart columns lines text = refl

closed_table : (parts : List PartContent) (apart : Bool) (columns : ℕ) (lines : List Remaining) → closed (within_table parts apart columns lines) ≡ outside_of (parts ++ table_part apart columns lines ∷ []) apart false
unfolding closed
closed_table parts apart columns lines = refl

blank_table : (parts : List PartContent) (apart : Bool) (columns : ℕ) (lines : List Remaining) (text : Remaining) → after_line Blank text (within_table parts apart columns lines) ≡ outside_of (parts ++ table_part apart columns lines ∷ []) apart true
unfolding line_done closed
blank_table parts apart columns lines text = refl

-- nothing comes behind a table, or an empty line
table_ends : (parts : List PartContent) (apart : Bool) (columns : ℕ) (before : List Remaining) (lines : List (List ℕ)) → Behind lines
    → finished (within_table parts apart columns before) (events_from (state_with TableLeaf 0) lines) ≡ told_of (outside_of (parts ++ table_part apart columns before ∷ []) apart false) lines
unfolding events_from told
table_ends parts apart columns before lines last = closed_table parts apart columns before ∙ sym (ends_told (parts ++ table_part apart columns before ∷ []) apart false)
table_ends parts apart columns before lines (more others) =
    let after = parts ++ table_part apart columns before ∷ [] in
    line_went (within_table parts apart columns before) TableLeaf NothingLeaf 0 0 Blank (whole []) [] others end_step
    ∙ ap (λ (g : Gathering). told_of g others) (blank_table parts apart columns before (whole []))
    ∙ sym (blank_told after apart false others)

-- the rows behind those before them
rows_told : (parts : List PartContent) (apart : Bool) (columns : ℕ) (before : List Remaining) (rows : List (List (List Phrase))) (lines : List (List ℕ)) → Behind lines
    → finished (within_table parts apart columns before) (events_from (state_with TableLeaf 0) (map row_text rows ++ lines)) ≡ told_of (outside_of (parts ++ table_part apart columns (before ++ map whole (map row_text rows)) ∷ []) apart false) lines
rows_told parts apart columns before [] lines behind =
    table_ends parts apart columns before lines behind ∙ ap (λ (ls : List Remaining). told_of (outside_of (parts ++ table_part apart columns ls ∷ []) apart false) lines) (sym (append-nil before))
rows_told parts apart columns before (row ∷ rows) lines behind =
    let line = row_text row in
    line_went (within_table parts apart columns before) TableLeaf TableLeaf 0 0 GoesOn (whole line) line (map row_text rows ++ lines) (row_step (flat_map cell_text row))
    ∙ ap (λ (g : Gathering). finished g (events_from (state_with TableLeaf 0) (map row_text rows ++ lines))) (more_rows parts apart columns before (whole line))
    ∙ rows_told parts apart columns (before ++ whole line ∷ []) rows lines behind
    ∙ ap (λ (ls : List Remaining). told_of (outside_of (parts ++ table_part apart columns ls ∷ []) apart false) lines) (append_assoc before (whole line ∷ []) (map whole (map row_text rows)))

same_number : (n m : ℕ) → n ≡ m → (n == m) ≡ true
same_number n m e = grind (arith, nat_tests, e)

-- a table is told as its lines
pub table_told : (rule : List Alignment) (head : List (List Phrase)) (rows : List (List (List Phrase))) → (length rule == 0) ≡ false → length head ≡ length rule
    → (parts : List PartContent) (apart passed : Bool) (lines : List (List ℕ)) → Behind lines
    → told_of (outside_of parts apart passed) (table_lines rule head rows ++ lines) ≡ told_of (outside_of (parts ++ table_part passed (length rule) (map whole (table_lines rule head rows)) ∷ []) passed false) lines
table_told rule head rows some same parts apart passed lines behind =
    let columns = length rule in
    let line = row_text head in
    let below = delimiters rule in
    let others = map row_text rows ++ lines in
    let counted : cell_count line ≡ columns = row_counted head (ap (λ (n : ℕ). n == 0) same ∙ some) ∙ same in
    line_went (outside_of parts apart passed) NothingLeaf ParagraphLeaf 0 (cell_count line) (Begins ParagraphLeaf) (whole line) line (below ∷ others) (head_step (flat_map cell_text head))
    ∙ ap (λ (g : Gathering). finished g (events_from (state_with ParagraphLeaf (cell_count line)) (below ∷ others))) (words_after_outside parts apart passed (whole line))
    ∙ ap (λ (n : ℕ). finished (inside_of parts passed (whole line ∷ [])) (events_from (state_with ParagraphLeaf n) (below ∷ others))) counted
    ∙ line_went (inside_of parts passed (whole line ∷ [])) ParagraphLeaf TableLeaf columns 0 (Tabulates columns) (whole below) below others (delimiters_step columns (flat_map delimiter rule) some (same_number (delimited_columns below) columns (delimiters_counted rule some)))
    ∙ ap (λ (g : Gathering). finished g (events_from (state_with TableLeaf 0) others)) (begun_table parts passed columns (whole line) (whole below))
    ∙ rows_told parts passed columns (whole line ∷ whole below ∷ []) rows lines behind

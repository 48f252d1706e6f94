-- What stands beside headings, at words and in front of pictures leaves sections as their types promise.
use Rattle.std.proofs.Common.{ℕ, ◌<◌, Bool, true, false, not, ◌&&◌, List, [], ◌∷◌, ◌++◌, map, Option, Some, None, sym, subst, arith, if◌then◌else◌}
use Rattle.std.specs.Prelude.{IfSome, codes, encode_utf8, nat_lt}
use Rattle.std.specs.List.{AllByRecursion}
use Rattle.std.specs.Str.{IsUtf8}
use Rattle.std.proofs.lemmas.Str.{IsUtf8-append, IsUtf8-encode, IsUtf8-from_ascii}
use Rattle.std.proofs.lemmas.Str.Ascii.{IsAscii-cons, IsAscii-nil}
use Rattle.mad_draw.specs.Pieces.{IsColumnChar}
use Rattle.mad_dressing.specs.Dressed.{Beside, beside_at, dressed, dressed_page, filled_by, heading_level, nothing, placed_by, put_with, rule_below, signs_before}
use Rattle.mad_dressing.specs.PictureSigns.{have_pictures, pictured, pictured_line, pictured_runs, pictured_text, sign_for, sign_if, sign_text}
use Rattle.mad_dressing.specs.WordMarks.{begin_code, beginnings, begins_strong, end_flags, endings, first_flags, is_rule, mark_if, marked_flags, marked_line, marked_lines, marked_runs, marked_text, start_flags, worded, worded_if}
use Rattle.mad_dressing.specs.declared.heading_marks.HeadingMarks.{HeadingMarks}
use Rattle.mad_dressing.specs.declared.page_marks.PageMarks.{PageMarks}
use Rattle.mad_md.specs.Flagged.{Flags, Run, unflagged}
use Rattle.mad_md.specs.Lines.{LineContent, StyledRuns, horizontal_rule, normal, table_row, table_rule}
use Rattle.mad_md.specs.TypedLines.{IsTypedLine, IsTypedRun, IsTypedStyle, IsTypedText}
use Rattle.mad_md.specs.declared.composite.CompositeStyle.{CompositeStyle}
use Rattle.mad_md.specs.declared.composite.CompositeStyle.TheVariants.{Code, Header, ListItem, ListItemFollowUp, OrderedListItem, Paragraph, Quote}
use Rattle.mad_measure.proofs.AllLemmas.{all_joined}
use Rattle.mad_page_rows.specs.FaceLaws.{IsTypedGutter}
use Rattle.mad_sections.specs.Sections.{SectionContent}
use Rattle.mad_sections.specs.declared.gutters.Gutter.{Gutter}
use Rattle.mad_sections.specs.declared.gutters.Gutter.TheVariants.{Below, Signs}
use Rattle.markdown_layout.specs.KeptPremises.{IsTypedSection}
use Rattle.markdown_reader.specs.PlainLines.{IsPlainStyle}
use Rattle.markdown_live_laws.proofs.LineLemmas.{AreOwnLines, AreTexts, IsOwnCell, IsOwnLine}
use Rattle.markdown_live_laws.proofs.SectionLemmas.{AreSoundSections, IsSoundSection, clear_utf8}

-- ---- lines as their types promise

style_typed : (style : CompositeStyle) → IsPlainStyle style → IsTypedStyle style
style_typed Paragraph h = tt
style_typed (Header level) h = tt
style_typed Code h = tt
style_typed (ListItem level) h = tt
style_typed (ListItemFollowUp level) h = tt
style_typed Quote h = tt
style_typed (OrderedListItem level index) h = absurd h

abbrev AreUtf8 : List Run → Type 0
AreUtf8 runs = AllByRecursion IsTypedRun runs

runs_utf8 : (runs : List Run) → AreTexts runs → AreUtf8 runs
runs_utf8 [] h = tt
runs_utf8 (run ∷ runs) h = (clear_utf8 run.text h.0, runs_utf8 runs h.1)

cells_typed : (cells : List StyledRuns) → AllByRecursion IsOwnCell cells → AllByRecursion IsTypedText cells
cells_typed [] h = tt
cells_typed (cell ∷ cells) h = (record { style = subst IsTypedStyle (sym h.0.style) tt; runs = runs_utf8 cell.runs h.0.runs }, cells_typed cells h.1)

line_typed : (line : LineContent) → IsOwnLine line → IsTypedLine line
line_typed (normal text) h = record { style = style_typed text.style h.style; runs = runs_utf8 text.runs h.runs }
line_typed (table_row cells) h = cells_typed cells h
line_typed (table_rule aligns) h = tt
line_typed horizontal_rule h = tt

abbrev AreTyped : List LineContent → Type 0
AreTyped lines = AllByRecursion IsTypedLine lines

lines_typed : (lines : List LineContent) → AreOwnLines lines → AreTyped lines
lines_typed [] h = tt
lines_typed (line ∷ lines) h = (line_typed line h.0, lines_typed lines h.1)

-- ---- marks at words

there_typed : (there : Bool) (c : ℕ) → c < 128 → AreUtf8 (mark_if there (c ∷ []))
there_typed true c low = (IsUtf8-from_ascii (c ∷ []) (IsAscii-cons c [] low IsAscii-nil), tt)
there_typed false c low = tt

beginnings_typed : (before own : Flags) → AreUtf8 (beginnings before own)
beginnings_typed before own =
    let link : Bool = own.link && not before.link in
    let italic : Bool = own.italic && not before.italic in
    let bold : Bool = own.bold && not before.bold in
    let strikeout : Bool = own.strikeout && not before.strikeout in
    let code : Bool = own.code && not before.code in
    all_joined IsTypedRun (mark_if link (codes "[")) _ (there_typed link 91 (omega arith))
    (all_joined IsTypedRun (mark_if italic (codes "_")) _ (there_typed italic 95 (omega arith))
    (all_joined IsTypedRun (mark_if bold (codes "*")) _ (there_typed bold 42 (omega arith))
    (all_joined IsTypedRun (mark_if strikeout (codes "~")) (mark_if code (codes "`")) (there_typed strikeout 126 (omega arith)) (there_typed code 96 (omega arith)))))

endings_typed : (own after : Flags) → AreUtf8 (endings own after)
endings_typed own after =
    let link : Bool = own.link && not after.link in
    let italic : Bool = own.italic && not after.italic in
    let bold : Bool = own.bold && not after.bold in
    let strikeout : Bool = own.strikeout && not after.strikeout in
    let code : Bool = own.code && not after.code in
    all_joined IsTypedRun (mark_if code (codes "`")) _ (there_typed code 96 (omega arith))
    (all_joined IsTypedRun (mark_if strikeout (codes "~")) _ (there_typed strikeout 126 (omega arith))
    (all_joined IsTypedRun (mark_if bold (codes "*")) _ (there_typed bold 42 (omega arith))
    (all_joined IsTypedRun (mark_if italic (codes "_")) (mark_if link (codes "]")) (there_typed italic 95 (omega arith)) (there_typed link 93 (omega arith)))))

marked_typed : (strong : Bool) (before after : Flags) (runs : List Run) → AreUtf8 runs → AreUtf8 (marked_runs strong before after runs)
marked_typed strong before after [] h = tt
marked_typed strong before after (run ∷ runs) h =
    let flags : Flags = marked_flags strong run in
    let back : List Run = endings flags (first_flags strong after runs) in
    let more : List Run = marked_runs strong flags after runs in
    all_joined IsTypedRun (beginnings before flags) (run ∷ (back ++ more)) (beginnings_typed before flags)
    (h.0, all_joined IsTypedRun back more (endings_typed flags (first_flags strong after runs)) (marked_typed strong flags after runs h.1))

marked_cells : (strong : Bool) (cells : List StyledRuns) → AllByRecursion IsTypedText cells → AllByRecursion IsTypedText (map (marked_text strong unflagged unflagged) cells)
marked_cells strong [] h = tt
marked_cells strong (cell ∷ cells) h = (record { style = h.0.style; runs = marked_typed strong unflagged unflagged cell.runs h.0.runs }, marked_cells strong cells h.1)

marked_one : (strong : Bool) (before : Flags) (next : List LineContent) (line : LineContent) → IsTypedLine line → IsTypedLine (marked_line strong before next line)
marked_one strong before next (normal said) h = record { style = h.style; runs = marked_typed strong before (start_flags next) said.runs h.runs }
marked_one strong before next (table_row cells) h = marked_cells strong cells h
marked_one strong before next (table_rule aligns) h = tt
marked_one strong before next horizontal_rule h = tt

marked_all : (strong : Bool) (before : Flags) (lines : List LineContent) → AreTyped lines → AreTyped (marked_lines strong before lines)
marked_all strong before [] h = tt
marked_all strong before (line ∷ lines) h = (marked_one strong before lines line h.0, marked_all (strong && is_rule line) (end_flags strong line) lines h.1)

-- ---- signs in front of pictures

if_signed : (there : Bool) (sign : List ℕ) → IsUtf8 sign → AreUtf8 (sign_if there sign)
if_signed true sign k = (k, tt)
if_signed false sign k = tt

pictured_typed : (sign : List ℕ) (runs : List Run) → IsUtf8 sign → AreUtf8 runs → AreUtf8 (pictured_runs sign runs)
pictured_typed sign [] k h = tt
pictured_typed sign (run ∷ runs) k h = all_joined IsTypedRun (sign_if run.flags.picture sign) (run ∷ pictured_runs sign runs) (if_signed run.flags.picture sign k) (h.0, pictured_typed sign runs k h.1)

pictured_cells : (sign : List ℕ) (cells : List StyledRuns) → IsUtf8 sign → AllByRecursion IsTypedText cells → AllByRecursion IsTypedText (map (pictured_text sign) cells)
pictured_cells sign [] k h = tt
pictured_cells sign (cell ∷ cells) k h = (record { style = h.0.style; runs = pictured_typed sign cell.runs k h.0.runs }, pictured_cells sign cells k h.1)

pictured_one : (sign : List ℕ) (line : LineContent) → IsUtf8 sign → IsTypedLine line → IsTypedLine (pictured_line sign line)
pictured_one sign (normal said) k h = record { style = h.style; runs = pictured_typed sign said.runs k h.runs }
pictured_one sign (table_row cells) k h = pictured_cells sign cells k h
pictured_one sign (table_rule aligns) k h = tt
pictured_one sign horizontal_rule k h = tt

pictured_all : (sign : List ℕ) (lines : List LineContent) → IsUtf8 sign → AreTyped lines → AreTyped (map (pictured_line sign) lines)
pictured_all sign [] k h = tt
pictured_all sign (line ∷ lines) k h = (pictured_one sign line k h.0, pictured_all sign lines k h.1)

sign_by : (code have : Bool) (sign : ℕ) → IsColumnChar sign → IfSome (if code then None else if have then Some (sign_text sign) else None) IsUtf8
sign_by true have sign column = tt
sign_by false true sign column = IsUtf8-append (encode_utf8 sign) (32 ∷ []) (IsUtf8-encode sign column.scalar) (IsUtf8-from_ascii (32 ∷ []) (IsAscii-cons 32 [] (omega arith) IsAscii-nil))
sign_by false false sign column = tt

-- ---- what stands beside headings

abbrev AreTypedBeside : Beside → Type 0
AreTypedBeside nothing = Unit {0}
AreTypedBeside (rule_below gutters) = AllByRecursion IsTypedGutter gutters
AreTypedBeside (signs_before gutters) = AllByRecursion IsTypedGutter gutters

if_beside : (t : Bool) (a b : Beside) → AreTypedBeside a → AreTypedBeside b → AreTypedBeside (if t then a else b)
if_beside true a b h k = h
if_beside false a b h k = k

beside_typed : (marks : HeadingMarks) (gutters : List Gutter) (level : Option ℕ) → AllByRecursion IsTypedGutter gutters → AreTypedBeside (beside_at marks gutters level)
beside_typed marks gutters None h = tt
beside_typed marks gutters (Some level) h =
    if_beside (nat_lt level marks.rules) (rule_below (gutters ++ Below level ∷ [])) (if marks.signs then signs_before (gutters ++ Signs level ∷ []) else nothing) (all_joined IsTypedGutter gutters (Below level ∷ []) h (tt, tt))
    (if_beside marks.signs (signs_before (gutters ++ Signs level ∷ [])) nothing (all_joined IsTypedGutter gutters (Signs level ∷ []) h (tt, tt)) tt)

placed_typed : (beside : Beside) (s : SectionContent) → AreTypedBeside beside → IsTypedSection s → AllByRecursion IsTypedSection (placed_by beside s)
placed_typed nothing s k h = (h, tt)
placed_typed (rule_below gutters) s k h = (h, (record { gutters = k; list = tt; lines = (tt, tt) }, tt))
placed_typed (signs_before gutters) s k h = (record { gutters = k; list = h.list; lines = h.lines }, tt)

pictured_section : (sign : Option (List ℕ)) (s : SectionContent) → IfSome sign IsUtf8 → IsTypedSection s → IsTypedSection (pictured sign s)
pictured_section None s k h = h
pictured_section (Some sign) s k h = record { gutters = h.gutters; list = h.list; lines = pictured_all sign s.lines k h.lines }

worded_section : (there : Bool) (s : SectionContent) → IsTypedSection s → IsTypedSection (worded_if there s)
worded_section true s h = record { gutters = h.gutters; list = h.list; lines = marked_all (begins_strong s) unflagged s.lines h.lines }
worded_section false s h = h

section_typed : (marks : PageMarks) (s : SectionContent) → IsColumnChar marks.sign → IsSoundSection s → AllByRecursion IsTypedSection (dressed marks s)
section_typed marks s column h =
    let own : IsTypedSection s = record { gutters = h.gutters; list = h.list; lines = lines_typed s.lines h.lines } in
    let words : Bool = marks.headings.words in
    placed_typed (beside_at marks.headings s.gutters (heading_level s.lines)) (filled_by (put_with marks s) s) (beside_typed marks.headings s.gutters (heading_level s.lines) h.gutters)
    (pictured_section (sign_for marks.sign s.lines) (worded words s) (sign_by (begin_code s.lines) (have_pictures s.lines) marks.sign column) (worded_section (words && not (begin_code s.lines)) s own))

-- dressed sections are as their types promise
pub dressed_typed : (marks : PageMarks) (page : List SectionContent) → IsColumnChar marks.sign → AreSoundSections page → AllByRecursion IsTypedSection (dressed_page marks page)
dressed_typed marks [] column h = tt
dressed_typed marks (s ∷ page) column h = all_joined IsTypedSection (dressed marks s) (dressed_page marks page) (section_typed marks s column h.0) (dressed_typed marks page column h.1)

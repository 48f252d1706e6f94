-- The rows of Markdown, with the rules and signs of its headings, with marks at its words and signs in front of its pictures, show its sections.
use Rattle.std.proofs.Common.{◌≡◌, inl, inr, ℕ, nat_lt, ◌==◌, Bool, true, false, not, ◌&&◌, List, [], ◌∷◌, ◌++◌, map, length, Option, Some, None, if◌then◌else◌, refl, ap, sym, ◌∙◌, subst, append-nil, append_assoc, ⊎_elim}
use Rattle.std.specs.List.{AllByRecursion}
use Rattle.std.proofs.lemmas.List.{map-append}
use Rattle.std.proofs.lemmas.List.Concat.{flat_map-append}
use Rattle.mad_md.specs.Flagged.{Flags, unflagged}
use Rattle.mad_md.specs.Lines.{LineContent, normal, table_row, table_rule, horizontal_rule}
use Rattle.mad_format.specs.LineRules.{LineRules}
use Rattle.mad_format.specs.Lists.{EachBecomes}
use Rattle.mad_format.specs.declared.line.FmtLine.{FmtLine}
use Rattle.mad_format.specs.declared.line.FmtLine.TheVariants.{HorizontalRule}
use Rattle.mad_sections.specs.Gutters.{room_at}
use Rattle.mad_sections.specs.Sections.{SectionContent}
use Rattle.mad_sections.specs.TableTexts.{are_table, has_room, rows_in}
use Rattle.mad_sections.specs.declared.table_rooms.TableRules.{TableRules}
use Rattle.mad_blocks.specs.Tables.{table_rules}
use Rattle.mad_sections.specs.Unfolded.{unfolded_in, unfolded}
use Rattle.mad_sections.specs.declared.gutters.Gutter.{Gutter}
use Rattle.mad_sections.specs.declared.gutters.Gutter.TheVariants.{Below, Signs}
use Rattle.mad_sections.proofs.Choices.{by_bool}
use Rattle.mad_sections.proofs.KeptLemmas.{stays_when}
use Rattle.mad_dressing.specs.DressLaws.{IsRuled, IsSigned}
use Rattle.mad_dressing.specs.Dressed.{Beside, nothing, rule_below, signs_before, beside_at, dressed, dressed_page, filled, heading_level, placed_by, rule_behind, signed}
use Rattle.mad_dressing.specs.PictureSigns.{have_pictures, pictured, pictured_line, sign_for}
use Rattle.mad_dressing.specs.WordMarks.{begin_code, begins_strong, end_flags, marked_lines, worded, worded_if}
use Rattle.mad_dressing.specs.declared.heading_marks.HeadingMarks.{HeadingMarks}
use Rattle.mad_dressing.specs.declared.page_marks.PageMarks.{PageMarks}
use Rattle.mad_dressing.proofs.DressLemmas.{adds_marks_alone}
use Rattle.mad_dressing.proofs.SignLemmas.{filled_lines, unsigned}
use Rattle.mad_pages.specs.PageRows.{RowContent}
use Rattle.markdown_reader.specs.Markdown.{markdown_sections}
use Rattle.markdown_page_laws.specs.KeptMarkdown.{solid, texts_in, text_at, solid_at, IsShownBy, ShowSection, rule_at, ShowDressed, MarkdownIsKept}
use Rattle.markdown_page_laws.specs.KeptPages.{lines_of_rows, KeepsSection, KeepsShown}
use Rattle.markdown_page_laws.specs.TableSections.{HaveNoRow, IsTableOrNone}
use Rattle.markdown_page_laws.proofs.BecomeLemmas.{one_becomes, lists_become}
use Rattle.markdown_page_laws.proofs.PageLemmas.{pages_keep}
use Rattle.markdown_page_laws.proofs.ShownPageLemmas.{lines_of, section_shows}
use Rattle.markdown_page_laws.proofs.TableSectionLemmas.{tables_may_be_lists}

-- ---- marks at words

marked_level : (strong : Bool) (before : Flags) (lines : List LineContent) → heading_level (marked_lines strong before lines) ≡ heading_level lines
marked_level strong before [] = refl
marked_level strong before (normal said ∷ lines) = refl
marked_level strong before (table_row cells ∷ lines) = refl
marked_level strong before (table_rule aligns ∷ lines) = refl
marked_level strong before (horizontal_rule ∷ lines) = refl

level_by : (there : Bool) (s : SectionContent) → heading_level (worded_if there s).lines ≡ heading_level s.lines
level_by true s = marked_level (begins_strong s) unflagged s.lines
level_by false s = refl

-- a heading is one of the same level with marks
worded_level : (words : Bool) (s : SectionContent) → heading_level (worded words s).lines ≡ heading_level s.lines
worded_level words s = level_by (words && not (begin_code s.lines)) s

marked_table : (strong : Bool) (before : Flags) (lines : List LineContent) → are_table (marked_lines strong before lines) ≡ are_table lines
marked_table strong before [] = refl
marked_table strong before (normal said ∷ lines) = refl
marked_table strong before (table_row cells ∷ lines) = marked_table (strong && false) unflagged lines
marked_table strong before (table_rule aligns ∷ lines) = marked_table (strong && true) unflagged lines
marked_table strong before (horizontal_rule ∷ lines) = refl

marked_none : (strong : Bool) (before : Flags) (lines : List LineContent) → HaveNoRow lines → HaveNoRow (marked_lines strong before lines)
marked_none strong before [] h = tt
marked_none strong before (normal said ∷ lines) h = (tt, marked_none (strong && false) (end_flags strong (normal said)) lines h.1)
marked_none strong before (table_row cells ∷ lines) h = absurd h.0
marked_none strong before (table_rule aligns ∷ lines) h = (tt, marked_none (strong && true) unflagged lines h.1)
marked_none strong before (horizontal_rule ∷ lines) h = (tt, marked_none (strong && false) unflagged lines h.1)

table_by : (there : Bool) (s : SectionContent) → IsTableOrNone s → IsTableOrNone (worded_if there s)
table_by true s (inl none) = inl (marked_none (begins_strong s) unflagged s.lines none)
table_by true s (inr (table, list)) = inr (marked_table (begins_strong s) unflagged s.lines ∙ table, list)
table_by false s h = h

-- a table is one with marks, and what has no row of one has none with them
worded_table : (words : Bool) (s : SectionContent) → IsTableOrNone s → IsTableOrNone (worded words s)
worded_table words s h = table_by (words && not (begin_code s.lines)) s h

-- ---- signs in front of pictures

pictured_level : (sign : Option (List ℕ)) (s : SectionContent) → heading_level (pictured sign s).lines ≡ heading_level s.lines
pictured_level None s = refl
pictured_level (Some sign) s = level_of_lines s.lines
  where
    level_of_lines : (lines : List LineContent) → heading_level (map (pictured_line sign) lines) ≡ heading_level lines
    level_of_lines [] = refl
    level_of_lines (normal said ∷ lines) = refl
    level_of_lines (table_row cells ∷ lines) = refl
    level_of_lines (table_rule aligns ∷ lines) = refl
    level_of_lines (horizontal_rule ∷ lines) = refl

-- a heading is one of the same level with marks and signs
filled_level : (marks : PageMarks) (s : SectionContent) → heading_level (filled marks s).lines ≡ heading_level s.lines
filled_level marks s = pictured_level (sign_for marks.sign s.lines) (worded marks.headings.words s) ∙ worded_level marks.headings.words s

signed_table : (sign : List ℕ) (lines : List LineContent) → are_table (map (pictured_line sign) lines) ≡ are_table lines
signed_table sign [] = refl
signed_table sign (normal said ∷ lines) = refl
signed_table sign (table_row cells ∷ lines) = signed_table sign lines
signed_table sign (table_rule aligns ∷ lines) = signed_table sign lines
signed_table sign (horizontal_rule ∷ lines) = refl

signed_none : (sign : List ℕ) (lines : List LineContent) → HaveNoRow lines → HaveNoRow (map (pictured_line sign) lines)
signed_none sign [] h = tt
signed_none sign (normal said ∷ lines) h = (tt, signed_none sign lines h.1)
signed_none sign (table_row cells ∷ lines) h = absurd h.0
signed_none sign (table_rule aligns ∷ lines) h = (tt, signed_none sign lines h.1)
signed_none sign (horizontal_rule ∷ lines) h = (tt, signed_none sign lines h.1)

pictured_table : (sign : Option (List ℕ)) (s : SectionContent) → IsTableOrNone s → IsTableOrNone (pictured sign s)
pictured_table None s h = h
pictured_table (Some sign) s (inl none) = inl (signed_none sign s.lines none)
pictured_table (Some sign) s (inr (table, list)) = inr (signed_table sign s.lines ∙ table, list)

-- a table is one with marks and signs, and what has no row of one has none with them
filled_table : (marks : PageMarks) (s : SectionContent) → IsTableOrNone s → IsTableOrNone (filled marks s)
filled_table marks s h = pictured_table (sign_for marks.sign s.lines) (worded marks.headings.words s) (worded_table marks.headings.words s h)

-- ---- rules below headings

-- the rows of a rule are one rule
rule_alone : (rules : LineRules) (ascii : Bool) (width : ℕ) (gutters : List Gutter) (rows : List RowContent) → KeepsShown rules ascii width (rule_behind gutters) rows → lines_of_rows rows ≡ HorizontalRule ∷ []
rule_alone rules ascii width gutters rows kept =
    let lines = (one_becomes (KeepsSection rules ascii width) (rule_behind gutters) rows kept).lines in
    lines.2 ∙ ap (λ (l : List FmtLine). l ++ lines.1) lines.3 ∙ ap (λ (l : List FmtLine). HorizontalRule ∷ l) lines.4

-- the lines of the rows that are put below a section
abbrev lines_put : Beside → List FmtLine
lines_put nothing = []
lines_put (rule_below gutters) = HorizontalRule ∷ []
lines_put (signs_before gutters) = []

put_is : (marks : HeadingMarks) (gutters : List Gutter) (level : Option ℕ) → lines_put (beside_at marks gutters level) ≡ rule_at marks level
put_is marks gutters None = refl
put_is marks gutters (Some level) =
    let ruled : List Gutter = gutters ++ Below level ∷ [] in
    let marked : List Gutter = gutters ++ Signs level ∷ [] in
    by_bool (λ t. lines_put (if t then rule_below ruled else if marks.signs then signs_before marked else nothing) ≡ (if t then HorizontalRule ∷ [] else [])) (nat_lt level marks.rules) (λ first. refl)
    (λ other. by_bool (λ t. lines_put (if t then signs_before marked else nothing) ≡ []) marks.signs (λ on. refl) (λ off. refl))

-- ---- sections

-- rows show a section, and below it are these lines
abbrev ShowAbove : List FmtLine → SectionContent → List RowContent → Type 0
ShowAbove lines s rows = (own : List RowContent) × (below : List RowContent) × (rows ≡ own ++ below) × ShowSection s own × (lines_of_rows below ≡ lines)

put_shown : (rules : LineRules) (ascii : Bool) (width : ℕ) (beside : Beside) (s : SectionContent) (rows : List RowContent) → IsTableOrNone s → EachBecomes (KeepsShown rules ascii width) (placed_by beside s) rows → ShowAbove (lines_put beside) s rows
put_shown rules ascii width nothing s rows h (own, others, joins, kept, none) = (own, others, joins, (section_shows rules ascii width s own h kept).0, ap lines_of_rows none)
put_shown rules ascii width (rule_below gutters) s rows h (own, others, joins, kept, more) =
    (own, others, joins, (section_shows rules ascii width s own h kept).0, rule_alone rules ascii width gutters others (one_becomes (KeepsShown rules ascii width) (rule_behind gutters) others more))
put_shown rules ascii width (signs_before gutters) s rows h (own, others, joins, kept, none) = (own, others, joins, (section_shows rules ascii width (signed gutters s) own h kept).0, ap lines_of_rows none)

-- what becomes of a section with its rule or signs
abbrev KeepsDressed : LineRules → Bool → ℕ → PageMarks → SectionContent → List RowContent → Type 0
KeepsDressed rules ascii width marks s rows = EachBecomes (KeepsShown rules ascii width) (dressed marks s) rows

-- without marks at words and without pictures a section is shown as it is
as_it_is : (marks : PageMarks) (s : SectionContent) → marks.headings.words ≡ false → have_pictures s.lines ≡ false → filled marks s ≡ s
as_it_is marks s plain none = unsigned marks.sign s.lines (worded marks.headings.words s) none ∙ ap (λ (words : Bool). worded words s) plain

dressed_shown : (rules : LineRules) (ascii : Bool) (width : ℕ) (marks : PageMarks) (s : SectionContent) (rows : List RowContent) → IsTableOrNone s → KeepsDressed rules ascii width marks s rows → ShowDressed marks s rows
dressed_shown rules ascii width marks s rows h kept =
    let own : SectionContent = filled marks s in
    let beside : Beside = beside_at marks.headings s.gutters (heading_level s.lines) in
    let above : ShowAbove (lines_put beside) own rows = put_shown rules ascii width beside own rows (filled_table marks s h) kept in
    (above.0, above.1, above.2, above.3, filled_lines marks.sign marks.headings.words s, above.4 ∙ put_is marks.headings s.gutters (heading_level s.lines), as_it_is marks s)

-- what becomes of each section has what follows of it, where each is a table that may be a list, or has no row of one
each_shown : (becomes shows : SectionContent → List RowContent → Type 0) → ((s : SectionContent) (own : List RowContent) → IsTableOrNone s → becomes s own → shows s own)
    → (sections : List SectionContent) (rows : List RowContent) → AllByRecursion IsTableOrNone sections → EachBecomes becomes sections rows → EachBecomes shows sections rows
each_shown becomes shows each [] rows h kept = kept
each_shown becomes shows each (s ∷ sections) rows h (here, there, joins, one, more) = (here, there, joins, each s here h.0 one, each_shown becomes shows each sections there h.1 more)

-- what follows of the rows of each section of a text, with its rule or signs
pub source_shows : (marks : PageMarks) (source : List ℕ) (rules : LineRules) (ascii : Bool) (width : ℕ) (shows : SectionContent → List RowContent → Type 0)
    → ((s : SectionContent) (own : List RowContent) → IsTableOrNone s → KeepsDressed rules ascii width marks s own → shows s own)
    → (rows : List RowContent) → EachBecomes (KeepsShown rules ascii width) (dressed_page marks (markdown_sections source)) rows → EachBecomes shows (markdown_sections source) rows
source_shows marks source rules ascii width shows each rows kept =
    each_shown (KeepsDressed rules ascii width marks) shows each (markdown_sections source) rows (tables_may_be_lists source)
    (lists_become (KeepsShown rules ascii width) (dressed marks) (markdown_sections source) rows kept)

-- the rows of a text of Markdown show its sections
pub markdown_is_kept : MarkdownIsKept
markdown_is_kept marks source rules ascii width rows wide bound laid =
    source_shows marks source rules ascii width (ShowDressed marks) (dressed_shown rules ascii width marks) rows (pages_keep rules ascii width (dressed_page marks (markdown_sections source)) rows wide bound laid)

-- ---- lines

-- a heading is no table
headed_apart : (lines : List LineContent) (level : ℕ) → heading_level lines ≡ Some level → are_table lines ≡ false
headed_apart [] level h = absurd (cc)
headed_apart (normal said ∷ lines) level h = refl
headed_apart (table_row cells ∷ lines) level h = absurd (cc)
headed_apart (table_rule aligns ∷ lines) level h = absurd (cc)
headed_apart (horizontal_rule ∷ lines) level h = absurd (cc)

stays_by : (rules : TableRules) (ascii : Bool) (width : ℕ) (s : SectionContent) (list : Option (List Gutter)) → s.list ≡ list → are_table s.lines ≡ false → unfolded rules ascii (Some width) s ≡ s ∷ []
stays_by rules ascii width s None is apart = ap (λ (l : Option (List Gutter)). unfolded_in rules (Some (room_at ascii width s.gutters)) l s) is
stays_by rules ascii width s (Some gutters) is apart =
    let room : ℕ = room_at ascii width s.gutters in
    stays_when rules ascii width s gutters is (ap (λ (t : Bool). t && not (length (rows_in s.lines) == 0) && not (has_room rules room s.lines)) apart)

-- the lines that are shown of a heading are its own
heading_lines : (rules : TableRules) (ascii : Bool) (width : ℕ) (s : SectionContent) (level : ℕ) → heading_level s.lines ≡ Some level → lines_of (unfolded rules ascii (Some width) s) ≡ s.lines
heading_lines rules ascii width s level h = ap lines_of (stays_by rules ascii width s s.list refl (headed_apart s.lines level h)) ∙ append-nil s.lines

rule_shows_none : (i : ℕ) (own : List FmtLine) → solid_at i (own ++ HorizontalRule ∷ []) ≡ solid_at i own
rule_shows_none i own = flat_map-append (λ (row : FmtLine). solid (text_at i (texts_in row))) own (HorizontalRule ∷ []) ∙ append-nil (solid_at i own)

-- a rule below the last of some lines
rule_below_last : (line : LineContent) (lines : List LineContent) (rows : List FmtLine) → EachBecomes IsShownBy (line ∷ lines) rows → EachBecomes IsShownBy (line ∷ lines) (rows ++ HorizontalRule ∷ [])
rule_below_last line [] rows shown = let one = one_becomes IsShownBy line rows shown in (rows ++ HorizontalRule ∷ [], [], sym (append-nil (rows ++ HorizontalRule ∷ [])), (λ i. rule_shows_none i rows ∙ one i), refl)
rule_below_last line (next ∷ lines) rows (own, others, joins, here, more) =
    (own, others ++ HorizontalRule ∷ [], ap (λ (l : List FmtLine). l ++ HorizontalRule ∷ []) joins ∙ append_assoc own others (HorizontalRule ∷ []), here, rule_below_last next lines others more)

headed_rule : (lines : List LineContent) (level : ℕ) (rows : List FmtLine) → heading_level lines ≡ Some level → EachBecomes IsShownBy lines rows → EachBecomes IsShownBy lines (rows ++ HorizontalRule ∷ [])
headed_rule [] level rows h shown = absurd (cc)
headed_rule (line ∷ lines) level rows h shown = rule_below_last line lines rows shown

-- rows show the lines that are shown of a section
abbrev Tells : LineRules → Bool → ℕ → SectionContent → List RowContent → Type 0
Tells rules ascii width s rows = EachBecomes IsShownBy (lines_of (unfolded (table_rules rules) ascii (Some width) s)) (lines_of_rows rows)

ruled_tells : (rules : LineRules) (ascii : Bool) (width : ℕ) (marks : PageMarks) (s : SectionContent) (rows : List RowContent) → IsTableOrNone s → IsRuled marks s (dressed marks s) → KeepsDressed rules ascii width marks s rows
    → Tells rules ascii width (filled marks s) rows
ruled_tells rules ascii width marks s rows h ruled kept =
    let gutters : List Gutter = s.gutters ++ Below ruled.level ∷ [] in
    let two = subst (λ (all : List SectionContent). EachBecomes (KeepsShown rules ascii width) all rows) ruled.shown_are kept in
    let said : SectionContent = filled marks s in
    let heading = filled_level marks s ∙ ruled.heading in
    let same = heading_lines (table_rules rules) ascii width said ruled.level heading in
    let own = subst (λ (lines : List LineContent). EachBecomes IsShownBy lines (lines_of_rows two.0)) same (section_shows rules ascii width said two.0 (filled_table marks s h) two.3).1 in
    let rule = rule_alone rules ascii width gutters two.1 (one_becomes (KeepsShown rules ascii width) (rule_behind gutters) two.1 two.4) in
    let joins : lines_of_rows rows ≡ lines_of_rows two.0 ++ HorizontalRule ∷ [] =
    ap lines_of_rows two.2 ∙ map-append (λ (row : RowContent). row.line) two.0 two.1 ∙ ap (λ (l : List FmtLine). lines_of_rows two.0 ++ l) rule in
    subst (λ (lines : List LineContent). EachBecomes IsShownBy lines (lines_of_rows rows)) (sym same)
    (subst (EachBecomes IsShownBy said.lines) (sym joins) (headed_rule said.lines ruled.level (lines_of_rows two.0) heading own))

signed_tells : (rules : LineRules) (ascii : Bool) (width : ℕ) (marks : PageMarks) (s : SectionContent) (rows : List RowContent) → IsTableOrNone s → IsSigned marks s (dressed marks s) → KeepsDressed rules ascii width marks s rows
    → Tells rules ascii width (filled marks s) rows
signed_tells rules ascii width marks s rows h with_signs kept =
    let said : SectionContent = filled marks s in
    let heading = filled_level marks s ∙ with_signs.heading in
    let other : SectionContent = signed (s.gutters ++ Signs with_signs.level ∷ []) said in
    let one = one_becomes (KeepsShown rules ascii width) other rows (subst (λ (all : List SectionContent). EachBecomes (KeepsShown rules ascii width) all rows) with_signs.shown_are kept) in
    let same = heading_lines (table_rules rules) ascii width other with_signs.level heading ∙ sym (heading_lines (table_rules rules) ascii width said with_signs.level heading) in
    subst (λ (lines : List LineContent). EachBecomes IsShownBy lines (lines_of_rows rows)) same (section_shows rules ascii width other rows (filled_table marks s h) one).1

-- the rows of a section with its rule or signs show the lines that are shown of it, with its marks
pub dressed_tells : (rules : LineRules) (ascii : Bool) (width : ℕ) (marks : PageMarks) (s : SectionContent) (rows : List RowContent) → IsTableOrNone s → KeepsDressed rules ascii width marks s rows
    → Tells rules ascii width (filled marks s) rows
dressed_tells rules ascii width marks s rows h kept =
    ⊎_elim
    (λ stays. (section_shows rules ascii width (filled marks s) rows (filled_table marks s h)
    (one_becomes (KeepsShown rules ascii width) (filled marks s) rows (subst (λ (all : List SectionContent). EachBecomes (KeepsShown rules ascii width) all rows) stays kept))).1)
    (λ marked. ⊎_elim (λ ruled. ruled_tells rules ascii width marks s rows h ruled kept) (λ with_signs. signed_tells rules ascii width marks s rows h with_signs kept) marked)
    (adds_marks_alone marks s)

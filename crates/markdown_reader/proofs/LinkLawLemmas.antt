-- Each section has marks for its links.
use Rattle.std.proofs.Common.{◌≡◌, ℕ, zero, suc, ◌+◌, ◌-◌, ◌<◌, ◌≤◌, Bool, true, false, not, ◌&&◌, ◌==◌, List, [], ◌∷◌, ◌++◌, map, length, drop, replicate, Option, Some, None, refl, sym, ap, subst, ◌∙◌, arith, append_assoc, append-nil, if◌then◌else◌}
use Rattle.std.specs.Prelude.{chars}
use Rattle.std.specs.List.{AllByRecursion, filter, flat_map}
use Rattle.std.specs.Char.{is_whitespace}
use Rattle.std.proofs.lemmas.Bool.{eq-eqb}
use Rattle.std.proofs.lemmas.List.{length-append, length-map, length-replicate}
use Rattle.std.proofs.lemmas.List.Concat.{flat_map-append}
use Rattle.std.proofs.lemmas.List.Elements.{filter-append}
use Rattle.mad_mark_runs.specs.Marks.{count_of}
use Rattle.mad_mark_runs.specs.Values.{AreRising, end_from, run_behind, values_from}
use Rattle.mad_mark_runs.specs.declared.mark_runs.MarkRun.{MarkRun}
use Rattle.mad_mark_runs.proofs.ValueLemmas.{rising_joined, values_joined}
use Rattle.markdown_marks.specs.Remaining.{Remaining}
use Rattle.markdown_blocks.specs.declared.containers.Container.{Container}
use Rattle.markdown_blocks.specs.declared.containers.Container.TheVariants.{Quote, Item}
use Rattle.markdown_leaves.specs.Defining.{joined}
use Rattle.markdown_leaves.specs.Parts.{PartContent, begins, ends, block}
use Rattle.markdown_leaves.specs.Told.{parts_of}
use Rattle.markdown_leaves.specs.declared.parts.Kind.{Kind}
use Rattle.markdown_leaves.specs.declared.parts.Kind.TheVariants.{Nothing, Paragraph as ParagraphKind, Heading, Indented, Fenced, Html, Table, Rule, Definitions}
use Rattle.mad_md.specs.Flagged.{Flags, FlaggedChar, Run, flagged}
use Rattle.mad_md.specs.Lines.{StyledRuns, LineContent, normal, table_row, table_rule, horizontal_rule}
use Rattle.mad_md.specs.declared.alignment.Alignment.{Alignment}
use Rattle.mad_md.specs.declared.composite.CompositeStyle.{CompositeStyle}
use Rattle.mad_md.specs.declared.composite.CompositeStyle.TheVariants.{Paragraph}
use Rattle.mad_sections.specs.Sections.{SectionContent}
use Rattle.mad_sections.specs.declared.gutters.Alert.{Alert}
use Rattle.mad_sections.specs.declared.gutters.Gutter.{Gutter}
use Rattle.mad_sections.specs.declared.gutters.Gutter.TheVariants.{Bar, AlertBar, Bullet, Number, Task, Code, Signs, Below}
use Rattle.markdown_inlines.specs.Inlines.{leaf_links, links_from}
use Rattle.markdown_lines.specs.Code.{code_line, code_lines}
use Rattle.markdown_lines.specs.Glyphs.{html_glyphs, leaf_glyphs, trimmed}
use Rattle.markdown_lines.specs.Leaf.{row_of as leaf_row, rows_from, leaf_rows, html_lines}
use Rattle.markdown_html_text.specs.HtmlPieces.{html_pieces}
use Rattle.markdown_lines.specs.LinkNumbers.{cell_numbers, html_numbers, after_links}
use Rattle.markdown_lines.specs.Links as line_links
use Rattle.markdown_lines.specs.Links.{html_addresses, Defined, address_of, leaf_addresses, links_at}
use Rattle.markdown_lines.specs.Restyled.{empty_line, restyled}
use Rattle.markdown_lines.specs.Steady.{steady_run, steady_runs, steady_line, steady_lines}
use Rattle.markdown_lines.specs.TableNumbers.{cells_numbers, line_numbers, lines_numbers, ruled_numbers, table_numbers}
use Rattle.markdown_cells.specs.Cells.{after_cell, cell_text, alignments}
use Rattle.markdown_marks.specs.Tables.{row_of}
use Rattle.markdown_lines.specs.Tables.{cells, shown_cells, row_said, body, ruled, table_lines, cells_addresses, row_addresses, rows_links}
use Rattle.markdown_lines.specs.declared.glyphs.Glyph.{Glyph}
use Rattle.markdown_gutters.specs.Forms.{is_big}
use Rattle.markdown_gutters.specs.Lists.{is_item}
use Rattle.markdown_gutters.specs.Signs.{after_box, box_of, after_line, alert_of}
use Rattle.markdown_gutters.specs.declared.forms.Form.{Form}
use Rattle.markdown_gutters.specs.declared.forms.Form.TheVariants.{Words, Large, Listed, Boxed}
use Rattle.markdown_tones.specs.Fences.{fence_marks}
use Rattle.markdown_definitions.specs.Definitions.{definitions_of}
use Rattle.markdown_reader.specs.LinkLaws.{row_chars, line_chars, is_of_link, links_in, IsMarkOf, HasLinkMarks, HaveLinkMarks, LinksHaveMarks}
use Rattle.mad_link_marks.specs.LinkMarks.{run_texts, row_texts, line_texts, link_texts, first_link, marks_behind, link_marks}
use Rattle.markdown_reader.specs.LinkMarks.{sections_link_marks}
use Rattle.markdown_html_text.specs.HtmlLeaves.{html_level}
use Rattle.markdown_reader.specs.Mapping.{LinkSaid, Mapping, nothing_shown, new_gutter, with_last, is_spaced, spaced, blank_row, link_at, linked, section_of, put, added, passed, list_ended, begun, closed, item_ended, ended_by, words, addresses_in, words_shown, task_by, alert_line, alert_by, paragraph_by, heading_style, html_text, html_by, leaves_in, address_said, table_addresses, code_shown, leaf_shown, shown_part, shown_parts, text_of, with_marks}
use Rattle.markdown_reader.specs.Markdown.{printable_sections, unmarked_links}
use Rattle.markdown_reader.specs.SectionNumbers.{task_words, alert_words, paragraph_words, words_numbers, kind_numbers, part_numbers, added_numbers, parts_numbers, unmarked_numbers}
use Rattle.markdown_reader.specs.Steady.{steady_sections}
use Rattle.markdown_reader.proofs.LinkFitLemmas.{Fits, fits_append, fits_less, after_fits, leaf_fits, html_fits, cell_fits}
use Rattle.markdown_reader.proofs.LinkMarkLemmas.{blank_numbers, none_added, put_numbers, item_numbers}

-- ---- cells and rows of a table

cells_fit : (defined : Defined) (bold : Bool) (before columns : ℕ) (row : List ℕ) → Fits (before + length (cells_addresses defined columns row)) (cells_numbers defined bold before columns row) (flat_map row_texts (cells defined.labels bold columns row))
unfolding cells_addresses cells_numbers cells
cells_fit defined bold before zero row = (refl, tt)
cells_fit defined bold before (suc columns) row =
    let own : List (List ℕ) = leaf_addresses defined (cell_text row) in
    let rest : List (List ℕ) = cells_addresses defined columns (after_cell row) in
    let many : length own ≡ length (leaf_links defined.labels (cell_text row)) = length-map (leaf_links defined.labels (cell_text row)) (address_of defined.addresses (cell_text row)) in
    let all : length (own ++ rest) ≡ length own + length rest = length-append own rest in
    let first = after_fits before (length (leaf_links defined.labels (cell_text row))) (cell_numbers defined.labels bold (cell_text row)) _ (cell_fits defined.labels bold (cell_text row)) in
    let others = cells_fit defined bold (before + length own) columns (after_cell row) in
    fits_append (before + length (own ++ rest)) (after_links before (cell_numbers defined.labels bold (cell_text row))) (cells_numbers defined bold (before + length own) columns (after_cell row)) _ (flat_map row_texts (cells defined.labels bold columns (after_cell row)))
    (fits_less _ (before + length (own ++ rest)) _ _ (omega (arith, many, all)) first) (fits_less _ (before + length (own ++ rest)) _ _ (omega (arith, all)) others)

lines_fit : (defined : Defined) (before columns at : ℕ) (lines : List Remaining)
    → Fits (before + length (rows_links defined columns at lines)) (lines_numbers defined before columns lines) (link_texts (map (row_said defined.labels false columns) lines))
unfolding rows_links lines_numbers
lines_fit defined before columns at [] = (refl, tt)
lines_fit defined before columns at (line ∷ lines) =
    let own : List (List ℕ) = row_addresses defined columns line in
    let rest : List line_links.LinkSaid = rows_links defined columns (at + 1) lines in
    let many : length (links_at at own) ≡ length own = length-map own (line_links.link_at at) in
    let all : length (links_at at own ++ rest) ≡ length (links_at at own) + length rest = length-append (links_at at own) rest in
    let first = cells_fit defined false before (shown_cells columns line.bytes) (row_of line.bytes) in
    let others = lines_fit defined (before + length own) columns (at + 1) lines in
    fits_append (before + length (links_at at own ++ rest)) (line_numbers defined false before columns line) (lines_numbers defined (before + length own) columns lines) _ (link_texts (map (row_said defined.labels false columns) lines))
    (fits_less _ (before + length (links_at at own ++ rest)) _ _ (omega (arith, many, all)) first) (fits_less _ (before + length (links_at at own ++ rest)) _ _ (omega (arith, many, all)) others)

texts_append : (xs ys : List LineContent) → link_texts (xs ++ ys) ≡ link_texts xs ++ link_texts ys
texts_append xs ys = flat_map-append line_texts xs ys

body_texts : (labels : List (List ℕ)) (columns : ℕ) (rule : List Alignment) (lines : List Remaining) → link_texts (body labels columns rule lines) ≡ link_texts (map (row_said labels false columns) lines)
body_texts labels columns rule [] = refl
body_texts labels columns rule (line ∷ lines) = refl

ruled_texts : (labels : List (List ℕ)) (columns : ℕ) (rule : List Alignment) (head : Remaining) (lines : List Remaining)
    → link_texts (ruled labels columns rule head lines) ≡ line_texts (row_said labels true columns head) ++ link_texts (map (row_said labels false columns) lines)
ruled_texts labels columns rule head lines =
    ap (λ (l : List (List ℕ)). line_texts (row_said labels true columns head) ++ l)
    (texts_append (body labels columns rule lines) (table_rule rule ∷ []) ∙ append-nil (link_texts (body labels columns rule lines)) ∙ body_texts labels columns rule lines)

ruled_fit : (defined : Defined) (columns : ℕ) (rule : List Alignment) (head : Remaining) (lines : List Remaining)
    → Fits (length (links_at 1 (row_addresses defined columns head) ++ rows_links defined columns 3 lines)) (ruled_numbers defined 0 columns head lines) (link_texts (ruled defined.labels columns rule head lines))
ruled_fit defined columns rule head lines =
    let own : List (List ℕ) = row_addresses defined columns head in
    let rest : List line_links.LinkSaid = rows_links defined columns 3 lines in
    let many : length (links_at 1 own) ≡ length own = length-map own (line_links.link_at 1) in
    let all : length (links_at 1 own ++ rest) ≡ length (links_at 1 own) + length rest = length-append (links_at 1 own) rest in
    let first = cells_fit defined true 0 (shown_cells columns head.bytes) (row_of head.bytes) in
    let others = lines_fit defined (0 + length own) columns 3 lines in
    subst (Fits (length (links_at 1 own ++ rest)) (ruled_numbers defined 0 columns head lines)) (sym (ruled_texts defined.labels columns rule head lines))
    (fits_append (length (links_at 1 own ++ rest)) (line_numbers defined true 0 columns head) (lines_numbers defined (0 + length own) columns lines) (line_texts (row_said defined.labels true columns head)) (link_texts (map (row_said defined.labels false columns) lines))
    (fits_less _ (length (links_at 1 own ++ rest)) _ _ (omega (arith, many, all)) first) (fits_less _ (length (links_at 1 own ++ rest)) _ _ (omega (arith, many, all)) others))

table_fits : (defined : Defined) (columns : ℕ) (lines : List Remaining) → Fits (length (table_addresses defined columns lines)) (table_numbers defined 0 columns lines) (link_texts (table_lines defined.labels columns lines))
unfolding table_lines
table_fits defined columns [] = (refl, tt)
table_fits defined columns (head ∷ []) = (refl, tt)
table_fits defined columns (head ∷ delimiters ∷ lines) =
    let links : List line_links.LinkSaid = links_at 1 (row_addresses defined columns head) ++ rows_links defined columns 3 lines in
    let same : length links ≤ length (map address_said links) = (let e = length-map links address_said in omega (arith, e)) in
    fits_less (length links) (length (map address_said links)) _ _ same (ruled_fit defined columns (alignments columns (row_of delimiters.bytes)) head lines)

-- ---- words

if_restyled : (style : CompositeStyle) (t : Bool) (xs ys : List LineContent) → link_texts (restyled style style xs) ≡ link_texts xs → link_texts (restyled style style ys) ≡ link_texts ys
    → link_texts (restyled style style (if t then xs else ys)) ≡ link_texts (if t then xs else ys)
if_restyled style true xs ys h k = h
if_restyled style false xs ys h k = k

rows_restyled : (style : CompositeStyle) (row gs : List Glyph) → link_texts (restyled style style (rows_from row gs)) ≡ link_texts (rows_from row gs)
unfolding rows_from restyled
rows_restyled style row [] = refl
rows_restyled style row (g ∷ gs) =
    if_restyled style (g.c == 10) (leaf_row row ∷ rows_from [] gs) (rows_from (row ++ g ∷ []) gs) (ap (λ (l : List (List ℕ)). line_texts (leaf_row row) ++ l) (rows_restyled style [] gs)) (rows_restyled style (row ++ g ∷ []) gs)

leaf_restyled : (style : CompositeStyle) (labels : List (List ℕ)) (text : List ℕ) → link_texts (restyled style style (leaf_rows labels text)) ≡ link_texts (leaf_rows labels text)
unfolding leaf_rows restyled
leaf_restyled style labels text =
    let gs : List Glyph = trimmed (leaf_glyphs labels false text) in
    if_restyled style (length gs == 0) [] (rows_from [] gs) refl (rows_restyled style [] gs)

html_restyled : (style : CompositeStyle) (text : List ℕ) → link_texts (restyled style style (html_lines text)) ≡ link_texts (html_lines text)
unfolding html_lines restyled
html_restyled style text =
    let gs : List Glyph = trimmed (html_glyphs text) in
    if_restyled style (length gs == 0) [] (rows_from [] gs) refl (rows_restyled style [] gs)

words_fit : (defined : Defined) (bytes : List ℕ) → Fits (length (addresses_in defined bytes)) (words_numbers defined bytes) (link_texts (words defined bytes))
words_fit defined bytes =
    let text : List ℕ = text_of bytes in
    let same : length (leaf_links defined.labels text) ≤ length (addresses_in defined bytes) = (let e = length-map (leaf_links defined.labels text) (address_of defined.addresses text) in omega (arith, e)) in
    fits_less (length (leaf_links defined.labels text)) (length (addresses_in defined bytes)) _ _ same (leaf_fits defined.labels text)

restyled_fit : (style : CompositeStyle) (defined : Defined) (bytes : List ℕ) → Fits (length (addresses_in defined bytes)) (words_numbers defined bytes) (link_texts (restyled style style (words defined bytes)))
restyled_fit style defined bytes = subst (Fits (length (addresses_in defined bytes)) (words_numbers defined bytes)) (sym (leaf_restyled style defined.labels (text_of bytes))) (words_fit defined bytes)

-- ---- code and html

if_texts : (t : Bool) (a b : LineContent) → line_texts a ≡ [] → line_texts b ≡ [] → line_texts (if t then a else b) ≡ []
if_texts true a b h k = h
if_texts false a b h k = k

code_texts : (lines : List Remaining) → link_texts (code_lines 0 lines) ≡ []
unfolding code_lines
code_texts [] = refl
code_texts (line ∷ lines) = ap (λ (l : List (List ℕ)). l ++ link_texts (map (code_line 0) lines)) (if_texts ((line.pending == 0) && (length line.bytes == 0)) _ _ refl refl) ∙ code_texts lines

none_fit : (count : ℕ) (lines : List LineContent) → link_texts lines ≡ [] → Fits count [] (link_texts lines)
none_fit count lines e = subst (Fits count []) (sym e) (refl, tt)

-- ---- sections

-- The numbers of each of these sections fit its links, which have its index; the first has this one.
abbrev AreFit : ℕ → List LinkSaid → List (List ℕ) → List SectionContent → Type 0
AreFit at links [] [] = Unit {0}
AreFit at links (ns ∷ nss) (s ∷ sections) = Fits (links_in at links) ns (link_texts s.lines) × AreFit (at + 1) links nss sections
AreFit at links _ _ = ⊥

in_append : (at : ℕ) (xs ys : List LinkSaid) → links_in at (xs ++ ys) ≡ links_in at xs + links_in at ys
in_append at xs ys = ap (λ (l : List LinkSaid). length l) (filter-append (λ (l : LinkSaid). l.section == at) xs ys) ∙ length-append (filter (λ (l : LinkSaid). l.section == at) xs) (filter (λ (l : LinkSaid). l.section == at) ys)

fit_more : (at : ℕ) (links more : List LinkSaid) (nss : List (List ℕ)) (sections : List SectionContent) → AreFit at links nss sections → AreFit at (links ++ more) nss sections
fit_more at links more [] [] h = tt
fit_more at links more [] (s ∷ sections) h = absurd h
fit_more at links more (ns ∷ nss) [] h = absurd h
fit_more at links more (ns ∷ nss) (s ∷ sections) h =
    (fits_less (links_in at links) (links_in at (links ++ more)) ns (link_texts s.lines) (omega (arith, in_append at links more)) h.0, fit_more (at + 1) links more nss sections h.1)

fit_one : (at : ℕ) (links : List LinkSaid) (nss : List (List ℕ)) (sections : List SectionContent) (ns : List ℕ) (s : SectionContent) → AreFit at links nss sections
    → Fits (links_in (at + length sections) links) ns (link_texts s.lines) → AreFit at links (nss ++ ns ∷ []) (sections ++ s ∷ [])
fit_one at links [] [] ns s h k = (fits_less _ _ ns (link_texts s.lines) (let e : links_in (at + 0) links ≡ links_in at links = ap (λ n. links_in n links) (omega arith) in omega (arith, e)) k, tt)
fit_one at links [] (x ∷ sections) ns s h k = absurd h
fit_one at links (x ∷ nss) [] ns s h k = absurd h
fit_one at links (xs ∷ nss) (x ∷ sections) ns s h k =
    let e : links_in (at + suc (length sections)) links ≡ links_in (at + 1 + length sections) links = ap (λ n. links_in n links) (omega arith) in
    (h.0, fit_one (at + 1) links nss sections ns s h.1 (fits_less _ _ ns (link_texts s.lines) (omega (arith, e)) k))

fit_last : (links : List LinkSaid) (nss : List (List ℕ)) (sections : List SectionContent) (ns : List ℕ) (s : SectionContent) → AreFit 0 links nss sections
    → Fits (links_in (length sections) links) ns (link_texts s.lines) → AreFit 0 links (nss ++ ns ∷ []) (sections ++ s ∷ [])
fit_last links nss sections ns s h k = fit_one 0 links nss sections ns s h (subst (λ n. Fits (links_in n links) ns (link_texts s.lines)) (none (length sections)) k)
  where
    none : (n : ℕ) → n ≡ 0 + n
    none n = omega arith

kept_link : (t : Bool) (l : LinkSaid) (ls : List LinkSaid) → t ≡ true → length (if t then l ∷ ls else ls) ≡ suc (length ls)
kept_link true l ls e = refl
kept_link false l ls e = absurd (apart e)
  where
    apart : false ≡ true → ⊥
    apart e = cc

own_links : (at : ℕ) (addresses : List (List ℕ)) → links_in at (map (link_at at) addresses) ≡ length addresses
own_links at [] = refl
own_links at (a ∷ addresses) =
    kept_link (at == at) (link_at at a) (filter (λ (l : LinkSaid). l.section == at) (map (link_at at) addresses)) (eq-eqb at at refl) ∙ ap suc (own_links at addresses)

abbrev HasFit : Mapping → List (List ℕ) → Type 0
HasFit m nss = AreFit 0 m.links nss m.sections

if_fit : (t : Bool) (m n : Mapping) (ns ms : List (List ℕ)) → HasFit m ns → HasFit n ms → HasFit (if t then m else n) (if t then ns else ms)
if_fit true m n ns ms h k = h
if_fit false m n ns ms h k = k

blank_fit : (t : Bool) (m : Mapping) (nss : List (List ℕ)) → HasFit m nss → HasFit (if t then record m { sections = m.sections ++ blank_row m ∷ [] } else m) (nss ++ blank_numbers t)
blank_fit true m nss h = fit_last m.links nss m.sections [] (blank_row m) h (refl, tt)
blank_fit false m nss h = subst (HasFit m) (sym (append-nil nss)) h

section_fit : (form : Form) (lines : List LineContent) (addresses : List (List ℕ)) (ns : List ℕ) (m : Mapping) (nss : List (List ℕ)) → Fits (length addresses) ns (link_texts lines) → HasFit m nss
    → HasFit (added form lines addresses m) (nss ++ ns ∷ [])
section_fit form lines addresses ns m nss fits h =
    let own : List LinkSaid = map (link_at (length m.sections)) addresses in
    let many : length addresses ≤ links_in (length m.sections) (m.links ++ own) = (let e = own_links (length m.sections) addresses in let f = in_append (length m.sections) m.links own in omega (arith, e, f)) in
    fit_last (m.links ++ own) nss m.sections ns (section_of form lines (linked addresses m)) (fit_more 0 m.links own nss m.sections h) (fits_less (length addresses) (links_in (length m.sections) (m.links ++ own)) ns (link_texts lines) many fits)

put_by : (t : Bool) (form : Form) (lines : List LineContent) (addresses : List (List ℕ)) (ns : List ℕ) (m : Mapping) (nss : List (List ℕ)) → Fits (length addresses) ns (link_texts lines) → HasFit m nss
    → HasFit (if t then m else added form lines addresses (spaced m.apart (is_big form) m)) (nss ++ added_numbers ns m (if t then m else added form lines addresses (spaced m.apart (is_big form) m)))
put_by true form lines addresses ns m nss fits h = subst (HasFit m) (sym (append-nil nss) ∙ ap (λ (l : List (List ℕ)). nss ++ l) (sym (none_added ns m.sections m.sections refl))) h
put_by false form lines addresses ns m nss fits h =
    let apart : Mapping = spaced m.apart (is_big form) m in
    let blank : List (List ℕ) = blank_numbers (is_spaced m.apart (is_big form) m) in
    subst (HasFit (added form lines addresses apart)) (append_assoc nss blank (ns ∷ []) ∙ ap (λ (l : List (List ℕ)). nss ++ l) (sym (put_numbers ns form lines addresses m)))
    (section_fit form lines addresses ns apart (nss ++ blank) fits (blank_fit (is_spaced m.apart (is_big form) m) m nss h))

put_fit : (form : Form) (lines : List LineContent) (addresses : List (List ℕ)) (ns : List ℕ) (m : Mapping) (nss : List (List ℕ)) → Fits (length addresses) ns (link_texts lines) → HasFit m nss
    → HasFit (put form lines addresses m) (nss ++ added_numbers ns m (put form lines addresses m))
put_fit form lines addresses ns m nss fits h = put_by (length lines == 0) form lines addresses ns m nss fits h

same_fit : (ns : List ℕ) (m n : Mapping) (nss : List (List ℕ)) → n.sections ≡ m.sections → n.links ≡ m.links → HasFit m nss → HasFit n (nss ++ added_numbers ns m n)
same_fit ns m n nss sections links h =
    subst (HasFit n) (sym (append-nil nss) ∙ ap (λ (l : List (List ℕ)). nss ++ l) (sym (none_added ns m.sections n.sections sections)))
    (subst (λ (l : List SectionContent). AreFit 0 n.links nss l) (sym sections) (subst (λ (l : List LinkSaid). AreFit 0 l nss m.sections) (sym links) h))

item_fit : (m : Mapping) (nss : List (List ℕ)) → HasFit m nss → HasFit (item_ended m) (nss ++ added_numbers [] m (item_ended m))
item_fit m nss h =
    let apart : Mapping = spaced m.item_apart false m in
    let blank : List (List ℕ) = blank_numbers (is_spaced m.item_apart false m) in
    let before : HasFit apart (nss ++ blank) = blank_fit (is_spaced m.item_apart false m) m nss h in
    let row : HasFit (item_ended m) ((nss ++ blank) ++ [] ∷ []) = fit_last apart.links (nss ++ blank) apart.sections [] (section_of Words (empty_line Paragraph ∷ []) apart) before (refl, tt) in
    subst (HasFit (item_ended m)) (append_assoc nss blank ([] ∷ []) ∙ ap (λ (l : List (List ℕ)). nss ++ l) (sym (item_numbers m))) row

if_item : (t : Bool) (m : Mapping) (nss : List (List ℕ)) → HasFit m nss → HasFit (if t then item_ended m else m) (nss ++ added_numbers [] m (if t then item_ended m else m))
if_item true m nss h = item_fit m nss h
if_item false m nss h = same_fit [] m m nss refl refl h

ended_fit : (gutter : Option Gutter) (m : Mapping) (nss : List (List ℕ)) → HasFit m nss → HasFit (closed (ended_by gutter m)) (nss ++ added_numbers [] m (closed (ended_by gutter m)))
ended_fit None m nss h = same_fit [] m (closed m) nss refl refl h
ended_fit (Some gutter) m nss h = if_item (is_item gutter) m nss h

begun_fit : (container : Container) (m : Mapping) (nss : List (List ℕ)) → HasFit m nss → HasFit (begun container m) (nss ++ added_numbers [] m (begun container m))
begun_fit Quote m nss h = same_fit [] m (begun Quote m) nss refl refl h
begun_fit (Item sign number content) m nss h = same_fit [] m (begun (Item sign number content) m) nss refl refl h

-- ---- leaves

words_shown_fit : (defined : Defined) (bytes : List ℕ) (m : Mapping) (nss : List (List ℕ)) → HasFit m nss → HasFit (words_shown defined bytes m) (nss ++ added_numbers (words_numbers defined bytes) m (words_shown defined bytes m))
words_shown_fit defined bytes m nss h = put_fit Words (words defined bytes) (addresses_in defined bytes) (words_numbers defined bytes) m nss (words_fit defined bytes) h

task_fit : (done : Option Bool) (defined : Defined) (bytes : List ℕ) (m : Mapping) (nss : List (List ℕ)) → HasFit m nss → HasFit (task_by done defined bytes m) (nss ++ added_numbers (words_numbers defined (task_words done bytes)) m (task_by done defined bytes m))
task_fit None defined bytes m nss h = words_shown_fit defined bytes m nss h
task_fit (Some done) defined bytes m nss h = words_shown_fit defined (after_box bytes) (with_last (Task done) m) nss h

alert_fit : (alert : Option Alert) (defined : Defined) (bytes : List ℕ) (m : Mapping) (nss : List (List ℕ)) → HasFit m nss → HasFit (alert_by alert defined bytes m) (nss ++ added_numbers (words_numbers defined (alert_words alert bytes)) m (alert_by alert defined bytes m))
alert_fit None defined bytes m nss h = words_shown_fit defined bytes m nss h
alert_fit (Some alert) defined bytes m nss h =
    let rows : List LineContent = restyled Paragraph Paragraph (words defined (after_line bytes)) in
    put_fit Words (alert_line alert ∷ rows) (addresses_in defined (after_line bytes)) (words_numbers defined (after_line bytes)) (with_last (AlertBar alert) m) nss (restyled_fit Paragraph defined (after_line bytes)) h

paragraph_fit : (gutter : Option Gutter) (defined : Defined) (bytes : List ℕ) (m : Mapping) (nss : List (List ℕ)) → HasFit m nss
    → HasFit (paragraph_by gutter defined bytes m) (nss ++ added_numbers (words_numbers defined (paragraph_words gutter bytes)) m (paragraph_by gutter defined bytes m))
paragraph_fit (Some Bullet) defined bytes m nss h = task_fit (box_of bytes) defined bytes m nss h
paragraph_fit (Some Bar) defined bytes m nss h = alert_fit (alert_of bytes) defined bytes m nss h
paragraph_fit (Some (AlertBar alert)) defined bytes m nss h = words_shown_fit defined bytes m nss h
paragraph_fit (Some (Number number)) defined bytes m nss h = words_shown_fit defined bytes m nss h
paragraph_fit (Some (Task done)) defined bytes m nss h = words_shown_fit defined bytes m nss h
paragraph_fit (Some Code) defined bytes m nss h = words_shown_fit defined bytes m nss h
paragraph_fit (Some (Signs level)) defined bytes m nss h = words_shown_fit defined bytes m nss h
paragraph_fit (Some (Below level)) defined bytes m nss h = words_shown_fit defined bytes m nss h
paragraph_fit None defined bytes m nss h = words_shown_fit defined bytes m nss h

code_fit : (marks : List MarkRun) (lines : List Remaining) (m : Mapping) (nss : List (List ℕ)) → HasFit m nss → HasFit (code_shown marks lines m) (nss ++ added_numbers [] m (code_shown marks lines m))
code_fit marks lines m nss h = put_fit Boxed (code_lines 0 lines) [] [] (with_marks marks m) nss (none_fit 0 (code_lines 0 lines) (code_texts lines)) h

html_text_fit : (text : List ℕ) → Fits (length (html_addresses text)) (html_numbers text) (link_texts (html_lines text))
html_text_fit text =
    let same : length (links_from 0 (html_pieces text)) ≤ length (html_addresses text) = (let e = length-map (links_from 0 (html_pieces text)) (address_of [] text) in omega (arith, e)) in
    fits_less (length (links_from 0 (html_pieces text))) (length (html_addresses text)) _ _ same (html_fits text)

html_shown_fit : (t : Bool) (level : ℕ) (text : List ℕ) (m : Mapping) (nss : List (List ℕ)) → HasFit m nss → HasFit (html_by t level text m) (nss ++ added_numbers (html_numbers text) m (html_by t level text m))
html_shown_fit true level text m nss h = put_fit Words (html_lines text) (html_addresses text) (html_numbers text) m nss (html_text_fit text) h
html_shown_fit false level text m nss h =
    put_fit Large (restyled (heading_style level) (heading_style level) (html_lines text)) (html_addresses text) (html_numbers text) m nss
    (subst (Fits (length (html_addresses text)) (html_numbers text)) (sym (html_restyled (heading_style level) text)) (html_text_fit text)) h

leaf_shown_fit : (defined : Defined) (kind : Kind) (lines : List Remaining) (m : Mapping) (nss : List (List ℕ)) → HasFit m nss
    → HasFit (leaf_shown defined kind lines m) (nss ++ added_numbers (kind_numbers defined (new_gutter m) kind lines) m (leaf_shown defined kind lines m))
leaf_shown_fit defined ParagraphKind lines m nss h = paragraph_fit (new_gutter m) defined (joined [] lines) m nss h
leaf_shown_fit defined Html lines m nss h = html_shown_fit (html_level (joined [] lines) == 0) (html_level (joined [] lines)) (html_text (joined [] lines)) m nss h
leaf_shown_fit defined (Heading level) lines m nss h =
    put_fit Large (restyled (heading_style level) (heading_style level) (words defined (joined [] lines))) (addresses_in defined (joined [] lines)) (words_numbers defined (joined [] lines)) m nss (restyled_fit (heading_style level) defined (joined [] lines)) h
leaf_shown_fit defined Indented lines m nss h = code_fit [] lines m nss h
leaf_shown_fit defined Fenced lines m nss h = code_fit (fence_marks lines) (drop 1 lines) m nss h
leaf_shown_fit defined (Table columns) lines m nss h =
    put_fit Listed (table_lines defined.labels columns lines) (table_addresses defined columns lines) (table_numbers defined 0 columns lines) m nss (table_fits defined columns lines) h
leaf_shown_fit defined Rule lines m nss h = put_fit Large (horizontal_rule ∷ []) [] [] m nss (refl, tt) h
leaf_shown_fit defined Nothing lines m nss h = same_fit [] m m nss refl refl h
leaf_shown_fit defined Definitions lines m nss h = same_fit [] m m nss refl refl h

part_fit : (defined : Defined) (part : PartContent) (m : Mapping) (nss : List (List ℕ)) → HasFit m nss → HasFit (shown_part defined part m) (nss ++ added_numbers (part_numbers defined m part) m (shown_part defined part m))
unfolding shown_part
part_fit defined (begins container apart) m nss h = begun_fit container (passed apart m) nss h
part_fit defined ends m nss h = ended_fit (new_gutter m) m nss h
part_fit defined (block leaf) m nss h = leaf_shown_fit defined leaf.kind leaf.lines (list_ended (passed leaf.apart m)) nss h

parts_fit : (defined : Defined) (parts : List PartContent) (m : Mapping) (nss : List (List ℕ)) → HasFit m nss → HasFit (shown_parts defined parts m) (nss ++ parts_numbers defined parts m)
unfolding shown_parts parts_numbers
parts_fit defined [] m nss h = subst (HasFit m) (sym (append-nil nss)) h
parts_fit defined (part ∷ parts) m nss h =
    let here : List (List ℕ) = added_numbers (part_numbers defined m part) m (shown_part defined part m) in
    subst (HasFit (shown_parts defined parts (shown_part defined part m))) (append_assoc nss here (parts_numbers defined parts (shown_part defined part m)))
    (parts_fit defined parts (shown_part defined part m) (nss ++ here) (part_fit defined part m nss h))

source_fit : (source : List ℕ) → AreFit 0 (unmarked_links source) (unmarked_numbers source) (printable_sections source)
unfolding unmarked_links unmarked_numbers printable_sections
source_fit source = parts_fit (definitions_of (parts_of source)) (flat_map leaves_in (parts_of source)) nothing_shown [] tt

-- ---- steady sections

steady_one : (t : Bool) (a b : List ℕ) → length (if t then a ∷ [] else []) ≡ length (if t then b ∷ [] else [])
steady_one true a b = refl
steady_one false a b = refl

both_many : {A : Type 0} (xs ys us vs : List A) → length xs ≡ length us → length ys ≡ length vs → length (xs ++ ys) ≡ length (us ++ vs)
both_many xs ys us vs h k = omega (arith, length-append xs ys, length-append us vs, h, k)

steady_row : (runs : List Run) → length (flat_map run_texts (map steady_run runs)) ≡ length (flat_map run_texts runs)
steady_row [] = refl
steady_row (r ∷ runs) =
    both_many (run_texts (steady_run r)) (flat_map run_texts (map steady_run runs)) (run_texts r) (flat_map run_texts runs) (steady_one r.flags.link (steady_run r).text r.text) (steady_row runs)

steady_cells : (cells : List StyledRuns) → length (flat_map row_texts (map steady_runs cells)) ≡ length (flat_map row_texts cells)
steady_cells [] = refl
steady_cells (c ∷ cells) = both_many (row_texts (steady_runs c)) (flat_map row_texts (map steady_runs cells)) (row_texts c) (flat_map row_texts cells) (steady_row c.runs) (steady_cells cells)

steady_one_line : (line : LineContent) → length (line_texts (steady_line line)) ≡ length (line_texts line)
steady_one_line (normal row) = steady_row row.runs
steady_one_line (table_row cells) = steady_cells cells
steady_one_line (table_rule rule) = refl
steady_one_line horizontal_rule = refl

steady_texts : (lines : List LineContent) → length (link_texts (steady_lines lines)) ≡ length (link_texts lines)
unfolding steady_lines
steady_texts [] = refl
steady_texts (line ∷ lines) = both_many (line_texts (steady_line line)) (link_texts (map steady_line lines)) (line_texts line) (link_texts lines) (steady_one_line line) (steady_texts lines)

steady_fit : (at : ℕ) (links : List LinkSaid) (nss : List (List ℕ)) (sections : List SectionContent) → AreFit at links nss sections → AreFit at links nss (steady_sections sections)
steady_fit at links [] [] h = tt
steady_fit at links [] (s ∷ sections) h = absurd h
steady_fit at links (ns ∷ nss) [] h = absurd h
steady_fit at links (ns ∷ nss) (s ∷ sections) h = ((h.0.0 ∙ sym (steady_texts s.lines), h.0.1), steady_fit (at + 1) links nss sections h.1)

-- ---- marks

one_rising : (end value count : ℕ) → AreRising end (run_behind end value count)
one_rising end value zero = tt
one_rising end value (suc n) = (omega arith, tt)

end_behind : (end value count : ℕ) → end_from end (run_behind end value count) ≡ end + count
end_behind end value zero = omega arith
end_behind end value (suc n) = refl

all_rise : (end : ℕ) (ns : List ℕ) (ts : List (List ℕ)) → AreRising end (marks_behind end ns ts)
unfolding marks_behind
all_rise end [] ts = tt
all_rise end (n ∷ ns) [] = tt
all_rise end (n ∷ ns) (t ∷ ts) =
    let many : ℕ = count_of (chars t) in
    rising_joined end (run_behind end (first_link + n) many) (marks_behind (end + many) ns ts) (one_rising end (first_link + n) many)
    (subst (λ e. AreRising e (marks_behind (end + many) ns ts)) (sym (end_behind end (first_link + n) many)) (all_rise (end + many) ns ts))

one_value : (end value count : ℕ) → values_from end (run_behind end value count) ≡ replicate count value
one_value end value zero = refl
one_value end value (suc n) = let many : end + suc n - end ≡ suc n = omega arith in append-nil (replicate (end + suc n - end) value) ∙ ap (λ k. replicate k value) many

-- the values are those of each text, one after the other
values_behind : (end n : ℕ) (ns : List ℕ) (t : List ℕ) (ts : List (List ℕ)) → values_from end (marks_behind end (n ∷ ns) (t ∷ ts)) ≡ replicate (count_of (chars t)) (first_link + n) ++ values_from (end + count_of (chars t)) (marks_behind (end + count_of (chars t)) ns ts)
unfolding marks_behind
values_behind end n ns t ts =
    let many : ℕ = count_of (chars t) in
    let here : List MarkRun = run_behind end (first_link + n) many in
    let rest : List MarkRun = marks_behind (end + many) ns ts in
    values_joined end here rest ∙ ap (λ (l : List ℕ). l ++ values_from (end_from end here) rest) (one_value end (first_link + n) many) ∙ ap (λ e. replicate many (first_link + n) ++ values_from e rest) (end_behind end (first_link + n) many)

-- how many characters of texts are counted
abbrev counts : List (List ℕ) → ℕ
counts [] = 0
counts (t ∷ ts) = count_of (chars t) + counts ts

many_values : (end : ℕ) (ns : List ℕ) (ts : List (List ℕ)) → length ns ≡ length ts → length (values_from end (marks_behind end ns ts)) ≡ counts ts
unfolding marks_behind
many_values end [] [] e = refl
many_values end [] (t ∷ ts) e = absurd (omega (arith, e))
many_values end (n ∷ ns) [] e = absurd (omega (arith, e))
many_values end (n ∷ ns) (t ∷ ts) e =
    let many : ℕ = count_of (chars t) in
    ap (λ (l : List ℕ). length l) (values_behind end n ns t ts) ∙ length-append (replicate many (first_link + n)) (values_from (end + many) (marks_behind (end + many) ns ts))
    ∙ ap (λ k. k + length (values_from (end + many) (marks_behind (end + many) ns ts))) (length-replicate many (first_link + n)) ∙ ap (λ k. many + k) (many_values (end + many) ns ts (omega (arith, e)))

all_same : (P : ℕ → Type 0) (count v : ℕ) (rest : List ℕ) → P v → AllByRecursion P rest → AllByRecursion P (replicate count v ++ rest)
all_same P zero v rest h k = k
all_same P (suc n) v rest h k = (h, all_same P n v rest h k)

own_values : (links end : ℕ) (ns : List ℕ) (ts : List (List ℕ)) → AllByRecursion (λ n. n < links) ns → AllByRecursion (IsMarkOf links) (values_from end (marks_behind end ns ts))
unfolding marks_behind
own_values links end [] ts h = tt
own_values links end (n ∷ ns) [] h = tt
own_values links end (n ∷ ns) (t ∷ ts) h =
    let many : ℕ = count_of (chars t) in
    subst (AllByRecursion (IsMarkOf links)) (sym (values_behind end n ns t ts))
    (all_same (IsMarkOf links) many (first_link + n) _ (omega arith, omega (arith, h.0)) (own_values links (end + many) ns ts h.1))

-- ---- characters

counts_append : (xs ys : List (List ℕ)) → counts (xs ++ ys) ≡ counts xs + counts ys
counts_append [] ys = omega arith
counts_append (x ∷ xs) ys = ap (λ n. count_of (chars x) + n) (counts_append xs ys) ∙ omega arith

-- how many characters of these are counted
abbrev counted : List FlaggedChar → ℕ
counted cs = length (filter is_of_link cs)

counted_append : (xs ys : List FlaggedChar) → counted (xs ++ ys) ≡ counted xs + counted ys
counted_append xs ys = ap (λ (l : List FlaggedChar). length l) (filter-append is_of_link xs ys) ∙ length-append (filter is_of_link xs) (filter is_of_link ys)

kept_char : (t : Bool) (c : ℕ) (f : Flags) (cs : List ℕ) (rest : List FlaggedChar) → length rest ≡ length cs → length (if t then record { char = c; flags = f } ∷ rest else rest) ≡ length (if t then c ∷ cs else cs)
kept_char true c f cs rest e = ap suc e
kept_char false c f cs rest e = e

run_chars : (flags : Flags) (cs : List ℕ) → flags.link ≡ true → counted (flagged flags cs) ≡ count_of cs
run_chars flags [] e = refl
run_chars flags (c ∷ cs) e =
    ap (λ t. length (if t && not (is_whitespace c) then record { char = c; flags = flags } ∷ filter is_of_link (flagged flags cs) else filter is_of_link (flagged flags cs))) e
    ∙ kept_char (not (is_whitespace c)) c flags (filter (λ d. not (is_whitespace d)) cs) (filter is_of_link (flagged flags cs)) (run_chars flags cs e)

run_none : (flags : Flags) (cs : List ℕ) → flags.link ≡ false → counted (flagged flags cs) ≡ 0
run_none flags [] e = refl
run_none flags (c ∷ cs) e =
    ap (λ t. length (if t && not (is_whitespace c) then record { char = c; flags = flags } ∷ filter is_of_link (flagged flags cs) else filter is_of_link (flagged flags cs))) e ∙ run_none flags cs e

run_counts : (t : Bool) (r : Run) → r.flags.link ≡ t → counted (flagged r.flags (chars r.text)) ≡ counts (if t then r.text ∷ [] else [])
run_counts true r e = run_chars r.flags (chars r.text) e ∙ omega arith
run_counts false r e = run_none r.flags (chars r.text) e

row_counts : (runs : List Run) → counted (flat_map (λ (r : Run). flagged r.flags (chars r.text)) runs) ≡ counts (flat_map run_texts runs)
row_counts [] = refl
row_counts (r ∷ runs) =
    counted_append (flagged r.flags (chars r.text)) (flat_map (λ (r : Run). flagged r.flags (chars r.text)) runs) ∙ ap (λ n. n + counted (flat_map (λ (r : Run). flagged r.flags (chars r.text)) runs)) (run_counts r.flags.link r refl)
    ∙ ap (λ n. counts (run_texts r) + n) (row_counts runs) ∙ sym (counts_append (run_texts r) (flat_map run_texts runs))

cells_counts : (cells : List StyledRuns) → counted (flat_map row_chars cells) ≡ counts (flat_map row_texts cells)
cells_counts [] = refl
cells_counts (c ∷ cells) =
    counted_append (row_chars c) (flat_map row_chars cells) ∙ ap (λ n. n + counted (flat_map row_chars cells)) (row_counts c.runs)
    ∙ ap (λ n. counts (row_texts c) + n) (cells_counts cells) ∙ sym (counts_append (row_texts c) (flat_map row_texts cells))

line_counts : (line : LineContent) → counted (line_chars line) ≡ counts (line_texts line)
line_counts (normal row) = row_counts row.runs
line_counts (table_row cells) = cells_counts cells
line_counts (table_rule rule) = refl
line_counts horizontal_rule = refl

lines_counts : (lines : List LineContent) → counted (flat_map line_chars lines) ≡ counts (link_texts lines)
lines_counts [] = refl
lines_counts (line ∷ lines) =
    counted_append (line_chars line) (flat_map line_chars lines) ∙ ap (λ n. n + counted (flat_map line_chars lines)) (line_counts line)
    ∙ ap (λ n. counts (line_texts line) + n) (lines_counts lines) ∙ sym (counts_append (line_texts line) (link_texts lines))

-- ---- all of it

section_has : (links : ℕ) (ns : List ℕ) (s : SectionContent) → Fits links ns (link_texts s.lines) → HasLinkMarks links s (link_marks ns s.lines)
section_has links ns s h = record {
  rising = all_rise 0 ns (link_texts s.lines);
  each = many_values 0 ns (link_texts s.lines) h.0 ∙ sym (lines_counts s.lines);
  own = own_values links 0 ns (link_texts s.lines) h.1;
}

sections_have : (at : ℕ) (links : List LinkSaid) (nss : List (List ℕ)) (sections : List SectionContent) → AreFit at links nss sections → HaveLinkMarks at links sections (sections_link_marks nss sections)
sections_have at links [] [] h = tt
sections_have at links [] (s ∷ sections) h = absurd h
sections_have at links (ns ∷ nss) [] h = absurd h
sections_have at links (ns ∷ nss) (s ∷ sections) h = (section_has (links_in at links) ns s h.0, sections_have (at + 1) links nss sections h.1)

-- each section of what a text is shown as has marks for its links
pub links_have_marks : LinksHaveMarks
links_have_marks source =
    let text : List ℕ = Rattle.markdown_lines.specs.Texts.behind_mark source in
    sections_have 0 (unmarked_links text) (unmarked_numbers text) (steady_sections (printable_sections text)) (steady_fit 0 (unmarked_links text) (unmarked_numbers text) (printable_sections text) (source_fit text))

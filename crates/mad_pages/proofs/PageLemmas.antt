-- Pages laid out section by section.
use Rattle.std.proofs.Common.{◌≡◌, ℕ, ◌<◌, Bool, true, List, [], ◌∷◌, ◌++◌, map, length, Option, Some, None, refl, ap, sym, ◌∙◌, subst, arith, append_assoc, append-nil}
use Rattle.std.specs.List.{AllByRecursion}
use Rattle.std.proofs.lemmas.List.{map-append}
use Rattle.mad_md.specs.Lines.{LineContent}
use Rattle.mad_format.specs.LineRules.{LineRules}
use Rattle.mad_format.specs.Lists.{EachBecomes}
use Rattle.mad_format.specs.declared.line.FmtLine.{FmtLine}
use Rattle.mad_format.proofs.ListLemmas.{both_become}
use Rattle.mad_blocks.specs.Layouts.{IsLayoutAt}
use Rattle.mad_mark_runs.specs.declared.mark_runs.MarkRun.{MarkRun}
use Rattle.mad_sections.specs.Gutters.{room, shown}
use Rattle.mad_sections.specs.Sections.{SectionContent}
use Rattle.mad_sections.specs.declared.gutters.Gutter.{Gutter}
use Rattle.mad_blocks.specs.Tables.{table_rules}
use Rattle.mad_sections.specs.Unfolded.{unfolded}
use Rattle.mad_pages.specs.PageCursors.{LaidSection}
use Rattle.mad_pages.specs.PageLaws.{IsPlainAt, PlainIsLayout, PagesJoin, SectionsAreLayouts, LaterRowsAreOther}
use Rattle.mad_pages.specs.PageLayouts.{IsSectionAt, BecomesAt, IsPageAt}
use Rattle.mad_pages.specs.PageRows.{RowContent, row_content, behind, heads_behind, is_head, marks_from, number_behind}
use Rattle.mad_pages.specs.declared.page_rows.PageRow.{PageRow}

-- ---- rows behind gutters

-- a row more; the rows from here on are the same
pub row_more : (rows new : List PageRow) (row : PageRow) (marks : List MarkRun) (next : ℕ) (heads below : Bool) (rest : List FmtLine) → new ≡ rows ++ row ∷ [] → next ≡ number_behind row.marks.now row.number row.line → marks ≡ marks_from row.marks.now next
    → row.head ≡ is_head heads row.line → below ≡ heads_behind heads row.line
    → map row_content new ++ behind row.gutters.now 0 marks next below rest ≡ map row_content rows ++ behind row.gutters.now row.fresh row.marks.now row.number heads (row.line ∷ rest)
row_more rows new row marks next heads below rest h next_is marks_are head_is below_is =
    let after : List MarkRun → ℕ → List RowContent = λ m n. behind row.gutters.now 0 m n below rest in
    ap (λ (all : List PageRow). map row_content all ++ after marks next) h
    ∙ ap (λ (all : List RowContent). all ++ after marks next) (map-append row_content rows (row ∷ []))
    ∙ append_assoc (map row_content rows) (row_content row ∷ []) (after marks next)
    ∙ ap (λ (m : List MarkRun). map row_content rows ++ row_content row ∷ after m next) marks_are
    ∙ ap (λ (n : ℕ). map row_content rows ++ row_content row ∷ after (marks_from row.marks.now n) n) next_is
    ∙ ap (λ (b : Bool). map row_content rows ++ record (row_content row) { head = b } ∷ after (marks_from row.marks.now (number_behind row.marks.now row.number row.line)) (number_behind row.marks.now row.number row.line)) head_is
    ∙ ap (λ (b : Bool). map row_content rows ++ record (row_content row) { head = is_head heads row.line } ∷ behind row.gutters.now 0 (marks_from row.marks.now (number_behind row.marks.now row.number row.line)) (number_behind row.marks.now row.number row.line) b rest) below_is

-- ---- sections

one_section : (rules : LineRules) (ascii : Bool) (width : Option ℕ) (section : SectionContent) (own : List RowContent) → IsSectionAt rules ascii width section own → EachBecomes (IsSectionAt rules ascii width) (section ∷ []) own
one_section rules ascii width section own h = (own, [], sym (append-nil own), h, refl)

-- a section that is shown as it is
pub section_alone : (rules : LineRules) (ascii : Bool) (width : Option ℕ) (section shown : SectionContent) (own : List RowContent) → shown ∷ [] ≡ unfolded (table_rules rules) ascii width section → IsSectionAt rules ascii width shown own → BecomesAt rules ascii width section own
section_alone rules ascii width section shown own is h = subst (λ (all : List SectionContent). EachBecomes (IsSectionAt rules ascii width) all own) is (one_section rules ascii width shown own h)

-- one that is shown as a list
pub section_list : (rules : LineRules) (ascii : Bool) (width : Option ℕ) (section : SectionContent) (items : List SectionContent) (own : List RowContent) → items ≡ unfolded (table_rules rules) ascii width section → EachBecomes (IsSectionAt rules ascii width) items own → BecomesAt rules ascii width section own
section_list rules ascii width section items own is h = subst (λ (all : List SectionContent). EachBecomes (IsSectionAt rules ascii width) all own) is h

-- ---- the items of a list, one after the other

-- The rows that were there, and those of the items up to what is left.
pub record ItemsLaid (rules : LineRules) (ascii : Bool) (width : Option ℕ) (all left : List SectionContent) (before rows : List RowContent) : Type 0 where
  pub front : List SectionContent
  pub joins : all ≡ front ++ left
  pub own : List RowContent
  pub added : rows ≡ before ++ own
  pub layout : EachBecomes (IsSectionAt rules ascii width) front own

-- before the first item no row is put
pub no_item : (rules : LineRules) (ascii : Bool) (width : Option ℕ) (all : List SectionContent) (before : List RowContent) → ItemsLaid rules ascii width all all before before
no_item rules ascii width all before = record { front = []; joins = refl; own = []; added = sym (append-nil before); layout = refl }

-- the rows of one more item are put behind the others
pub item_more : (rules : LineRules) (ascii : Bool) (width : Option ℕ) (all left : List SectionContent) (item : SectionContent) (before rows new own : List RowContent) → ItemsLaid rules ascii width all (item ∷ left) before rows → new ≡ rows ++ own → IsSectionAt rules ascii width item own → ItemsLaid rules ascii width all left before new
item_more rules ascii width all left item before rows new own h is s = record {
  front = h.front ++ item ∷ [];
  joins = h.joins ∙ sym (append_assoc h.front (item ∷ []) left);
  own = h.own ++ own;
  added = is ∙ ap (λ (l : List RowContent). l ++ own) h.added ∙ append_assoc before h.own own;
  layout = both_become (IsSectionAt rules ascii width) h.front (item ∷ []) h.own own h.layout (one_section rules ascii width item own s);
}

-- where no item is left, the rows of all are put
pub items_whole : (rules : LineRules) (ascii : Bool) (width : Option ℕ) (all left : List SectionContent) (before rows : List RowContent) → ItemsLaid rules ascii width all left before rows → left ≡ []
    → (own : List RowContent) × (rows ≡ before ++ own) × EachBecomes (IsSectionAt rules ascii width) all own
items_whole rules ascii width all left before rows h none =
    let front : h.front ≡ all = sym (h.joins ∙ ap (λ (s : List SectionContent). h.front ++ s) none ∙ append-nil h.front) in
    (h.own, h.added, subst (λ (s : List SectionContent). EachBecomes (IsSectionAt rules ascii width) s h.own) front h.layout)

-- ---- one section after the other

-- The rows are those of the page up to what is left.
pub record LaidSoFar (rules : LineRules) (ascii : Bool) (width : Option ℕ) (all left : List SectionContent) (rows : List RowContent) : Type 0 where
  pub front : List SectionContent
  pub joins : all ≡ front ++ left
  pub layout : IsPageAt rules ascii width front rows

-- before the first section no row is laid out
pub laid_none : (rules : LineRules) (ascii : Bool) (width : Option ℕ) (all : List SectionContent) → LaidSoFar rules ascii width all all []
laid_none rules ascii width all = record { front = []; joins = refl; layout = refl }

-- the rows of one more section are laid out behind the others
pub laid_on : (rules : LineRules) (ascii : Bool) (width : Option ℕ) (all left after : List SectionContent) (rows new : List RowContent) → LaidSoFar rules ascii width all left rows → LaidSection rules ascii width left rows after new → LaidSoFar rules ascii width all after new
laid_on rules ascii width all left after rows new h p =
    let one : IsPageAt rules ascii width (p.first ∷ []) p.own = (p.own, [], sym (append-nil p.own), p.layout, refl) in
    record {
      front = h.front ++ p.first ∷ [];
      joins = h.joins ∙ ap (λ (s : List SectionContent). h.front ++ s) p.joins ∙ sym (append_assoc h.front (p.first ∷ []) after);
      layout = subst (IsPageAt rules ascii width (h.front ++ p.first ∷ [])) (sym p.added) (both_become (BecomesAt rules ascii width) h.front (p.first ∷ []) rows p.own h.layout one);
    }

-- behind a section fewer are left
pub laid_shorter : (rules : LineRules) (ascii : Bool) (width : Option ℕ) (left after : List SectionContent) (rows new : List RowContent) → LaidSection rules ascii width left rows after new → length after < length left
laid_shorter rules ascii width left after rows new p = omega (arith, ap length p.joins)

-- where no section is left, the rows are the page's
pub laid_whole : (rules : LineRules) (ascii : Bool) (width : Option ℕ) (all left : List SectionContent) (rows new : List RowContent) → LaidSoFar rules ascii width all left rows → left ≡ [] → new ≡ rows → IsPageAt rules ascii width all new
laid_whole rules ascii width all left rows new h none same =
    let front : h.front ≡ all = sym (h.joins ∙ ap (λ (s : List SectionContent). h.front ++ s) none ∙ append-nil h.front) in
    subst (IsPageAt rules ascii width all) (sym same) (subst (λ (s : List SectionContent). IsPageAt rules ascii width s rows) front h.layout)

-- ---- laws

-- lines behind gutters are these lines
pub lines_behind : (gutters : List Gutter) (fresh : ℕ) (marks : List MarkRun) (n : ℕ) (heads : Bool) (lines : List FmtLine) → map (λ (row : RowContent). row.line) (behind gutters fresh marks n heads lines) ≡ lines
lines_behind gutters fresh marks n heads [] = refl
lines_behind gutters fresh marks n heads (line ∷ lines) = ap (λ (ls : List FmtLine). line ∷ ls) (lines_behind gutters 0 (marks_from marks (number_behind marks n line)) (number_behind marks n line) (heads_behind heads line) lines)

gutters_behind : (gutters : List Gutter) (fresh : ℕ) (marks : List MarkRun) (n : ℕ) (heads : Bool) (lines : List FmtLine) → AllByRecursion (λ (row : RowContent). row.gutters ≡ gutters) (behind gutters fresh marks n heads lines)
gutters_behind gutters fresh marks n heads [] = tt
gutters_behind gutters fresh marks n heads (line ∷ lines) = (refl, gutters_behind gutters 0 (marks_from marks (number_behind marks n line)) (number_behind marks n line) (heads_behind heads line) lines)

-- the lines of a section's rows are a layout, and each row is behind the shown gutters
pub sections_are_layouts : SectionsAreLayouts
sections_are_layouts rules ascii width section rows s =
    let ends = shown ascii width section.gutters in
    let lines : map (λ (row : RowContent). row.line) rows ≡ s.lines = ap (λ (l : List RowContent). map (λ (row : RowContent). row.line) l) s.rows_are ∙ lines_behind ends section.fresh section.marks 0 true s.lines in
    record {
      layout = subst (IsLayoutAt rules (room ascii width section.gutters) section.lines) (sym lines) s.layout;
      gutters = subst (AllByRecursion (λ (row : RowContent). row.gutters ≡ ends)) (sym s.rows_are) (gutters_behind ends section.fresh section.marks 0 true s.lines);
    }

later_fresh : (gutters : List Gutter) (marks : List MarkRun) (n : ℕ) (heads : Bool) (lines : List FmtLine) → AllByRecursion (λ (row : RowContent). row.fresh ≡ 0) (behind gutters 0 marks n heads lines)
later_fresh gutters marks n heads [] = tt
later_fresh gutters marks n heads (line ∷ lines) = (refl, later_fresh gutters (marks_from marks (number_behind marks n line)) (number_behind marks n line) (heads_behind heads line) lines)

-- rows of which the first has so many first faces, and the others none
abbrev OnlyFirst : ℕ → List RowContent → Type 0
OnlyFirst fresh [] = Unit {0}
OnlyFirst fresh (row ∷ rows) = (row.fresh ≡ fresh) × AllByRecursion (λ (row : RowContent). row.fresh ≡ 0) rows

only_first : (gutters : List Gutter) (fresh : ℕ) (marks : List MarkRun) (n : ℕ) (heads : Bool) (lines : List FmtLine) → OnlyFirst fresh (behind gutters fresh marks n heads lines)
only_first gutters fresh marks n heads [] = tt
only_first gutters fresh marks n heads (line ∷ lines) = (refl, later_fresh gutters (marks_from marks (number_behind marks n line)) (number_behind marks n line) (heads_behind heads line) lines)

-- no row of a section has first faces but its first one
pub later_rows : LaterRowsAreOther
later_rows rules ascii width section first others s = subst (OnlyFirst section.fresh) (sym s.rows_are) (only_first (shown ascii width section.gutters) section.fresh section.marks 0 true s.lines)

-- the rows of two pages are those of both together
pub pages_join : PagesJoin
pages_join rules ascii width page more rows others h m = both_become (BecomesAt rules ascii width) page more rows others h m

no_gutters : (ascii : Bool) (width : Option ℕ) → shown ascii width [] ≡ []
no_gutters ascii None = refl
no_gutters ascii (Some width) = refl

whole_room : (ascii : Bool) (width : Option ℕ) → room ascii width [] ≡ width
whole_room ascii None = refl
whole_room ascii (Some width) = ap Some (omega arith)

-- a section without gutters, which is told no gutters of a list, is shown as it is
plain_one : (rules : LineRules) (ascii : Bool) (width : Option ℕ) (text : List LineContent) (own : List RowContent) → BecomesAt rules ascii width (record { gutters = []; fresh = 0; list = None; marks = []; lines = text }) own → EachBecomes (IsSectionAt rules ascii width) (record { gutters = []; fresh = 0; list = None; marks = []; lines = text } ∷ []) own
plain_one rules ascii None text own h = h
plain_one rules ascii (Some width) text own h = h

-- the rows of such a section are those of its text
plain_text : (rules : LineRules) (ascii : Bool) (width : Option ℕ) (text : List LineContent) (own : List RowContent)
    → EachBecomes (IsSectionAt rules ascii width) (record { gutters = []; fresh = 0; list = None; marks = []; lines = text } ∷ []) own → IsPlainAt rules width text own
plain_text rules ascii width text own (one, none, own_is, s, none_is) = (
  s.lines,
  subst (λ (w : Option ℕ). IsLayoutAt rules w text s.lines) (whole_room ascii width) s.layout,
  own_is ∙ ap (λ (l : List RowContent). one ++ l) none_is ∙ append-nil one ∙ s.rows_are ∙ ap (λ (gs : List Gutter). behind gs 0 [] 0 true s.lines) (no_gutters ascii width),
)

-- a page without gutters has the rows of its texts
pub plain : PlainIsLayout
plain rules ascii width [] rows h = h
plain rules ascii width (text ∷ texts) rows (own, others, joins, becomes, more) =
    (own, others, joins, plain_text rules ascii width text own (plain_one rules ascii width text own becomes), plain rules ascii width texts others more)

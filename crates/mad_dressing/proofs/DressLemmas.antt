-- What is put into a page leaves its text as it is.
use Rattle.std.proofs.Common.{◌≡◌, ◌⊎◌, inl, inr, ℕ, Bool, true, false, if◌then◌else◌, List, [], ◌∷◌, ◌++◌, map, Option, Some, None, refl, ap, sym, subst, ◌∙◌, arith, append-nil, not, ◌&&◌}
use Rattle.std.specs.Prelude.{nat_lt}
use Rattle.std.proofs.lemmas.Bool.{false≢true}
use Rattle.std.proofs.lemmas.Bool.Decides.{nat_tests}
use Rattle.std.proofs.lemmas.Grind.{flat_map-append}
use Rattle.mad_sections.specs.Sections.{SectionContent}
use Rattle.mad_md.specs.Flagged.{FlaggedChar}
use Rattle.mad_md.specs.Lines.{LineContent, normal, table_row, table_rule, horizontal_rule}
use Rattle.mad_md.specs.declared.composite.CompositeStyle.{CompositeStyle}
use Rattle.mad_md.specs.declared.composite.CompositeStyle.TheVariants.{Paragraph, Header, ListItem, OrderedListItem, ListItemFollowUp, Code, Quote}
use Rattle.mad_sections.specs.declared.gutters.Gutter.{Gutter}
use Rattle.mad_sections.specs.declared.gutters.Gutter.TheVariants.{Below, Signs}
use Rattle.mad_sections.proofs.Choices.{by_bool}
use Rattle.mad_dressing.specs.Dressed.{Beside, Put, nothing, rule_below, signs_before, dressed, dressed_by, dressed_by_each, dressed_page, filled, header_level, heading_level, beside_at, placed_by, put_with}
use Rattle.mad_dressing.specs.DressLaws.{AddsMarksAlone, HasMarks, IsRuled, IsSigned, OthersStay, TextStays, all_text, sections_text}
use Rattle.mad_dressing.specs.PictureSigns.{have_pictures}
use Rattle.mad_dressing.specs.WordMarks.{begin_code, is_code_style, worded, worded_if}
use Rattle.mad_dressing.proofs.SignLemmas.{code_unsigned, filled_lines, filled_text, unsigned}
use Rattle.mad_dressing.specs.declared.page_marks.PageMarks.{PageMarks}

text_by : (beside : Beside) (section : SectionContent) → sections_text (placed_by beside section) ≡ all_text section.lines
text_by nothing section = append-nil (all_text section.lines)
text_by (rule_below gutters) section = append-nil (all_text section.lines)
text_by (signs_before gutters) section = append-nil (all_text section.lines)

-- without marks at words and without a picture a section is as it is
unfilled : (marks : PageMarks) (section : SectionContent) → marks.headings.words ≡ false → have_pictures section.lines ≡ false → filled marks section ≡ section
unfilled marks section none plain =
    unsigned marks.sign section.lines (worded marks.headings.words section) plain ∙ ap (λ (t : Bool). worded t section) none

-- the text of the sections that are shown is that of the one in whose place they are, with marks and signs or as it is
pub text_stays : TextStays
text_stays = record {
  placed = λ marks section. filled_lines marks.sign marks.headings.words section;
  marked = λ marks section.
      subst (HasMarks marks.sign (all_text section.lines)) (sym (text_by (put_with marks section).beside (filled marks section))) (filled_text marks.sign marks.headings.words section);
  unmarked = λ marks section none plain.
      text_by (put_with marks section).beside (filled marks section) ∙ ap (λ (s : SectionContent). all_text s.lines) (unfilled marks section none plain);
}

-- what is shown is a section alone, or a heading with a rule or signs
abbrev IsDressed : PageMarks → SectionContent → List SectionContent → Type 0
IsDressed marks section shown = (shown ≡ filled marks section ∷ []) ⊎ (IsRuled marks section shown ⊎ IsSigned marks section shown)

adds_at : (marks : PageMarks) (section : SectionContent) (level : Option ℕ) → heading_level section.lines ≡ level → IsDressed marks section (placed_by (beside_at marks.headings section.gutters level) (filled marks section))
adds_at marks section None is = inl refl
adds_at marks section (Some level) is =
    let own = filled marks section in
    let ruled : List Gutter = section.gutters ++ Below level ∷ [] in
    let marked : List Gutter = section.gutters ++ Signs level ∷ [] in
    by_bool (λ t. IsDressed marks section (placed_by (if t then rule_below ruled else if marks.headings.signs then signs_before marked else nothing) own)) (nat_lt level marks.headings.rules)
    (λ first. inr (inl (record { level = level; heading = is; first = grind (arith, nat_tests, first); shown_are = refl })))
    (λ other. by_bool (λ t. IsDressed marks section (placed_by (if t then signs_before marked else nothing) own)) marks.headings.signs
    (λ signs. inr (inr (record { level = level; heading = is; other = grind (arith, nat_tests, other); signs = signs; shown_are = refl })))
    (λ none. inl refl))

-- what is new is marks and signs, a rule below a heading, or the signs in front of one
pub adds_marks_alone : AddsMarksAlone
adds_marks_alone marks section = adds_at marks section (heading_level section.lines) refl

unmarked_at : (marks : PageMarks) (section : SectionContent) (level : Option ℕ) → marks.headings.rules ≡ 0 → marks.headings.signs ≡ false → placed_by (beside_at marks.headings section.gutters level) section ≡ section ∷ []
unmarked_at marks section None none without = refl
unmarked_at marks section (Some level) none without =
    let ruled : List Gutter = section.gutters ++ Below level ∷ [] in
    let marked : List Gutter = section.gutters ++ Signs level ∷ [] in
    let off : nat_lt level marks.headings.rules ≡ false = grind (arith, nat_tests, none) in
    ap (λ (t : Bool). placed_by (if t then rule_below ruled else if marks.headings.signs then signs_before marked else nothing) section) off
    ∙ ap (λ (t : Bool). placed_by (if t then signs_before marked else nothing) section) without

-- code is no heading
style_heading : (style : CompositeStyle) → is_code_style style ≡ true → header_level style ≡ None
style_heading Paragraph is = refl
style_heading (Header level) is = absurd (false≢true is)
style_heading (ListItem level) is = refl
style_heading (OrderedListItem level index) is = refl
style_heading (ListItemFollowUp level) is = refl
style_heading Code is = refl
style_heading Quote is = refl

code_heading : (lines : List LineContent) → begin_code lines ≡ true → heading_level lines ≡ None
code_heading [] is = refl
code_heading (normal said ∷ lines) is = style_heading said.style is
code_heading (table_row cells ∷ lines) is = refl
code_heading (table_rule aligns ∷ lines) is = refl
code_heading (horizontal_rule ∷ lines) is = refl

unworded : (words code : Bool) (section : SectionContent) → code ≡ true → worded_if (words && not code) section ≡ section
unworded true code section is = ap (λ (c : Bool). worded_if (not c) section) is
unworded false code section is = refl

code_stays : (marks : PageMarks) (section : SectionContent) → begin_code section.lines ≡ true → dressed marks section ≡ section ∷ []
code_stays marks section is =
    ap (placed_by (put_with marks section).beside) (code_unsigned marks.sign section.lines (worded marks.headings.words section) is ∙ unworded marks.headings.words (begin_code section.lines) section is)
    ∙ ap (λ (level : Option ℕ). placed_by (beside_at marks.headings section.gutters level) section) (code_heading section.lines is)

-- so is what is placed
bare : (marks : PageMarks) (section : SectionContent) (beside : Beside) → marks.headings.words ≡ false → have_pictures section.lines ≡ false → placed_by beside (filled marks section) ≡ placed_by beside section
bare marks section beside none plain = ap (placed_by beside) (unfilled marks section none plain)

-- a section of code stays; so does one without a picture that is no heading where no marks stand at words, and each where headings have neither
pub others_stay : OthersStay
others_stay = record {
  code = code_stays;
  text = λ marks section none plain other.
      bare marks section (put_with marks section).beside none plain ∙ ap (λ (level : Option ℕ). placed_by (beside_at marks.headings section.gutters level) section) other;
  unmarked = λ marks section none plain unruled without.
      bare marks section (put_with marks section).beside none plain ∙ unmarked_at marks section (heading_level section.lines) unruled without;
}

-- ---- whole pages

-- with what is put there with each section, a page is dressed
pub each_dressed : (marks : PageMarks) (page : List SectionContent) → dressed_by_each (map (put_with marks) page) page ≡ dressed_page marks page
each_dressed marks [] = refl
each_dressed marks (section ∷ page) = ap (λ (rest : List SectionContent). dressed_by (put_with marks section) section ++ rest) (each_dressed marks page)

-- so is one by what says the same
pub page_dressed : (marks : PageMarks) (puts : List Put) (page : List SectionContent) → puts ≡ map (put_with marks) page → dressed_by_each puts page ≡ dressed_page marks page
page_dressed marks puts page is = ap (λ (ps : List Put). dressed_by_each ps page) is ∙ each_dressed marks page

-- the sections that are shown of two pages, one after the other, are those of both
pub pages_dressed : (marks : PageMarks) (page more : List SectionContent) → dressed_page marks (page ++ more) ≡ dressed_page marks page ++ dressed_page marks more
pages_dressed marks page more = flat_map-append (dressed marks) page more

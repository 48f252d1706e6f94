-- Laws of what is put into a page.
use Rattle.std.specs.Prelude.{◌≡◌, ◌⊎◌, ◌<◌, ◌≤◌, ◌==◌, ◌||◌, ℕ, Bool, true, false, List, [], ◌∷◌, ◌++◌, chars, Some, None}
use Rattle.std.specs.List.{AllByRecursion, AllZip, Contains, flat_map}
use Rattle.mad_md.specs.Flagged.{FlaggedChar, unflagged}
use Rattle.mad_md.specs.Lines.{LineContent, StyledRuns, normal, table_row, table_rule, horizontal_rule}
use Rattle.mad_sections.specs.Sections.{SectionContent}
use Rattle.mad_sections.specs.TableTexts.{runs_text}
use Rattle.mad_sections.specs.UnfoldLaws.{IsMadeOfBoth, row_text}
use Rattle.mad_sections.specs.declared.gutters.Gutter.TheVariants.{Below, Signs}
use Rattle.mad_dressing.specs.Dressed.{dressed, filled, heading_level, rule_behind, signed}
use Rattle.mad_dressing.specs.PictureSigns.{have_pictures, sign_flags, sign_text}
use Rattle.mad_dressing.specs.WordMarks.{begin_code}
use Rattle.mad_dressing.specs.declared.page_marks.PageMarks.{PageMarks}

-- ---- the text

-- the flagged text of a line, or of a row's cells one after another
abbrev pub said_text : LineContent → List FlaggedChar
said_text (normal said) = runs_text said.runs
said_text (table_row cells) = row_text cells
said_text _ = []

-- that of lines
abbrev pub all_text : List LineContent → List FlaggedChar
all_text lines = flat_map said_text lines

-- that of sections
abbrev pub sections_text : List SectionContent → List FlaggedChar
sections_text sections = flat_map (λ (section : SectionContent). all_text section.lines) sections

-- the character of a mark: [ ] _ * ~ or a backquote
abbrev pub is_mark : ℕ → Bool
is_mark c = (c == 91) || ((c == 93) || ((c == 95) || ((c == 42) || ((c == 126) || (c == 96)))))

-- it is one, and has no flag
abbrev pub IsWordMark : FlaggedChar → Type 0
IsWordMark x = (x.flags ≡ unflagged) × (is_mark x.char ≡ true)

-- a character of a picture's sign, which is this one and a space, with the flags of such signs alone
abbrev pub IsSign : ℕ → FlaggedChar → Type 0
IsSign sign x = (x.flags ≡ sign_flags) × Contains (chars (sign_text sign)) x.char

-- the one or the other
abbrev pub IsMark : ℕ → FlaggedChar → Type 0
IsMark sign x = IsWordMark x ⊎ IsSign sign x

-- A text is another with marks and with such signs: each of its characters is the next of the other, or one of those, and none of the other is left.
pub record HasMarks (sign : ℕ) (own shown : List FlaggedChar) : Type 0 where
  pub marks : List FlaggedChar
  pub made : IsMadeOfBoth own marks shown
  pub are_marks : AllByRecursion (IsMark sign) marks

-- a composite or a cell is another with marks and signs: of the same style, and its text with these
pub record IsMarkedText (sign : ℕ) (own shown : StyledRuns) : Type 0 where
  pub style : own.style ≡ shown.style
  pub text : HasMarks sign (runs_text own.runs) (runs_text shown.runs)

-- a line is another with marks and signs: of the same kind, and cell by cell
abbrev pub IsMarkedLine : ℕ → LineContent → LineContent → Type 0
IsMarkedLine sign (normal own) (normal shown) = IsMarkedText sign own shown
IsMarkedLine sign (table_row cells) (table_row shown) = AllZip (IsMarkedText sign) cells shown
IsMarkedLine sign (table_rule aligns) (table_rule shown) = aligns ≡ shown
IsMarkedLine sign horizontal_rule horizontal_rule = Unit {0}
IsMarkedLine sign _ _ = ⊥

-- so it is with each line of a section, in order
abbrev pub AreMarkedLines : ℕ → List LineContent → List LineContent → Type 0
AreMarkedLines sign lines shown = AllZip (IsMarkedLine sign) lines shown

-- The text of the sections that are shown is that of the one in whose place they are, with marks and signs; where no marks stand at words, and nothing is said of a
-- picture, it is that text. Marks and signs stand in the line and the cell of their words.
pub record TextStays : Type 0 where
  pub placed : (marks : PageMarks) (section : SectionContent) → AreMarkedLines marks.sign section.lines (filled marks section).lines
  pub marked : (marks : PageMarks) (section : SectionContent) → HasMarks marks.sign (all_text section.lines) (sections_text (dressed marks section))
  pub unmarked : (marks : PageMarks) (section : SectionContent) → marks.headings.words ≡ false → have_pictures section.lines ≡ false → sections_text (dressed marks section) ≡ all_text section.lines

-- ---- the sections

-- Sections are a heading of a level that has a rule, and below it a rule behind the same gutters.
pub record IsRuled (marks : PageMarks) (section : SectionContent) (shown : List SectionContent) : Type 0 where
  pub level : ℕ
  pub heading : heading_level section.lines ≡ Some level
  pub first : level < marks.headings.rules
  pub shown_are : shown ≡ filled marks section ∷ rule_behind (section.gutters ++ Below level ∷ []) ∷ []

-- A section is a heading of another level, behind its signs.
pub record IsSigned (marks : PageMarks) (section : SectionContent) (shown : List SectionContent) : Type 0 where
  pub level : ℕ
  pub heading : heading_level section.lines ≡ Some level
  pub other : marks.headings.rules ≤ level
  pub signs : marks.headings.signs ≡ true
  pub shown_are : shown ≡ signed (section.gutters ++ Signs level ∷ []) (filled marks section) ∷ []

-- A section is alone, or is a heading with its rule, or one with its signs; in each case with its marks, where they stand at words, and with the signs of its pictures.
abbrev pub AddsMarksAlone : Type 0
AddsMarksAlone = (marks : PageMarks) (section : SectionContent)
    → (dressed marks section ≡ filled marks section ∷ []) ⊎ (IsRuled marks section (dressed marks section) ⊎ IsSigned marks section (dressed marks section))

-- A section of code stays. Where no marks stand at words, one that says nothing of a picture and is no heading does, and each that says nothing of one where headings
-- have neither rules nor signs.
pub record OthersStay : Type 0 where
  pub code : (marks : PageMarks) (section : SectionContent) → begin_code section.lines ≡ true → dressed marks section ≡ section ∷ []
  pub text : (marks : PageMarks) (section : SectionContent) → marks.headings.words ≡ false → have_pictures section.lines ≡ false → heading_level section.lines ≡ None → dressed marks section ≡ section ∷ []
  pub unmarked : (marks : PageMarks) (section : SectionContent) → marks.headings.words ≡ false → have_pictures section.lines ≡ false → marks.headings.rules ≡ 0 → marks.headings.signs ≡ false → dressed marks section ≡ section ∷ []

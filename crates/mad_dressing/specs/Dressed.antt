-- What stands in rows and isn't the text's own, put into the sections of a page.
use Rattle.std.specs.Prelude.{ℕ, zero, suc, ◌+◌, min, nat_lt, if◌then◌else◌, Bool, List, [], ◌∷◌, ◌++◌, length, Option, Some, None, option_map, string_bytes}
use Rattle.std.specs.List.{flat_map}
use Rattle.mad_md.specs.Lines.{LineContent, normal, horizontal_rule}
use Rattle.mad_md.specs.declared.composite.CompositeStyle.{CompositeStyle}
use Rattle.mad_md.specs.declared.composite.CompositeStyle.TheVariants.{Header}
use Rattle.mad_sections.specs.Sections.{SectionContent, section_content}
use Rattle.mad_sections.specs.declared.gutters.Gutter.{Gutter}
use Rattle.mad_sections.specs.declared.gutters.Gutter.TheVariants.{Below, Signs}
use Rattle.mad_dressing.specs.declared.heading_marks.HeadingMarks.{HeadingMarks}
use Rattle.mad_dressing.specs.declared.page_marks.PageMarks.{PageMarks}
use Rattle.mad_dressing.specs.declared.dressings.Dressing.{Dressing}
use Rattle.mad_dressing.specs.declared.dressings.HeadingDressing.{HeadingDressing}
use Rattle.mad_dressing.specs.declared.dressings.HeadingDressing.TheVariants as dressing
use Rattle.mad_dressing.specs.declared.dressed_sections.Dressed.{Dressed}
use Rattle.mad_dressing.specs.PictureSigns.{pictured, sign_for}
use Rattle.mad_dressing.specs.WordMarks.{worded}

-- ---- headings

-- the level of a line of this style, counted from 0, if it is a heading
abbrev pub header_level : CompositeStyle → Option ℕ
header_level (Header zero) = None
header_level (Header (suc level)) = Some level
header_level _ = None

-- the same of a line
abbrev pub line_level : LineContent → Option ℕ
line_level (normal said) = header_level said.style
line_level _ = None

-- the level of a heading, if lines begin with one
abbrev pub heading_level : List LineContent → Option ℕ
heading_level [] = None
heading_level (line ∷ lines) = line_level line

-- ---- what is put into a page

-- what stands beside a heading: nothing, a rule below it, behind these gutters, or signs in front of it, which are the last of these
pub data Beside : Type 0 where
  nothing : Beside
  rule_below : List Gutter → Beside
  signs_before : List Gutter → Beside

-- what is put there with a section: what stands beside it, if it is a heading, whether marks stand at its words, and the sign in front of its pictures, if it has any
pub record Put : Type 0 where
  pub beside : Beside
  pub words : Bool
  pub sign : Option (List ℕ)

-- what stands beside a section behind these gutters, if it is a heading of this level: the first levels have rules, others may have signs
abbrev pub beside_at : HeadingMarks → List Gutter → Option ℕ → Beside
beside_at marks gutters None = nothing
beside_at marks gutters (Some level) =
    if nat_lt level marks.rules then rule_below (gutters ++ Below level ∷ [])
    else if marks.signs then signs_before (gutters ++ Signs level ∷ [])
    else nothing

-- what is put there with a section
abbrev pub put_with : PageMarks → SectionContent → Put
put_with marks section =
    record { beside = beside_at marks.headings section.gutters (heading_level section.lines); words = marks.headings.words; sign = sign_for marks.sign section.lines }

-- a section that is one rule, behind these gutters; none begins with it
abbrev pub rule_behind : List Gutter → SectionContent
rule_behind gutters = record { gutters = gutters; fresh = 0; list = None; marks = []; lines = horizontal_rule ∷ [] }

-- a section behind its gutters and one more, which begins with it
abbrev pub signed : List Gutter → SectionContent → SectionContent
signed gutters section = record { gutters = gutters; fresh = min section.fresh (length section.gutters) + 1; list = section.list; marks = section.marks; lines = section.lines }

-- the sections that are shown in the place of one, with what stands beside it
abbrev pub placed_by : Beside → SectionContent → List SectionContent
placed_by nothing section = section ∷ []
placed_by (rule_below gutters) section = section ∷ rule_behind gutters ∷ []
placed_by (signs_before gutters) section = signed gutters section ∷ []

-- a section with the marks and the signs that are put into its text
abbrev pub filled_by : Put → SectionContent → SectionContent
filled_by put section = pictured put.sign (worded put.words section)

-- a section with marks at its words, or without, and with this sign in front of what is said of each picture
abbrev pub filled_at : Bool → ℕ → SectionContent → SectionContent
filled_at words sign section = pictured (sign_for sign section.lines) (worded words section)

-- the same with what stands in a page
abbrev pub filled : PageMarks → SectionContent → SectionContent
filled marks section = filled_at marks.headings.words marks.sign section

-- the sections that are shown in the place of one, with what is put there
abbrev pub dressed_by : Put → SectionContent → List SectionContent
dressed_by put section = placed_by put.beside (filled_by put section)

-- The sections that are shown in the place of one: a heading with the rule below it or the signs in front of it, and each with marks at its words or without, and
-- with a sign in front of what is said of each of its pictures.
abbrev pub dressed : PageMarks → SectionContent → List SectionContent
dressed marks section = dressed_by (put_with marks section) section

-- the sections that are shown of a page
abbrev pub dressed_page : PageMarks → List SectionContent → List SectionContent
dressed_page marks page = flat_map (dressed marks) page

-- those with what is put there with each, in order; those past the last one stay
abbrev pub dressed_by_each : List Put → List SectionContent → List SectionContent
dressed_by_each puts [] = []
dressed_by_each [] (section ∷ page) = section ∷ dressed_by_each [] page
dressed_by_each (put ∷ puts) (section ∷ page) = dressed_by put section ++ dressed_by_each puts page

-- ---- what values say

-- what a value says that stands beside a heading
abbrev pub beside_of : HeadingDressing → Beside
beside_of dressing.Nothing = nothing
beside_of (dressing.Rule gutters) = rule_below gutters.items
beside_of (dressing.Signs gutters) = signs_before gutters.items

-- what a dressing puts there
abbrev pub put_of : Dressing → Put
put_of d = record { beside = beside_of d.beside; words = d.words; sign = option_map string_bytes d.sign }

-- a section that may be there
abbrev pub maybe_section : Option SectionContent → List SectionContent
maybe_section None = []
maybe_section (Some section) = section ∷ []

-- what the sections say that are shown
abbrev pub sections_dressed : Dressed → List SectionContent
sections_dressed d = section_content d.section ∷ maybe_section (option_map section_content d.rule)

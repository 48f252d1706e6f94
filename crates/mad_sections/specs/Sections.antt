-- What a page says, whatever the addresses of its slices.
use Rattle.std.specs.Prelude.{ℕ, List, map, Option, option_map}
use Rattle.mad_mark_runs.specs.declared.mark_runs.MarkRun.{MarkRun}
use Rattle.mad_md.specs.Lines.{LineContent, contents}
use Rattle.mad_sections.specs.declared.gutters.Gutter.{Gutter}
use Rattle.mad_sections.specs.declared.sections.Page.{Page}
use Rattle.mad_sections.specs.declared.sections.Section.{Section}

-- the lines of a leaf, the gutters in front of them, the outermost first, and how many of the last of these begin with it; of a table that
-- may be shown as a list the gutters of the items too; the marks of its counted characters
pub record SectionContent : Type 0 where
  pub gutters : List Gutter
  pub fresh : ℕ
  pub list : Option (List Gutter)
  pub marks : List MarkRun
  pub lines : List LineContent

-- what a section says
abbrev pub section_content : Section → SectionContent
section_content s = record { gutters = s.gutters.now; fresh = s.fresh; list = option_map (λ gs. gs.now) s.list; marks = s.marks.now; lines = contents s.text }

-- what the sections of a page say, from the first to the last
abbrev pub page_content : Page → List SectionContent
page_content page = map section_content page.sections.items

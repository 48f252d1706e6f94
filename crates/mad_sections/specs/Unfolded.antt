-- Tables that have no room in their sections are lists.
use Rattle.std.specs.Prelude.{ℕ, ◌+◌, ◌==◌, min, Bool, not, ◌&&◌, List, [], ◌∷◌, length, Option, Some, None, if◌then◌else◌}
use Rattle.mad_md.specs.Lines.{LineContent}
use Rattle.mad_sections.specs.Gutters.{room}
use Rattle.mad_sections.specs.Sections.{SectionContent}
use Rattle.mad_sections.specs.declared.gutters.Gutter.{Gutter}
use Rattle.mad_sections.specs.Items.{items_of}
use Rattle.mad_sections.specs.declared.table_rooms.TableRules.{TableRules}
use Rattle.mad_sections.specs.TableTexts.{are_table, rows_in, has_room}

-- lines are a table of some rows that has no room
abbrev pub lacks_room : TableRules → ℕ → List LineContent → Bool
lacks_room rules room lines = are_table lines && not (length (rows_in lines) == 0) && not (has_room rules room lines)

-- items, each behind these gutters, the last of which begins with it; so do with the first item so many of those before
abbrev pub list_sections : List Gutter → ℕ → List (List LineContent) → List SectionContent
list_sections gutters fresh [] = []
list_sections gutters fresh (lines ∷ items) = record { gutters = gutters; fresh = fresh + 1; list = None; marks = []; lines = lines } ∷ list_sections gutters 0 items

-- the sections of a list in the place of a section
abbrev pub as_list : ℕ → List Gutter → SectionContent → List SectionContent
as_list room gutters section = list_sections gutters (min section.fresh (length section.gutters)) (items_of room (rows_in section.lines))

-- what is shown of a section in a room, if there is one, where it may be a list behind these gutters, or may not
abbrev pub unfolded_in : TableRules → Option ℕ → Option (List Gutter) → SectionContent → List SectionContent
unfolded_in rules None list section = section ∷ []
unfolded_in rules (Some room) None section = section ∷ []
unfolded_in rules (Some room) (Some gutters) section = if lacks_room rules room section.lines then as_list room gutters section else section ∷ []

-- the sections that are shown in the place of one at a width, if there is one: a table that has no room is a list, all else stays
abbrev pub unfolded : TableRules → Bool → Option ℕ → SectionContent → List SectionContent
unfolded rules ascii width section = unfolded_in rules (room ascii width section.gutters) section.list section

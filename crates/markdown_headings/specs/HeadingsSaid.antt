-- What headings say, whatever the places of their texts.
use Rattle.std.specs.Prelude.{ℕ, List, string_bytes}
use Rattle.markdown_headings.specs.Headings.{TitleSaid}
use Rattle.markdown_headings.specs.Named.{HeadingSaid}
use Rattle.markdown_headings.specs.declared.naming.Heading.{Heading}
use Rattle.markdown_headings.specs.declared.titles.Title.{Title}

-- what a heading without a name says
abbrev pub title_said : Title → TitleSaid
title_said title = record { level = title.level; section = title.section; text = string_bytes title.text; words = string_bytes title.words }

-- what a heading says
abbrev pub heading_said : Heading → HeadingSaid
heading_said heading = record { level = heading.level; section = heading.section; text = string_bytes heading.text; name = string_bytes heading.name }

-- the section of a heading
abbrev pub section_of : Heading → ℕ
section_of heading = heading.section

-- the name of a heading
abbrev pub name_said : Heading → List ℕ
name_said heading = string_bytes heading.name

-- Headings and thematic breaks, each of which is a line of its own.
use Rattle.std.specs.Prelude.{◌≡◌, ℕ, ◌<◌, true, List, [], ◌∷◌, ◌++◌, map, drop, replicate, Some}
use Rattle.markdown_marks.specs.Headings.{heading_text}
use Rattle.markdown_marks.specs.Marks.{heading_level, is_rule}
use Rattle.markdown_blocks.specs.Lines.{text_lines}
use Rattle.markdown_leaves.specs.Parts.{BlockContent, block}
use Rattle.markdown_leaves.specs.Told.{parts_of}
use Rattle.markdown_leaves.specs.declared.parts.Kind.TheVariants.{Heading, Rule}
use Rattle.markdown_laws.specs.Fences.{text_of}

-- the first line of a text is so many spaces, three at most, and then these bytes; the others are another text
pub record BeginsWith (text : List ℕ) (indent : ℕ) (bytes after : List ℕ) : Type 0 where
  pub few : indent < 4
  pub lines : text_lines text ≡ (replicate indent 32 ++ bytes) ∷ text_lines after

-- A line that begins as a heading is one: its text is what is behind the signs #, without blanks at both ends and without
-- the signs that close it. What comes after is read as a text of its own.
abbrev pub HeadingIsItsLine : Type 0
HeadingIsItsLine = (text bytes after : List ℕ) (indent level : ℕ) → BeginsWith text indent bytes after → heading_level bytes ≡ Some level
    → (heading : BlockContent) × (heading.kind ≡ Heading level) × (map text_of heading.lines ≡ heading_text (drop level bytes) ∷ []) × (parts_of text ≡ block heading ∷ parts_of after)

-- So is a thematic break in a text's first line.
abbrev pub BreakIsItsLine : Type 0
BreakIsItsLine = (text bytes after : List ℕ) (indent : ℕ) → BeginsWith text indent bytes after → is_rule bytes ≡ true
    → (rule : BlockContent) × (rule.kind ≡ Rule) × (parts_of text ≡ block rule ∷ parts_of after)

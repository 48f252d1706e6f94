-- Headings, thematic breaks and code between fences: what their lines are, in words, and what is read of them.
use Rattle.std.specs.Prelude.{◌≡◌, ℕ, ◌<◌, List, [], ◌∷◌, ◌++◌, map, replicate}
use Rattle.markdown_marks.specs.Headings.{heading_text}
use Rattle.markdown_blocks.specs.Lines.{text_lines}
use Rattle.markdown_leaves.specs.Parts.{BlockContent, block}
use Rattle.markdown_leaves.specs.Told.{parts_of}
use Rattle.markdown_leaves.specs.declared.parts.Kind.TheVariants.{Heading, Rule}
use Rattle.markdown_laws.specs.Fences.{IsCode, text_of}
use Rattle.markdown_sign_laws.specs.Breaks.{IsBreak}
use Rattle.markdown_sign_laws.specs.Fences.{ClosesCode, IsFence}
use Rattle.markdown_sign_laws.specs.Headings.{IsHeading}
use Rattle.markdown_sign_laws.specs.TextLines.{BeginsWithLine}

-- a line is so many spaces, three at most, and then these bytes
pub record IsBehind (line : List ℕ) (indent : ℕ) (bytes : List ℕ) : Type 0 where
  pub few : indent < 4
  pub whole : line ≡ replicate indent 32 ++ bytes

-- A text begins with a line that is said to be a heading. It has this heading, with what is behind its signs, and then the parts of the text behind the line.
abbrev pub HeadingIsRead : Type 0
HeadingIsRead = (text line bytes after : List ℕ) (indent level : ℕ) → BeginsWithLine text line after → IsBehind line indent bytes → (h : IsHeading level bytes)
    → (heading : BlockContent) × (heading.kind ≡ Heading level) × (map text_of heading.lines ≡ heading_text h.behind ∷ []) × (parts_of text ≡ block heading ∷ parts_of after)

-- So it is with a line that is said to be a thematic break.
abbrev pub BreakIsRead : Type 0
BreakIsRead = (text line bytes after : List ℕ) (indent : ℕ) → BeginsWithLine text line after → IsBehind line indent bytes → IsBreak bytes
    → (rule : BlockContent) × (rule.kind ≡ Rule) × (parts_of text ≡ block rule ∷ parts_of after)

-- no line of these is said to close code of such a fence
abbrev pub LeaveOpen : (sign length : ℕ) → List (List ℕ) → Type 0
LeaveOpen sign length [] = Unit {0}
LeaveOpen sign length (line ∷ lines) = (ClosesCode sign length line → ⊥) × LeaveOpen sign length lines

-- A text begins with a line that is said to begin code, lines that aren't said to close it, and one that is. They are code: the info of the fence, and these
-- lines without the indent of the first. Then come the parts of the text behind them.
abbrev pub CodeIsRead : Type 0
CodeIsRead = (text after first last fence : List ℕ) (lines : List (List ℕ)) (indent sign length : ℕ) → text_lines text ≡ first ∷ (lines ++ last ∷ text_lines after)
    → IsBehind first indent fence → (f : IsFence sign length fence) → LeaveOpen sign length lines → ClosesCode sign length last
    → (code : BlockContent) × IsCode code f.info indent lines × (parts_of text ≡ block code ∷ parts_of after)

-- Where none of its lines is said to close it, code is all of the text.
abbrev pub OpenCodeIsRead : Type 0
OpenCodeIsRead = (text first fence : List ℕ) (lines : List (List ℕ)) (indent sign length : ℕ) → text_lines text ≡ first ∷ lines
    → IsBehind first indent fence → (f : IsFence sign length fence) → LeaveOpen sign length lines → (code : BlockContent) × IsCode code f.info indent lines × (parts_of text ≡ block code ∷ [])

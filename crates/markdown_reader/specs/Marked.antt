-- The marks of a text's sections.
use Rattle.std.specs.Prelude.{ℕ, ◌≡◌, ◌⊎◌, List, [], ◌∷◌, ◌++◌, drop}
use Rattle.std.specs.List.{AllByRecursion, flat_map}
use Rattle.mad_mark_runs.specs.declared.mark_runs.MarkRun.{MarkRun}
use Rattle.mad_sections.specs.Sections.{SectionContent}
use Rattle.markdown_marks.specs.Remaining.{Remaining}
use Rattle.markdown_leaves.specs.Parts.{BlockContent, PartContent, block}
use Rattle.markdown_leaves.specs.Told.{parts_of}
use Rattle.markdown_leaves.specs.declared.parts.Kind.{Kind}
use Rattle.markdown_leaves.specs.declared.parts.Kind.TheVariants.{Fenced}
use Rattle.markdown_lines.specs.Code.{code_lines}
use Rattle.markdown_lines.specs.Steady.{steady_lines}
use Rattle.markdown_lines.specs.Texts.{behind_mark}
use Rattle.markdown_tones.specs.Fences.{fence_marks}
use Rattle.markdown_reader.specs.Markdown.{markdown_sections}

-- the marks of a leaf: code in a fence has those of its language
abbrev pub kind_marks : Kind → List Remaining → List MarkRun
kind_marks Fenced lines = fence_marks lines
kind_marks _ lines = []

-- those of a part
abbrev pub part_marks : PartContent → List MarkRun
part_marks (block leaf) = kind_marks leaf.kind leaf.lines
part_marks _ = []

-- The section shows the code of a fence that is among these parts, and has the marks of it.
pub record ShowsFence (parts : List PartContent) (s : SectionContent) : Type 0 where
  pub before : List PartContent
  pub fence : BlockContent
  pub after : List PartContent
  pub told : parts ≡ before ++ block fence ∷ after
  pub fenced : fence.kind ≡ Fenced
  pub lines : s.lines ≡ steady_lines (code_lines 0 (drop 1 fence.lines))
  pub marks : s.marks ≡ fence_marks fence.lines

-- Sections have no marks but those of the fences that they show, and those of all sections, one after the other, are those of all fences.
pub record AreMarked (parts : List PartContent) (sections : List SectionContent) : Type 0 where
  pub each : AllByRecursion (λ (s : SectionContent). (s.marks ≡ []) ⊎ ShowsFence parts s) sections
  pub all : flat_map (λ (s : SectionContent). s.marks) sections ≡ flat_map part_marks parts

-- so it is with what each text is shown as
abbrev pub SectionsAreMarked : Type 0
SectionsAreMarked = (source : List ℕ) → AreMarked (parts_of (behind_mark source)) (markdown_sections source)

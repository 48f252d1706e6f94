-- The tones of code beside what is shown of it.
use Rattle.std.specs.Prelude.{◌≡◌, ◌⊎◌, ℕ, List, [], ◌∷◌, ◌++◌, length, map, Option, Some}
use Rattle.std.specs.List.{AllByRecursion, filter, flat_map}
use Rattle.mad_md.specs.Flagged.{unflagged}
use Rattle.code_tables.specs.declared.rules.Language.{Language}
use Rattle.code_tones.specs.Tones.{is_counted, toned_text, tones_of, TonedChar}
use Rattle.mad_mark_runs.specs.Values.{AreRising, values_of}
use Rattle.mad_mark_runs.specs.declared.mark_runs.MarkRun.{MarkRun}
use Rattle.mad_marks.specs.LineMarks.{content_counted, has_mark}
use Rattle.mad_marks.specs.RowMarks.{numbered, MarkedChar}
use Rattle.markdown_lines.specs.Code.{code_lines}
use Rattle.markdown_lines.specs.Steady.{steady_lines}
use Rattle.mad_sections.specs.Sections.{SectionContent}
use Rattle.markdown_leaves.specs.Parts.{BlockContent, PartContent, block}
use Rattle.markdown_leaves.specs.Told.{parts_of}
use Rattle.markdown_leaves.specs.declared.parts.Kind.TheVariants.{Fenced}
use Rattle.markdown_lines.specs.Texts.{behind_mark}
use Rattle.markdown_marks.specs.Remaining.{Remaining}
use Rattle.markdown_reader.specs.Markdown.{markdown_sections}
use Rattle.markdown_tones.specs.CodeSource.{code_source}
use Rattle.markdown_tones.specs.Fences.{fence_language}

-- a character of code with its tone
abbrev pub shown_toned : TonedChar → MarkedChar
shown_toned c = record { value = c.tone; char = record { char = c.char; flags = unflagged } }

-- the characters that are shown of a block of code and aren't blank, each with the tone of its token
abbrev pub toned_code : Option Language → List Remaining → List MarkedChar
toned_code language lines = map shown_toned (filter (λ c. is_counted c.char) (toned_text language (code_source lines)))

-- THE LAW: where runs have the tones of a block of code after others, the counted characters of its steady lines, with the values of their numbers, are
-- those of the code with their tones
abbrev pub TonesAreTheCodes : Type 0
TonesAreTheCodes =
    (language : Option Language) (column : ℕ) (lines : List Remaining) (runs : List MarkRun) (before after : List ℕ) → AreRising 0 runs → values_of runs ≡ before ++ (tones_of language (code_source lines) ++ after)
    → numbered runs (length before) (flat_map (content_counted has_mark) (steady_lines (code_lines column lines))) ≡ toned_code language lines

-- The section shows the code of a fence that is among these parts and names a language: what is counted of it, with the values of its marks, is the code
-- with its tones in that language.
pub record ShowsTones (parts : List PartContent) (s : SectionContent) : Type 0 where
  pub before : List PartContent
  pub fence : BlockContent
  pub after : List PartContent
  pub told : parts ≡ before ++ block fence ∷ after
  pub fenced : fence.kind ≡ Fenced
  pub info : Remaining
  pub code : List Remaining
  pub lines : fence.lines ≡ info ∷ code
  pub language : Language
  pub named : fence_language info code ≡ Some language
  pub toned : numbered s.marks 0 (flat_map (content_counted has_mark) s.lines) ≡ toned_code (Some language) code

-- THE LAW: of what each text is shown as, a section has no marks, or shows so the code of a fence
abbrev pub FencesAreToned : Type 0
FencesAreToned = (source : List ℕ) → AllByRecursion (λ (s : SectionContent). (s.marks ≡ []) ⊎ ShowsTones (parts_of (behind_mark source)) s) (markdown_sections source)

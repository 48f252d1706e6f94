-- What is shown of a fence around a text is what is shown of the text by itself.
use Rattle.std.proofs.Common.{◌≡◌, ℕ, true, List, [], ◌∷◌, ◌++◌, map, drop, refl, ap, ◌∙◌, append-nil, inl, inr}
use Rattle.std.specs.List.{list_all}
use Rattle.markdown_blocks.specs.Events.{events_from, events_of}
use Rattle.markdown_blocks.specs.Leaves.{closes_fence}
use Rattle.markdown_blocks.specs.Lines.{text_lines}
use Rattle.markdown_blocks.specs.declared.leaves.Leaf.TheVariants.{Nothing as NothingLeaf}
use Rattle.markdown_laws.proofs.FenceLemmas.{begun_code, code_of, code_read, code_with, ended, fence_went, lines_of, read_of, taken}
use Rattle.markdown_laws.proofs.LineLemmas.{state_with}
use Rattle.markdown_laws.specs.Fences.{BeginsCode, is_inside, trimmed as trimmed_bytes}
use Rattle.markdown_leaves.specs.Gather.{Gathering, closed, nothing_told, trimmed}
use Rattle.markdown_leaves.specs.Parts.{PartContent, block}
use Rattle.markdown_leaves.specs.Told.{parts_of, told}
use Rattle.markdown_lines.specs.Texts.{behind_mark}
use Rattle.markdown_marks.specs.Remaining.{Remaining, take_columns, whole}
use Rattle.markdown_reader.specs.Mapping.{shown_part, shown_parts}
use Rattle.markdown_reader.specs.Markdown.{markdown_sections, parts_shown, printable_sections}
use Rattle.markdown_reader.specs.Steady.{steady_sections}
use Rattle.mad_sections.specs.Sections.{SectionContent}
use Rattle.markdown_code.specs.CodeTexts.{fence_part, fence_sections}
use Rattle.markdown_code.specs.FencedTexts.{FencesShowTheirText, IsEndOfFence}

-- ---- the one part

-- nothing is taken of a line behind a fence in the first column
whole_lines : (lines : List (List ℕ)) → map (taken 0) lines ≡ map whole lines
unfolding take_columns
whole_lines [] = refl
whole_lines (line ∷ lines) = ap (λ (ls : List Remaining). whole line ∷ ls) (whole_lines lines)

-- nothing is told of no text
no_parts : parts_of [] ≡ []
unfolding parts_of events_of events_from told closed text_lines
no_parts = refl

-- code that is open is told where the text ends
closed_code : (lines : List Remaining) → (closed (code_with lines)).parts ≡ block (code_of lines) ∷ []
unfolding closed
closed_code lines = refl

-- a text whose lines are a fence and its code, by what the first line is
told_open : (source first : List ℕ) (lines : List (List ℕ)) (sign signs : ℕ) → BeginsCode first 0 sign signs first → text_lines source ≡ first ∷ lines
    → list_all (is_inside sign signs) lines ≡ true → (r : Remaining) × (r.bytes ≡ trimmed_bytes (drop signs first)) × (parts_of source ≡ block (code_of (r ∷ map whole lines)) ∷ [])
told_open source first lines sign signs begins are inside =
    let found = begun_code 0 sign signs first first begins in (
      trimmed found.0,
      ap trimmed_bytes found.1,
      read_of source
          ∙ ap (λ (ls : List (List ℕ)). ended nothing_told (events_from (state_with NothingLeaf 0) ls)) are
          ∙ ap (λ (g : Gathering). (closed g).parts) (fence_went sign signs 0 first found.0 lines found.2 inside)
          ∙ closed_code (lines_of found.0 0 lines)
          ∙ ap (λ (ls : List Remaining). block (code_of (trimmed found.0 ∷ ls)) ∷ []) (whole_lines lines),
    )

no_lines : (first : List ℕ) (lines : List (List ℕ)) (last : List ℕ) → first ∷ (lines ++ last ∷ []) ≡ first ∷ (lines ++ last ∷ text_lines [])
unfolding text_lines
no_lines first lines last = refl

-- the same where a last line closes the fence
told_closed : (source first last : List ℕ) (lines : List (List ℕ)) (sign signs : ℕ) → BeginsCode first 0 sign signs first → text_lines source ≡ first ∷ (lines ++ last ∷ [])
    → list_all (is_inside sign signs) lines ≡ true → closes_fence sign signs (whole last) ≡ true
    → (r : Remaining) × (r.bytes ≡ trimmed_bytes (drop signs first)) × (parts_of source ≡ block (code_of (r ∷ map whole lines)) ∷ [])
told_closed source first last lines sign signs begins are inside closing =
    let found = begun_code 0 sign signs first first begins in (
      trimmed found.0,
      ap trimmed_bytes found.1,
      code_read source [] first last lines 0 sign signs found.0 (are ∙ no_lines first lines last) found.2 inside closing
          ∙ ap (λ (ps : List PartContent). block (code_of (lines_of found.0 0 lines)) ∷ ps) no_parts
          ∙ ap (λ (ls : List Remaining). block (code_of (trimmed found.0 ∷ ls)) ∷ []) (whole_lines lines),
    )

-- ---- what is shown

abbrev shown_of : List PartContent → List SectionContent
shown_of parts = steady_sections (parts_shown parts).sections

-- of what stands behind a fence the bytes alone count
bytes_alone : (r : Remaining) (lines : List Remaining) → shown_of (block (code_of (r ∷ lines)) ∷ []) ≡ shown_of (block (code_of (whole r.bytes ∷ lines)) ∷ [])
unfolding shown_parts shown_part
bytes_alone r lines = refl

markdown_shown : (markdown : List ℕ) → markdown_sections markdown ≡ shown_of (parts_of (behind_mark markdown))
unfolding printable_sections
markdown_shown markdown = refl

fence_shown : (info text : List ℕ) → shown_of (fence_part info text ∷ []) ≡ fence_sections info text
unfolding fence_sections
fence_shown info text = refl

told_shown : (info text markdown : List ℕ) → (r : Remaining) × (r.bytes ≡ info) × (parts_of (behind_mark markdown) ≡ block (code_of (r ∷ map whole (text_lines text))) ∷ [])
    → markdown_sections markdown ≡ fence_sections info text
told_shown info text markdown (r, is, parts) =
    markdown_shown markdown ∙ ap shown_of parts ∙ bytes_alone r (map whole (text_lines text))
    ∙ ap (λ (word : List ℕ). shown_of (fence_part word text ∷ [])) is ∙ fence_shown info text

shown_by : (info text markdown first : List ℕ) (end : List (List ℕ)) (sign signs : ℕ) → text_lines (behind_mark markdown) ≡ first ∷ (text_lines text ++ end)
    → BeginsCode first 0 sign signs first → trimmed_bytes (drop signs first) ≡ info → list_all (is_inside sign signs) (text_lines text) ≡ true
    → IsEndOfFence sign signs end → markdown_sections markdown ≡ fence_sections info text
shown_by info text markdown first end sign signs are begins behind inside (inl none) =
    let lines = text_lines text in
    let all = are ∙ ap (λ (ls : List (List ℕ)). first ∷ (lines ++ ls)) none ∙ ap (λ (ls : List (List ℕ)). first ∷ ls) (append-nil lines) in
    let found = told_open (behind_mark markdown) first lines sign signs begins all inside in
    told_shown info text markdown (found.0, found.1 ∙ behind, found.2)
shown_by info text markdown first end sign signs are begins behind inside (inr (last, one, closing)) =
    let lines = text_lines text in
    let all = are ∙ ap (λ (ls : List (List ℕ)). first ∷ (lines ++ ls)) one in
    let found = told_closed (behind_mark markdown) first last lines sign signs begins all inside closing in
    told_shown info text markdown (found.0, found.1 ∙ behind, found.2)

-- a fence around a text shows the text
pub fences_show_their_text : FencesShowTheirText
fences_show_their_text info text markdown h = shown_by info text markdown h.first h.end h.sign h.signs h.lines h.begins h.told h.inside h.ends

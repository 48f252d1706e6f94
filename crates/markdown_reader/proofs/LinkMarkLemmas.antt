-- The numbers of links, section by section, and the marks of their characters.
use Rattle.std.proofs.Common.{◌≡◌, ℕ, ◌+◌, ◌-◌, ◌<◌, ◌≤◌, Bool, true, false, List, [], ◌∷◌, ◌++◌, map, length, get_or, refl, sym, ap, ◌∙◌, arith, append_assoc, if◌then◌else◌}
use Rattle.std.proofs.lemmas.List.{length-append, length-map, get_or-map, get_or_past}
use Rattle.mad_mark_runs.specs.declared.mark_runs.MarkRun.{MarkRun}
use Rattle.mad_sections.specs.Sections.{SectionContent}
use Rattle.mad_md.specs.Lines.{LineContent}
use Rattle.markdown_gutters.specs.Forms.{is_big}
use Rattle.markdown_gutters.specs.declared.forms.Form.{Form}
use Rattle.markdown_gutters.specs.declared.forms.Form.TheVariants.{Words}
use Rattle.mad_md.specs.declared.composite.CompositeStyle.TheVariants.{Paragraph}
use Rattle.markdown_lines.specs.Restyled.{empty_line}
use Rattle.markdown_reader.specs.LinkMarks.{sections_link_marks}
use Rattle.markdown_reader.specs.Mapping.{Mapping, added, blank_row, is_spaced, item_ended, linked, section_of, spaced}
use Rattle.markdown_reader.specs.NumbersIn.{section_numbers, section_link_marks}
use Rattle.markdown_reader.specs.SectionNumbers.{last_has, added_numbers}
use Rattle.markdown_reader.specs.SectionsSaid.{section_said}
use Rattle.markdown_reader.specs.declared.sections.MarkdownSection.{MarkdownSection}

-- ---- lists of what each has

-- what each of some has, one after the other
pub one_behind : {A : Type 0} (done now : List A) (x made : A) (rest whole : List A) → made ≡ x → now ≡ done ++ made ∷ [] → done ++ x ∷ rest ≡ whole → now ++ rest ≡ whole
one_behind done now x made rest whole same now_is is =
    ap (λ l. l ++ rest) now_is ∙ append_assoc done (made ∷ []) rest ∙ ap (λ y. done ++ y ∷ rest) same ∙ is

-- ---- sections that are added

-- where no section is added, none has numbers
pub none_added : (numbers : List ℕ) (before after : List SectionContent) → after ≡ before → last_has numbers (length after - length before) ≡ []
none_added numbers before after same = let none : length after - length before ≡ 0 = omega (arith, ap length same) in ap (last_has numbers) none

one_added : (numbers : List ℕ) (sections : List SectionContent) (s : SectionContent) → last_has numbers (length (sections ++ s ∷ []) - length sections) ≡ numbers ∷ []
one_added numbers sections s = ap (last_has numbers) (one (length (sections ++ s ∷ [])) (length sections) (length-append sections (s ∷ [])))
  where
    one : (n k : ℕ) → n ≡ k + 1 → n - k ≡ 1
    one n k e = omega (arith, e)

two_added : (numbers : List ℕ) (sections : List SectionContent) (s t : SectionContent) → last_has numbers (length ((sections ++ s ∷ []) ++ t ∷ []) - length sections) ≡ [] ∷ numbers ∷ []
two_added numbers sections s t =
    ap (last_has numbers) (two (length ((sections ++ s ∷ []) ++ t ∷ [])) (length (sections ++ s ∷ [])) (length sections) (length-append (sections ++ s ∷ []) (t ∷ [])) (length-append sections (s ∷ [])))
  where
    two : (n m k : ℕ) → n ≡ m + 1 → m ≡ k + 1 → n - k ≡ 2
    two n m k e f = omega (arith, e, f)

-- the numbers of the blank row that comes before a section, or of none
abbrev pub blank_numbers : Bool → List (List ℕ)
blank_numbers t = if t then [] ∷ [] else []

behind_blank : (numbers : List ℕ) (t : Bool) (m : Mapping) (f : Mapping → SectionContent)
    → last_has numbers (length ((if t then record m { sections = m.sections ++ blank_row m ∷ [] } else m).sections ++ f (if t then record m { sections = m.sections ++ blank_row m ∷ [] } else m) ∷ []) - length m.sections) ≡ blank_numbers t ++ numbers ∷ []
behind_blank numbers true m f = two_added numbers m.sections (blank_row m) (f (record m { sections = m.sections ++ blank_row m ∷ [] }))
behind_blank numbers false m f = one_added numbers m.sections (f m)

-- what is put has its numbers, behind a blank row that has none
pub put_numbers : (numbers : List ℕ) (form : Form) (lines : List LineContent) (addresses : List (List ℕ)) (m : Mapping)
    → added_numbers numbers m (added form lines addresses (spaced m.apart (is_big form) m)) ≡ blank_numbers (is_spaced m.apart (is_big form) m) ++ numbers ∷ []
put_numbers numbers form lines addresses m = behind_blank numbers (is_spaced m.apart (is_big form) m) m (λ n. section_of form lines (linked addresses n))

-- so has the row of an item of which nothing was shown
pub item_numbers : (m : Mapping) → added_numbers [] m (item_ended m) ≡ blank_numbers (is_spaced m.item_apart false m) ++ [] ∷ []
item_numbers m = behind_blank [] (is_spaced m.item_apart false m) m (λ n. section_of Words (empty_line Paragraph ∷ []) n)

-- ---- marks

-- the marks of sections are those of each
pub marks_said : (sections : List MarkdownSection) (numbers : List (List ℕ)) (said : List SectionContent) → map section_numbers sections ≡ numbers → map section_said sections ≡ said
    → map section_link_marks sections ≡ sections_link_marks numbers said
marks_said sections numbers said numbers_are said_are =
    each sections ∙ ap (λ (l : List (List ℕ)). sections_link_marks l (map section_said sections)) numbers_are ∙ ap (sections_link_marks numbers) said_are
  where
    each : (sections : List MarkdownSection) → map section_link_marks sections ≡ sections_link_marks (map section_numbers sections) (map section_said sections)
    each [] = refl
    each (s ∷ sections) = ap (λ (l : List (List MarkRun)). section_link_marks s ∷ l) (each sections)

-- those of the section of an index
pub marks_at : (sections : List MarkdownSection) (index : ℕ) (d : MarkdownSection) → index < length sections → section_link_marks (get_or sections index d) ≡ get_or (map section_link_marks sections) index []
marks_at sections index d within = sym (get_or-map section_link_marks sections index d [] within)

-- past the last section there are none
pub marks_past : (sections : List MarkdownSection) (index : ℕ) → length sections ≤ index → [] ≡ get_or (map section_link_marks sections) index []
marks_past sections index past = sym (get_or_past (map section_link_marks sections) index [] (omega (arith, length-map sections section_link_marks, past)))

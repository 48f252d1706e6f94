-- What is told of links and headings, and where a link goes.
use Rattle.std.proofs.Common.{◌≡◌, ℕ, List, Option, IsUtf8, ap, subst, sym, ◌∙◌, map}
use Rattle.std.proofs.lemmas.Simd.{map-map}
use Rattle.mad_sections.specs.Sections.{SectionContent}
use Rattle.markdown_headings.specs.HeadingsSaid.{heading_said, name_said, section_of}
use Rattle.markdown_headings.specs.Named.{HeadingSaid, headings_of}
use Rattle.markdown_headings.specs.Printed.{ArePrintedHeadings}
use Rattle.markdown_headings.specs.Targets.{section_among}
use Rattle.markdown_headings.specs.declared.naming.Heading.{Heading}
use Rattle.markdown_lines.specs.Texts.{behind_mark}
use Rattle.markdown_reader.specs.Anchors.{AnchorSaid, markdown_anchors}
use Rattle.markdown_reader.specs.Markdown.{markdown_links, printable_sections, without_marks}
use Rattle.markdown_reader.specs.MarkdownSays.{LinkSaid}
use Rattle.markdown_reader.specs.Printed.{ArePrintedLinks}
use Rattle.termimad_c.specs.Outlines.{AreHeadingsOf, AreLinksOf, IsSectionNamed, heading_lines, link_lines, section_with, sections_written}

-- links that were read and told
pub links_told : (text src whole lines : List ℕ) (links said : List LinkSaid) → IsUtf8 text → src ≡ text → said ≡ markdown_links src → links ≡ said → lines ≡ link_lines links → whole ≡ lines → ArePrintedLinks said → AreLinksOf text whole
links_told text src whole lines links said utf8 p told are written is printed = record {
  utf8 = utf8;
  printed = subst ArePrintedLinks (told ∙ ap markdown_links p) printed;
  links = is ∙ written ∙ ap link_lines (are ∙ told ∙ ap markdown_links p);
}

-- headings that were read and told
pub headings_told : (text src whole lines : List ℕ) (sections : List SectionContent) (said : List HeadingSaid) → IsUtf8 text → src ≡ text → sections ≡ map without_marks (printable_sections (behind_mark src)) → said ≡ headings_of sections → lines ≡ heading_lines said → whole ≡ lines → ArePrintedHeadings said
    → AreHeadingsOf text whole
headings_told text src whole lines sections said utf8 p read told written is printed =
    let all : said ≡ headings_of (sections_written text) = told ∙ ap headings_of (read ∙ ap sections_written p) in
    record {
      utf8 = utf8;
      printed = subst ArePrintedHeadings all printed;
      headings = is ∙ written ∙ ap heading_lines all;
    }

-- what is found among headings is what is found among what they say
among_said : (anchors : List AnchorSaid) (headings : List Heading) (name : List ℕ) → section_among anchors (map name_said headings) (map section_of headings) name ≡ section_with anchors (map heading_said headings) name
among_said anchors headings name =
    let names : List (List ℕ) = map (λ (h : HeadingSaid). h.name) (map heading_said headings) in
    ap (λ (l : List (List ℕ)). section_among anchors l (map section_of headings) name) (sym (map-map (λ (h : HeadingSaid). h.name) heading_said headings))
    ∙ ap (λ (l : List ℕ). section_among anchors names l name) (sym (map-map (λ (h : HeadingSaid). h.section) heading_said headings))

-- a section that was found by a name
pub section_told : (text src name key : List ℕ) (sections : List SectionContent) (headings : List Heading) (anchors : List AnchorSaid) (section : Option ℕ) → IsUtf8 text → src ≡ text → IsUtf8 name → key ≡ name
    → sections ≡ map without_marks (printable_sections (behind_mark src)) → map heading_said headings ≡ headings_of sections → anchors ≡ markdown_anchors src → section ≡ section_among anchors (map name_said headings) (map section_of headings) key
    → IsSectionNamed text name section
section_told text src name key sections headings anchors section utf8 p named q read told anchored is =
    let all : map heading_said headings ≡ headings_of (sections_written text) = told ∙ ap headings_of (read ∙ ap sections_written p) in
    record {
      utf8 = utf8;
      named = named;
      found = is ∙ ap (section_among anchors (map name_said headings) (map section_of headings)) q ∙ among_said anchors headings name
          ∙ ap (λ (l : List HeadingSaid). section_with anchors l name) all
          ∙ ap (λ (l : List AnchorSaid). section_with l (headings_of (sections_written text)) name) (anchored ∙ ap markdown_anchors p);
    }

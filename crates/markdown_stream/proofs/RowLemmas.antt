-- Pages one below the other.
use Rattle.std.proofs.Common.{◌≡◌, ℕ, Bool, List, [], ◌∷◌, ◌++◌, map, Option, refl, sym, ap, ◌∙◌, subst}
use Rattle.std.specs.List.{flat_map}
use Rattle.mad_format.specs.LineRules.{LineRules}
use Rattle.mad_format.specs.Lists.{EachBecomes}
use Rattle.mad_format.proofs.ListLemmas.{both_become}
use Rattle.mad_pages.specs.PageLayouts.{BecomesAt, IsPageAt}
use Rattle.mad_pages.specs.PageRows.{RowContent}
use Rattle.mad_sections.specs.Sections.{SectionContent}
use Rattle.markdown_layout.specs.WrittenPages.{IsDressedAt}
use Rattle.markdown_lines.specs.Texts.{behind_mark}
use Rattle.std.proofs.lemmas.List.{map-append}
use Rattle.markdown_reader.specs.Steady.{steady_section, steady_sections}
use Rattle.markdown_stream.proofs.KnownLemmas.{alike_is_whole}
use Rattle.markdown_stream.proofs.StreamingLemmas.{cuts_dont_matter}
use Rattle.markdown_stream.specs.Streaming.{nothing_come, pieces_shown}
use Rattle.markdown_stream.specs.Laws.{RowsAreThoseOfTheWhole, KnownIsWrittenWhole}

rows_joined : (rules : LineRules) (ascii : Bool) (width : Option ℕ) (pages : List (List SectionContent)) (rows : List RowContent)
    → EachBecomes (IsPageAt rules ascii width) pages rows → IsPageAt rules ascii width (flat_map (λ (page : List SectionContent). page) pages) rows
rows_joined rules ascii width [] rows h = h
rows_joined rules ascii width (page ∷ pages) rows h =
    subst (λ (all : List RowContent). IsPageAt rules ascii width (flat_map (λ (p : List SectionContent). p) (page ∷ pages)) all) (sym h.2)
    (both_become (BecomesAt rules ascii width) page (flat_map (λ (p : List SectionContent). p) pages) h.0 h.1 h.3 (rows_joined rules ascii width pages h.1 h.4))

-- steady piece by piece is steady in all
steady_joined : (pieces : List (List SectionContent)) → flat_map (λ (page : List SectionContent). page) (map steady_sections pieces) ≡ steady_sections (flat_map (λ (page : List SectionContent). page) pieces)
steady_joined [] = refl
steady_joined (piece ∷ pieces) =
    ap (λ (ss : List SectionContent). steady_sections piece ++ ss) (steady_joined pieces) ∙ sym (map-append steady_section piece (flat_map (λ (page : List SectionContent). page) pieces))

-- the rows of groups of lines are those of the text, where each part is shown alike
pub rows_are_those_of_the_whole : RowsAreThoseOfTheWhole
rows_are_those_of_the_whole rules ascii width text groups rows joins alike laid =
    let pieces = pieces_shown nothing_come groups in
    subst (λ (all : List SectionContent). IsPageAt rules ascii width all rows)
    (steady_joined pieces ∙ ap steady_sections (cuts_dont_matter text groups joins ∙ alike_is_whole text alike))
    (rows_joined rules ascii width (map steady_sections pieces) rows laid)

-- what goes out of pieces is what goes out of the whole, where each part is shown alike
pub known_is_written_whole : KnownIsWrittenWhole
known_is_written_whole skin width text bytes alike h = (
  h.rows,
  subst (λ (ss : List SectionContent). IsDressedAt skin width (steady_sections ss) h.rows) (alike_is_whole (behind_mark text) alike) h.page,
  h.written,
)

-- What is shown of lines in groups is what is shown of the text.
use Rattle.std.proofs.Common.{◌≡◌, ℕ, List, [], ◌∷◌, ◌++◌, append-nil, refl, sym, ap, ◌∙◌}
use Rattle.std.specs.List.{flat_map}
use Rattle.mad_sections.specs.Sections.{SectionContent}
use Rattle.markdown_leaves.specs.Parts.{PartContent}
use Rattle.markdown_definitions.specs.Definitions.{part_defined}
use Rattle.markdown_reader.specs.Mapping.{LinkSaid, Mapping, leaves_in}
use Rattle.markdown_stream.specs.Come.{streamed_after}
use Rattle.markdown_stream.specs.Laws.{CutsDontMatter, CutsDontMatterToLinks}
use Rattle.markdown_stream.specs.Provisional.{part_provided}
use Rattle.markdown_stream.specs.Readings.{Reading, lines_read, parts_read, parts_at_end, handed_on}
use Rattle.markdown_stream.specs.Streamed.{Streamed, nothing_streamed, part_streamed, parts_streamed, streamed_sections, streamed_links}
use Rattle.markdown_stream.specs.Streaming.{taken_from, shown_after, Streaming, nothing_come, lines_shown, kept_after, end_shown, pieces_shown, sections_shown, links_joined, links_shown}
use Rattle.markdown_stream.proofs.MappingLemmas.{parts_behind as leaves_behind, kept}
use Rattle.markdown_stream.proofs.ReadingLemmas.{read_whole, read_joined, hand_on}

-- sections and links that were shown before change nothing of what parts are shown as
pub parts_behind : (parts : List PartContent) (ss : List SectionContent) (ls : List LinkSaid) (s : Streamed) → parts_streamed parts (streamed_after ss ls s) ≡ streamed_after ss ls (parts_streamed parts s)
unfolding parts_streamed
parts_behind [] ss ls s = refl
parts_behind (part ∷ parts) ss ls s =
    ap (λ (m : Mapping). parts_streamed parts (record { defined = part_defined s.defined part; mapping = m })) (leaves_behind (part_provided (part_defined s.defined part) part) (leaves_in part) ss ls s.mapping)
    ∙ parts_behind parts ss ls (part_streamed part s)

-- parts are shown on behind those before them
pub streamed_joined : (parts later : List PartContent) (s : Streamed) → parts_streamed (parts ++ later) s ≡ parts_streamed later (parts_streamed parts s)
unfolding parts_streamed
streamed_joined [] later s = refl
streamed_joined (part ∷ parts) later s = streamed_joined parts later (part_streamed part s)

-- the sections that were shown, and those that are shown next
sections_joined : (parts later : List PartContent) (s : Streamed)
    → (parts_streamed (parts ++ later) s).mapping.sections ≡ (parts_streamed parts s).mapping.sections ++ (parts_streamed later (taken_from (parts_streamed parts s))).mapping.sections
sections_joined parts later s =
    let n = parts_streamed parts s in
    ap (λ (t : Streamed). t.mapping.sections) (
    streamed_joined parts later s
    ∙ ap (λ (m : Mapping). parts_streamed later (record n { mapping = m })) (kept n.mapping)
    ∙ parts_behind later n.mapping.sections n.mapping.links (taken_from n)
    )

-- what is shown of lines, after which the text ends
abbrev all_shown : Streaming → List (List ℕ) → List SectionContent
all_shown s lines = (parts_streamed (parts_at_end (lines_read s.reading lines)) s.streamed).mapping.sections

no_lines : (s : Streaming) → sections_shown s [] ≡ all_shown s []
unfolding pieces_shown lines_read
no_lines s = append-nil (end_shown s).mapping.sections

groups_shown : (groups : List (List (List ℕ))) (s : Streaming) → sections_shown s groups ≡ all_shown s (flat_map (λ (lines : List (List ℕ)). lines) groups)
unfolding pieces_shown
groups_shown [] s = no_lines s
groups_shown (lines ∷ groups) s =
    let later = flat_map (λ (ls : List (List ℕ)). ls) groups in
    let read = lines_read s.reading lines in
    ap (λ (ss : List SectionContent). (lines_shown s lines).mapping.sections ++ ss) (groups_shown groups (kept_after s lines))
    ∙ sym (
    ap (λ (r : Reading). (parts_streamed (parts_at_end r) s.streamed).mapping.sections) (read_joined lines later s.reading)
    ∙ ap (λ (ps : List PartContent). (parts_streamed ps s.streamed).mapping.sections) (hand_on later read)
    ∙ sections_joined (parts_read read) (parts_at_end (lines_read (handed_on read) later)) s.streamed
    )

-- the sections of groups of lines are those of the text, wherever it is cut
pub cuts_dont_matter : CutsDontMatter
unfolding streamed_sections
cuts_dont_matter text groups joins =
    groups_shown groups nothing_come
    ∙ ap (all_shown nothing_come) joins
    ∙ ap (λ (ps : List PartContent). (parts_streamed ps nothing_streamed).mapping.sections) (sym (read_whole text))

-- ---- links

abbrev all_links : Streaming → List (List ℕ) → List LinkSaid
all_links s lines = (parts_streamed (parts_at_end (lines_read s.reading lines)) s.streamed).mapping.links

links_come : (parts later : List PartContent) (s : Streamed)
    → (parts_streamed (parts ++ later) s).mapping.links ≡ links_joined (parts_streamed parts s).mapping (parts_streamed later (taken_from (parts_streamed parts s))).mapping.links
links_come parts later s =
    let n = parts_streamed parts s in
    ap (λ (t : Streamed). t.mapping.links) (
    streamed_joined parts later s
    ∙ ap (λ (m : Mapping). parts_streamed later (record n { mapping = m })) (kept n.mapping)
    ∙ parts_behind later n.mapping.sections n.mapping.links (taken_from n)
    )

no_links : (s : Streaming) → links_shown s [] ≡ all_links s []
unfolding links_shown lines_read
no_links s = refl

group_links : (groups : List (List (List ℕ))) (s : Streaming) → links_shown s groups ≡ all_links s (flat_map (λ (lines : List (List ℕ)). lines) groups)
unfolding links_shown
group_links [] s = no_links s
group_links (lines ∷ groups) s =
    let later = flat_map (λ (ls : List (List ℕ)). ls) groups in
    let read = lines_read s.reading lines in
    ap (links_joined (lines_shown s lines).mapping) (group_links groups (kept_after s lines))
    ∙ sym (
    ap (λ (r : Reading). (parts_streamed (parts_at_end r) s.streamed).mapping.links) (read_joined lines later s.reading)
    ∙ ap (λ (ps : List PartContent). (parts_streamed ps s.streamed).mapping.links) (hand_on later read)
    ∙ links_come (parts_read read) (parts_at_end (lines_read (handed_on read) later)) s.streamed
    )

-- so are their links
pub cuts_dont_matter_to_links : CutsDontMatterToLinks
unfolding streamed_links
cuts_dont_matter_to_links text groups joins =
    group_links groups nothing_come
    ∙ ap (all_links nothing_come) joins
    ∙ ap (λ (ps : List PartContent). (parts_streamed ps nothing_streamed).mapping.links) (sym (read_whole text))

-- What one may rely on of a text that comes in pieces, behind its byte order mark.
use Rattle.std.specs.Prelude.{◌≡◌, ℕ, Bool, true, false, List, [], ◌∷◌, ◌++◌, map, length, replicate, Option}
use Rattle.std.specs.List.{flat_map, list_all}
use Rattle.mad_format.specs.Lists.{EachBecomes}
use Rattle.mad_format.specs.LineRules.{LineRules}
use Rattle.mad_pages.specs.PageLayouts.{IsPageAt}
use Rattle.mad_pages.specs.PageRows.{RowContent}
use Rattle.markdown_blocks.specs.Events.{Event, line}
use Rattle.markdown_blocks.specs.declared.leaves.Deed.TheVariants.{GoesOn, Underlines, Tabulates}
use Rattle.markdown_blocks.specs.Lines.{text_lines}
use Rattle.markdown_leaves.specs.Parts.{PartContent, ends}
use Rattle.markdown_leaves.specs.declared.parts.Kind.TheVariants.{Nothing}
use Rattle.markdown_leaves.specs.Gather.{Gathering, closed}
use Rattle.markdown_leaves.specs.Told.{happened, parts_of}
use Rattle.markdown_definitions.specs.Definitions.{definitions_of, nothing_defined}
use Rattle.markdown_reader.specs.Mapping.{Mapping, shown_parts}
use Rattle.markdown_reader.specs.Steady.{steady_sections}
use Rattle.markdown_reader.specs.Markdown.{printable_sections, unmarked_sections, markdown_sections, unmarked_links}
use Rattle.mad_page_skin.specs.declared.page_skin.PageSkin.{PageSkin}
use Rattle.markdown_layout.specs.WrittenPages.{IsDressedAt, dressed_bytes}
use Rattle.markdown_lines.specs.Links.{Defined}
use Rattle.markdown_lines.specs.Texts.{behind_mark}
use Rattle.markdown_stream.specs.Streams.{IsStreamed}
use Rattle.markdown_stream.specs.Known.{SaysTheSame, AreKnown, AreShownAlike, NameDefined, asks_nothing, defines_nothing}
use Rattle.markdown_stream.specs.Come.{lines_streamed}
use Rattle.markdown_stream.specs.OpenSections.{after_lines, open_sections}
use Rattle.markdown_stream.specs.Readings.{Reading, nothing_read, lines_read, parts_read, parts_at_end, handed_on}
use Rattle.markdown_stream.specs.Streamed.{streamed_sections, streamed_links}
use Rattle.markdown_stream.specs.Streaming.{taken, shown_after, nothing_come, pieces_shown, sections_shown, links_shown}

-- The reader. Whatever comes after these lines, the parts that they complete are the first ones of the text, and the others don't depend on them.
abbrev pub PartsComeInTurn : Type 0
PartsComeInTurn = (text : List ℕ) (lines later : List (List ℕ)) → text_lines text ≡ lines ++ later
    → parts_of text ≡ parts_read (lines_read nothing_read lines) ++ parts_at_end (lines_read (handed_on (lines_read nothing_read lines)) later)

-- The mapping. Parts that were shown, and whose sections were taken, change nothing of what is shown after them but by what goes on: the gutters, how many of
-- them were seen, the lists, and the flags of blank rows.
abbrev pub SectionsComeInTurn : Type 0
SectionsComeInTurn = (defined : Defined) (parts later : List PartContent) (m : Mapping)
    → shown_parts defined (parts ++ later) m ≡ shown_after (shown_parts defined parts m).sections (shown_parts defined parts m).links (shown_parts defined later (taken (shown_parts defined parts m)))

-- Both. Wherever lines are parted into groups, the sections that are shown of the groups, one after the other, are those of the text.
abbrev pub CutsDontMatter : Type 0
CutsDontMatter = (text : List ℕ) (groups : List (List (List ℕ))) → flat_map (λ lines. lines) groups ≡ text_lines text → sections_shown nothing_come groups ≡ streamed_sections text

-- Nor do they to links.
abbrev pub CutsDontMatterToLinks : Type 0
CutsDontMatterToLinks = (text : List ℕ) (groups : List (List (List ℕ))) → flat_map (λ lines. lines) groups ≡ text_lines text → links_shown nothing_come groups ≡ streamed_links text

-- After a line that leaves no leaf open all that came is shown: if the text ended there, nothing but ends of containers would be told.
abbrev pub NothingIsHeld : Type 0
NothingIsHeld = (r : Reading) → r.gathering.kind ≡ Nothing → parts_at_end r ≡ parts_read r ++ replicate (length r.state.containers) ends

-- an event with which the open leaf ends, if there is one
abbrev pub ends_leaf : Event → Bool
ends_leaf (line GoesOn text) = false
ends_leaf (line (Underlines level) text) = false
ends_leaf (line (Tabulates columns) text) = false
ends_leaf _ = true

-- Before such an event the open leaf may be told already: nothing changes.
abbrev pub LeavesEndEarly : Type 0
LeavesEndEarly = (g : Gathering) (event : Event) → ends_leaf event ≡ true → happened event (closed g) ≡ happened event g

-- What follows a newline begins with a line.
abbrev pub LinesComeInTurn : Type 0
LinesComeInTurn = (front later : List ℕ) → text_lines (front ++ 10 ∷ later) ≡ text_lines (front ++ 10 ∷ []) ++ text_lines later

-- A text is shown as the whole where each part says the same by the definitions that came up to it, and by those that its words name, as by all.
abbrev pub KnownIsWhole : Type 0
KnownIsWhole = (text : List ℕ) → AreKnown (definitions_of (parts_of text)) nothing_defined (parts_of text) → streamed_sections text ≡ printable_sections text

-- It is enough that each shows the same, but for where its links lead: a label that is named before its definition comes leads nowhere.
abbrev pub AlikeIsWhole : Type 0
AlikeIsWhole = (text : List ℕ) → AreShownAlike (definitions_of (parts_of text)) nothing_defined (parts_of text) → streamed_sections text ≡ printable_sections text

-- Where they say the same, its links are those of the whole, too.
abbrev pub KnownHasLinks : Type 0
KnownHasLinks = (text : List ℕ) → AreKnown (definitions_of (parts_of text)) nothing_defined (parts_of text) → streamed_links text ≡ unmarked_links text

-- A part without words says the same by any definitions.
abbrev pub WithoutWordsIsSame : Type 0
WithoutWordsIsSame = (part : PartContent) (defined other : Defined) → asks_nothing part ≡ true → SaysTheSame defined other part

-- A text without definitions is shown as the whole, where its words name none by their shape.
abbrev pub UndefinedIsWhole : Type 0
UndefinedIsWhole = (text : List ℕ) → list_all defines_nothing (parts_of text) ≡ true → NameDefined nothing_defined (parts_of text) → streamed_sections text ≡ printable_sections text

-- So is one whose definitions stand in front of all words, where these name no others.
abbrev pub DefinedInFrontIsWhole : Type 0
DefinedInFrontIsWhole = (text : List ℕ) (front others : List PartContent) → parts_of text ≡ front ++ others → list_all asks_nothing front ≡ true → list_all defines_nothing others ≡ true
    → NameDefined nothing_defined (parts_of text) → streamed_sections text ≡ printable_sections text

-- The headline. Wherever lines are parted into groups, the rows of the groups, one below the other, are those of the whole text, where each part shows
-- the same by the definitions that came up to it, and by those that its words name, as by all.
abbrev pub RowsAreThoseOfTheWhole : Type 0
RowsAreThoseOfTheWhole = (rules : LineRules) (ascii : Bool) (width : Option ℕ) (text : List ℕ) (groups : List (List (List ℕ))) (rows : List RowContent)
    → flat_map (λ lines. lines) groups ≡ text_lines text → AreShownAlike (definitions_of (parts_of text)) nothing_defined (parts_of text)
    → EachBecomes (IsPageAt rules ascii width) (map steady_sections (pieces_shown nothing_come groups)) rows → IsPageAt rules ascii width (unmarked_sections text) rows

-- What goes out of a text in pieces, wherever it is cut, is what goes out of the whole text, where each part shows the same by the definitions that
-- came up to it, and by those that its words name, as by all.
abbrev pub KnownIsWrittenWhole : Type 0
KnownIsWrittenWhole = (skin : PageSkin) (width : Option ℕ) (text bytes : List ℕ)
    → AreShownAlike (definitions_of (parts_of (behind_mark text))) nothing_defined (parts_of (behind_mark text)) → IsStreamed skin width text bytes
    → (rows : List RowContent) × IsDressedAt skin width (markdown_sections text) rows × (bytes ≡ dressed_bytes skin width rows)

-- What the leaves that these lines complete show, and then what is open shows, is what the text shows that ends there, where nothing that is open
-- defines a link.
abbrev pub OpenIsStreamed : Type 0
OpenIsStreamed = (text end : List ℕ) (lines : List (List ℕ)) → text_lines text ≡ lines ++ text_lines end
    → list_all defines_nothing (parts_at_end (lines_read (after_lines lines).reading (text_lines end))) ≡ true
    → streamed_sections text ≡ (lines_streamed lines).mapping.sections ++ open_sections end (after_lines lines)

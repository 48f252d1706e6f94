-- Links of a text that have numbers: which one a number says, and where it leads.
use Rattle.std.specs.Prelude.{ℕ, ◌+◌, ◌-◌, ◌^◌, ◌==◌, min, Bool, true, false, List, [], ◌∷◌, map, Option, Some, None, option_map, slice_get, slice_index, if◌then◌else◌}
use Rattle.std.specs.Str.Lossy.{utf8_lossy}
use Rattle.percent_encoding.specs.Percent.{percent_decode}
use Rattle.markdown_headings.specs.Named.{HeadingSaid, headings_of}
use Rattle.markdown_headings.specs.Targets.{or_else, section_among}
use Rattle.markdown_reader.specs.Anchors.{AnchorSaid}
use Rattle.markdown_reader.specs.MarkdownSays.{LinkSaid}
use Rattle.mad_link_places.specs.declared.places.LinkPlace.{LinkPlace}
use Rattle.mad_outline.specs.LinkLists.{LinksIn, TextLinks, nth_link}
use Rattle.mad_outline.specs.LinkNumbers.{link_numbers}
use Rattle.mad_outline.specs.Sources.{Content, TextSaid, addresses, next, numbered}
use Rattle.mad_page.specs.PageKeys.{command_of}
use Rattle.mad_page.specs.Pages.{body_rows, row_number}
use Rattle.mad_page.specs.declared.commands.Ask.TheVariants.{Links}
use Rattle.mad_page.specs.declared.commands.Command.{Command}
use Rattle.mad_page.specs.declared.commands.Command.TheVariants.{Asks}
use Rattle.mad_page.specs.declared.page.Page.{Page}
use Rattle.mad_search.specs.KeptRows.{part_of}
use Rattle.mad_term.specs.declared.keys.KeyEvent.{KeyEvent}
use Rattle.mad_pager.specs.Sessions.{State, at_row_or}
use Rattle.mad_pager.specs.declared.session.End.TheVariants as end
use Rattle.mad_pager.specs.declared.session.Turn.{Turn}
use Rattle.mad_pager.specs.declared.session.Turn.TheVariants.{Goes, Ends}

-- ---- which links have numbers

-- the row of a text that is in the last row which the screen has for it
abbrev pub last_row_of : Page → ℕ
last_row_of page = min (page.top + (body_rows page - 1)) (2 ^ 64 - 1)

-- the number of the first section that is on the screen, and of the one behind the last
abbrev pub sections_shown : State → ℕ × ℕ
sections_shown s = (part_of s.laid.starts.items s.page.top, next (part_of s.laid.starts.items (last_row_of s.page)))

-- the links of the sections that are on the screen
abbrev pub links_in : TextSaid → TextLinks → State → LinksIn
links_in text of s = record { page = text.page; of = of; from = (sections_shown s).0; to = (sections_shown s).1 }

-- links have numbers there
abbrev pub has_numbers : Content → Bool
has_numbers (numbered text) = true
has_numbers (addresses links) = true
has_numbers content = false

-- they have them where they stand
abbrev pub is_numbered : Content → Bool
is_numbered (numbered text) = true
is_numbered content = false

-- a key that asks for links
abbrev pub is_links : KeyEvent → Bool
is_links key = asks_links (command_of key)
  where
    asks_links : Command → Bool
    asks_links (Asks Links) = true
    asks_links command = false

-- the index of the link of a number among these that are on the screen, if a text can have some
abbrev pub link_among : Option TextLinks → TextSaid → State → ℕ → Option ℕ
link_among None text s number = None
link_among (Some of) text s number = nth_link (links_in text of s) number

-- that among those of a text that are on the screen
abbrev pub link_on_screen : TextSaid → State → ℕ → Option ℕ
link_on_screen text s number = link_among text.links text s number

-- the index of the link of the number that was typed
abbrev pub chosen_link : Content → State → Option ℕ
chosen_link (numbered text) s = link_on_screen text s s.page.count
chosen_link (addresses links) s = nth_link links s.page.count
chosen_link content s = None

-- ---- where they are

-- the row that is on top of a page over a text at its start, whose top row this is: a text with numbers stays where it is
abbrev pub top_of : Content → ℕ → ℕ
top_of (numbered text) top = top
top_of content top = 0

-- the numbers of a text's links that are on the screen, if it can have some
abbrev pub numbers_among : Option TextLinks → TextSaid → State → List LinkPlace
numbers_among None text s = []
numbers_among (Some of) text s = link_numbers (links_in text of s) s.laid.lines.items s.laid.starts.items s.page.top (body_rows s.page)

-- the numbers that are on the screen, where they stand
abbrev pub numbers_shown : Content → State → List LinkPlace
numbers_shown (numbered text) s = numbers_among text.links text s
numbers_shown content s = []

-- ---- where they lead

-- the address of a link that may be there; else none
abbrev pub address_if : Option LinkSaid → List ℕ
address_if None = []
address_if (Some link) = link.address

-- the address of the link of an index, in a text that can have some
abbrev pub address_of : Option TextLinks → ℕ → List ℕ
address_of None index = []
address_of (Some of) index = address_if (slice_get of.links index)

-- the name behind `#` (35), if an address begins with that: it leads to a place in its own text
abbrev pub name_within : List ℕ → Option (List ℕ)
name_within [] = None
name_within (c ∷ cs) = if c == 35 then Some cs else None

-- a name without the escapes that an address has for bytes, as `%C3%A4` for `ä`; what isn't UTF-8 then is U+FFFD
abbrev pub unescaped : List ℕ → List ℕ
unescaped name = utf8_lossy (percent_decode name)

-- the section to which `#name` leads: by the name as it stands, or else without its escapes
abbrev pub section_led : List AnchorSaid → (names : List (List ℕ)) (sections : List ℕ) → List ℕ → Option ℕ
section_led anchors names sections name = or_else (section_among anchors names sections name) (section_among anchors names sections (unescaped name))

-- that among the names of a text's tags and headings
abbrev pub section_named : Option TextLinks → List HeadingSaid → List ℕ → Option ℕ
section_named None headings name = None
section_named (Some of) headings name = section_led of.names (map (λ (h : HeadingSaid). h.name) headings) (map (λ (h : HeadingSaid). h.section) headings) name

-- the row in which that section of a text begins, by the rows in which sections do
abbrev pub target_row : TextSaid → List ℕ → List ℕ → Option ℕ
target_row text name starts = option_map (slice_index starts) (section_named text.links (headings_of text.page) name)

-- a link that leads to this place of the text is followed, if it leads to one: that comes on top
abbrev pub at_name : Option (List ℕ) → TextSaid → State → State
at_name None text s = s
at_name (Some name) text s = at_row_or (target_row text name s.laid.starts.items) s

-- the link of an index is followed
abbrev pub followed : ℕ → TextSaid → State → State
followed index text s = at_name (name_within (address_of text.links index)) text s

-- how the session goes on after it: it ends for a link that leads elsewhere
abbrev pub turn_within : Option (List ℕ) → ℕ → State → Turn
turn_within (Some name) index s = Goes
turn_within None index s = Ends (end.Follow (row_number s.page) index)

abbrev pub followed_turn : ℕ → TextSaid → State → Turn
followed_turn index text s = turn_within (name_within (address_of text.links index)) index s

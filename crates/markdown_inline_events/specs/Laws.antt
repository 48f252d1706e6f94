-- What holds of the events of every text.
use Rattle.std.specs.Prelude.{◌≡◌, ℕ, ◌+◌, ◌≤◌, false, List, [], ◌∷◌, drop, length, map, replicate, Option, Some, None}
use Rattle.std.specs.List.{flat_map}
use Rattle.markdown_emphasis.specs.Flags.{flags_of}
use Rattle.markdown_pieces.specs.Cut.{CutText, cut_text}
use Rattle.markdown_inlines.specs.declared.links.Over.{Over}
use Rattle.markdown_inlines.specs.Inlines.{char_of, left_of, shown_from}
use Rattle.markdown_inlines.specs.Links.{overs_of}
use Rattle.markdown_inlines.specs.Styled.{Shown}
use Rattle.markdown_inlines.specs.Parts.{character_shown, html_shown, shown_text}
use Rattle.markdown_inline_events.specs.Contents.{InlineContent, start, end, text, character, marks, code, html, soft_break, hard_break, EventContent}
use Rattle.markdown_inline_events.specs.Reading.{inline_events}
use Rattle.markdown_inline_events.specs.declared.events.InlineTag.{InlineTag}

-- ---- what is shown

-- what is shown of an inline that begins at a place of a text
abbrev pub inline_shown : List ℕ → ℕ → InlineContent → List ℕ
inline_shown t place (start tag) = []
inline_shown t place (end tag) = []
inline_shown t place (text bytes) = shown_text bytes
inline_shown t place (character c second) = character_shown c second
inline_shown t place (marks c count) = replicate count c
inline_shown t place (code bytes) = shown_text bytes
inline_shown t place (html shown bytes) = html_shown shown t place
inline_shown t place soft_break = 32 ∷ []
inline_shown t place hard_break = 10 ∷ []

-- what is shown of an event
abbrev pub event_shown : List ℕ → EventContent → List ℕ
event_shown t event = inline_shown t event.place event.inline

-- a piece that shows no name of a file: where an image has nothing between its brackets, nothing is shown of it
abbrev pub nameless : Over → Over
nameless over = record over { silent = false }

-- what is shown of a text that was cut, without the names of images that have nothing between their brackets
abbrev pub nameless_cut : CutText → List ℕ → List Shown
nameless_cut cut t = shown_from t 0 cut.pieces (flags_of (length cut.pieces) cut.pairs) (left_of cut.pairs cut.pieces) (map nameless (overs_of cut.pieces))

-- The texts of the events, one after another, are what is shown of the leaf, without such names: an event of an image has its target.
abbrev pub EventsAreShown : Type 0
EventsAreShown = (labels : List (List ℕ)) (t : List ℕ) → flat_map (event_shown t) (inline_events labels t) ≡ map char_of (nameless_cut (cut_text labels t) t)

-- ---- places

-- Each event begins where the one before it ended, or later. The last ends within the text.
abbrev pub AreRising : (at len : ℕ) → List EventContent → Type 0
AreRising at len [] = at ≤ len
AreRising at len (event ∷ events) = (at ≤ event.place) × AreRising (event.place + event.len) len events

-- The places of events rise.
abbrev pub PlacesRise : Type 0
PlacesRise = (labels : List (List ℕ)) (t : List ℕ) → AreRising 0 (length t) (inline_events labels t)

-- ---- what is open

-- the innermost of what is open, if anything is
abbrev pub innermost : List InlineTag → Option InlineTag
innermost [] = None
innermost (tag ∷ around) = Some tag

-- After these events the third are open, the innermost first, where the first were before: what ends is the innermost.
abbrev pub LeadsTo : List InlineTag → List InlineContent → List InlineTag → Type 0
LeadsTo around [] after = around ≡ after
LeadsTo around (start tag ∷ events) after = LeadsTo (tag ∷ around) events after
LeadsTo around (end tag ∷ events) after = (innermost around ≡ Some tag) × LeadsTo (drop 1 around) events after
LeadsTo around (text bytes ∷ events) after = LeadsTo around events after
LeadsTo around (character c second ∷ events) after = LeadsTo around events after
LeadsTo around (marks c count ∷ events) after = LeadsTo around events after
LeadsTo around (code bytes ∷ events) after = LeadsTo around events after
LeadsTo around (html shown bytes ∷ events) after = LeadsTo around events after
LeadsTo around (soft_break ∷ events) after = LeadsTo around events after
LeadsTo around (hard_break ∷ events) after = LeadsTo around events after

-- what happens, wherever it does
abbrev pub inline_in : EventContent → InlineContent
inline_in event = event.inline

-- Nothing is open before the events of a text, nor after them.
abbrev pub InlinesNest : Type 0
InlinesNest = (labels : List (List ℕ)) (t : List ℕ) → LeadsTo [] (map inline_in (inline_events labels t)) []

-- Phrases that were written, as html.
use Rattle.std.specs.Prelude.{◌≡◌, ℕ, Bool, true, false, ◌&&◌, List, [], ◌∷◌, ◌++◌, codes, chars, if◌then◌else◌}
use Rattle.std.specs.List.{flat_map, list_all}
use Rattle.std.specs.Str.{is_utf8}
use Rattle.markdown_runs.specs.declared.flanking.Neighbor.{Neighbor}
use Rattle.markdown_runs.specs.declared.flanking.Neighbor.TheVariants.{Blank, Punctuation}
use Rattle.markdown_runs.specs.Flanking.{beside, is_flanking}
use Rattle.markdown_pieces.specs.Pieces.{first_char, last_char}
use Rattle.markdown_as_html.specs.Defined.{Defined}
use Rattle.markdown_as_html.specs.Escaped.{addressed, attribute, escaped as html_text, within}
use Rattle.markdown_as_html.specs.Inlines.{inline_html}
use Rattle.markdown_writing.specs.Phrases.{Phrase, plain, code_span, emphasis, link, line_text}
use Rattle.markdown_writing.specs.Writable.{ArePhrases}

-- the name of the element that emphasis is
abbrev pub emphasis_name : (strong : Bool) → List ℕ
emphasis_name strong = if strong then codes "strong" else codes "em"

-- Words as html, and code, emphasis and links as elements: & < > and " are entities.
abbrev pub phrase_html : Phrase → List ℕ
phrase_html (plain words) = html_text words
phrase_html (code_span code) = within (codes "code") (html_text code)
phrase_html (emphasis strong words) = within (emphasis_name strong) (html_text words)
phrase_html (link words destination) = codes "<a" ++ (attribute (codes "href") (addressed destination) ++ (codes ">" ++ (html_text words ++ codes "</a>")))

-- ---- where emphasis may stand

-- what words begin with: whitespace, punctuation, or a letter or the like
abbrev pub first_of : List ℕ → Neighbor
first_of words = beside (first_char (chars words))

-- what they end with
abbrev pub last_of : List ℕ → Neighbor
last_of words = beside (last_char (chars words))

-- what phrases begin with: the end of a line is whitespace, and code is punctuation
abbrev pub next_of : List Phrase → Neighbor
next_of [] = Blank
next_of (plain words ∷ phrases) = first_of words
next_of _ = Punctuation

-- The stars in front of emphasis are left-flanking, and those behind it right-flanking, as CommonMark has it. This stands before the first phrase.
abbrev pub stars_flank : (before : Neighbor) → List Phrase → Bool
stars_flank before [] = true
stars_flank before (plain words ∷ phrases) = stars_flank (last_of words) phrases
stars_flank before (code_span code ∷ phrases) = stars_flank Punctuation phrases
stars_flank before (link words destination ∷ phrases) = stars_flank Punctuation phrases
stars_flank before (emphasis strong words ∷ phrases) = is_flanking (first_of words) before && is_flanking (last_of words) (next_of phrases) && stars_flank Punctuation phrases

-- emphasis is among these
abbrev pub has_emphasis : List Phrase → Bool
has_emphasis [] = false
has_emphasis (plain words ∷ phrases) = has_emphasis phrases
has_emphasis (code_span code ∷ phrases) = has_emphasis phrases
has_emphasis (link words destination ∷ phrases) = has_emphasis phrases
has_emphasis (emphasis strong words ∷ phrases) = true

-- what a phrase says is UTF-8
abbrev pub is_text : Phrase → Bool
is_text (plain words) = is_utf8 words
is_text (code_span code) = is_utf8 code
is_text (emphasis strong words) = is_utf8 words
is_text (link words destination) = is_utf8 words

-- Emphasis stands where its stars open and close. Where some is, all phrases are UTF-8. Without emphasis nothing is asked.
pub record StarsFit (phrases : List Phrase) : Type 0 where
  pub flank : stars_flank Blank phrases ≡ true
  pub texts : has_emphasis phrases ≡ true → list_all is_text phrases ≡ true

-- Of phrases the html (`inline_html`) is theirs, one after the other: no other element is in it, whatever labels are defined.
abbrev pub PhrasesArePrinted : Type 0
PhrasesArePrinted = (defined : Defined) (phrases : List Phrase) → ArePhrases phrases → StarsFit phrases → inline_html defined (line_text phrases) ≡ flat_map phrase_html phrases

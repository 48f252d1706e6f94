-- What is shown of a leaf's text: of each piece its characters, one after another. All of a piece look the same.
use Rattle.std.specs.Prelude.{ℕ, ◌+◌, Bool, true, false, if◌then◌else◌, List, [], ◌∷◌, ◌++◌, length, map, Option, Some, None}
use Rattle.std.specs.List.{list_all, range_with_len}
use Rattle.markdown_emphasis.specs.declared.runs.Pair.{Pair}
use Rattle.markdown_emphasis.specs.declared.flags.Flags.{Flags}
use Rattle.markdown_emphasis.specs.Flags.{flags_of}
use Rattle.markdown_brackets.specs.declared.targets.Target.{Target}
use Rattle.markdown_spans.specs.declared.attributes.Html.{Html}
use Rattle.markdown_spans.specs.declared.attributes.Html.TheVariants.{Link as LinkTag}
use Rattle.markdown_pieces.specs.declared.pieces.Kind.{Kind}
use Rattle.markdown_pieces.specs.declared.pieces.Kind.TheVariants.{Code as CodeKind, Address, Bare, Html as HtmlKind, Closing}
use Rattle.markdown_pieces.specs.declared.pieces.Piece.{Piece}
use Rattle.markdown_pieces.specs.Cut.{CutText, cut_text}
use Rattle.markdown_inlines.specs.declared.looks.Look.{Look}
use Rattle.markdown_inlines.specs.declared.links.Over.{Over}
use Rattle.markdown_inlines.specs.declared.inlines.LinkTarget.{LinkTarget}
use Rattle.markdown_inlines.specs.declared.inlines.LinkTarget.TheVariants.{Definition, Inline, Address as AddressTarget, Attribute}
use Rattle.markdown_inlines.specs.Looks.{look_of}
use Rattle.markdown_inlines.specs.Links.{overs_of}
use Rattle.markdown_inlines.specs.Tags.{tagged}
use Rattle.markdown_inlines.specs.Left.{left_at}
use Rattle.markdown_inlines.specs.Printable.{is_shown}
use Rattle.markdown_inlines.specs.Parts.{piece_shown}
use Rattle.markdown_inlines.specs.Styled.{Shown, shown_with}

-- the piece is a code span
abbrev pub is_code : Kind → Bool
is_code (CodeKind code) = true
is_code _ = false

-- bold, italic and struck out as pairs and tags are over the piece; code; the nearest link over it; the picture that says it, in which none of the first four holds
abbrev pub look_at : Flags → Piece → Over → Look
look_at flags p over = look_of flags over.tags (is_code p.kind) over.link over.picture

-- the characters of a piece, which all look the same
abbrev pub shown_piece : List ℕ → ℕ → Piece → Flags → ℕ → Over → List Shown
shown_piece text at p flags left over = map (shown_with (look_at flags p over)) (piece_shown text at p left over)

-- Of the pieces from a place on: each with its flags, how many of its marks are left, and what links have to do with it.
unfoldable pub shown_from : List ℕ → ℕ → List Piece → List Flags → List ℕ → List Over → List Shown
shown_from text at [] flags left overs = []
shown_from text at (p ∷ ps) [] left overs = []
shown_from text at (p ∷ ps) (f ∷ fs) [] overs = []
shown_from text at (p ∷ ps) (f ∷ fs) (n ∷ ns) [] = []
shown_from text at (p ∷ ps) (f ∷ fs) (n ∷ ns) (o ∷ os) = shown_piece text at p f n o ++ shown_from text (at + (p.more + 1)) ps fs ns os

-- how many marks of each piece pairs leave
abbrev pub left_of : List Pair → List Piece → List ℕ
left_of pairs pieces = map (left_at pairs pieces) (range_with_len 0 (length pieces))

-- what links, pictures and tags have to do with each piece
abbrev pub all_over : List Piece → List Over
all_over pieces = tagged pieces (overs_of pieces)

-- what is shown of a text that was cut
abbrev pub shown_cut : CutText → List ℕ → List Shown
shown_cut cut text = shown_from text 0 cut.pieces (flags_of (length cut.pieces) cut.pairs) (left_of cut.pairs cut.pieces) (all_over cut.pieces)

-- what is shown of a leaf's text, where these are defined
abbrev pub leaf_text : List (List ℕ) → List ℕ → List Shown
leaf_text labels text = shown_cut (cut_text labels text) text

-- the character, however it looks
abbrev pub char_of : Shown → ℕ
char_of s = s.char

-- nothing but breaks of lines and printable characters
abbrev pub are_shown : List Shown → Bool
are_shown shown = list_all is_shown (map char_of shown)

-- ---- links

-- a definition makes the link, or the bytes behind its closing bracket do
abbrev pub target_from : Option ℕ → ℕ → ℕ → LinkTarget
target_from None len after = Inline after len
target_from (Some index) len after = Definition index

-- behind a closing bracket that ends at a place
abbrev pub target_by : Target → ℕ → LinkTarget
target_by target after = target_from target.definition target.len after

-- a tag of html begins the link, which stands behind its sign < from a place on
abbrev pub html_target : Html → ℕ → Option LinkTarget
html_target (LinkTag value) after = Some (Attribute after value)
html_target _ after = None

-- the link that this piece makes, if it makes one; an image is none
abbrev pub link_target : Kind → (at more : ℕ) → Option LinkTarget
link_target (Closing (Some link)) at more = if link.image then None else Some (target_by link.target (at + 1))
link_target (Address len scheme) at more = Some (AddressTarget scheme (at + 1) len)
link_target (Bare scheme) at more = Some (AddressTarget scheme at (more + 1))
link_target (HtmlKind html) at more = html_target html (at + 1)
link_target _ at more = None

-- one more link, if there is one
abbrev pub with_link : Option LinkTarget → List LinkTarget → List LinkTarget
with_link None links = links
with_link (Some link) links = link ∷ links

-- the links of the pieces from a place on, in the order of the pieces that make them: a link of brackets ends with its piece, and one of a tag begins with it
unfoldable pub links_from : ℕ → List Piece → List LinkTarget
links_from at [] = []
links_from at (p ∷ ps) = with_link (link_target p.kind at p.more) (links_from (at + (p.more + 1)) ps)

-- the links of a leaf's text, in that order
abbrev pub leaf_links : List (List ℕ) → List ℕ → List LinkTarget
leaf_links labels text = links_from 0 (cut_text labels text).pieces

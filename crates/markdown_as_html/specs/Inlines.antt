-- The html of a leaf's text.
use Rattle.std.specs.Prelude.{ℕ, ◌+◌, ◌-◌, Bool, ◌&&◌, ◌==◌, nat_lt, List, [], ◌∷◌, ◌++◌, map, reverse, replicate, filter, flat_map, codes, encode_utf8, Option, Some, None, slice_index_or, if◌then◌else◌}
use Rattle.std.specs.List.{list_any}
use Rattle.markdown_emphasis.specs.declared.runs.Pair.{Pair}
use Rattle.markdown_emphasis.specs.Flags.{is_bold, is_strikeout}
use Rattle.markdown_emphasis.specs.Left.{taken_at}
use Rattle.markdown_spans.specs.Code.{spaced, unpadded}
use Rattle.markdown_brackets.specs.declared.brackets.Link.{Link}
use Rattle.markdown_pieces.specs.declared.pieces.Kind.{Kind}
use Rattle.markdown_pieces.specs.declared.pieces.Kind.TheVariants.{Plain, Shown, Code, Address, Bare, Html, Soft, Hard, Run, Opening, Closing}
use Rattle.markdown_pieces.specs.declared.pieces.Piece.{Piece}
use Rattle.markdown_pieces.specs.Cut.{CutText, cut_text}
use Rattle.markdown_addresses.specs.declared.addresses.Scheme.{Scheme}
use Rattle.markdown_inlines.specs.Inlines.{target_by}
use Rattle.markdown_inlines.specs.Left.{piece_marks}
use Rattle.markdown_inlines.specs.Parts.{sign_char, part}
use Rattle.markdown_inlines.specs.declared.inlines.LinkTarget.{LinkTarget}
use Rattle.markdown_inlines.specs.declared.inlines.LinkTarget.TheVariants.{Definition, Inline, Address as AddressTarget, Attribute}
use Rattle.markdown_destinations.specs.Destinations.{Leads, link_leads, scheme_text}
use Rattle.markdown_as_html.specs.Defined.{Defined}
use Rattle.markdown_as_html.specs.Escaped.{escaped, addressed, tag, end_tag, within, attribute}

-- ---- links and images

-- a link or an image, from the piece that opens it to the one that closes it, and where it leads
pub record Span : Type 0 where
  pub opener : ℕ
  pub closer : ℕ
  pub image : Bool
  pub leads : Leads

-- where a link leads that has no destination and no title
abbrev pub nowhere : Leads
nowhere = record { destination = []; title = [] }

-- what is found, or nowhere
abbrev pub or_nowhere : Option Leads → Leads
or_nowhere None = nowhere
or_nowhere (Some leads) = leads

-- what a link of a text leads to: a definition says so, or the link itself
abbrev pub leads_to : List Leads → List ℕ → LinkTarget → Leads
leads_to defined text (Definition index) = slice_index_or defined index nowhere
leads_to defined text (Inline at len) = or_nowhere (link_leads text (Inline at len))
leads_to defined text (AddressTarget scheme at len) = or_nowhere (link_leads text (AddressTarget scheme at len))
leads_to defined text (Attribute at value) = or_nowhere (link_leads text (Attribute at value))

-- a closing bracket at a place of the text, which is the piece of this index
abbrev pub spans_at : List Leads → List ℕ → (at index : ℕ) → Kind → List Span
spans_at defined text at index (Closing (Some link)) =
    record { opener = link.opener; closer = index; image = link.image; leads = leads_to defined text (target_by link.target (at + 1)) } ∷ []
spans_at defined text at index _ = []

-- the links and images of the pieces from a place on
unfoldable pub spans_from : List Leads → List ℕ → (at index : ℕ) → List Piece → List Span
spans_from defined text at index [] = []
spans_from defined text at index (p ∷ ps) = spans_at defined text at index p.kind ++ spans_from defined text (at + (p.more + 1)) (index + 1) ps

-- ---- a piece

-- a text that is cut: its pairs of marks, its links and images
pub record Words : Type 0 where
  pub text : List ℕ
  pub pairs : List Pair
  pub spans : List Span

-- A piece is between the brackets of this image, where all is text: it is the image's alternative.
abbrev pub is_around : ℕ → Span → Bool
is_around index span = span.image && nat_lt span.opener index && nat_lt index span.closer

-- a piece is in one of the images
abbrev pub is_in_image : Words → ℕ → Bool
is_in_image words index = list_any (is_around index) words.spans

-- the links and images that begin at a piece
abbrev pub opened_at : Words → ℕ → List Span
opened_at words index = filter (λ span. span.opener == index) words.spans

-- the links and images that end at a piece
abbrev pub closed_at : Words → ℕ → List Span
closed_at words index = filter (λ span. span.closer == index) words.spans

-- the bytes of a second character, if there is one
abbrev pub second_bytes : Option ℕ → List ℕ
second_bytes None = []
second_bytes (Some c) = encode_utf8 c

-- an opening bracket is text where no link or image begins there
abbrev pub bracket_text : Bool → List Span → List ℕ
bracket_text image [] = if image then codes "![" else codes "["
bracket_text image (span ∷ spans) = []

-- a closing bracket is text where it closes none
abbrev pub closing_text : Option Link → List ℕ
closing_text None = codes "]"
closing_text (Some link) = []

-- what a piece at a place says; so many of its marks are left, and these links or images it opens
abbrev pub said : Kind → List ℕ → (at more left : ℕ) → List Span → List ℕ
said Plain text at more left opens = part text at (more + 1)
said (Shown c second) text at more left opens = encode_utf8 c ++ second_bytes second
said (Code code) text at more left opens = map spaced (unpadded (part text (at + code.marks) code.len))
said (Address len scheme) text at more left opens = part text (at + 1) len
said (Bare scheme) text at more left opens = part text at (more + 1)
said (Html html) text at more left opens = []
said Soft text at more left opens = codes " "
said Hard text at more left opens = codes " "
said (Run run) text at more left opens = replicate left (sign_char run.sign)
said (Opening image) text at more left opens = bracket_text image opens
said (Closing link) text at more left opens = closing_text link

-- strong emphasis, emphasis, or what is struck out
abbrev pub pair_name : Pair → List ℕ
pair_name pair = if is_strikeout pair then codes "del" else if is_bold pair then codes "strong" else codes "em"

-- the tag that begins a pair
abbrev pub pair_tag : Pair → List ℕ
pair_tag pair = tag (pair_name pair)

-- the tag that ends a pair
abbrev pub pair_end : Pair → List ℕ
pair_end pair = end_tag (pair_name pair)

-- The pairs that end at a piece end in their order. Those that begin there begin the other way round: the last is around the others.
abbrev pub run_html : List Pair → ℕ → List ℕ → List ℕ
run_html pairs index left =
    flat_map pair_end (filter (λ pair. pair.closer == index) pairs) ++ (left ++ flat_map pair_tag (reverse (filter (λ pair. pair.opener == index) pairs)))

-- a title is an attribute; without one there is none
abbrev pub title_html : List ℕ → List ℕ
title_html [] = []
title_html (b ∷ bs) = attribute (codes "title") (escaped (b ∷ bs))

-- An image's tag is open until its closing bracket: what is between is the value of its attribute.
abbrev pub span_begin : Span → List ℕ
span_begin span =
    if span.image then codes "<img" ++ (attribute (codes "src") (addressed span.leads.destination) ++ codes " alt=\"")
    else codes "<a" ++ (attribute (codes "href") (addressed span.leads.destination) ++ (title_html span.leads.title ++ codes ">"))

-- what ends a link, or an image with its title
abbrev pub span_end : Span → List ℕ
span_end span = if span.image then codes "\"" ++ (title_html span.leads.title ++ codes " />") else codes "</a>"

-- a link to an address
abbrev pub address_html : Scheme → List ℕ → List ℕ
address_html scheme address = codes "<a" ++ (attribute (codes "href") (addressed (scheme_text scheme ++ address)) ++ (codes ">" ++ (escaped address ++ codes "</a>")))

-- the html of a piece that says this
abbrev pub marked : Words → (at index more : ℕ) → Kind → List ℕ → List ℕ
marked words at index more (Code code) says = within (codes "code") (escaped says)
marked words at index more (Address len scheme) says = address_html scheme says
marked words at index more (Bare scheme) says = address_html scheme says
marked words at index more (Html html) says = part words.text at (more + 1)
marked words at index more Soft says = codes "\n"
marked words at index more Hard says = codes "<br />\n"
marked words at index more (Run run) says = run_html words.pairs index says
marked words at index more (Opening image) says = says ++ flat_map span_begin (opened_at words index)
marked words at index more (Closing link) says = says ++ flat_map span_end (closed_at words index)
marked words at index more _ says = escaped says

-- the html of a piece; in an image it is only its text
abbrev pub piece_html : Words → (at index : ℕ) → Piece → List ℕ
piece_html words at index p =
    let says = said p.kind words.text at p.more (piece_marks p - taken_at words.pairs index) (opened_at words index) in
    if is_in_image words index then escaped says else marked words at index p.more p.kind says

-- the html of the pieces from a place on
unfoldable pub pieces_html : Words → (at index : ℕ) → List Piece → List ℕ
pieces_html words at index [] = []
pieces_html words at index (p ∷ ps) = piece_html words at index p ++ pieces_html words (at + (p.more + 1)) (index + 1) ps

-- ---- a text

-- a text that was cut, with the pairs, links and images that were found
abbrev pub words_of : List Leads → List ℕ → CutText → Words
words_of defined text cut = record { text = text; pairs = cut.pairs; spans = spans_from defined text 0 0 cut.pieces }

-- the html of a text that was cut
abbrev pub cut_html : List Leads → List ℕ → CutText → List ℕ
cut_html defined text cut = pieces_html (words_of defined text cut) 0 0 cut.pieces

-- the html of a leaf's text, where these are defined
unfoldable pub inline_html : Defined → List ℕ → List ℕ
inline_html defined text = cut_html defined.leads text (cut_text defined.labels text)

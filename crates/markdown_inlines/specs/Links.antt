-- Over which pieces links and pictures are. Each goes from its opening bracket to its closing one.
use Rattle.std.specs.Prelude.{ℕ, ◌+◌, ◌==◌, ◌&&◌, ◌||◌, not, Bool, true, false, if◌then◌else◌, List, [], ◌∷◌, drop, Option, Some, None, is_some}
use Rattle.markdown_brackets.specs.declared.brackets.Link.{Link}
use Rattle.markdown_spans.specs.declared.attributes.Html.{Html}
use Rattle.markdown_spans.specs.declared.attributes.Html.TheVariants.{Link as LinkTag}
use Rattle.markdown_pieces.specs.declared.pieces.Kind.{Kind}
use Rattle.markdown_pieces.specs.declared.pieces.Kind.TheVariants.{Address, Bare, Html as HtmlKind, Opening, Closing}
use Rattle.markdown_pieces.specs.declared.pieces.Piece.{Piece}
use Rattle.markdown_inlines.specs.declared.links.Over.{Over}
use Rattle.markdown_inlines.specs.declared.links.Ahead.{Ahead}
use Rattle.markdown_inlines.specs.declared.tags.TagFlags.{TagFlags}

-- a tag begins a link
abbrev pub is_link_tag : Html → Bool
is_link_tag (LinkTag value) = true
is_link_tag _ = false

-- a link is made by a piece of this kind: it ends with it, or is it, or begins with that tag
abbrev pub is_link : Kind → Bool
is_link (Closing (Some link)) = not link.image
is_link (Address len scheme) = true
is_link (Bare scheme) = true
is_link (HtmlKind html) = is_link_tag html
is_link _ = false

-- one, if it is a link
abbrev pub links_in : Kind → ℕ
links_in kind = if is_link kind then 1 else 0

-- how many links there are
unfoldable pub link_count : List Piece → ℕ
link_count [] = 0
link_count (p ∷ ps) = links_in p.kind + link_count ps

-- the link over a piece, by the links and images whose closing brackets are ahead, the nearest first
abbrev pub nearest : List Ahead → Option ℕ
nearest [] = None
nearest (a ∷ others) = a.number

-- the outermost picture that is over a piece, by the same
abbrev pub nearest_picture : List Ahead → Option ℕ
nearest_picture [] = None
nearest_picture (a ∷ others) = a.picture

-- whether the nearest of them begins at a piece
abbrev pub opens_at : ℕ → List Ahead → Bool
opens_at index [] = false
opens_at index (a ∷ others) = a.opener == index

-- the piece is an opening bracket
abbrev pub is_opening : Kind → Bool
is_opening (Opening image) = true
is_opening _ = false

-- an address is a link by itself, but not in a link
abbrev pub own_link : ℕ → Kind → Option ℕ
own_link number (Address len scheme) = Some number
own_link number (Bare scheme) = Some number
own_link number _ = None

-- the picture that a closing bracket ends: the index of the piece with which it begins
abbrev pub picture_by : Link → Option ℕ
picture_by link = if link.image then Some link.opener else None

-- the picture that ends with a piece of this kind
abbrev pub own_picture : Kind → Option ℕ
own_picture (Closing (Some link)) = picture_by link
own_picture _ = None

-- the first number, if there is one, or else the second
abbrev pub or_number : Option ℕ → Option ℕ → Option ℕ
or_number None otherwise = otherwise
or_number (Some number) otherwise = Some number

-- the link that is over a piece; in a picture it is the one around that, and an address is none
abbrev pub link_over : ℕ → Kind → List Ahead → Option ℕ
link_over number kind ahead = if is_some (nearest_picture ahead) then nearest ahead else or_number (nearest ahead) (own_link number kind)

-- a piece is the closing bracket of an image that has nothing between its brackets
abbrev pub is_silent : ℕ → Kind → Bool
is_silent index (Closing (Some link)) = link.image && (link.opener + 1 == index)
is_silent index _ = false

-- no tag gives a flag
abbrev pub untagged : TagFlags
untagged = record { bold = false; italic = false; strikeout = false; code = false }

-- the link and the picture that are over a piece, whether a link or an image begins at it, and whether an image with nothing between its brackets ends
abbrev pub over_of : ℕ → ℕ → Kind → List Ahead → Over
over_of index number kind ahead =
    record {
      link = link_over number kind ahead;
      picture = or_number (nearest_picture ahead) (own_picture kind);
      opens = is_opening kind && opens_at index ahead;
      silent = is_silent index kind;
      tags = untagged;
    }

-- an image is no link, and in one there is none: what it holds is of the link around it
abbrev pub number_by : ℕ → Link → List Ahead → Option ℕ
number_by number link ahead = if link.image || is_some (nearest_picture ahead) then nearest ahead else Some number

-- the link or the image of which this is the closing bracket, ahead of what is before it; of images in one another the outermost counts
abbrev pub ahead_by : ℕ → Link → List Ahead → Ahead
ahead_by number link ahead = record { number = number_by number link ahead; picture = or_number (nearest_picture ahead) (picture_by link); opener = link.opener }

-- one piece back: a link's closing bracket comes ahead, and goes at its opening bracket
abbrev pub stepped_back : ℕ → ℕ → Kind → List Ahead → List Ahead
stepped_back index number (Closing (Some link)) ahead = ahead_by number link ahead ∷ ahead
stepped_back index number (Opening image) ahead = if opens_at index ahead then drop 1 ahead else ahead
stepped_back index number _ ahead = ahead

-- of some pieces: what links and pictures have to do with each, and the links and images that are ahead of all of them, the nearest first
pub record Overs : Type 0 where
  pub overs : List Over
  pub ahead : List Ahead

-- one more piece, which stands before those that were seen
abbrev pub one_back : ℕ → ℕ → Kind → Overs → Overs
one_back index number kind o = record { overs = over_of index number kind o.ahead ∷ o.overs; ahead = stepped_back index number kind o.ahead }

-- the first of them has this index, and before it are so many links
unfoldable pub overs_from : (index number : ℕ) → List Piece → Overs
overs_from index number [] = record { overs = []; ahead = [] }
overs_from index number (p ∷ ps) = one_back index number p.kind (overs_from (index + 1) (number + links_in p.kind) ps)

-- what links and pictures have to do with each piece of a text
abbrev pub overs_of : List Piece → List Over
overs_of pieces = (overs_from 0 0 pieces).overs

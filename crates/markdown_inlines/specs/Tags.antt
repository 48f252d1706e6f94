-- What tags of html say of the pieces behind them.
use Rattle.std.specs.Prelude.{ℕ, ◌+◌, ◌-◌, ◌^◌, ◌==◌, not, min, if◌then◌else◌, List, [], ◌∷◌, Option, Some, None, is_some}
use Rattle.markdown_spans.specs.declared.attributes.Flag.{Flag}
use Rattle.markdown_spans.specs.declared.attributes.Flag.TheVariants.{Bold, Italic, Strikeout, Code}
use Rattle.markdown_spans.specs.declared.attributes.Html.{Html}
use Rattle.markdown_spans.specs.declared.attributes.Html.TheVariants.{Alternative, Source, On, Off, Link, LinkEnd}
use Rattle.markdown_pieces.specs.declared.pieces.Kind.{Kind}
use Rattle.markdown_pieces.specs.declared.pieces.Kind.TheVariants.{Html as HtmlKind}
use Rattle.markdown_pieces.specs.declared.pieces.Piece.{Piece}
use Rattle.markdown_inlines.specs.declared.links.Over.{Over}
use Rattle.markdown_inlines.specs.declared.tags.Tags.{Tags}
use Rattle.markdown_inlines.specs.declared.tags.TagFlags.{TagFlags}
use Rattle.markdown_inlines.specs.Links.{links_in, or_number}

-- before a leaf no tag is open
abbrev pub no_tags : Tags
no_tags = record { bold = 0; italic = 0; strikeout = 0; code = 0; link = None }

-- the next number of 64 bits, if there is one
abbrev pub next : ℕ → ℕ
next n = min (n + 1) (2 ^ 64 - 1)

-- one more tag gives this flag
abbrev pub with_flag : Flag → Tags → Tags
with_flag Bold t = record t { bold = next t.bold }
with_flag Italic t = record t { italic = next t.italic }
with_flag Strikeout t = record t { strikeout = next t.strikeout }
with_flag Code t = record t { code = next t.code }

-- one less gives it
abbrev pub without_flag : Flag → Tags → Tags
without_flag Bold t = record t { bold = t.bold - 1 }
without_flag Italic t = record t { italic = t.italic - 1 }
without_flag Strikeout t = record t { strikeout = t.strikeout - 1 }
without_flag Code t = record t { code = t.code - 1 }

-- what is open behind raw html; a link that begins has this number
abbrev pub after_html : ℕ → Html → Tags → Tags
after_html number (On flag) t = with_flag flag t
after_html number (Off flag) t = without_flag flag t
after_html number (Link value) t = record t { link = Some number }
after_html number LinkEnd t = record t { link = None }
after_html number _ t = t

-- what is open behind a piece
abbrev pub after_kind : ℕ → Kind → Tags → Tags
after_kind number (HtmlKind html) t = after_html number html t
after_kind number _ t = t

-- tags that a picture says change nothing
abbrev pub after_piece : ℕ → Kind → Over → Tags → Tags
after_piece number kind over t = if is_some over.picture then t else after_kind number kind t

-- the flags that tags give
abbrev pub flags_on : Tags → TagFlags
flags_on t = record { bold = not (t.bold == 0); italic = not (t.italic == 0); strikeout = not (t.strikeout == 0); code = not (t.code == 0) }

-- the picture that raw html is: the index of its piece
abbrev pub html_picture : ℕ → Html → Option ℕ
html_picture index (Alternative value) = Some index
html_picture index (Source value) = Some index
html_picture index _ = None

-- the picture that a piece is by itself
abbrev pub tag_picture : ℕ → Kind → Option ℕ
tag_picture index (HtmlKind html) = html_picture index html
tag_picture index _ = None

-- What links, pictures and tags have to do with a piece: a link that brackets or an address make comes before one of a tag.
abbrev pub tagged_over : ℕ → Kind → Tags → Over → Over
tagged_over index kind t over =
    record {
      link = or_number over.link t.link;
      picture = or_number over.picture (tag_picture index kind);
      opens = over.opens;
      silent = over.silent;
      tags = flags_on t;
    }

-- Of the pieces from an index on, where so many links are before: these tags are open.
unfoldable pub tagged_from : (index number : ℕ) → Tags → List Piece → List Over → List Over
tagged_from index number t [] overs = []
tagged_from index number t (p ∷ ps) [] = []
tagged_from index number t (p ∷ ps) (o ∷ os) =
    tagged_over index p.kind t o ∷ tagged_from (index + 1) (number + links_in p.kind) (after_piece number p.kind o t) ps os

-- what links, pictures and tags have to do with each piece of a text
abbrev pub tagged : List Piece → List Over → List Over
tagged pieces overs = tagged_from 0 0 no_tags pieces overs

-- What a piece says, and how many of its bytes each has.
use Rattle.std.specs.Prelude.{ℕ, ◌+◌, ◌-◌, ◌==◌, Bool, true, false, if◌then◌else◌, List, [], ◌∷◌, ◌++◌, length, min, map, reverse, Option, Some, None}
use Rattle.markdown_emphasis.specs.declared.runs.Run.{Run}
use Rattle.markdown_brackets.specs.declared.brackets.Link.{Link}
use Rattle.markdown_spans.specs.Code.{unpadded}
use Rattle.markdown_pieces.specs.declared.pieces.Kind.{Kind}
use Rattle.markdown_pieces.specs.declared.pieces.Kind.TheVariants.{Plain, Shown, Code as CodeKind, Address, Bare, Html as HtmlKind, Soft, Hard, Run as RunKind, Opening, Closing}
use Rattle.markdown_inlines.specs.declared.inlines.LinkTarget.{LinkTarget}
use Rattle.markdown_inlines.specs.declared.inlines.LinkTarget.TheVariants.{Address as AddressTarget}
use Rattle.markdown_inlines.specs.Parts.{sign_char, part}
use Rattle.markdown_inline_events.specs.declared.events.InlineTag.TheVariants.{Link as LinkTag}
use Rattle.markdown_inline_events.specs.declared.shares.Share.{Share}
use Rattle.markdown_inline_events.specs.declared.spans.Span.{Span}
use Rattle.markdown_inline_events.specs.Spans.{ends_at, still_open}
use Rattle.markdown_inline_events.specs.Contents.{InlineContent, start, end, text, character, marks, code, html, soft_break, hard_break, inline_of, EventContent}

-- something that happens, and how many bytes say it
pub record ShareContent : Type 0 where
  pub inline : InlineContent
  pub bytes : ℕ

-- what a share of the code says
abbrev pub share_of : Share → ShareContent
share_of s = record { inline = inline_of s.inline; bytes = s.bytes }

-- this, of so many bytes
abbrev pub share : InlineContent → ℕ → ShareContent
share inline bytes = record { inline = inline; bytes = bytes }

-- the beginning of a span
abbrev pub start_share : Span → ShareContent
start_share span = share (start span.tag) span.opening

-- its end
abbrev pub end_share : Span → ShareContent
end_share span = share (end span.tag) span.closing

-- an address is a link by itself, whose text it is, with so many bytes before it and behind it
abbrev pub address_shares : LinkTarget → List ℕ → ℕ → List ShareContent
address_shares target address around =
    share (start (LinkTag target)) around ∷ share (text address) (length address) ∷ share (end (LinkTag target)) around ∷ []

-- marks that no pair takes are text
abbrev pub marks_shares : Run → ℕ → List ShareContent
marks_shares run left = if left == 0 then [] else share (marks (sign_char run.sign) left) left ∷ []

-- an opening bracket is text where no link or image begins there
abbrev pub opening_shares : (image opens : Bool) → List ShareContent
opening_shares image opens = if opens then [] else if image then share (text (33 ∷ 91 ∷ [])) 2 ∷ [] else share (text (91 ∷ [])) 1 ∷ []

-- a closing bracket is text where it closes none
abbrev pub closing_shares : Option Link → List ShareContent
closing_shares None = share (text (93 ∷ [])) 1 ∷ []
closing_shares (Some link) = []

-- What a piece of a text at a place says by itself: so many of its marks are left; it opens a link or doesn't.
abbrev pub own_shares : Kind → List ℕ → (at more left : ℕ) → Bool → List ShareContent
own_shares Plain t at more left opens = share (text (part t at (more + 1))) (more + 1) ∷ []
own_shares (Shown c second) t at more left opens = share (character c second) (more + 1) ∷ []
own_shares (CodeKind span) t at more left opens = share (code (unpadded (part t (at + span.marks) span.len))) (more + 1) ∷ []
own_shares (Address len scheme) t at more left opens = address_shares (AddressTarget scheme (at + 1) len) (part t (at + 1) len) 1
own_shares (Bare scheme) t at more left opens = address_shares (AddressTarget scheme at (more + 1)) (part t at (more + 1)) 0
own_shares (HtmlKind shown) t at more left opens = share (html shown (part t at (more + 1))) (more + 1) ∷ []
own_shares Soft t at more left opens = share soft_break (more + 1) ∷ []
own_shares Hard t at more left opens = share hard_break (more + 1) ∷ []
own_shares (RunKind run) t at more left opens = marks_shares run left
own_shares (Opening image) t at more left opens = opening_shares image opens
own_shares (Closing link) t at more left opens = closing_shares link

-- spans begin and end with it
abbrev pub is_mark : Kind → Bool
is_mark (RunKind run) = true
is_mark (Opening image) = true
is_mark (Closing link) = true
is_mark _ = false

-- what a piece says: what ends at it, itself, and what begins at it
abbrev pub piece_shares : Kind → List Span → List ShareContent → List Span → List ShareContent
piece_shares kind ended own begun = if is_mark kind then map end_share ended ++ (own ++ map start_share begun) else own

-- the innermost of what is open ends at a piece
abbrev pub is_ending : ℕ → List Span → Bool
is_ending index [] = false
is_ending index (span ∷ around) = ends_at index span

-- what is open behind a piece, the innermost first
abbrev pub around_after : Kind → ℕ → List Span → List Span → List Span
around_after kind index begun around = if is_mark kind then reverse begun ++ still_open index around else around

-- Shares as events, one after another, from a place up to the end of their piece.
unfoldable pub placed : (at stop : ℕ) → List ShareContent → List EventContent
placed at stop [] = []
placed at stop (s ∷ ss) =
    let len = min s.bytes (stop - at) in
    record { inline = s.inline; place = at; len = len } ∷ placed (at + len) stop ss

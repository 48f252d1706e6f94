-- What a rest of a text begins with, where it is no bracket.
use Rattle.std.specs.Prelude.{ℕ, suc, is_some, ◌+◌, ◌-◌, ◌==◌, ◌||◌, ◌&&◌, not, nat_le, Bool, if◌then◌else◌, List, [], ◌∷◌, drop, take, slice_index, chars, Option, Some, None}
use Rattle.std.specs.List.{prefix_len}
use Rattle.std.specs.Char.{is_ascii_alphabetic}
use Rattle.markdown_emphasis.specs.declared.runs.Sign.{Sign}
use Rattle.markdown_emphasis.specs.declared.runs.Sign.TheVariants.{Star, Underscore, Tilde}
use Rattle.markdown_runs.specs.declared.flanking.Neighbor.{Neighbor}
use Rattle.markdown_runs.specs.Flanking.{beside, run_of}
use Rattle.markdown_marks.specs.Bytes.{first, is_blank_byte, count_in_front}
use Rattle.markdown_spans.specs.declared.code.Code.{Code}
use Rattle.markdown_spans.specs.declared.entities.Escape.{Escape}
use Rattle.markdown_spans.specs.declared.entities.Escape.TheVariants.{Sign as SignEscape, Break, Itself}
use Rattle.markdown_spans.specs.declared.entities.Entity.{Entity}
use Rattle.markdown_spans.specs.Code.{code_of}
use Rattle.markdown_spans.specs.Entities.{escape_of, entity_of}
use Rattle.markdown_addresses.specs.declared.bare.Bare.{Bare}
use Rattle.markdown_addresses.specs.Addresses.{address_len, scheme_of}
use Rattle.markdown_spans.specs.Html.{html_len}
use Rattle.markdown_spans.specs.Attributes.{html_shown}
use Rattle.markdown_addresses.specs.Bare.{bare_after}
use Rattle.markdown_pieces.specs.declared.pieces.Kind.{Kind}
use Rattle.markdown_pieces.specs.declared.pieces.Kind.TheVariants.{Plain, Shown, Code as CodeKind, Address, Bare as BareKind, Html as HtmlKind, Soft, Hard, Run as RunKind}
use Rattle.markdown_pieces.specs.declared.pieces.Piece.{Piece}

-- a piece of this kind, which has so many bytes after its first
abbrev pub piece : Kind → ℕ → Piece
piece kind more = record { kind = kind; more = more }

-- nothing but itself: none of ` * _ ~ \ & < [ ] !, and no blank or end of a line
abbrev pub is_plain : ℕ → Bool
is_plain b = not ((b == 96) || (b == 42) || (b == 95) || (b == 126) || (b == 92) || (b == 38) || (b == 60) || (b == 91) || (b == 93) || (b == 33) || (b == 10) || (b == 32) || (b == 9))

-- the last of these characters, the first of which stands before the others
abbrev pub last_after : ℕ → List ℕ → ℕ
last_after c [] = c
last_after c (d ∷ ds) = last_after d ds

-- the last character, if there is one
abbrev pub last_char : List ℕ → Option ℕ
last_char [] = None
last_char (c ∷ cs) = Some (last_after c cs)

-- the first character, if there is one
abbrev pub first_char : List ℕ → Option ℕ
first_char [] = None
first_char (c ∷ cs) = Some c

-- what stands before a place
abbrev pub before_at : List ℕ → ℕ → Neighbor
before_at text at = beside (last_char (chars (take at text)))

-- what stands after a place
abbrev pub after_at : List ℕ → ℕ → Neighbor
after_at text at = beside (first_char (chars (drop at text)))

-- a run, which is all marks of this sign that are in front
abbrev pub run_piece : Sign → List ℕ → ℕ → List ℕ → Piece
run_piece sign text at rest =
    let count = count_in_front (first rest) rest in
    piece (RunKind (run_of sign count (before_at text at) (after_at text (at + count)))) (count - 1)

-- the code span that is found; else the backquotes in front are text
abbrev pub code_by : List ℕ → Option Code → Piece
code_by rest None = piece Plain (count_in_front 96 rest - 1)
code_by rest (Some code) = piece (CodeKind code) ((code.marks + code.len + code.marks) - 1)

-- a code span, or a run of backquotes without a partner
abbrev pub code_piece : List ℕ → Piece
code_piece rest = code_by rest (code_of rest)

-- a sign that is shown, a break, or the backslash itself
abbrev pub escape_by : Escape → Piece
escape_by (SignEscape b) = piece (Shown b None) 1
escape_by Break = piece Hard 1
escape_by Itself = piece Plain 0

-- the piece is a backslash and what it escapes
abbrev pub escape_piece : List ℕ → Piece
escape_piece after = escape_by (escape_of after)

-- the entity that is found; else the sign & is text
abbrev pub entity_by : Option Entity → Piece
entity_by None = piece Plain 0
entity_by (Some entity) = piece (Shown entity.shown entity.second) entity.len

-- the piece is an entity, or a sign &
abbrev pub entity_piece : List ℕ → Piece
entity_piece after = entity_by (entity_of after)

-- the raw html that is found; else the angle bracket is text
abbrev pub html_by : List ℕ → Option ℕ → Piece
html_by after None = piece Plain 0
html_by after (Some len) = piece (HtmlKind (html_shown (take len after))) len

-- raw html, or an angle bracket
unfoldable pub html_piece : List ℕ → Piece
html_piece after = html_by after (html_len after)

-- the address that is found, or else raw html or an angle bracket
abbrev pub angle_by : List ℕ → Option ℕ → Piece
angle_by after None = html_piece after
angle_by after (Some len) = piece (Address len (scheme_of after)) (len + 1)

-- an address, raw html, or an angle bracket
abbrev pub angle_piece : List ℕ → Piece
angle_piece after = angle_by after (address_len after)

-- blanks that end with two spaces
abbrev pub is_hard : List ℕ → ℕ → Bool
is_hard rest blanks = nat_le 2 blanks && (slice_index rest (blanks - 1) == 32) && (slice_index rest (blanks - 2) == 32)

-- blanks, and then the end of a line
abbrev pub ends_line : List ℕ → Bool
ends_line rest = first (drop (prefix_len is_blank_byte rest) rest) == 10

-- the end of a line, and the blanks before it
abbrev pub break_piece : List ℕ → Piece
break_piece rest = let blanks = prefix_len is_blank_byte rest in if is_hard rest blanks then piece Hard blanks else piece Soft blanks

-- the bare address that a rest begins with: none where a bracket is open
abbrev pub bare_if : (free : Bool) → Option ℕ → List ℕ → Option Bare
bare_if free before rest = if free then bare_after before rest else None

-- a letter: behind it no bare address begins
abbrev pub is_word : ℕ → Bool
is_word b = is_ascii_alphabetic b

-- a byte that stands for itself: a plain one, or a blank, but not before the end of a line
abbrev pub stays : ℕ → List ℕ → Bool
stays b rest = is_plain b || (is_blank_byte b && not (ends_line rest))

-- how many bytes stand for themselves, up to a bare address
unfoldable pub plain_from : (free : Bool) → Option ℕ → List ℕ → ℕ
plain_from free before [] = 0
plain_from free before (b ∷ bs) = if stays b (b ∷ bs) && not (is_some (bare_if free before (b ∷ bs))) then suc (plain_from free (Some b) bs) else 0

-- the bare address that is found, or else bytes that stand for themselves
abbrev pub plain_by : Option Bare → Bool → ℕ → List ℕ → Piece
plain_by None free b rest = piece Plain (plain_from free (Some b) (drop 1 rest))
plain_by (Some bare) free b rest = piece (BareKind bare.scheme) (bare.len - 1)

-- a bare address, or bytes that stand for themselves, of which this is the first
unfoldable pub plain_piece : Bool → Option ℕ → ℕ → List ℕ → Piece
plain_piece free before b rest = plain_by (bare_if free before rest) free b rest

-- where no mark is: the end of a line, a bare address, or bytes that stand for themselves
abbrev pub no_mark_piece : Bool → Option ℕ → ℕ → List ℕ → Piece
no_mark_piece free before b rest = if ends_line rest then break_piece rest else plain_piece free before b rest

-- the byte before a place, if there is one
abbrev pub byte_before : List ℕ → ℕ → Option ℕ
byte_before text at = if at == 0 then None else Some (slice_index text (at - 1))

-- what the text from a place on begins with, where it is no bracket
abbrev pub piece_by : Bool → ℕ → List ℕ → ℕ → List ℕ → Piece
piece_by free b text at rest =
    if b == 96 then code_piece rest
    else if b == 42 then run_piece Star text at rest
    else if b == 95 then run_piece Underscore text at rest
    else if b == 126 then run_piece Tilde text at rest
    else if b == 92 then escape_piece (drop 1 rest)
    else if b == 38 then entity_piece (drop 1 rest)
    else if b == 60 then angle_piece (drop 1 rest)
    else no_mark_piece free (byte_before text at) b rest

-- what the text from a place on begins with, by the byte that is there
unfoldable pub piece_at : Bool → List ℕ → ℕ → List ℕ → Piece
piece_at free text at rest = piece_by free (slice_index text at) text at rest

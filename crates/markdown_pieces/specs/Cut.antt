-- A text as its pieces: each is what the text from there on begins with.
use Rattle.std.specs.Prelude.{ℕ, zero, suc, ◌+◌, ◌-◌, ◌==◌, ◌&&◌, min, Bool, true, false, if◌then◌else◌, List, [], ◌∷◌, length, drop, slice_index, Option, Some, None}
use Rattle.markdown_emphasis.specs.declared.runs.Pair.{Pair}
use Rattle.markdown_marks.specs.Bytes.{first}
use Rattle.markdown_brackets.specs.declared.brackets.Link.{Link}
use Rattle.markdown_brackets.specs.Brackets.{Reading, is_free, nothing_read, with_bracket, with_run, Closed, closed, finished}
use Rattle.markdown_pieces.specs.declared.cut.Inlines.{Inlines}
use Rattle.markdown_pieces.specs.declared.pieces.Kind.{Kind}
use Rattle.markdown_pieces.specs.declared.pieces.Kind.TheVariants.{Plain, Run as RunKind, Opening, Closing}
use Rattle.markdown_pieces.specs.declared.pieces.Piece.{Piece}
use Rattle.markdown_pieces.specs.Pieces.{piece, piece_at}

-- a piece, and what there is after it
pub record Step : Type 0 where
  pub piece : Piece
  pub reading : Reading

-- a run joins those that no link holds; no other piece does
abbrev pub read_run : Kind → ℕ → Reading → Reading
read_run (RunKind run) index r = with_run index run r
read_run _ index r = r

-- a piece that is no bracket, and what there is after it
abbrev pub step_of : Piece → ℕ → Reading → Step
step_of p index r = record { piece = p; reading = read_run p.kind index r }

-- the piece at a place where no bracket is
abbrev pub other_step : List ℕ → ℕ → ℕ → Reading → List ℕ → Step
other_step text at index r rest = step_of (piece_at (is_free r.brackets) text at rest) index r

-- how many bytes a link has behind its closing bracket
abbrev pub link_len : Option Link → ℕ
link_len None = 0
link_len (Some link) = link.target.len

-- a closing bracket and the target behind it are one piece
abbrev pub closing_step : Closed → Step
closing_step c = record { piece = piece (Closing c.link) (link_len c.link); reading = c.reading }

-- an opening bracket, and the sign ! of an image before it, are one piece
abbrev pub opening_step : Bool → (at index more : ℕ) → Reading → Step
opening_step image at index more r = record { piece = piece (Opening image) more; reading = with_bracket image index at r }

-- a bracket that opens or closes, or a piece without one, by the byte that is there
abbrev pub read_with : ℕ → List (List ℕ) → List ℕ → ℕ → ℕ → Reading → List ℕ → Step
read_with b labels text at index r rest =
    if b == 91 then opening_step false (at + 1) index 0 r
    else if (b == 33) && (first (drop (at + 1) text) == 91) then opening_step true (at + 2) index 1 r
    else if b == 93 then closing_step (closed labels text (at + 1) r)
    else other_step text at index r rest

-- the piece that begins at a place of the text
abbrev pub read_by : List (List ℕ) → List ℕ → ℕ → ℕ → Reading → List ℕ → Step
read_by labels text at index r rest = read_with (slice_index text at) labels text at index r rest

-- a piece has no more bytes than are left
abbrev pub capped : Piece → ℕ → Piece
capped p more = record p { more = min p.more more }

-- a step whose piece has no more bytes than are left
abbrev pub capped_step : Step → ℕ → Step
capped_step s more = record s { piece = capped s.piece more }

-- the piece that begins at a place of the text, where this is left
unfoldable pub step : List (List ℕ) → List ℕ → ℕ → ℕ → Reading → List ℕ → Step
step labels text at index r rest = capped_step (read_by labels text at index r rest) (length text - at - 1)

-- Some pieces in order, and what there is after them.
pub record Pieces : Type 0 where
  pub pieces : List Piece
  pub reading : Reading

-- one more piece, which stands before the others
abbrev pub onto : Piece → Pieces → Pieces
onto p c = record { pieces = p ∷ c.pieces; reading = c.reading }

-- The pieces of what is left at a place of the text: so many bytes belong to the last one still.
unfoldable pub cut_from : List (List ℕ) → List ℕ → (skip at index : ℕ) → Reading → List ℕ → Pieces
cut_from labels text skip at index r [] = record { pieces = []; reading = r }
cut_from labels text zero at index r (b ∷ bs) =
    let s = step labels text at index r (b ∷ bs) in
    onto s.piece (cut_from labels text s.piece.more (at + 1) (index + 1) s.reading bs)
cut_from labels text (suc skip) at index r (b ∷ bs) = cut_from labels text skip (at + 1) index r bs

-- A text that is cut: its pieces, and the pairs among them.
pub record CutText : Type 0 where
  pub pieces : List Piece
  pub pairs : List Pair

-- at the end of the text the runs that no link holds match among themselves
abbrev pub ended : Pieces → CutText
ended c = record { pieces = c.pieces; pairs = finished c.reading }

-- a text that is cut into pieces, where these labels are defined
abbrev pub cut_text : List (List ℕ) → List ℕ → CutText
cut_text labels text = ended (cut_from labels text 0 0 0 nothing_read text)

-- a text that is one piece, of which each byte stands for itself
abbrev pub whole_text : List ℕ → CutText
whole_text text = record { pieces = piece Plain (length text - 1) ∷ []; pairs = [] }

-- what the code has cut a text into
abbrev pub cut_of : Inlines → CutText
cut_of cut = record { pieces = cut.pieces.items; pairs = cut.pairs.items }

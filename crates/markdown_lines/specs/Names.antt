-- The names that tags give to their places, to which links go.
use Rattle.std.specs.Prelude.{ℕ, ◌+◌, ◌==◌, ◌&&◌, Bool, true, false, if◌then◌else◌, List, [], ◌∷◌, ◌++◌, take, drop, slice_index, Option, Some, None}
use Rattle.std.specs.Str.Lossy.{utf8_lossy}
use Rattle.markdown_spans.specs.Attributes.{anchor, value_text}
use Rattle.markdown_spans.specs.declared.attributes.Value.{Value}
use Rattle.markdown_pieces.specs.Cut.{cut_text}
use Rattle.markdown_pieces.specs.declared.pieces.Kind.{Kind}
use Rattle.markdown_pieces.specs.declared.pieces.Kind.TheVariants.{Html, Soft, Hard}
use Rattle.markdown_pieces.specs.declared.pieces.Piece.{Piece}
use Rattle.markdown_html_text.specs.HtmlPieces.{html_pieces}
use Rattle.markdown_lines.specs.Leaf.{shown_text}

-- a piece of this kind may be a tag: of a block of html one may end a row, or part two cells
abbrev pub may_be_tag : Kind → Bool
may_be_tag (Html html) = true
may_be_tag Soft = true
may_be_tag Hard = true
may_be_tag _ = false

-- the name that is found, each character as it is shown
abbrev pub name_by : List ℕ → Option Value → List (List ℕ)
name_by tag None = []
name_by tag (Some value) = shown_text (utf8_lossy (value_text tag value)) ∷ []

-- the name that a piece at a place gives
abbrev pub piece_names : List ℕ → ℕ → Piece → List (List ℕ)
piece_names text at p =
    if may_be_tag p.kind && (slice_index text at == 60) then name_by (drop (at + 1) text) (anchor (take p.more (drop (at + 1) text))) else []

-- those of the pieces from a place on
unfoldable pub names_from : List ℕ → ℕ → List Piece → List (List ℕ)
names_from text at [] = []
names_from text at (p ∷ ps) = piece_names text at p ++ names_from text (at + (p.more + 1)) ps

-- the names in a leaf with this text, where these labels are defined
abbrev pub leaf_names : List (List ℕ) → List ℕ → List (List ℕ)
leaf_names labels text = names_from text 0 (cut_text labels text).pieces

-- those in a leaf of html
abbrev pub html_names : List ℕ → List (List ℕ)
html_names text = names_from text 0 (html_pieces text)

-- The pieces of html, which are shown as those of a line are.
use Rattle.std.specs.Prelude.{ℕ, zero, suc, ◌==◌, ◌&&◌, ◌||◌, not, min, Bool, true, false, if◌then◌else◌, List, [], ◌∷◌, length, Option, Some, None}
use Rattle.std.specs.List.{prefix_len}
use Rattle.markdown_marks.specs.Definitions.{is_space_byte}
use Rattle.markdown_spans.specs.Entities.{entity_of}
use Rattle.markdown_spans.specs.declared.entities.Entity.{Entity}
use Rattle.markdown_spans.specs.declared.attributes.Html.{Html}
use Rattle.markdown_spans.specs.declared.attributes.Html.TheVariants.{Nothing, Alternative, Source}
use Rattle.markdown_pieces.specs.Cut.{CutText}
use Rattle.markdown_pieces.specs.Pieces.{piece}
use Rattle.markdown_pieces.specs.declared.pieces.Kind.{Kind}
use Rattle.markdown_pieces.specs.declared.pieces.Kind.TheVariants.{Plain, Shown, Html as HtmlKind, Soft, Hard}
use Rattle.markdown_pieces.specs.declared.pieces.Piece.{Piece}
use Rattle.markdown_html_text.specs.Markup.{markup_of}
use Rattle.markdown_html_text.specs.declared.markup.Effect.{Effect}
use Rattle.markdown_html_text.specs.declared.markup.Effect.TheVariants.{Gap, Cut, Say}
use Rattle.markdown_html_text.specs.declared.markup.Markup.{Markup}
use Rattle.markdown_html_text.specs.declared.pieces.HtmlRow.{HtmlRow}

-- a row of which nothing is shown
abbrev pub fresh : HtmlRow
fresh = record { begun = false; gapped = false }

-- a row that something ends which is shown
abbrev pub texted : HtmlRow
texted = record { begun = true; gapped = false }

-- a piece, and what its row has behind it
pub record Step : Type 0 where
  pub piece : Piece
  pub row : HtmlRow

-- a piece of this kind that has so many bytes after its first
abbrev pub step_of : Kind → ℕ → HtmlRow → Step
step_of kind more row = record { piece = piece kind more; row = row }

-- blanks that meet are one space, and none is in front of a row
abbrev pub gap_kind : HtmlRow → Kind
gap_kind row = if row.begun && not row.gapped then Soft else HtmlKind Nothing

-- blanks
abbrev pub gap_step : ℕ → HtmlRow → Step
gap_step more row = step_of (gap_kind row) more (record { begun = row.begun; gapped = row.begun })

-- a row of which nothing is shown doesn't end
abbrev pub cut_kind : HtmlRow → Kind
cut_kind row = if row.begun then Hard else HtmlKind Nothing

-- an image is shown
abbrev pub is_image : Html → Bool
is_image (Alternative value) = true
is_image (Source value) = true
is_image _ = false

-- markup, which has so many bytes after its sign <
abbrev pub effect_step : Effect → ℕ → HtmlRow → Step
effect_step Gap more row = gap_step more row
effect_step Cut more row = step_of (cut_kind row) more fresh
effect_step (Say html) more row = step_of (HtmlKind html) more (if is_image html then texted else row)

-- the markup that is found; else the sign < is text
abbrev pub markup_step : Option Markup → HtmlRow → Step
markup_step None row = step_of Plain 0 texted
markup_step (Some markup) row = effect_step markup.effect markup.len row

-- the entity that is found; else the sign & is text
abbrev pub entity_step : Option Entity → Step
entity_step None = step_of Plain 0 texted
entity_step (Some entity) = step_of (Shown entity.shown entity.second) entity.len texted

-- a byte that stands for itself
abbrev pub is_text_byte : ℕ → Bool
is_text_byte b = not (is_space_byte b || (b == 60) || (b == 38))

-- the piece that begins with a byte, after which these are
abbrev pub step_by : ℕ → List ℕ → HtmlRow → Step
step_by b bs row =
    if b == 60 then markup_step (markup_of bs) row
    else if b == 38 then entity_step (entity_of bs)
    else if is_space_byte b then gap_step (prefix_len is_space_byte bs) row
    else step_of Plain (prefix_len is_text_byte bs) texted

-- a step whose piece has no more bytes than are left
abbrev pub capped : Step → ℕ → Step
capped s more = record s { piece = piece s.piece.kind (min s.piece.more more) }

-- it has no more bytes than are left
unfoldable pub step : ℕ → List ℕ → HtmlRow → Step
step b bs row = capped (step_by b bs row) (length bs)

-- so many bytes belong to the last piece still
unfoldable pub pieces_from : ℕ → HtmlRow → List ℕ → List Piece
pieces_from skip row [] = []
pieces_from (suc skip) row (b ∷ bs) = pieces_from skip row bs
pieces_from zero row (b ∷ bs) = (step b bs row).piece ∷ pieces_from (step b bs row).piece.more (step b bs row).row bs

-- the pieces of a text of html
abbrev pub html_pieces : List ℕ → List Piece
html_pieces text = pieces_from 0 fresh text

-- html that is cut: it has no marks that match
abbrev pub html_cut : List ℕ → CutText
html_cut text = record { pieces = html_pieces text; pairs = [] }

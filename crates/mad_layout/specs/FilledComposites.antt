-- Composites that are written in a place of some width.
use Rattle.std.specs.Prelude.{◌≡◌, ℕ, ◌+◌, ◌<◌, ◌≤◌, List, None, false, Result}
use Rattle.mad_md.specs.Flagged.{flagged_text}
use Rattle.mad_md.specs.declared.alignment.Alignment.{Alignment}
use Rattle.mad_md.specs.declared.composite.Composite.{Composite}
use Rattle.mad_term.specs.Draws.{DrawsSome}
use Rattle.mad_term.specs.Trace.{Trace}
use Rattle.mad_term.specs.declared.errors.Error.{Error}
use Rattle.mad_style.specs.Kinds.{kind_of}
use Rattle.mad_draw.specs.Pieces.{pieces_bytes}
use Rattle.mad_measure.specs.TextColumns.{width_of}
use Rattle.mad_wrap.specs.WrapLines.{capped}
use Rattle.mad_fitting.specs.Fitted.{IsFitted}
use Rattle.mad_format.specs.Fitting.{extended}
use Rattle.mad_format.specs.Indents.{indent}
use Rattle.mad_format.specs.Wraps.{IsMeasured}
use Rattle.mad_format.specs.declared.composite.FmtComposite.{FmtComposite}
use Rattle.mad_rows.specs.Rows.{composite_pieces, margins_of}
use Rattle.mad_rows.specs.RowStyles.{line_rules}
use Rattle.mad_rows.specs.declared.row_skin.RowSkin.{RowSkin}

-- the columns of the indent that a composite has in a skin
abbrev pub indent_in : RowSkin → Composite → ℕ
indent_in skin composite = indent skin.list_items_indentation_mode (kind_of composite.style)

-- its columns, those of its indent among them, as they are cached
abbrev pub cached_columns : RowSkin → Composite → ℕ
cached_columns skin composite = capped (indent_in skin composite + width_of (flagged_text composite.compounds.items))

-- What a composite becomes that is to fill a width. It stays if it fits, and is fitted by an alignment else. Then it is measured, and a
-- narrower one gets a place of that width. Its margins are those of its style.
pub record IsFilled (skin : RowSkin) (align : Alignment) (width : ℕ) (composite : Composite) (l : FmtComposite) : Type 0 where
  pub kind : l.kind ≡ kind_of composite.style
  pub fits : cached_columns skin composite ≤ width → l.compounds.items ≡ composite.compounds.items
  pub fitted : width < cached_columns skin composite → IsFitted align (indent_in skin composite) width composite.compounds.items l.compounds.items
  pub measured : IsMeasured (line_rules skin) l
  pub spacing : l.spacing ≡ extended None l.visible_length width align
  pub margins : l.margins ≡ None

-- the bytes of a composite without an outer width; what is right of its place isn't filled up
abbrev pub lone_bytes : RowSkin → FmtComposite → List ℕ
lone_bytes skin l = pieces_bytes (composite_pieces skin None (margins_of skin None l) false l)

-- What a call does that writes a composite in a width: it draws the bytes of what it becomes; or memory for that was refused, and
-- nothing went out.
abbrev pub WritesFilled : {T : Type 0} → RowSkin → Alignment → ℕ → Composite → Trace → Result T Error → Trace → Type 0
WritesFilled skin align width composite old r new = DrawsSome (IsFilled skin align width composite) (lone_bytes skin) old r new

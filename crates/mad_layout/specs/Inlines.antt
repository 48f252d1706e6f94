-- Inline texts and composites that are by themselves.
use Rattle.std.specs.Prelude.{◌≡◌, ℕ, List, None, false, Result, map}
use Rattle.mad_md.specs.Flagged.{run_at}
use Rattle.mad_md.specs.Inline.{Item, IsInlineReading, runs}
use Rattle.mad_term.specs.Draws.{DrawsSome}
use Rattle.mad_term.specs.Trace.{Trace}
use Rattle.mad_term.specs.declared.errors.Error.{Error}
use Rattle.mad_draw.specs.Pieces.{pieces_bytes}
use Rattle.mad_rows.specs.Rows.{composite_pieces, free_pieces, margins_of}
use Rattle.mad_md.specs.ReadInline.{IsReadInline}
use Rattle.mad_style.specs.declared.kinds.CompositeKind.TheVariants.{Paragraph}
use Rattle.mad_format.specs.FmtLines.{IsReadAs}
use Rattle.mad_rows.specs.declared.row_skin.RowSkin.{RowSkin}
use Rattle.mad_format.specs.declared.composite.FmtComposite.{FmtComposite}
use Rattle.mad_rows.specs.RowStyles.{line_rules}

-- the line of text as a paragraph, its marks read
abbrev pub IsInlineOf : RowSkin → List ℕ → FmtComposite → Type 0
IsInlineOf skin src l = IsReadAs (line_rules skin) Paragraph (IsReadInline src) (Unit {0}) l

-- the bytes of a line of text, by a reading of its marks
abbrev pub inline_bytes : RowSkin → List ℕ → List Item → List ℕ
inline_bytes skin src items = pieces_bytes (free_pieces skin Paragraph (map (run_at src) (runs items)))

-- What a call does that writes a line of text: it draws the bytes of the line's reading, of which there is exactly one; or memory
-- for it was refused, and nothing went out.
abbrev pub WritesInline : {T : Type 0} → RowSkin → List ℕ → Trace → Result T Error → Trace → Type 0
WritesInline skin src old r new = DrawsSome (IsInlineReading src) (inline_bytes skin src) old r new

-- the line is displayed by the bytes that are written of it
abbrev pub IsDisplayedAsWritten : RowSkin → List ℕ → FmtComposite → Type 0
IsDisplayedAsWritten skin src l = (items : List Item) → IsInlineReading src items → pieces_bytes (composite_pieces skin None (margins_of skin None l) false l) ≡ inline_bytes skin src items

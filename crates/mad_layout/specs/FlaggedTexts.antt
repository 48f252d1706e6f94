-- The rows of a text's lines, laid out at one width and drawn across some columns.
use Rattle.std.specs.Prelude.{◌≡◌, ℕ, List, [], ◌∷◌}
use Rattle.std.specs.List.{repeat}
use Rattle.mad_md.specs.Flagged.{FlaggedChar}
use Rattle.mad_md.specs.Lines.{LineContent, normal, table_row, table_rule, horizontal_rule}
use Rattle.mad_style.specs.Kinds.{kind_of}
use Rattle.mad_style.specs.StyledChars.{char_alone}
use Rattle.mad_layout.specs.FlaggedLines.{skin_char, marked_parts, rows_across}
use Rattle.mad_layout.specs.FlaggedRows.{AreRowsOf}
use Rattle.mad_layout.specs.FlaggedTables.{kept_widths, columns_below, IsRowAcross, rule_across}
use Rattle.mad_format.specs.Indents.{room_of}
use Rattle.mad_format.specs.Lists.{EachBecomes}
use Rattle.mad_layout.specs.LineTexts.{inner_width}
pub use Rattle.mad_blocks.specs.TextParts.{LineInPart, aligns_at, position_in, lines_in, lines_in_parts}
use Rattle.mad_rows.specs.declared.row_skin.RowSkin.{RowSkin}
use Rattle.mad_rows.specs.RowStyles.{line_rules}

-- These are the rows of a line, laid out at `width`, across `drawn` columns.
abbrev pub IsAcross : RowSkin → ℕ → ℕ → LineInPart → LineContent → List (List ℕ) → Type 0
IsAcross skin width drawn x (normal line) across =
    (rows : List (List FlaggedChar)) × AreRowsOf (room_of (line_rules skin) (kind_of line.style) (inner_width skin width line)) (marked_parts line) rows × (across ≡ rows_across skin width drawn x.part line rows)
IsAcross skin width drawn x (table_row cells) across = IsRowAcross skin drawn (columns_below (kept_widths skin width x.part) x.aligns) cells across
IsAcross skin width drawn x (table_rule aligns) across = across ≡ rule_across skin drawn x.position (kept_widths skin width x.part) ∷ []
IsAcross skin width drawn x horizontal_rule across = across ≡ repeat drawn (skin_char (char_alone skin.horizontal_rule)) ∷ []

-- the rows of lines, in order, laid out at `width`, across `drawn` columns
abbrev pub AreAcross : RowSkin → ℕ → ℕ → List LineInPart → List (List ℕ) → Type 0
AreAcross skin width drawn = EachBecomes (λ (x : LineInPart). IsAcross skin width drawn x x.line)

-- Rules across the columns of a table.
use Rattle.std.specs.Prelude.{ℕ, List, [], ◌∷◌, ◌++◌}
use Rattle.std.specs.List.{flat_map}
use Rattle.mad_style.specs.declared.compound_styles.CompoundStyle.{CompoundStyle}
use Rattle.mad_style.specs.StyledChars.{styled_char}
use Rattle.mad_draw.specs.Pieces.{RowPiece, char_piece, char_repeat}
use Rattle.mad_draw.specs.declared.table_rules.RuleChars.{RuleChars}

-- a character of a table's borders, in their style
abbrev pub border_piece : CompoundStyle → ℕ → RowPiece
border_piece style c = char_piece (styled_char style c)

-- the horizontals over one column, as one piece
abbrev pub horizontals : CompoundStyle → RuleChars → ℕ → List RowPiece
horizontals style chars w = char_repeat (styled_char style chars.horizontal) w

-- over a column that another one is before: a junction, and its horizontals
abbrev pub junction : CompoundStyle → RuleChars → ℕ → List RowPiece
junction style chars w = border_piece style chars.between ∷ horizontals style chars w

-- a rule across columns of these widths: its left end, its horizontals with a junction between two columns, and its right end
abbrev pub rule_pieces : CompoundStyle → RuleChars → List ℕ → List RowPiece
rule_pieces style chars [] = border_piece style chars.left ∷ border_piece style chars.right ∷ []
rule_pieces style chars (w ∷ ws) =
    border_piece style chars.left ∷ (horizontals style chars w ++ (flat_map (junction style chars) ws ++ border_piece style chars.right ∷ []))

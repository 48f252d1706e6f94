-- An example: a text with lines of several kinds.
use Rattle.std.specs.Prelude.{ℕ, false, List, [], ◌∷◌, ◌++◌}
use Rattle.mad_md.specs.Lines.{LineContent}
use Rattle.mad_md.specs.Reading.{IsRead, unread_text}
use Rattle.mad_layout.specs.MadeSkins.{limited_to_ascii}
use Rattle.mad_layout.specs.Premises.{KeepsPremises}
use Rattle.mad_layout.specs.Skins.{no_style_skin}
use Rattle.mad_blocks.specs.TextParts.{lines_in_parts}
use Rattle.mad_layout.specs.RowSkins.{row_skin}
use Rattle.mad_rows.specs.declared.row_skin.RowSkin.{RowSkin}

-- `# a`, `b`, `* c`, `1. d`, `> e`, `---`, and `f` between two fences
abbrev pub several_kinds : List ℕ
several_kinds =
    (35 ∷ 32 ∷ 97 ∷ 10 ∷ []) ++ (98 ∷ 10 ∷ []) ++ (42 ∷ 32 ∷ 99 ∷ 10 ∷ []) ++ (49 ∷ 46 ∷ 32 ∷ 100 ∷ 10 ∷ []) ++ (62 ∷ 32 ∷ 101 ∷ 10 ∷ [])
    ++ (45 ∷ 45 ∷ 45 ∷ 10 ∷ []) ++ (96 ∷ 96 ∷ 96 ∷ 10 ∷ []) ++ (102 ∷ 10 ∷ []) ++ (96 ∷ 96 ∷ 96 ∷ [])

-- a skin without style whose characters are ASCII
abbrev pub ascii_skin : RowSkin
ascii_skin = row_skin (limited_to_ascii no_style_skin)

-- Whatever this text is read as keeps the premises of the headline at a width of eleven columns.
abbrev pub SeveralKindsKeepPremises : Type 0
SeveralKindsKeepPremises = (lines : List LineContent) → IsRead (unread_text false several_kinds) lines → KeepsPremises ascii_skin 11 (lines_in_parts lines)

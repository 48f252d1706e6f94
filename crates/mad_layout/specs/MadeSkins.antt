-- Skins for a dark and a light background, and what an ASCII terminal leaves of a skin.
use Rattle.std.specs.Prelude.{ℕ, ◌+◌, Some, ◌∷◌, replicate}
use Rattle.mad_md.specs.declared.alignment.Alignment.TheVariants.{Unspecified}
use Rattle.mad_term.specs.declared.color.Color.TheVariants.{AnsiValue}
use Rattle.mad_style.specs.declared.compound_styles.CompoundStyle.{CompoundStyle}
use Rattle.mad_style.specs.declared.line_styles.LineStyle.{LineStyle}
use Rattle.mad_term.specs.AttributeSets.{no_attributes}
use Rattle.mad_style.specs.Borders.{ascii_borders}
use Rattle.mad_style.specs.CompoundStyles.{text_style}
use Rattle.mad_style.specs.LineStyles.{line_in, unmargined}
use Rattle.mad_style.specs.StyledChars.{shown_as}
use Rattle.mad_layout.specs.SkinParts.{header_line, first_header_line}
use Rattle.mad_layout.specs.Skins.{default_skin}
use Rattle.mad_layout.specs.declared.skin.MadSkin.{MadSkin}

-- text in one gray on another: gray n is the palette's 232 + n
abbrev pub gray_on_gray : ℕ → ℕ → CompoundStyle
gray_on_gray text under = text_style (Some (AnsiValue (232 + text))) (Some (AnsiValue (232 + under))) no_attributes

-- a line in gray
abbrev pub in_gray : LineStyle → ℕ → LineStyle
in_gray line level = line_in (AnsiValue (232 + level)) line

-- the default skin for a dark background: code in gray 20 on gray 5, the first three headers in the grays 22, 21 and 20
abbrev pub dark_skin : MadSkin
dark_skin =
    record default_skin {
      inline_code = gray_on_gray 20 5;
      code_block = unmargined (gray_on_gray 20 5) Unspecified;
      headers = in_gray first_header_line 22 ∷ in_gray header_line 21 ∷ in_gray header_line 20 ∷ replicate 5 header_line;
    }

-- the default skin for a light background: code on gray 20, blocks in gray 3 and the rest in gray 4, the first three headers in
-- the grays 0, 2 and 4
abbrev pub light_skin : MadSkin
light_skin =
    record default_skin {
      inline_code = gray_on_gray 4 20;
      code_block = unmargined (gray_on_gray 3 20) Unspecified;
      headers = in_gray first_header_line 0 ∷ in_gray header_line 2 ∷ in_gray header_line 4 ∷ replicate 5 header_line;
    }

-- a skin with `*` for a bullet, `>` for the mark of a quote, `-` for a rule, and ASCII borders
abbrev pub limited_to_ascii : MadSkin → MadSkin
limited_to_ascii skin =
    record skin {
      bullet = shown_as skin.bullet 42;
      quote_mark = shown_as skin.quote_mark 62;
      horizontal_rule = shown_as skin.horizontal_rule 45;
      table_border_chars = ascii_borders;
    }

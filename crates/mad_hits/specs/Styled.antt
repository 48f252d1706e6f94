-- The characters of a composite, each in the style that a row shows it in.
use Rattle.std.specs.Prelude.{List, map, chars}
use Rattle.std.specs.List.{flat_map}
use Rattle.mad_md.specs.Flagged.{run_of}
use Rattle.mad_md.specs.declared.compound.Compound.{Compound}
use Rattle.mad_style.specs.CompoundStyles.{overwritten}
use Rattle.mad_style.specs.StyledChars.{char_alone, char_style, styled_char}
use Rattle.mad_style.specs.declared.compound_styles.CompoundStyle.{CompoundStyle}
use Rattle.mad_style.specs.declared.styled_chars.StyledChar.{StyledChar}
use Rattle.mad_format.specs.declared.composite.FmtComposite.{FmtComposite}
use Rattle.mad_rows.specs.RowStyles.{compound_style, line_style}
use Rattle.mad_rows.specs.declared.row_skin.RowSkin.{RowSkin}

-- those of a compound, in a line of the composite's kind
abbrev pub styled_compound : RowSkin → FmtComposite → Compound → List StyledChar
styled_compound skin l k = map (styled_char (compound_style skin (line_style skin l.kind) (run_of k))) (chars k.src.now)

-- those of all compounds
abbrev pub styled_text : RowSkin → FmtComposite → List StyledChar
styled_text skin l = flat_map (styled_compound skin l) l.compounds.items

-- a character whose style is overwritten with another: colors where that has some, and its attributes are added
abbrev pub overlaid : CompoundStyle → StyledChar → StyledChar
overlaid style c = styled_char (overwritten (char_style c) style) (char_alone c)

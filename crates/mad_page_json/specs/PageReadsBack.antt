-- The skins whose parts of a page read back equal from what they are written as.
use Rattle.std.specs.Prelude.{◌≡◌, ℕ, ◌<◌, List, [], Ok}
use Rattle.std.specs.List.{AllByRecursion}
use Rattle.serde_json.specs.Data.{Data}
use Rattle.mad_style.specs.declared.compound_styles.CompoundStyle.{CompoundStyle}
use Rattle.mad_style.specs.declared.styled_chars.StyledChar.{StyledChar}
use Rattle.mad_parse.specs.ReadsBack.{IsReadBackChar, IsReadBackStyle}
use Rattle.mad_page_skin.specs.declared.page_skin.PageSkin.{PageSkin}
use Rattle.mad_json.specs.ReadsBack.{IsReadBackSkin}
use Rattle.mad_page_json.specs.PageReading.{page_skin_read, page_under}
use Rattle.mad_page_json.specs.Parts.{char_parts, style_parts}

-- a skin whose styles and characters read back; the number of levels with rules is a byte, and columns have 16 bits
pub record IsReadBackPage (skin : PageSkin) : Type 0 where
  pub styles : AllByRecursion (λ (named : List ℕ × CompoundStyle). IsReadBackStyle named.1) (style_parts skin)
  pub chars : AllByRecursion (λ (named : List ℕ × StyledChar). IsReadBackChar named.1) (char_parts skin)
  pub rules : skin.headings.rules < 256
  pub columns : skin.room.columns < 65536
  pub margin : skin.room.margin < 65536

-- such a skin is read of that value, from any skin of the same text
abbrev pub PageReadsBack : PageSkin → Data → Type 0
PageReadsBack skin d = IsReadBackPage skin → (old : PageSkin) → old.text ≡ skin.text → page_under old d ≡ Ok skin

-- where its text's skin reads back too, the whole is read of that value, and no key is unknown
abbrev pub PageSkinReadsBack : PageSkin → Data → Type 0
PageSkinReadsBack skin d = IsReadBackSkin skin.text → IsReadBackPage skin → page_skin_read d ≡ Ok (skin, [])

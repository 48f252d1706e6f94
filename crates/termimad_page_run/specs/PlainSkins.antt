-- A skin without a style.
use Rattle.mad_style.specs.CompoundStyles.{unstyled}
use Rattle.mad_style.specs.StyledChars.{styled_char}
use Rattle.mad_style.specs.declared.scroll_bars.ScrollBarStyle.{ScrollBarStyle}
use Rattle.mad_layout.specs.Skins.{no_style_skin}
use Rattle.mad_layout.specs.declared.skin.MadSkin.{MadSkin}

-- a scroll bar without a style: a line (│) for the track, and a half block (▐) for the thumb
abbrev pub plain_bar : ScrollBarStyle
plain_bar = record { track = styled_char unstyled 0x2502; thumb = styled_char unstyled 0x2590 }

-- the skin without a style, and with this bar
abbrev pub plain_skin : MadSkin
plain_skin = record no_style_skin { scrollbar = plain_bar }

-- Skins in which the items of one level look otherwise.
use Rattle.std.specs.Prelude.{ℕ, nat_lt, slice_set, if◌then◌else◌}
use Rattle.mad_style.specs.declared.ordered_items.OrderedItemStyle.{OrderedItemStyle}
use Rattle.mad_layout.specs.declared.skin.MadSkin.{MadSkin}

-- A skin in which the items of a list at this level, counted from 0, have another style. Past the last of the four levels it is the same.
abbrev pub with_item_style : ℕ → OrderedItemStyle → MadSkin → MadSkin
with_item_style level style skin = if nat_lt level 4 then record skin { ordered_item_styles = slice_set skin.ordered_item_styles level style } else skin

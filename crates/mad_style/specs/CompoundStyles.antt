-- Styles of compounds.
use Rattle.std.specs.Prelude.{Option, Some, None}
use Rattle.std.specs.Option.{option_or}
use Rattle.mad_term.specs.declared.attribute.Attribute.{Attribute}
use Rattle.mad_term.specs.declared.attributes.Attributes.{Attributes}
use Rattle.mad_term.specs.declared.color.Color.{Color}
use Rattle.mad_style.specs.declared.compound_styles.CompoundStyle.{CompoundStyle}
use Rattle.mad_term.specs.AttributeSets.{no_attributes, only, united}

-- a style of this foreground, this background and these attributes, without a color of its own for the underline
abbrev pub text_style : Option Color → Option Color → Attributes → CompoundStyle
text_style foreground background attributes =
    record {
      object_style = record {
        foreground_color = foreground;
        background_color = background;
        underline_color = None;
        attributes = attributes;
      };
    }

-- the style in which nothing is set
abbrev pub unstyled : CompoundStyle
unstyled = text_style None None no_attributes

-- a style with another foreground
abbrev pub foreground_set : CompoundStyle → Color → CompoundStyle
foreground_set style color = record style { object_style = record style.object_style { foreground_color = Some color } }

-- a style with another background
abbrev pub background_set : CompoundStyle → Color → CompoundStyle
background_set style color = record style { object_style = record style.object_style { background_color = Some color } }

-- a style with one attribute more
abbrev pub attribute_added : CompoundStyle → Attribute → CompoundStyle
attribute_added style a =
    record style {
      object_style = record style.object_style { attributes = united style.object_style.attributes (only a) };
    }

-- a style overwritten with another: the other's foreground and background where they are present, and the attributes of
-- both; the underline's color stays
abbrev pub overwritten : CompoundStyle → CompoundStyle → CompoundStyle
overwritten style other =
    record style {
      object_style = record style.object_style {
        foreground_color = option_or other.object_style.foreground_color style.object_style.foreground_color;
        background_color = option_or other.object_style.background_color style.object_style.background_color;
        attributes = united style.object_style.attributes other.object_style.attributes;
      };
    }

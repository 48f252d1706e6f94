-- Pens as the styles that texts are written in.
use Rattle.std.specs.Prelude.{Bool, if◌then◌else◌}
use Rattle.mad_term.specs.declared.attribute.Attribute.{Attribute}
use Rattle.mad_term.specs.declared.attribute.Attribute.TheVariants.{Bold, Dim, Italic, Underlined, SlowBlink, Reverse, Hidden, CrossedOut, OverLined}
use Rattle.mad_term.specs.declared.attributes.Attributes.{Attributes}
use Rattle.mad_term.specs.declared.styles.ContentStyle.{ContentStyle}
use Rattle.mad_term.specs.AttributeSets.{no_attributes, only, united}
use Rattle.mad_plain.specs.declared.pens.Pen.{Pen}

-- one more attribute, where it is set
abbrev pub with_if : Bool → Attribute → Attributes → Attributes
with_if there a s = if there then united s (only a) else s

-- the attributes of a pen
abbrev pub pen_attributes : Pen → Attributes
pen_attributes pen =
    with_if pen.overlined OverLined
    (with_if pen.crossed_out CrossedOut
    (with_if pen.hidden Hidden
    (with_if pen.reversed Reverse
    (with_if pen.blinking SlowBlink
    (with_if pen.underlined Underlined
    (with_if pen.italic Italic
    (with_if pen.dim Dim
    (with_if pen.bold Bold no_attributes))))))))

-- a pen as the style that texts are written in
abbrev pub content_style : Pen → ContentStyle
content_style pen = record { foreground_color = pen.foreground; background_color = pen.background; underline_color = pen.underline; attributes = pen_attributes pen }

-- Headers and the items of lists, which have a style for each level.
use Rattle.std.specs.Prelude.{ℕ, List, [], ◌∷◌, ◌++◌, length, map, filter, take, drop, Option, Some, None, Result, Ok, Err}
use Rattle.std.specs.Option.{option_or}
use Rattle.mad_md.specs.declared.alignment.Alignment.{Alignment}
use Rattle.mad_md.specs.declared.alignment.Alignment.TheVariants.{Unspecified}
use Rattle.mad_term.specs.Attributes.{has_attribute}
use Rattle.mad_style.specs.declared.compound_styles.CompoundStyle.{CompoundStyle}
use Rattle.mad_style.specs.declared.line_styles.LineStyle.{LineStyle}
use Rattle.mad_style.specs.declared.ordered_items.OrderedItemStyle.{OrderedItemStyle}
use Rattle.mad_parse.specs.TokenStyles.{all_added, line_style_of, item_style_of}
use Rattle.mad_parse.specs.Written.{written_attributes}
use Rattle.mad_parse.specs.declared.tokens.StyleToken.{StyleToken}
use Rattle.serde_json.specs.Data.{Data, Items, no_items, item}
use Rattle.serde_json.specs.Find.{as_str, as_array}
use Rattle.mad_json.specs.Faults.{ValueFault, wrong_kind}
use Rattle.mad_json.specs.Texts.{value_said, text_said, made, and_next}

-- what each of these values says, front to back, after what was said so far
abbrev pub items_said : {A : Type 0} → (List StyleToken → A) → Items → List A → Result (List A) ValueFault
items_said f no_items said = Ok said
items_said f (item d ds) said = and_next (value_said f d) (λ x. items_said f ds (said ++ x ∷ []))

-- a list whose front is replaced; what doesn't fit is left out
abbrev pub replaced : {A : Type 0} → List A → List A → List A
replaced old new = take (length old) new ++ drop (length new) old

-- the styles of a list, by level
abbrev pub levels_said : {A : Type 0} → (List StyleToken → A) → Option Items → List A → Result (List A) ValueFault
levels_said f None old = Err wrong_kind
levels_said f (Some items) old = made (replaced old) (items_said f items [])

-- the align that a line has, or another where it has none
abbrev pub align_or : Alignment → Alignment → Alignment
align_or Unspecified other = other
align_or align other = align

-- a style with the colors and the written attributes that another has
abbrev pub compound_with : CompoundStyle → CompoundStyle → CompoundStyle
compound_with line style =
    all_added
    (record style {
      object_style = record style.object_style {
        foreground_color = option_or line.object_style.foreground_color style.object_style.foreground_color;
        background_color = option_or line.object_style.background_color style.object_style.background_color;
      };
    })
    (filter (has_attribute line.object_style.attributes) written_attributes)

-- a header with the colors, the attributes that are written, and the align that another line has; its margins stay
abbrev pub header_with : LineStyle → LineStyle → LineStyle
header_with line header =
    record header { compound_style = compound_with line.compound_style header.compound_style; align = align_or line.align header.align }

-- the headers that a value says: a text sets in each what it says, a list replaces them by level
abbrev pub headers_told : Option (List ℕ) → Data → List LineStyle → Result (List LineStyle) ValueFault
headers_told (Some text) d old = made (λ line. map (header_with line) old) (text_said line_style_of (Some text))
headers_told None d old = levels_said line_style_of (as_array d) old

-- the same of a value, which is a text or not
abbrev pub headers_said : Data → List LineStyle → Result (List LineStyle) ValueFault
headers_said d old = headers_told (as_str d) d old

-- the styles of the items of lists that a value says, with a dot where none is told
abbrev pub ordered_items_said : Data → List OrderedItemStyle → Result (List OrderedItemStyle) ValueFault
ordered_items_said d old = levels_said (item_style_of 46) (as_array d) old

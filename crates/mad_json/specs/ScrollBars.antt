-- Scroll bars as values.
use Rattle.std.specs.Prelude.{ℕ, ◌==◌, ◌&&◌, Bool, List, Option, Some, None, Result, Err, codes, if◌then◌else◌, option_and_then}
use Rattle.std.specs.Option.{is_none}
use Rattle.mad_term.specs.AttributeSets.{no_attributes}
use Rattle.mad_style.specs.Bars.{bar_of_char}
use Rattle.mad_style.specs.CompoundStyles.{text_style}
use Rattle.mad_style.specs.StyledChars.{styled_char, char_alone, char_style}
use Rattle.mad_style.specs.declared.scroll_bars.ScrollBarStyle.{ScrollBarStyle}
use Rattle.mad_style.specs.declared.styled_chars.StyledChar.{StyledChar}
use Rattle.mad_parse.specs.TokenStyles.{styled_char_of}
use Rattle.serde_json.specs.Data.{Data}
use Rattle.serde_json.specs.Find.{as_str, get}
use Rattle.mad_json.specs.Faults.{ValueFault, wrong_kind}
use Rattle.mad_json.specs.Texts.{text_said, made, and_next}
use Rattle.mad_json.specs.declared.scroll_bars.ScrollBarStyleDef.{ScrollBarStyleDef}
use Rattle.mad_json.specs.declared.scroll_bars.ScrollBarStyleDef.TheVariants.{Simple, Rich}

-- the bar of a description
abbrev pub bar_of : ScrollBarStyleDef → ScrollBarStyle
bar_of (Simple c) = bar_of_char c
bar_of (Rich track thumb) = record { track = track; thumb = thumb }

-- a bar is described by one character where its two are the same and have no background
abbrev pub is_simple : ScrollBarStyle → Bool
is_simple bar =
    (char_alone bar.track == char_alone bar.thumb)
    && (is_none (char_style bar.track).object_style.background_color && is_none (char_style bar.thumb).object_style.background_color)

-- that character: its foreground is the thumb's color, its background the track's
abbrev pub simple_char : ScrollBarStyle → StyledChar
simple_char bar =
    styled_char (text_style (char_style bar.thumb).object_style.foreground_color (char_style bar.track).object_style.foreground_color no_attributes) (char_alone bar.track)

-- what a bar is described by
abbrev pub def_of : ScrollBarStyle → ScrollBarStyleDef
def_of bar = if is_simple bar then Simple (simple_char bar) else Rich bar.track bar.thumb

-- a text and another, where both are there
abbrev pub both_said : Option (List ℕ) → Option (List ℕ) → Result ScrollBarStyle ValueFault
both_said None track = Err wrong_kind
both_said (Some thumb) None = Err wrong_kind
both_said (Some thumb) (Some track) =
    and_next (text_said (styled_char_of 42) (Some thumb))
    (λ thumb. made (λ track. record { track = track; thumb = thumb }) (text_said (styled_char_of 42) (Some track)))

-- the member of an object that is a text
abbrev pub text_member : List ℕ → Data → Option (List ℕ)
text_member key d = option_and_then as_str (get key d)

-- the bar that a value says: a text one character, an object the thumb and the track, of which each has to be a text
abbrev pub scrollbar_told : Option (List ℕ) → Data → Result ScrollBarStyle ValueFault
scrollbar_told (Some text) d = made bar_of_char (text_said (styled_char_of 42) (Some text))
scrollbar_told None d = both_said (text_member (codes "thumb") d) (text_member (codes "track") d)

-- the same of a value, which is a text or not
abbrev pub scrollbar_said : Data → Result ScrollBarStyle ValueFault
scrollbar_said d = scrollbar_told (as_str d) d

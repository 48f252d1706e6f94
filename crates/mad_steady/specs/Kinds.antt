-- What a character is to a steady text.
use Rattle.std.specs.Prelude.{ℕ, ◌-◌, ◌%◌, Bool, ◌||◌, ◌==◌, if◌then◌else◌}
use Rattle.std.specs.Char.{is_control, is_whitespace}
use Rattle.std.specs.Int.{is_in_range}
use Rattle.mad_characters.specs.Columns.{char_columns}
use Rattle.mad_steady.specs.declared.kinds.Kind.{Kind}
use Rattle.mad_steady.specs.declared.kinds.Kind.TheVariants.{Dropped, Selector, Sign, Indicator, Lead, OpenSyllable, Vowel, Tail, Jamo, Opening, Widthless, Narrow, Wide}

-- soft hyphen, joiner, skin tones, and the tags with their plane's selectors
abbrev pub is_dropped : ℕ → Bool
is_dropped c = ((c == 0xAD) || (c == 0x200D)) || (is_in_range 0x1F3FB 0x1F3FF c || is_in_range 0xE0000 0xE0FFF c)

-- one of the variation selectors, U+FE00 to U+FE0F
abbrev pub is_selector : ℕ → Bool
is_selector c = is_in_range 0xFE00 0xFE0F c

-- a Hangul vowel or trailing jamo, also of those that no syllable has
abbrev pub is_jamo : ℕ → Bool
is_jamo c = is_in_range 0x1160 0x11FF c || (is_in_range 0xD7B0 0xD7C6 c || is_in_range 0xD7CB 0xD7FB c)

-- a Hangul syllable
abbrev pub is_syllable : ℕ → Bool
is_syllable c = is_in_range 0xAC00 0xD7A3 c

-- one of the characters that begin or end a compound, or a line's form
abbrev pub is_mark : ℕ → Bool
is_mark c = ((c == 42) || (c == 126)) || (((c == 96) || (c == 124)) || ((c == 35) || (c == 62)))

-- a widthless character does not stand behind it: a control character, a newline among them, a blank or a mark
abbrev pub is_opening : ℕ → Bool
is_opening c = is_mark c || (is_control c || is_whitespace c)

-- the kind of a Hangul vowel or trailing jamo, or of one that no syllable has
abbrev pub jamo_kind : ℕ → Kind
jamo_kind c = if is_in_range 0x1161 0x1175 c then Vowel else if is_in_range 0x11A8 0x11C2 c then Tail else Jamo

-- the kind of a syllable: open without a trailing jamo, and else wide
abbrev pub syllable_kind : ℕ → Kind
syllable_kind c = if (c - 0xAC00) % 28 == 0 then OpenSyllable else Wide

-- the kind of a character of so many columns, where nothing else tells it
abbrev pub columns_kind : ℕ → Kind
columns_kind columns = if columns == 0 then Widthless else if columns == 2 then Wide else Narrow

-- the kind of a printed ASCII character
abbrev pub ascii_kind : ℕ → Kind
ascii_kind c = if is_mark c || (c == 32) then Opening else Narrow

-- the kind of a character that has no rule of its own
unfoldable pub other_kind : ℕ → Kind
other_kind c = if is_opening c then Opening else columns_kind (char_columns c)

-- the kind of a character
unfoldable pub kind : ℕ → Kind
kind c =
    if is_dropped c then Dropped
    else if is_selector c then Selector
    else if c == 0x17D8 then Sign
    else if is_in_range 0x1F1E6 0x1F1FF c then Indicator
    else if is_in_range 0x1100 0x1112 c then Lead
    else if is_syllable c then syllable_kind c
    else if is_jamo c then jamo_kind c
    else other_kind c

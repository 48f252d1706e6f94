-- What a paragraph may begin with that isn't text: the box of a task, or the line of an alert.
use Rattle.std.specs.Prelude.{ℕ, ◌+◌, Bool, not, ◌||◌, ◌&&◌, ◌==◌, List, [], ◌∷◌, length, take, drop, slice_index, Option, Some, None, codes, if◌then◌else◌}
use Rattle.std.specs.Str.{str_eq_ignore_ascii_case}
use Rattle.markdown_marks.specs.Bytes.{first, is_blank_byte, without_blanks}
use Rattle.markdown_marks.specs.Headings.{without_end}
use Rattle.mad_sections.specs.declared.gutters.Alert.{Alert}
use Rattle.mad_sections.specs.declared.gutters.Alert.TheVariants.{Note, Tip, Important, Warning, Caution}

-- ---- tasks

-- an x
abbrev pub is_tick : ℕ → Bool
is_tick b = (b == 120) || (b == 88)

-- nothing is left of a line
abbrev pub ends_line : List ℕ → Bool
ends_line text = (length text == 0) || (first text == 10)

-- what is behind the box of a task, and the blanks after it
abbrev pub after_box : List ℕ → List ℕ
after_box text = without_blanks (drop 3 text)

-- `[ ]`, `[x]` or `[X]` is in front of a text, then a blank, and in the same line something else
abbrev pub has_box : List ℕ → Bool
has_box text =
    (slice_index text 0 == 91) && ((slice_index text 1 == 32) || is_tick (slice_index text 1)) && (slice_index text 2 == 93) && is_blank_byte (slice_index text 3)
    && not (ends_line (after_box text))

-- the box in front of a text, ticked or not, if there is one
abbrev pub box_of : List ℕ → Option Bool
box_of text = if has_box text then Some (is_tick (slice_index text 1)) else None

-- ---- alerts

-- how many bytes are before the first newline, or in all
unfoldable pub line_len : List ℕ → ℕ
line_len [] = 0
line_len (b ∷ bs) = if b == 10 then 0 else 1 + line_len bs

-- the first line, without the blanks at its end
abbrev pub first_line : List ℕ → List ℕ
first_line text = without_end 32 9 (take (line_len text) text)

-- what follows the first line
abbrev pub after_line : List ℕ → List ℕ
after_line text = drop (line_len text + 1) text

-- what an alert shows
abbrev pub alert_word : Alert → List ℕ
alert_word Note = codes "NOTE"
alert_word Tip = codes "TIP"
alert_word Important = codes "IMPORTANT"
alert_word Warning = codes "WARNING"
alert_word Caution = codes "CAUTION"

-- the alert that a line is, its letters large or small
abbrev pub alert_in : List ℕ → Option Alert
alert_in line =
    if str_eq_ignore_ascii_case line (codes "[!NOTE]") then Some Note
    else if str_eq_ignore_ascii_case line (codes "[!TIP]") then Some Tip
    else if str_eq_ignore_ascii_case line (codes "[!IMPORTANT]") then Some Important
    else if str_eq_ignore_ascii_case line (codes "[!WARNING]") then Some Warning
    else if str_eq_ignore_ascii_case line (codes "[!CAUTION]") then Some Caution
    else None

-- the alert that the first line of a text is, alone in it
abbrev pub alert_of : List ℕ → Option Alert
alert_of text = alert_in (first_line text)

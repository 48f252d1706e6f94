-- How an item of a list begins.
use Rattle.std.specs.Prelude.{ℕ, ◌+◌, Bool, not, ◌||◌, ◌&&◌, ◌==◌, nat_lt, List, length, take, drop, slice_index, Option, Some, None, if◌then◌else◌}
use Rattle.std.specs.List.{prefix_len}
use Rattle.std.specs.Char.{is_ascii_digit}
use Rattle.std.specs.Str.Parse.{digits_value}
use Rattle.markdown_marks.specs.Bytes.{first, ends_sign, is_blank}
use Rattle.markdown_marks.specs.declared.items.Marker.{Marker}

-- a marker, unless the byte is no sign of an item, or the sign doesn't end after it
abbrev pub marker_of : Bool → ℕ → ℕ → ℕ → List ℕ → Option Marker
marker_of fits sign number length bytes = if fits && ends_sign (drop length bytes) then Some (record { sign = sign; number = number; length = length }) else None

-- a hyphen, a plus sign or a star
abbrev pub is_bullet : ℕ → Bool
is_bullet sign = (sign == 42) || (sign == 43) || (sign == 45)

-- one to nine digits, and a full stop or a parenthesis
abbrev pub ordered_of : ℕ → ℕ → List ℕ → Option Marker
ordered_of digits sign bytes =
    if (digits == 0) || nat_lt 9 digits then None
    else marker_of ((sign == 46) || (sign == 41)) sign (digits_value 10 (take digits bytes)) (digits + 1) bytes

-- the marker in front of an item
abbrev pub marker_start : List ℕ → Option Marker
marker_start bytes =
    if is_bullet (first bytes) then marker_of (is_bullet (first bytes)) (first bytes) 0 1 bytes
    else ordered_of (prefix_len is_ascii_digit bytes) (slice_index bytes (prefix_len is_ascii_digit bytes)) bytes

-- An item that begins in a paragraph's next line isn't empty, and is not numbered but by 1.
abbrev pub may_interrupt : Marker → List ℕ → Bool
may_interrupt marker bytes = not (is_blank (drop marker.length bytes)) && (is_bullet marker.sign || (marker.number == 1))

-- The text of a heading, without the signs # that close it.
use Rattle.std.specs.Prelude.{ℕ, ◌-◌, Bool, ◌||◌, ◌==◌, List, length, take, slice_index, if◌then◌else◌}
use Rattle.std.specs.List.{suffix_len}
use Rattle.markdown_marks.specs.Bytes.{is_blank_byte, without_blanks}

-- one of two bytes
abbrev pub is_either : ℕ → ℕ → ℕ → Bool
is_either first second b = (b == first) || (b == second)

-- without those of these two bytes that are at the end
unfoldable pub without_end : ℕ → ℕ → List ℕ → List ℕ
without_end first second bytes = take (length bytes - suffix_len (is_either first second) bytes) bytes

-- Signs # at the end close a heading if a blank is before them, or nothing.
abbrev pub unclosed : List ℕ → List ℕ → List ℕ
unclosed text front = if (length front == 0) || is_blank_byte (slice_index front (length front - 1)) then without_end 32 9 front else text

-- the text of a heading without the signs that close it
abbrev pub without_closing : List ℕ → List ℕ
without_closing text = unclosed text (without_end 35 35 text)

-- what stands in a heading after its level: without blanks at both ends, and without the signs that close it
unfoldable pub heading_text : List ℕ → List ℕ
heading_text bytes = without_closing (without_end 32 9 (without_blanks bytes))

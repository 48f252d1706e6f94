-- What leaves a rest of a line begins: each is told by the bytes after at most three columns of blanks.
use Rattle.std.specs.Prelude.{ℕ, Bool, not, ◌||◌, ◌&&◌, ◌==◌, nat_le, nat_lt, List, drop, count_by, Option, Some, None, if◌then◌else◌}
use Rattle.std.specs.List.{list_all, list_any}
use Rattle.markdown_marks.specs.Bytes.{is_blank_byte, first, count_in_front, ends_sign, is_run_alone}
use Rattle.markdown_marks.specs.declared.marks.Fence.{Fence}

-- three or more of this sign, and blanks between them
abbrev pub is_rule_of : ℕ → List ℕ → Bool
is_rule_of sign bytes = list_all (λ b. (b == sign) || is_blank_byte b) bytes && nat_le 3 (count_by (λ b. b == sign) bytes)

-- a thematic break: of stars, hyphens or low lines
unfoldable pub is_rule : List ℕ → Bool
is_rule bytes = ((first bytes == 42) || (first bytes == 45) || (first bytes == 95)) && is_rule_of (first bytes) bytes

-- the level of a heading: one to six signs #, and then a blank or nothing
abbrev pub level_of : ℕ → List ℕ → Option ℕ
level_of level bytes = if (level == 0) || nat_lt 6 level || not (ends_sign (drop level bytes)) then None else Some level

-- the level of the heading that begins here, if one does
unfoldable pub heading_level : List ℕ → Option ℕ
heading_level bytes = level_of (count_in_front 35 bytes) bytes

-- A fence has at least three backquotes or tildes. After backquotes there is no further one in the line.
abbrev pub fence_of : ℕ → ℕ → List ℕ → Option Fence
fence_of sign length bytes =
    if not ((sign == 96) || (sign == 126)) || nat_lt length 3 || ((sign == 96) && list_any (λ b. b == 96) (drop length bytes)) then None
    else Some (record { sign = sign; length = length })

-- the fence that begins here, if one does
unfoldable pub fence_start : List ℕ → Option Fence
fence_start bytes = fence_of (first bytes) (count_in_front (first bytes) bytes) bytes

-- the level of the heading that a line of = or of - makes of a paragraph
unfoldable pub underline_level : List ℕ → Option ℕ
underline_level bytes = if is_run_alone 61 1 bytes then Some 1 else if is_run_alone 45 1 bytes then Some 2 else None

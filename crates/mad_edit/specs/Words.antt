-- How far a word goes from the cursor, in its line.
use Rattle.std.specs.Prelude.{ℕ, ◌+◌, ◌-◌, ◌==◌, List, length, take, drop, min, if◌then◌else◌}
use Rattle.std.specs.List.{prefix_len, suffix_len}
use Rattle.mad_edit_lines.specs.CharClasses.{is_alphanumeric}

-- to the left, of the characters before the cursor: one, and those before it that are letters and numbers
abbrev pub word_before : List ℕ → ℕ
word_before front = if length front == 0 then 0 else 1 + suffix_len is_alphanumeric (take (length front - 1) front)

-- to the right, of the characters after the cursor: one, and on while the character after the next one is a letter or number
abbrev pub word_after : List ℕ → ℕ
word_after rest = if length rest == 0 then 0 else 1 + prefix_len is_alphanumeric (drop 2 rest)

-- what a removal to the right takes: letters and numbers, and the first other character
abbrev pub removed_after : List ℕ → ℕ
removed_after rest = min (prefix_len is_alphanumeric rest + 1) (length rest)

-- What is shown of a line that has begun: its front without what decides nothing yet.
use Rattle.std.specs.Prelude.{ℕ, ◌-◌, Bool, ◌||◌, ◌==◌, List, [], length, take, if◌then◌else◌}
use Rattle.std.specs.List.{list_all, suffix_len}
use Rattle.std.specs.Char.{is_ascii_digit}
use Rattle.markdown_leaves.specs.declared.parts.Kind.{Kind}
use Rattle.markdown_leaves.specs.declared.parts.Kind.TheVariants.{Table, Indented, Fenced, Html}
use Rattle.markdown_marks.specs.Bytes.{first, without_blanks}

-- More of it, or what comes behind it, tells what it begins or ends: a blank, or one of ! # & * + - < = > [ \ _ ` | ~
abbrev pub is_sign : ℕ → Bool
is_sign b =
    (b == 32) || (b == 9) || (b == 33) || (b == 35) || (b == 38) || (b == 42) || (b == 43) || (b == 45) || (b == 60) || (b == 61) || (b == 62) || (b == 91) || (b == 92) || (b == 95) || (b == 96) || (b == 124) || (b == 126)

-- a block may begin with it: a sign, or what is in the number of an item
abbrev pub may_begin : ℕ → Bool
may_begin b = is_sign b || is_ascii_digit b || (b == 46) || (b == 41)

-- Words are shown without the signs at their end. What begins with a bar may be the head of a table.
abbrev pub shown_words : List ℕ → List ℕ
shown_words line = if first (without_blanks line) == 124 then [] else take (length line - suffix_len is_sign line) line

-- Code and html are shown as they stand. Below a table a line may be a row of it.
abbrev pub shown_behind : Kind → List ℕ → List ℕ
shown_behind (Table columns) line = []
shown_behind Indented line = line
shown_behind Fenced line = line
shown_behind Html line = line
shown_behind _ line = shown_words line

-- what is shown of a line that has begun behind this leaf; as long as it has nothing but what a block may begin with, nothing
abbrev pub shown_line : Kind → List ℕ → List ℕ
shown_line open_leaf line = if list_all may_begin line then [] else shown_behind open_leaf line

-- The runs of a text.
use Rattle.std.specs.Prelude.{ℕ, ◌+◌, ◌-◌, ◌==◌, nat_lt, slice_index, Bool, false, if◌then◌else◌, List, drop, length, Option, Some, None, option_and_then, option_map}
use Rattle.std.specs.List.{filter_map, prefix_len, range_with_len}
use Rattle.markdown_emphasis.specs.declared.runs.Sign.{Sign}
use Rattle.markdown_emphasis.specs.declared.runs.Sign.TheVariants.{Star, Underscore, Tilde}
use Rattle.markdown_runs.specs.declared.text.Marks.{Marks}
use Rattle.markdown_runs.specs.Flanking.{beside, run_of}

-- `*`, `_` and `~`
abbrev pub sign_of : ℕ → Option Sign
sign_of c = if c == 42 then Some Star else if c == 95 then Some Underscore else if c == 126 then Some Tilde else None

-- the character at an index, if there is one
abbrev pub char_at : List ℕ → ℕ → Option ℕ
char_at chars i = if nat_lt i (length chars) then Some (slice_index chars i) else None

-- the character before an index
abbrev pub char_before : List ℕ → ℕ → Option ℕ
char_before chars i = if i == 0 then None else char_at chars (i - 1)

-- there is a character, and it is this one
abbrev pub is_char : ℕ → Option ℕ → Bool
is_char c None = false
is_char c (Some d) = c == d

-- how many equal characters there are from an index on
abbrev pub count_from : List ℕ → ℕ → ℕ → ℕ
count_from chars i c = prefix_len (λ d. d == c) (drop i chars)

-- the run of this character and sign that begins at an index
abbrev pub marks_with : List ℕ → ℕ → ℕ → Sign → Marks
marks_with chars i c sign =
    let count = count_from chars i c in
    record { start = i; run = run_of sign count (beside (char_before chars i)) (beside (char_at chars (i + count))) }

-- the run that begins at the index of this character, if one does: the character before it is another
abbrev pub marks_of : List ℕ → ℕ → ℕ → Option Marks
marks_of chars i c = if is_char c (char_before chars i) then None else option_map (marks_with chars i c) (sign_of c)

-- the run that begins at an index, if one does
abbrev pub marks_at : List ℕ → ℕ → Option Marks
marks_at chars i = option_and_then (marks_of chars i) (char_at chars i)

-- all runs of a text
abbrev pub runs_of : List ℕ → List Marks
runs_of chars = filter_map (marks_at chars) (range_with_len 0 (length chars))

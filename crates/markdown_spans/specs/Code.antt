-- Code spans.
use Rattle.std.specs.Prelude.{ℕ, ◌-◌, ◌==◌, ◌&&◌, not, nat_lt, Bool, if◌then◌else◌, List, length, drop, take, slice_index, Option, None, option_map}
use Rattle.std.specs.List.{list_all}
use Rattle.markdown_marks.specs.Bytes.{count_in_front}
use Rattle.markdown_spans.specs.declared.code.Code.{Code}
use Rattle.markdown_spans.specs.Ticks.{run_at}

-- a code span that has so many backquotes on each side, and so many bytes between them
abbrev pub code_with : ℕ → ℕ → Code
code_with marks len = record { marks = marks; len = len }

-- a code span: a run of backquotes, and all up to the first later run of the same length
abbrev pub code_of : List ℕ → Option Code
code_of rest =
    let marks = count_in_front 96 rest in
    if marks == 0 then None else option_map (code_with marks) (run_at marks 0 0 (drop marks rest))

-- the end of a line is a space in code
abbrev pub spaced : ℕ → ℕ
spaced b = if b == 10 then 32 else b

-- what is shown as a space in code
abbrev pub is_space : ℕ → Bool
is_space b = spaced b == 32

-- a space at both ends, and something else between
abbrev pub is_padded : List ℕ → Bool
is_padded bytes = not (length bytes == 0) && is_space (slice_index bytes 0) && is_space (slice_index bytes (length bytes - 1)) && not (list_all is_space bytes)

-- without the first byte and the last
abbrev pub inner : List ℕ → List ℕ
inner bytes = if nat_lt (length bytes) 2 then bytes else drop 1 (take (length bytes - 1) bytes)

-- what is shown of the bytes between a code span's marks, but that the end of a line is a space
abbrev pub unpadded : List ℕ → List ℕ
unpadded bytes = if is_padded bytes then inner bytes else bytes

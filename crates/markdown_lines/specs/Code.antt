-- Lines of code.
use Rattle.std.specs.Prelude.{ℕ, zero, suc, ◌+◌, ◌-◌, ◌%◌, ◌&&◌, ◌==◌, List, [], ◌∷◌, ◌++◌, map, length, chars, encode_utf8_all, if◌then◌else◌}
use Rattle.std.specs.Str.Lossy.{utf8_lossy}
use Rattle.markdown_marks.specs.Remaining.{Remaining}
use Rattle.mad_md.specs.Flagged.{unflagged}
use Rattle.mad_md.specs.Lines.{LineContent, normal}
use Rattle.mad_md.specs.declared.composite.CompositeStyle.TheVariants.{Code}
use Rattle.markdown_inlines.specs.Printable.{shown_char}

-- a text that is so many spaces
unfoldable pub spaces : ℕ → List ℕ
spaces zero = []
spaces (suc count) = 32 ∷ spaces count

-- a character after so many columns: a tab is spaces up to the next fourth column
abbrev pub expanded_char : ℕ → ℕ → List ℕ
expanded_char column c = if c == 9 then spaces (4 - column % 4) else shown_char c ∷ []

-- how many columns of four are behind a character; a tab ends four
abbrev pub next_column : ℕ → ℕ → ℕ
next_column column c = if c == 9 then 0 else column % 4 + 1

-- characters after so many columns: each tab is spaces up to the next fourth column
unfoldable pub expanded : ℕ → List ℕ → List ℕ
expanded column [] = []
expanded column (c ∷ cs) = expanded_char column c ++ expanded (next_column column c) cs

-- the text of a line of code after so many columns
unfoldable pub code_text : ℕ → Remaining → List ℕ
code_text column line = encode_utf8_all (spaces column ++ spaces line.pending ++ expanded line.pending (chars (utf8_lossy line.bytes)))

-- a line of code, which is one run or empty
abbrev pub code_line : ℕ → Remaining → LineContent
code_line column line =
    if (line.pending == 0) && (length line.bytes == 0) then normal (record { style = Code; runs = [] })
    else normal (record { style = Code; runs = record { flags = unflagged; text = code_text column line } ∷ [] })

-- lines of code, each of which begins after so many columns
unfoldable pub code_lines : ℕ → List Remaining → List LineContent
code_lines column lines = map (code_line column) lines

-- Where links begin on a screen, in the rows of a section: of each link the first character that is there. The number of the link stands there.
use Rattle.std.specs.Prelude.{ℕ, ◌+◌, ◌-◌, ◌==◌, ◌&&◌, nat_lt, not, max, Bool, List, [], ◌∷◌, ◌++◌, chars, drop, take, if◌then◌else◌}
use Rattle.std.specs.Char.{is_whitespace}
use Rattle.mad_characters.specs.Columns.{char_columns}
use Rattle.mad_md.specs.Flagged.{flags_of}
use Rattle.mad_md.specs.declared.compound.Compound.{Compound}
use Rattle.mad_style.specs.declared.kinds.CompositeKind.{CompositeKind}
use Rattle.mad_format.specs.declared.line.FmtLine.{FmtLine}
use Rattle.mad_format.specs.declared.line.FmtLine.TheVariants.{Normal}
use Rattle.mad_mark_runs.specs.Marks.{value_at}
use Rattle.mad_mark_runs.specs.Values.{end_from}
use Rattle.mad_mark_runs.specs.declared.mark_runs.MarkRun.{MarkRun}
use Rattle.mad_marks.specs.LineMarks.{has_mark}
use Rattle.mad_marks.specs.RowNumbers.{count_in}
use Rattle.mad_link_places.specs.declared.places.LinkPlace.{LinkPlace}
use Rattle.mad_link_places.specs.declared.places.Walk.{Walk}

-- ---- characters

-- a character that is counted: one of a link that is no whitespace
abbrev pub is_counted : Bool → ℕ → Bool
is_counted linked c = linked && not (is_whitespace c)

-- the mark of a character before which so many counted ones are; 0 is none
abbrev pub link_mark : List MarkRun → Bool → ℕ → ℕ → ℕ
link_mark marks linked n c = if is_counted linked c then value_at marks n else 0

-- how many are before the next one
abbrev pub number_behind : Bool → ℕ → ℕ → ℕ
number_behind linked n c = if is_counted linked c then n + 1 else n

-- a row so far, and a character more
abbrev pub walked : List MarkRun → Bool → Walk → ℕ → Walk
walked marks linked w c = record { number = number_behind linked w.number c; seen = max w.seen (link_mark marks linked w.number c); column = w.column + char_columns c }

-- the number of the link that has this mark: the first one of a section has the mark 9, behind so many links
abbrev pub number_of : ℕ → ℕ → ℕ
number_of before mark = before + (mark - 8)

-- a link begins at a character whose mark is larger than each that is on the screen before it
abbrev pub place_at : (before row : ℕ) → Walk → ℕ → List LinkPlace
place_at before row w mark = if nat_lt w.seen mark then record { row = row; column = w.column; number = number_of before mark } ∷ [] else []

-- ---- texts and rows

-- the links that begin in a text, which is of links or not
abbrev pub text_places : List MarkRun → (before row : ℕ) → Bool → Walk → List ℕ → List LinkPlace
text_places marks before row linked w [] = []
text_places marks before row linked w (c ∷ cs) = place_at before row w (link_mark marks linked w.number c) ++ text_places marks before row linked (walked marks linked w c) cs

-- a row so far, and a text more
abbrev pub text_walked : List MarkRun → Bool → Walk → List ℕ → Walk
text_walked marks linked w [] = w
text_walked marks linked w (c ∷ cs) = text_walked marks linked (walked marks linked w c) cs

-- the links that begin in compounds, in a line of this kind
abbrev pub row_places : List MarkRun → (before row : ℕ) → CompositeKind → Walk → List Compound → List LinkPlace
row_places marks before row kind w [] = []
row_places marks before row kind w (k ∷ ks) =
    text_places marks before row (has_mark kind (flags_of k)) w (chars k.src.now) ++ row_places marks before row kind (text_walked marks (has_mark kind (flags_of k)) w (chars k.src.now)) ks

-- a row so far, and compounds more
abbrev pub row_walked : List MarkRun → CompositeKind → Walk → List Compound → Walk
row_walked marks kind w [] = w
row_walked marks kind w (k ∷ ks) = row_walked marks kind (text_walked marks (has_mark kind (flags_of k)) w (chars k.src.now)) ks

-- those of a line; a row of a table has none
abbrev pub line_places : List MarkRun → (before row : ℕ) → Walk → FmtLine → List LinkPlace
line_places marks before row w (Normal l) = row_places marks before row l.kind w l.compounds.items
line_places marks before row w line = []

-- what is so behind it
abbrev pub line_walked : List MarkRun → Walk → FmtLine → Walk
line_walked marks w (Normal l) = row_walked marks l.kind w l.compounds.items
line_walked marks w line = w

-- the start of the next row
abbrev pub next_row : Walk → Walk
next_row w = record w { column = 0 }

-- those of rows, one below the other
abbrev pub rows_places : List MarkRun → (before row : ℕ) → Walk → List FmtLine → List LinkPlace
rows_places marks before row w [] = []
rows_places marks before row w (line ∷ lines) = line_places marks before row w line ++ rows_places marks before (row + 1) (next_row (line_walked marks w line)) lines

-- ---- sections

-- how many characters of a line are counted
abbrev pub line_count : FmtLine → ℕ
line_count (Normal l) = count_in has_mark l
line_count line = 0

-- of rows
abbrev pub rows_count : List FmtLine → ℕ
rows_count [] = 0
rows_count (line ∷ lines) = line_count line + rows_count lines

-- a row's start, behind so many counted characters; none of the section's links is on the screen before it (tones have the marks up to 8)
abbrev pub row_start : ℕ → Walk
row_start n = record { number = n; seen = 8; column = 0 }

-- THE DEFINITION: the links of a section that begin on a screen that has so many of its rows, below those that are hidden above it. The first of its rows has
-- this index. Where not as many characters are counted in the rows as have marks, no place is told: so it is with tables.
abbrev pub section_places : List MarkRun → (before row hidden shown : ℕ) → List FmtLine → List LinkPlace
section_places marks before row hidden shown rows =
    if rows_count rows == end_from 0 marks then rows_places marks before (row + hidden) (row_start (rows_count (take hidden rows))) (take shown (drop hidden rows)) else []

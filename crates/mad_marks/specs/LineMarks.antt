-- What is counted in the lines of a layout.
use Rattle.std.specs.Prelude.{◌≡◌, ℕ, ◌+◌, Bool, true, false, List, [], ◌∷◌, ◌++◌, ◌||◌, map, chars}
use Rattle.std.specs.List.{filter, flat_map}
use Rattle.mad_md.specs.Flagged.{Flags, FlaggedChar, flagged_text, flagged, Run}
use Rattle.mad_md.specs.Lines.{LineContent, StyledRuns, normal, table_row, table_rule, horizontal_rule}
use Rattle.mad_style.specs.Kinds.{kind_of}
use Rattle.mad_style.specs.declared.kinds.CompositeKind.{CompositeKind}
use Rattle.mad_style.specs.declared.kinds.CompositeKind.TheVariants.{Code}
use Rattle.mad_format.specs.Indents.{follow_up}
use Rattle.mad_format.specs.declared.composite.FmtComposite.{FmtComposite}
use Rattle.mad_format.specs.declared.line.FmtLine.{FmtLine}
use Rattle.mad_format.specs.declared.line.FmtLine.TheVariants.{Normal, TableRow}
use Rattle.mad_marks.specs.RowMarks.{is_counted, counted, marked, counted_marked, MarkedChar}
use Rattle.mad_mark_runs.specs.declared.mark_runs.MarkRun.{MarkRun}

-- a line of code
abbrev pub is_code_kind : CompositeKind → Bool
is_code_kind Code = true
is_code_kind _ = false

-- what is counted, by the kind of a line and a character's flags: all of code, and links elsewhere
abbrev pub has_mark : CompositeKind → Flags → Bool
has_mark kind flags = is_code_kind kind || flags.link

-- a text in a line of some kind
pub record KindText : Type 0 where
  pub kind : CompositeKind
  pub chars : List FlaggedChar

-- the counted characters of a text
abbrev pub text_counted : (CompositeKind → Flags → Bool) → KindText → List FlaggedChar
text_counted has t = filter (is_counted (has t.kind)) t.chars

-- the text that a composite has, in a line of its kind
abbrev pub text_of : FmtComposite → KindText
text_of l = record { kind = l.kind; chars = flagged_text l.compounds.items }

-- the texts of a line: that of a composite, or of each cell
abbrev pub line_texts : FmtLine → List KindText
line_texts (Normal l) = text_of l ∷ []
line_texts (TableRow row) = map text_of row.cells.items
line_texts line = []

-- the texts that all lines have, in order
abbrev pub all_texts : List FmtLine → List KindText
all_texts lines = flat_map line_texts lines

-- the counted characters of a composite
abbrev pub counted_in : (CompositeKind → Flags → Bool) → FmtComposite → List FlaggedChar
counted_in has l = text_counted has (text_of l)

-- the counted characters of a line; of a table's row those of each cell
abbrev pub line_counted : (CompositeKind → Flags → Bool) → FmtLine → List FlaggedChar
line_counted has (Normal l) = counted_in has l
line_counted has (TableRow row) = flat_map (counted_in has) row.cells.items
line_counted has line = []

-- the counted characters of all lines, in order
abbrev pub all_counted : (CompositeKind → Flags → Bool) → List FmtLine → List FlaggedChar
all_counted has lines = flat_map (line_counted has) lines

-- the counted characters of texts with their marks, each text from the number on that those before it leave
abbrev pub texts_marked : (CompositeKind → Flags → Bool) → List MarkRun → ℕ → List KindText → List MarkedChar
texts_marked has runs n [] = []
texts_marked has runs n (t ∷ ts) = counted_marked (has t.kind) (marked (has t.kind) runs n t.chars) ++ texts_marked has runs (n + counted (has t.kind) t.chars) ts

-- the counted characters that a composite or a cell says
abbrev pub said_counted : (CompositeKind → Flags → Bool) → StyledRuns → List FlaggedChar
said_counted has said = filter (is_counted (has (kind_of said.style))) (flat_map (λ (r : Run). flagged r.flags (chars r.text)) said.runs)

-- the counted characters that a line of a text says
abbrev pub content_counted : (CompositeKind → Flags → Bool) → LineContent → List FlaggedChar
content_counted has (normal said) = said_counted has said
content_counted has (table_row cells) = flat_map (said_counted has) cells
content_counted has (table_rule aligns) = []
content_counted has horizontal_rule = []

-- rows that follow a line count what it counts
abbrev pub Follows : (CompositeKind → Flags → Bool) → Type 0
Follows has = (k : CompositeKind) → has (follow_up k) ≡ has k

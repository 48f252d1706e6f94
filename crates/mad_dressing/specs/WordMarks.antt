-- Marks that stand at words where nothing is styled: where a flag of the text begins, and where it ends.
use Rattle.std.specs.Prelude.{ℕ, nat_eq, nat_lt, not, ◌&&◌, ◌||◌, Bool, true, false, if◌then◌else◌, List, [], ◌∷◌, ◌++◌, map, codes}
use Rattle.std.specs.List.{starts_with}
use Rattle.mad_md.specs.Flagged.{Flags, Run, unflagged}
use Rattle.mad_md.specs.Lines.{LineContent, StyledRuns, normal, table_row, table_rule, horizontal_rule}
use Rattle.mad_md.specs.declared.composite.CompositeStyle.{CompositeStyle}
use Rattle.mad_md.specs.declared.composite.CompositeStyle.TheVariants.{Code}
use Rattle.mad_sections.specs.Sections.{SectionContent}
use Rattle.mad_sections.specs.declared.gutters.Gutter.{Gutter}
use Rattle.mad_sections.specs.declared.gutters.Gutter.TheVariants.{AlertBar}

-- ---- marks

-- a mark, if it is there; it has no flag
abbrev pub mark_if : Bool → List ℕ → List Run
mark_if there text = if there then record { flags = unflagged; text = text } ∷ [] else []

-- in front of a text, the marks of the flags that the text before hasn't got, the outermost first: a link, italic, bold, struck out, code
abbrev pub beginnings : Flags → Flags → List Run
beginnings before own =
    mark_if (own.link && not before.link) (codes "[")
    ++ (mark_if (own.italic && not before.italic) (codes "_")
    ++ (mark_if (own.bold && not before.bold) (codes "*")
    ++ (mark_if (own.strikeout && not before.strikeout) (codes "~")
    ++ mark_if (own.code && not before.code) (codes "`"))))

-- behind a text, the marks of the flags that the text after hasn't got, the innermost first
abbrev pub endings : Flags → Flags → List Run
endings own after =
    mark_if (own.code && not after.code) (codes "`")
    ++ (mark_if (own.strikeout && not after.strikeout) (codes "~")
    ++ (mark_if (own.bold && not after.bold) (codes "*")
    ++ (mark_if (own.italic && not after.italic) (codes "_")
    ++ mark_if (own.link && not after.link) (codes "]"))))

-- ---- runs

-- a text is an address as it stands
abbrev pub is_address : List ℕ → Bool
is_address text =
    starts_with nat_eq text (codes "http://") || (starts_with nat_eq text (codes "https://") || (starts_with nat_eq text (codes "ftp://")
    || (starts_with nat_eq text (codes "mailto:") || starts_with nat_eq text (codes "www."))))

-- the flags of a run that have marks: bold has none in a line that is bold as a whole, a link has none that is an address as it stands, and a picture has none
abbrev pub marked_flags : Bool → Run → Flags
marked_flags strong run = record run.flags { bold = run.flags.bold && not strong; link = run.flags.link && not (is_address run.text); picture = false; picture_sign = false }

-- the flags of the first run, or without a run those of what follows
abbrev pub first_flags : Bool → Flags → List Run → Flags
first_flags strong after [] = after
first_flags strong after (run ∷ runs) = marked_flags strong run

-- runs with marks, between texts with these flags
abbrev pub marked_runs : Bool → Flags → Flags → List Run → List Run
marked_runs strong before after [] = []
marked_runs strong before after (run ∷ runs) =
    beginnings before (marked_flags strong run) ++ (run ∷ (endings (marked_flags strong run) (first_flags strong after runs) ++ marked_runs strong (marked_flags strong run) after runs))

-- the flags of the last run, or without a run these
abbrev pub last_flags : Bool → Flags → List Run → Flags
last_flags strong last [] = last
last_flags strong last (run ∷ runs) = last_flags strong (marked_flags strong run) runs

-- ---- lines

-- a composite with marks, between texts with these flags
abbrev pub marked_text : Bool → Flags → Flags → StyledRuns → StyledRuns
marked_text strong before after said = record { style = said.style; runs = marked_runs strong before after said.runs }

-- the flags with which a line begins
abbrev pub line_flags : LineContent → Flags
line_flags (normal said) = first_flags false unflagged said.runs
line_flags _ = unflagged

-- the flags with which lines begin
abbrev pub start_flags : List LineContent → Flags
start_flags [] = unflagged
start_flags (line ∷ lines) = line_flags line

-- the flags with which a line ends
abbrev pub end_flags : Bool → LineContent → Flags
end_flags strong (normal said) = last_flags strong unflagged said.runs
end_flags strong _ = unflagged

-- A line with marks, after a text with these flags and before these lines. A flag that goes on in the next line has no mark between both. A cell stands alone.
abbrev pub marked_line : Bool → Flags → List LineContent → LineContent → LineContent
marked_line strong before next (normal said) = normal (marked_text strong before (start_flags next) said)
marked_line strong before next (table_row cells) = table_row (map (marked_text strong unflagged unflagged) cells)
marked_line strong before next (table_rule aligns) = table_rule aligns
marked_line strong before next horizontal_rule = horizontal_rule

-- a line is a rule across a table
abbrev pub is_rule : LineContent → Bool
is_rule (table_rule aligns) = true
is_rule _ = false

-- lines with marks, after a text with these flags; the first of them that is no rule is bold as a whole, or isn't
abbrev pub marked_lines : Bool → Flags → List LineContent → List LineContent
marked_lines strong before [] = []
marked_lines strong before (line ∷ lines) = marked_line strong before lines line ∷ marked_lines (strong && is_rule line) (end_flags strong line) lines

-- ---- sections

-- the gutter is the bar of an alert
abbrev pub is_alert : Gutter → Bool
is_alert (AlertBar alert) = true
is_alert gutter = false

-- the last gutter is
abbrev pub end_in_alert : List Gutter → Bool
end_in_alert [] = false
end_in_alert (gutter ∷ []) = is_alert gutter
end_in_alert (gutter ∷ next ∷ gutters) = end_in_alert (next ∷ gutters)

-- a line of this style is code
abbrev pub is_code_style : CompositeStyle → Bool
is_code_style Code = true
is_code_style _ = false

-- a line is one of a table
abbrev pub is_of_table : LineContent → Bool
is_of_table (table_row cells) = true
is_of_table (table_rule aligns) = true
is_of_table _ = false

-- lines begin with one
abbrev pub begin_table : List LineContent → Bool
begin_table [] = false
begin_table (line ∷ lines) = is_of_table line

-- the first line of a section is bold as a whole: it is the head of a table, or the word with which an alert begins
abbrev pub begins_strong : SectionContent → Bool
begins_strong section = begin_table section.lines || (nat_lt 0 section.fresh && end_in_alert section.gutters)

-- a line is one of code
abbrev pub is_code : LineContent → Bool
is_code (normal said) = is_code_style said.style
is_code _ = false

-- lines begin with one
abbrev pub begin_code : List LineContent → Bool
begin_code [] = false
begin_code (line ∷ lines) = is_code line

-- a section with marks at its words, or as it is
abbrev pub worded_if : Bool → SectionContent → SectionContent
worded_if there section = if there then record section { lines = marked_lines (begins_strong section) unflagged section.lines } else section

-- the same where marks stand at words, or don't; code has none
abbrev pub worded : Bool → SectionContent → SectionContent
worded words section = worded_if (words && not (begin_code section.lines)) section

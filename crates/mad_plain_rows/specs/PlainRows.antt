-- What is written of a text that isn't Markdown.
use Rattle.std.specs.Prelude.{◌≡◌, ◌⊎◌, ℕ, Bool, if◌then◌else◌, List, [], ◌∷◌, ◌++◌, Result, IsErrOf, chars, encode_utf8, map}
use Rattle.std.specs.List.{flat_map}
use Rattle.mad_term.specs.Draws.{Draws}
use Rattle.mad_term.specs.Styles.{opening_bytes, closing_bytes}
use Rattle.mad_term.specs.Trace.{Trace}
use Rattle.mad_term.specs.declared.errors.Error.{Error}
use Rattle.mad_term.specs.declared.errors.Error.TheVariants.{Memory}
use Rattle.mad_plain.specs.Lines.{line_chars}
use Rattle.mad_plain.specs.Pens.{plain_pen}
use Rattle.mad_plain.specs.Rows.{wrapped}
use Rattle.mad_plain.specs.Runs.{StyledChar}
use Rattle.mad_plain.specs.Styles.{content_style}
use Rattle.mad_plain.specs.Texts.{text_lines}
use Rattle.mad_plain.specs.contracts.pens.PenPartialEq.TheImpl as pen_equality
use Rattle.mad_plain.specs.declared.pens.Pen.{Pen}

-- the pens are the same
abbrev pub same_pen : Pen → Pen → Bool
same_pen = (pen_equality.ghosts).eq

-- between two pens: what ends the first, and begins the second
abbrev pub turn_bytes : Pen → Pen → List ℕ
turn_bytes old new = if same_pen old new then [] else closing_bytes (content_style old) ++ opening_bytes (content_style new)

-- at the end of a row: what ends its last pen, and a newline (10)
abbrev pub end_bytes : Pen → List ℕ
end_bytes pen = closing_bytes (content_style pen) ++ (10 ∷ [])

-- the pen that a character of this style is written with
abbrev pub pen_written : Bool → Pen → Pen
pen_written is_styled style = if is_styled then style else plain_pen

-- what is left of a row: its characters, with a turn wherever the pen is another
abbrev pub rest_bytes : Bool → Pen → List StyledChar → List ℕ
rest_bytes is_styled pen [] = end_bytes pen
rest_bytes is_styled pen (c ∷ cs) = turn_bytes pen (pen_written is_styled c.style) ++ (encode_utf8 c.char ++ rest_bytes is_styled (pen_written is_styled c.style) cs)

-- a row, which begins plain
abbrev pub row_bytes : Bool → List StyledChar → List ℕ
row_bytes is_styled row = rest_bytes is_styled plain_pen row

-- what a line shows, as rows of this width
abbrev pub shown_bytes : ℕ → Bool → List StyledChar → List ℕ
shown_bytes width is_styled line = flat_map (row_bytes is_styled) (wrapped width line)

-- a line
abbrev pub line_bytes : ℕ → Bool → List ℕ → List ℕ
line_bytes width is_styled line = shown_bytes width is_styled (line_chars (chars line))

-- lines, one after the other
abbrev pub lines_bytes : ℕ → Bool → List (List ℕ) → List ℕ
lines_bytes width is_styled lines = flat_map (line_bytes width is_styled) lines

-- a text
abbrev pub plain_bytes : ℕ → Bool → List ℕ → List ℕ
plain_bytes width is_styled text = lines_bytes width is_styled (text_lines text)

-- What a call does that writes a text: its rows go out; or memory for them was refused, and nothing went out.
abbrev pub WritesPlain : {T : Type 0} → ℕ → Bool → List ℕ → Trace → Result T Error → Trace → Type 0
WritesPlain width is_styled text old r new = Draws old (plain_bytes width is_styled text) r new ⊎ (IsErrOf r Memory × (new ≡ old))

-- What callers rely on, in the subject's own words.
use Rattle.std.specs.Prelude.{◌≡◌, ◌||◌, ◌⊎◌, ℕ, ◌+◌, ◌%◌, ◌==◌, ◌<◌, ◌≤◌, not, max, nat_lt, true, false, List, [], ◌∷◌, ◌++◌, length, map, take}
use Rattle.std.specs.List.{repeat, list_all, flat_map, AllByRecursion}
use Rattle.std.specs.Char.{is_control}
use Rattle.std.specs.Str.Lines.{strip_carriage_return}
use Rattle.mad_characters.specs.Columns.{char_columns}
use Rattle.mad_characters.specs.Pictures.{picture}
use Rattle.mad_md.specs.Parts.{AreParts, without_last_empty}
use Rattle.mad_plain.specs.Commands.{is_parameter, is_intermediate, is_final, opens_string, ends_escape, command_len}
use Rattle.mad_plain.specs.Pens.{plain_pen}
use Rattle.mad_plain.specs.Runs.{StyledChar, styled, said}
use Rattle.mad_plain.specs.Lines.{line_chars, are_plain}
use Rattle.mad_plain.specs.Texts.{text_lines}
use Rattle.mad_plain.specs.Rows.{columns_of, wrapped, cut_row}

-- ---- commands, behind their ESC

-- a bracket (91), parameters, intermediates, and a final character
pub record IsSequence (cs : List ℕ) : Type 0 where
  pub parameters : List ℕ
  pub intermediates : List ℕ
  pub final : ℕ
  pub are_parameters : list_all is_parameter parameters ≡ true
  pub are_intermediates : list_all is_intermediate intermediates ≡ true
  pub ends : is_final final ≡ true
  pub is : cs ≡ 91 ∷ (parameters ++ (intermediates ++ final ∷ []))

-- a character that opens a string, others that are no control characters, and BEL (7) or ESC \ (27, 92)
pub record IsString (cs : List ℕ) : Type 0 where
  pub opener : ℕ
  pub text : List ℕ
  pub end : List ℕ
  pub opens : opens_string opener ≡ true
  pub solid : list_all (λ c. not (is_control c)) text ≡ true
  pub ends : (end ≡ 7 ∷ []) ⊎ (end ≡ 27 ∷ 92 ∷ [])
  pub is : cs ≡ opener ∷ (text ++ end)

-- intermediates, and a character that ends them; alone it is none that begins one of the others
pub record IsEscape (cs : List ℕ) : Type 0 where
  pub intermediates : List ℕ
  pub final : ℕ
  pub are_intermediates : list_all is_intermediate intermediates ≡ true
  pub ends : ends_escape (nat_lt 0 (length intermediates)) final ≡ true
  pub is : cs ≡ intermediates ++ final ∷ []

-- what a command is behind its ESC: a control sequence, a string, or another escape
abbrev pub IsCommand : List ℕ → Type 0
IsCommand cs = IsSequence cs ⊎ (IsString cs ⊎ IsEscape cs)

-- what is taken for a command is one
abbrev pub CommandsAreCommands : Type 0
CommandsAreCommands = (cs : List ℕ) → 0 < command_len cs → IsCommand (take (command_len cs) cs)

-- ---- what is shown of a text

-- The second text is what is shown of the first: its characters, in order, less commands, and less the lower ones of overstrikes, which are
-- the same as those over them or low lines (95). A tab is blanks up to a column that is a multiple of eight. `column` is that of the first.
pub data IsShown : (column : ℕ) → List ℕ → List ℕ → Type 0 where
  nothing : (column : ℕ) → IsShown column [] []
  command : (column : ℕ) (cs rest shown : List ℕ) → IsCommand cs → IsShown column rest shown → IsShown column (27 ∷ (cs ++ rest)) shown
  overstrike : (column c d : ℕ) (rest shown : List ℕ) → is_control c ≡ false → (c ≡ d) ⊎ (c ≡ 95) → IsShown column (d ∷ rest) shown → IsShown column (c ∷ 8 ∷ d ∷ rest) shown
  tab : (column blanks : ℕ) (rest shown : List ℕ) → 0 < blanks → blanks ≤ 8 → (column + blanks) % 8 ≡ 0 → IsShown (column + blanks) rest shown → IsShown column (9 ∷ rest) (repeat blanks (32 ∷ []) ++ shown)
  character : (column c : ℕ) (rest shown : List ℕ) → IsShown (column + char_columns (picture c)) rest shown → IsShown column (c ∷ rest) (picture c ∷ shown)

-- THE LAW: nothing of a line is hidden but commands and what overstrikes say
abbrev pub NothingIsHidden : Type 0
NothingIsHidden = (line : List ℕ) → IsShown 0 line (said (line_chars line))

-- nothing that is shown of a line without newlines is a control character, or turns the direction of writing
abbrev pub NothingIsObeyed : Type 0
NothingIsObeyed = (line : List ℕ) → list_all (λ c. not (c == 10)) line ≡ true → are_plain (said (line_chars line)) ≡ true

-- a line without tabs and control characters is shown as it is, without a style
abbrev pub PlainLinesStay : Type 0
PlainLinesStay = (line : List ℕ) → are_plain line ≡ true → line_chars line ≡ map (styled plain_pen) line

-- the lines are what stands between newlines
pub record AreLinesOf (text : List ℕ) (lines : List (List ℕ)) : Type 0 where
  pub parts : List (List ℕ)
  pub cut : AreParts text parts
  pub are : lines ≡ map strip_carriage_return (without_last_empty parts)

-- the lines of each text are so
abbrev pub LinesAreLines : Type 0
LinesAreLines = (text : List ℕ) → AreLinesOf text (text_lines text)

-- ---- rows

-- wrapped rows, one after the other, are the line
abbrev pub RowsAreTheLine : Type 0
RowsAreTheLine = (width : ℕ) (line : List StyledChar) → flat_map (λ row. row) (wrapped width line) ≡ line

-- the row is no wider than this, or than its first character
abbrev pub FitsOrIsOne : ℕ → List StyledChar → Type 0
FitsOrIsOne width [] = Unit {0}
FitsOrIsOne width (c ∷ cs) = columns_of (said (c ∷ cs)) ≤ max width (char_columns c.char)

-- each wrapped row is so
abbrev pub RowsFit : Type 0
RowsFit = (width : ℕ) (line : List StyledChar) → AllByRecursion (FitsOrIsOne width) (wrapped width line)

-- a cut row is no wider than the screen
abbrev pub CutRowsFit : Type 0
CutRowsFit = (moved width : ℕ) (line : List StyledChar) → columns_of (said (cut_row moved width line)) ≤ width

-- a line that fits, and isn't moved, is shown as it is
abbrev pub LinesThatFitStay : Type 0
LinesThatFitStay = (width : ℕ) (line : List StyledChar) → columns_of (said line) ≤ width → cut_row 0 width line ≡ line

-- a command is taken for one, whatever is behind it
abbrev pub AllCommandsAreTaken : Type 0
AllCommandsAreTaken = (cs rest : List ℕ) → IsCommand cs → command_len (cs ++ rest) ≡ length cs

-- Each row begins where the one before it has no room: its first character doesn't fit behind that. `used` is the columns of the row before; more
-- than the width where there is none.
abbrev pub BeginsLate : (width used : ℕ) → List StyledChar → Type 0
BeginsLate width used [] = Unit {0}
BeginsLate width used (c ∷ cs) = width < used + char_columns c.char

-- these rows begin so, the first behind a row of `used` columns
abbrev pub AreFull : (width used : ℕ) → List (List StyledChar) → Type 0
AreFull width used [] = Unit {0}
AreFull width used (row ∷ rows) = BeginsLate width used row × AreFull width (columns_of (said row)) rows

-- wrapped rows begin so; the first has none before it
abbrev pub RowsAreFull : Type 0
RowsAreFull = (width : ℕ) (line : List StyledChar) → AreFull width (width + 1) (wrapped width line)

-- a line without ESC and backspaces has no style: styles come of commands and overstrikes alone
abbrev pub StylesAreWritten : Type 0
StylesAreWritten = (line : List ℕ) → list_all (λ c. not ((c == 27) || (c == 8))) line ≡ true → line_chars line ≡ map (styled plain_pen) (said (line_chars line))

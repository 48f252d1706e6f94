-- A terminal that reads what another one reads, and passes over the commands of links (OSC 8): ESC (27) and `]` (93), `8;`, parameters, a
-- semicolon, an address, ESC and a backslash (92).
use Rattle.std.specs.Prelude.{ℕ, ◌==◌, nat_le, ◌&&◌, Bool, true, false, List, [], ◌∷◌, ◌++◌, Option, Some, None, option_map, option_and_then, if◌then◌else◌}
use Rattle.std.specs.Str.{chars, is_utf8}
use Rattle.mad_screen.specs.Grid.{Grid}
use Rattle.mad_screen.specs.Terminal.{Mode, Outside, Escape, Numbers, Reading, feed, resting, settled}

-- How far the command of a link has come: none has begun, it is in its text, or after an ESC in it. The last two come with its text so far.
pub data LinkMode : Type 0 where
  NoCommand : LinkMode
  InCommand : List ℕ → LinkMode
  AtItsEnd : List ℕ → LinkMode

-- What passing over links needs to know of a terminal in the middle of a text: what it makes of the next character, whether an ESC has come last, and
-- what it was before that.
pub record Reader (R : Type 0) : Type 0 where
  pub feed : R → ℕ → Option R
  pub at_escape : R → Bool
  pub before_escape : R → R

-- such a terminal, and how far the command of a link has come
pub record Skipping (R : Type 0) : Type 0 where
  pub plain : R
  pub mode : LinkMode

-- outside the command of a link
abbrev pub passing : {R : Type 0} → R → Skipping R
passing r = record { plain = r; mode = NoCommand }

-- what may be in the command of a link: the characters of ASCII that are no control characters
abbrev pub is_command_char : ℕ → Bool
is_command_char c = nat_le 32 c && nat_le c 126

-- a text up to the first character of this code, and what is after it
abbrev pub cut_at : ℕ → List ℕ → Option (List ℕ × List ℕ)
cut_at code [] = None
cut_at code (c ∷ cs) = if c == code then Some ([], cs) else option_map (λ p. (c ∷ p.0, p.1)) (cut_at code cs)

-- the parameters and the address in the text of a command: it begins with `8;` (56, 59), and the next semicolon is between the two
abbrev pub link_command : List ℕ → Option (List ℕ × List ℕ)
link_command (n ∷ s ∷ rest) = if (n == 56) && (s == 59) then cut_at 59 rest else None
link_command _ = None

-- the next character: the terminal's own, or one of a command
abbrev pub skip_in : {R : Type 0} → Reader R → LinkMode → R → ℕ → Option (Skipping R)
skip_in t NoCommand r c =
    if t.at_escape r && (c == 93) then Some (record { plain = t.before_escape r; mode = InCommand [] }) else option_map passing (t.feed r c)
skip_in t (InCommand text) r c =
    if c == 27 then Some (record { plain = r; mode = AtItsEnd text })
    else if is_command_char c then Some (record { plain = r; mode = InCommand (text ++ c ∷ []) }) else None
skip_in t (AtItsEnd text) r c = if c == 92 then option_map (λ _. passing r) (link_command text) else None

-- the same of a terminal and how far its command has come
abbrev pub skip : {R : Type 0} → Reader R → Skipping R → ℕ → Option (Skipping R)
skip t s c = skip_in t s.mode s.plain c

-- characters, one after another
abbrev pub skip_all : {R : Type 0} → Reader R → List ℕ → Skipping R → Option (Skipping R)
skip_all t [] s = Some s
skip_all t (c ∷ cs) s = option_and_then (skip_all t cs) (skip t s c)

-- the same without passing over links
abbrev pub read_all : {R : Type 0} → Reader R → List ℕ → R → Option R
read_all t [] r = Some r
read_all t (c ∷ cs) r = option_and_then (read_all t cs) (t.feed r c)

-- ---- the plain terminal

-- whether an ESC has come last
abbrev pub after_escape : Mode → Bool
after_escape Outside = false
after_escape Escape = true
after_escape (Numbers ps now) = false

-- the plain terminal as such a reader
abbrev pub plain_reader : Reader Reading
plain_reader = record { feed = feed; at_escape = λ r. after_escape r.mode; before_escape = λ r. resting r.grid }

-- the screen at a text's end, where no sequence and no command is cut off
abbrev pub skipped_in : LinkMode → Reading → Option Grid
skipped_in NoCommand r = settled r
skipped_in (InCommand text) r = None
skipped_in (AtItsEnd text) r = None

-- the same of the plain terminal and how far its command has come
abbrev pub skipped : Skipping Reading → Option Grid
skipped s = skipped_in s.mode s.plain

-- the screen after these bytes, if a plain terminal that passes over the commands of links can read them
unfoldable pub after_skipping : Grid → List ℕ → Option Grid
after_skipping g bytes = if is_utf8 bytes then option_and_then skipped (skip_all plain_reader (chars bytes) (passing (resting g))) else None

-- Which keys characters and the names of sequences are.
use Rattle.std.specs.Prelude.{ℕ, ◌+◌, ◌-◌, ◌*◌, ◌/◌, ◌%◌, ◌==◌, nat_lt, nat_le, ◌&&◌, ◌||◌, Option, Some, None, if◌then◌else◌}
use Rattle.mad_term.specs.declared.keys.KeyCode.{KeyCode}
use Rattle.mad_term.specs.declared.keys.KeyCode.TheVariants.{Char, Enter, Backspace, Delete, Insert, Tab, Esc, Home, End, Up, Down, Left, Right, PageUp, PageDown, F, Null}
use Rattle.mad_term.specs.declared.keys.KeyEvent.{KeyEvent}
use Rattle.mad_term.specs.declared.keys.KeyModifiers.{KeyModifiers}

-- The modifiers of a number below 8, as terminals count them: Shift 1, Alt 2, Control 4. A set of modifiers has Control as 2,
-- and Alt as 4.
abbrev pub held : ℕ → KeyModifiers
held number = record { 0 = number % 2 + 2 * (number / 4) + 4 * (number / 2 % 2) }

-- a key with the modifiers of this number
abbrev pub key_with : ℕ → KeyCode → KeyEvent
key_with number code = record { code = code; modifiers = held number }

-- Esc alone
abbrev pub escape_key : KeyEvent
escape_key = key_with 0 Esc

-- The key of a character but ESC, with these modifiers held and, below 32, Control too. Control with `h` or `?` is Backspace, with `i` Tab,
-- with `j` or `m` Enter, and with `@` or a space Null: terminals send the same bytes for them.
abbrev pub char_key : ℕ → ℕ → KeyEvent
char_key number c =
    if c == 0 then key_with number Null
    else if c == 8 || c == 127 then key_with number Backspace
    else if c == 9 then key_with number Tab
    else if c == 10 || c == 13 then key_with number Enter
    else if nat_lt c 27 then key_with (number + 4) (Char (c + 96))
    else if nat_lt c 32 then key_with (number + 4) (Char (c + 64))
    else key_with number (Char c)

-- the key of a letter that ends a sequence
abbrev pub letter_key : ℕ → Option KeyCode
letter_key letter =
    if letter == 65 then Some Up
    else if letter == 66 then Some Down
    else if letter == 67 then Some Right
    else if letter == 68 then Some Left
    else if letter == 70 then Some End
    else if letter == 72 then Some Home
    else if nat_le 80 letter && nat_le letter 83 then Some (F (letter - 79))
    else None

-- the key of a number in a sequence that ends in `~`
abbrev pub number_key : ℕ → Option KeyCode
number_key number =
    if number == 1 || number == 7 then Some Home
    else if number == 2 then Some Insert
    else if number == 3 then Some Delete
    else if number == 4 || number == 8 then Some End
    else if number == 5 then Some PageUp
    else if number == 6 then Some PageDown
    else if nat_le 11 number && nat_le number 15 then Some (F (number - 10))
    else if nat_le 17 number && nat_le number 21 then Some (F (number - 11))
    else if nat_le 23 number && nat_le number 24 then Some (F (number - 12))
    else None

-- the key of a letter after `ESC [ [`
abbrev pub console_key : ℕ → Option KeyCode
console_key letter = if nat_le 65 letter && nat_le letter 69 then Some (F (letter - 64)) else None

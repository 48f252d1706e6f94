-- The plainest bytes of an event, if any bytes are that event.
use Rattle.std.specs.Prelude.{ℕ, ◌+◌, ◌-◌, ◌*◌, ◌/◌, ◌%◌, ◌^◌, ◌==◌, nat_lt, nat_le, ◌&&◌, ◌||◌, List, [], ◌∷◌, ◌++◌, Option, Some, None, option_and_then, if◌then◌else◌, encode_utf8}
use Rattle.std.specs.Char.{is_ascii_control}
use lib.Utf8.{scalar}
use Rattle.mad_term.specs.declared.keys.KeyCode.{KeyCode}
use Rattle.mad_term.specs.declared.keys.KeyCode.TheVariants.{Char, Enter, Backspace, Delete, Insert, Tab, BackTab, Esc, Home, End, Up, Down, Left, Right, PageUp, PageDown, F, Null}
use Rattle.mad_term.specs.declared.keys.KeyModifiers.{KeyModifiers}
use Rattle.mad_term.specs.declared.mouse.MouseButton.{MouseButton}
use Rattle.mad_term.specs.declared.mouse.MouseButton.TheVariants as button
use Rattle.mad_term.specs.declared.mouse.MouseEventKind.{MouseEventKind}
use Rattle.mad_term.specs.declared.mouse.MouseEventKind.TheVariants as kind
use Rattle.mad_term.specs.declared.mouse.MouseEvent.{MouseEvent}
use Rattle.mad_term.specs.declared.events.Event.{Event}
use Rattle.mad_term.specs.declared.events.Event.TheVariants.{Key, Mouse, Resize, FocusGained, FocusLost}
use Rattle.mad_term.specs.Commands.{numbers_bytes, command_bytes}

-- the number whose modifiers (`held`) these are, if they are no others than Shift, Control and Alt
abbrev pub number_of : KeyModifiers → Option ℕ
number_of modifiers = if nat_lt modifiers.0 8 then Some (modifiers.0 % 2 + 2 * (modifiers.0 / 4) + 4 * (modifiers.0 / 2 % 2)) else None

-- ---- keys, with the modifiers of a number

-- a character: alone, or with Alt (2) after ESC, but `[` (91) and `O` (79), with which sequences begin there
abbrev pub char_bytes : ℕ → ℕ → Option (List ℕ)
char_bytes number c =
    if number == 0 then Some (encode_utf8 c)
    else if c == 91 || c == 79 then None
    else if number == 2 then Some (27 ∷ encode_utf8 c)
    else None

-- The character that is this one with Control: of a letter but `h`, `i`, `j` and `m` (104, 105, 106, 109), and of `\ ] ^ _`.
abbrev pub control_char : ℕ → Option ℕ
control_char c =
    if c == 104 || c == 105 || c == 106 || c == 109 then None
    else if nat_le 97 c && nat_le c 122 then Some (c - 96)
    else if nat_le 92 c && nat_le c 95 then Some (c - 64)
    else None

-- the key of a character: with Control (4) as another character, else as itself, unless it is a control character
abbrev pub typed_bytes : ℕ → ℕ → Option (List ℕ)
typed_bytes number c =
    if nat_le 4 number then option_and_then (λ d. char_bytes (number - 4) d) (control_char c)
    else if is_ascii_control c then None
    else if scalar c then char_bytes number c
    else None

-- a key of a letter: `ESC [` and the letter, or `ESC [ 1 ;` and a number before it, which is one more than that of the modifiers
abbrev pub letter_bytes : ℕ → ℕ → List ℕ
letter_bytes number letter = if number == 0 then command_bytes [] letter else command_bytes (1 ∷ (number + 1) ∷ []) letter

-- a key of a number: `ESC [`, the number, that of the modifiers as well, and `~` (126)
abbrev pub tilde_bytes : ℕ → ℕ → List ℕ
tilde_bytes number n = if number == 0 then command_bytes (n ∷ []) 126 else command_bytes (n ∷ (number + 1) ∷ []) 126

-- a function key of a letter: F1 to F4 without modifiers are `ESC O` (79) and `P` to `S`
abbrev pub function_letter_bytes : ℕ → ℕ → List ℕ
function_letter_bytes number letter = if number == 0 then 27 ∷ 79 ∷ letter ∷ [] else letter_bytes number letter

-- a function key: F1 to F4 are letters, and F5 to F12 numbers
abbrev pub function_bytes : ℕ → ℕ → Option (List ℕ)
function_bytes number n =
    if nat_le 1 n && nat_le n 4 then Some (function_letter_bytes number (n + 79))
    else if n == 5 then Some (tilde_bytes number 15)
    else if nat_le 6 n && nat_le n 10 then Some (tilde_bytes number (n + 11))
    else if nat_le 11 n && nat_le n 12 then Some (tilde_bytes number (n + 12))
    else None

-- these bytes, if no modifier is held
abbrev pub alone_bytes : ℕ → List ℕ → Option (List ℕ)
alone_bytes number bytes = if number == 0 then Some bytes else None

-- the bytes of a key
abbrev pub key_bytes : ℕ → KeyCode → Option (List ℕ)
key_bytes number (Char c) = typed_bytes number c
key_bytes number Null = char_bytes number 0
key_bytes number Tab = char_bytes number 9
key_bytes number Enter = char_bytes number 13
key_bytes number Backspace = char_bytes number 127
key_bytes number Esc = alone_bytes number (27 ∷ [])
key_bytes number BackTab = alone_bytes number (command_bytes [] 90)
key_bytes number Up = Some (letter_bytes number 65)
key_bytes number Down = Some (letter_bytes number 66)
key_bytes number Right = Some (letter_bytes number 67)
key_bytes number Left = Some (letter_bytes number 68)
key_bytes number End = Some (letter_bytes number 70)
key_bytes number Home = Some (letter_bytes number 72)
key_bytes number Insert = Some (tilde_bytes number 2)
key_bytes number Delete = Some (tilde_bytes number 3)
key_bytes number PageUp = Some (tilde_bytes number 5)
key_bytes number PageDown = Some (tilde_bytes number 6)
key_bytes number (F n) = function_bytes number n

-- ---- the mouse

-- the number of a button
abbrev pub button_number : MouseButton → ℕ
button_number button.Left = 0
button_number button.Middle = 1
button_number button.Right = 2

-- the number of what was done, without modifiers
abbrev pub kind_number : MouseEventKind → ℕ
kind_number (kind.Down b) = button_number b
kind_number (kind.Up b) = button_number b
kind_number (kind.Drag b) = 32 + button_number b
kind_number kind.Moved = 35
kind_number kind.ScrollUp = 64
kind_number kind.ScrollDown = 65

-- the letter of what was done: `m` (109) where a button came up, else `M` (77)
abbrev pub kind_letter : MouseEventKind → ℕ
kind_letter (kind.Up b) = 109
kind_letter _ = 77

-- the mouse: `ESC [ <` (60), three numbers and a letter. In the first number the modifiers count four times, and cells are counted from 1.
abbrev pub mouse_bytes : ℕ → MouseEvent → Option (List ℕ)
mouse_bytes number mouse =
    if nat_lt mouse.column (2 ^ 16) && nat_lt mouse.row (2 ^ 16) then
    Some (27 ∷ 91 ∷ 60 ∷ (numbers_bytes ((kind_number mouse.kind + 4 * number) ∷ (mouse.column + 1) ∷ (mouse.row + 1) ∷ []) ++ kind_letter mouse.kind ∷ []))
    else None

-- ---- events

-- the screen's size: `ESC [ 8 ; rows ; columns t` (116)
abbrev pub size_bytes : ℕ → ℕ → Option (List ℕ)
size_bytes columns rows =
    if nat_le 1 columns && nat_lt columns (2 ^ 16) && nat_le 1 rows && nat_lt rows (2 ^ 16) then Some (command_bytes (8 ∷ rows ∷ columns ∷ []) 116) else None

-- the plainest bytes of an event, if it has any
abbrev pub plain_bytes : Event → Option (List ℕ)
plain_bytes (Key key) = option_and_then (λ number. key_bytes number key.code) (number_of key.modifiers)
plain_bytes (Mouse mouse) = option_and_then (λ number. mouse_bytes number mouse) (number_of mouse.modifiers)
plain_bytes (Resize columns rows) = size_bytes columns rows
plain_bytes FocusGained = Some (command_bytes [] 73)
plain_bytes FocusLost = Some (command_bytes [] 79)

-- What a byte does to a front, which is the beginning of what a terminal sends for one event: a character, or a sequence
-- after ESC (27).
use Rattle.std.specs.Prelude.{ℕ, ◌+◌, ◌==◌, nat_lt, nat_le, ◌&&◌, ◌||◌, Bool, List, [], ◌∷◌, length, if◌then◌else◌}
use Rattle.mad_keys.specs.declared.steps.Step.{Step}
use Rattle.mad_keys.specs.declared.steps.Step.TheVariants.{Waits, Ends, Breaks}

-- ---- characters in UTF-8

-- how many bytes a character has that begins with this byte, which is 194 to 244
abbrev pub char_length : ℕ → ℕ
char_length first = if nat_lt first 224 then 2 else if nat_lt first 240 then 3 else 4

-- the least second byte: a character has no longer form than it needs
abbrev pub least_second : ℕ → ℕ
least_second first = if first == 224 then 160 else if first == 240 then 144 else 128

-- the greatest second byte: no character is a surrogate, or above 10FFFF
abbrev pub greatest_second : ℕ → ℕ
greatest_second first = if first == 237 then 159 else if first == 244 then 143 else 191

-- whether a byte goes on with a character of this first byte, after these other bytes of it
abbrev pub goes_on : ℕ → List ℕ → ℕ → Bool
goes_on first [] b = nat_le (least_second first) b && nat_le b (greatest_second first)
goes_on first (_ ∷ _) b = nat_le 128 b && nat_le b 191

-- A byte after the front of a character. After none, a byte that begins no character (128 to 193, 245 and more) is an item
-- of its own, as an ASCII character is.
abbrev pub char_step : List ℕ → ℕ → Step
char_step [] b = if nat_le 194 b && nat_le b 244 then Waits else Ends
char_step (first ∷ w) b =
    if goes_on first w b then (if length w + 2 == char_length first then Ends else Waits) else Breaks

-- ---- sequences

-- what ends a sequence: `@` to `~`
abbrev pub is_end : ℕ → Bool
is_end b = nat_le 64 b && nat_le b 126

-- a byte among those of a sequence: a space to `?` goes on with it
abbrev pub among_step : ℕ → Step
among_step b = if nat_le 32 b && nat_le b 63 then Waits else if is_end b then Ends else Breaks

-- a byte after `ESC [ [`, by which the Linux console's function keys begin
abbrev pub console_step : ℕ → Step
console_step b = if is_end b then Ends else Breaks

-- a byte after `ESC [ M` and these: the mouse's old form has three bytes there
abbrev pub old_mouse_step : List ℕ → ℕ → Step
old_mouse_step w b = if nat_lt b 32 then Breaks else if nat_lt (length w) 2 then Waits else Ends

-- a byte after `ESC [` (91) and these: `M` is 77
abbrev pub bracket_step : List ℕ → ℕ → Step
bracket_step [] b = if b == 77 || b == 91 then Waits else among_step b
bracket_step (a ∷ w) b = if a == 91 then console_step b else if a == 77 then old_mouse_step w b else among_step b

-- A byte after ESC and these. `[` (91) and `O` (79) begin sequences, a character is one with Alt, and ESC is read afresh.
abbrev pub escape_step : List ℕ → ℕ → Step
escape_step [] b = if b == 27 then Breaks else if b == 79 || b == 91 then Waits else char_step [] b
escape_step (a ∷ w) b = if a == 91 then bracket_step w b else if a == 79 then among_step b else char_step (a ∷ w) b

-- a byte after a front
abbrev pub step_of : List ℕ → ℕ → Step
step_of [] b = if b == 27 then Waits else char_step [] b
step_of (a ∷ w) b = if a == 27 then escape_step w b else char_step (a ∷ w) b

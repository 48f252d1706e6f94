-- The characters that a terminal shows, and what stands for the others.
use Rattle.std.specs.Prelude.{ℕ, ◌+◌, Bool, not, ◌||◌, ◌==◌, nat_lt, if◌then◌else◌}
use Rattle.std.specs.Char.{is_control}
use Rattle.std.specs.Int.{is_in_range}

-- the character begins or ends an embedding, an override or an isolate of the direction of writing
abbrev pub turns_direction : ℕ → Bool
turns_direction c = is_in_range 0x202A 0x202E c || is_in_range 0x2066 0x2069 c

-- a newline, or no control character and none that turns the direction
abbrev pub is_printable_char : ℕ → Bool
is_printable_char c = (c == 10) || not (is_control c || turns_direction c)

-- what is shown of a character: itself, the picture of a control character, or the replacement character (U+FFFD)
abbrev pub picture : ℕ → ℕ
picture c = if is_printable_char c then c else if nat_lt c 32 then 0x2400 + c else if c == 127 then 0x2421 else 0xFFFD

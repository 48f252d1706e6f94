-- The bytes of commands. All are ASCII, so that they are also the commands' characters.
use Rattle.std.specs.Prelude.{ℕ, ◌+◌, List, [], ◌∷◌, ◌++◌, decimal}
use Rattle.std.specs.List.{flat_map}
use Rattle.mad_term.specs.declared.commands.ClearType.{ClearType}
use Rattle.mad_term.specs.declared.commands.ClearType.TheVariants.{All, FromCursorDown, FromCursorUp, CurrentLine, UntilNewLine}

-- numbers in decimal, a semicolon (59) between each two
abbrev pub numbers_bytes : List ℕ → List ℕ
numbers_bytes [] = []
numbers_bytes (n ∷ ns) = decimal n ++ flat_map (λ m. 59 ∷ decimal m) ns

-- a command: ESC (27), an opening bracket (91), its numbers, and the letter that says which command it is
abbrev pub command_bytes : List ℕ → ℕ → List ℕ
command_bytes numbers letter = 27 ∷ 91 ∷ (numbers_bytes numbers ++ letter ∷ [])

-- the cursor goes to column x of row y, both counted from 0. The command counts rows and columns from 1, and ends in H (72).
abbrev pub move_to_bytes : ℕ → ℕ → List ℕ
move_to_bytes x y = command_bytes ((y + 1) ∷ (x + 1) ∷ []) 72

-- the erasures: of the screen by J (74), of the cursor's row by K (75)
abbrev pub clear_bytes : ClearType → List ℕ
clear_bytes All = command_bytes (2 ∷ []) 74
clear_bytes FromCursorDown = command_bytes [] 74
clear_bytes FromCursorUp = command_bytes (1 ∷ []) 74
clear_bytes CurrentLine = command_bytes (2 ∷ []) 75
clear_bytes UntilNewLine = command_bytes [] 75

-- a command that changes how the text after it looks: it ends in m (109)
abbrev pub sgr_bytes : List ℕ → List ℕ
sgr_bytes numbers = command_bytes numbers 109

-- A selection over three lines, and two cuts.
use Rattle.std.specs.Prelude.{List, [], ◌∷◌, None, Some, codes}
use Rattle.mad_edit.specs.Editor.{Editor}
use Rattle.mad_edit.specs.Undo.{Cut}

-- three lines, selected from the second character on to the first of the last line
abbrev pub three_lines : Editor
three_lines = record { text = codes "ab\ncd\nef"; offset = 1; tail = Some (record { y = 2; x = 0 }) }

-- what a cut leaves of them
abbrev pub after_the_cut : Editor
after_the_cut = record { text = codes "af"; offset = 1; tail = None }

-- an answer that keeps the line between
abbrev pub middle_line_kept : Editor
middle_line_kept = record { text = codes "a\ncd\nf"; offset = 1; tail = None }

-- two cuts that lead from `abcd` to no text
abbrev pub two_cuts : List Cut
two_cuts = record { position = record { y = 0; x = 1 }; text = codes "bc" } ∷ record { position = record { y = 0; x = 0 }; text = codes "ad" } ∷ []

-- the same in the other order
abbrev pub two_cuts_turned : List Cut
two_cuts_turned = record { position = record { y = 0; x = 0 }; text = codes "ad" } ∷ record { position = record { y = 0; x = 1 }; text = codes "bc" } ∷ []

-- Texts that are made printable piece by piece.
use Rattle.std.specs.Prelude.{ℕ, ◌==◌, Bool, true, false, List, [], ◌∷◌, ◌++◌, if◌then◌else◌}
use Rattle.mad_measure.specs.Printable.{shown_as}
use Rattle.mad_stream.specs.declared.printed.Place.{Place}
use Rattle.mad_stream.specs.declared.printed.Place.TheVariants.{LineStart, InLine, AfterReturn}

-- What stands for characters that may go on, the first of which begins a line or doesn't: of a carriage return that nothing has come after yet, nothing.
abbrev pub shown_growing : Bool → List ℕ → List ℕ
shown_growing begins_line [] = []
shown_growing begins_line (c ∷ []) = if c == 13 then [] else shown_as begins_line c []
shown_growing begins_line (c ∷ next ∷ after) = shown_as begins_line c (next ∷ after) ++ shown_growing (c == 10) (next ∷ after)

-- ---- pieces

-- where the next character stands, after this one
abbrev pub place_of : ℕ → Place
place_of c = if c == 10 then LineStart else if c == 13 then AfterReturn else InLine

-- and after these
abbrev pub place_after : Place → List ℕ → Place
place_after place [] = place
place_after place (c ∷ cs) = place_after (place_of c) cs

-- a character that it stands there after
abbrev pub place_char : Place → ℕ
place_char LineStart = 10
place_char InLine = 46
place_char AfterReturn = 13

-- what is shown of that character: of a carriage return it isn't told yet
abbrev pub place_shown : Place → List ℕ
place_shown LineStart = 10 ∷ []
place_shown InLine = 46 ∷ []
place_shown AfterReturn = []

-- what is shown of a piece, and of the carriage return that it comes behind
abbrev pub piece_shown : Place → List ℕ → List ℕ
piece_shown LineStart cs = shown_growing true cs
piece_shown InLine cs = shown_growing false cs
piece_shown AfterReturn cs = shown_growing false (13 ∷ cs)

-- what is shown yet where a text ends there: a carriage return ends its line
abbrev pub end_shown : Place → List ℕ
end_shown AfterReturn = 10 ∷ []
end_shown _ = []

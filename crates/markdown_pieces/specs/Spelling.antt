-- The bytes of pieces, one piece after another.
use Rattle.std.specs.Prelude.{◌≡◌, ℕ, suc, List, [], ◌∷◌, ◌++◌, take, drop}
use Rattle.markdown_pieces.specs.declared.pieces.Piece.{Piece}
use Rattle.markdown_pieces.specs.Cut.{cut_text}

-- each piece takes its bytes from the front
abbrev pub spell : List ℕ → List Piece → List ℕ
spell rest [] = []
spell rest (p ∷ ps) = take (suc p.more) rest ++ spell (drop (suc p.more) rest) ps

-- no byte is lost
abbrev pub PiecesSpellTheirText : Type 0
PiecesSpellTheirText = (labels : List (List ℕ)) (text : List ℕ) → spell text (cut_text labels text).pieces ≡ text

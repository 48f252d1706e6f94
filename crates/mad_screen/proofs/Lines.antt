-- Pictures as they are written: piece by piece, and line by line.
use Rattle.std.proofs.Common.{◌≡◌, ℕ, ◌+◌, ◌<◌, List, [], ◌∷◌, ◌++◌, length, get_or, take, ap, sym, ◌∙◌, add-one}
use Rattle.std.specs.List.{flat_map}
use Rattle.std.proofs.lemmas.List.{take_more, flat_map_more}
use Rattle.mad_screen.specs.Glyph.{Glyph}
use Rattle.mad_screen.specs.Grid.{Grid}
use Rattle.mad_screen.specs.Pictures.{lines_text, row_cells}

-- one more piece
pub piece_more : {X Y : Type 0} (f : X → List Y) (xs : List X) (i : ℕ) (d : X) → i < length xs → flat_map f (take i xs) ++ f (get_or xs i d) ≡ flat_map f (take (i + 1) xs)
piece_more f xs i d h = flat_map_more f [] (take i xs) (get_or xs i d) ∙ ap (flat_map f) (sym (take_more xs i d h))

-- one more line
pub line_more : (f : List Glyph → List ℕ) (g : Grid) (y : ℕ) (cells : List Glyph) → cells ≡ row_cells g y → lines_text f g y ++ (f cells ++ 10 ∷ []) ≡ lines_text f g (y + 1)
line_more f g y cells e = ap (λ (l : List Glyph). lines_text f g y ++ (f l ++ 10 ∷ [])) e ∙ ap (lines_text f g) (sym (add-one y))

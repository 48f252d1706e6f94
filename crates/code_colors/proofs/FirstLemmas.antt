-- A mark or a word of a table isn't in front where its first byte isn't.
use Rattle.std.proofs.Common.{◌≡◌, ℕ, ◌&&◌, Bool, true, false, eqb, List, [], ◌∷◌, length, take, map, refl, ap}
use Rattle.std.specs.Prelude.{not, ◌==◌}
use Rattle.std.specs.Cmp.Lexicographic.{pointwise}
use Rattle.code_tables.specs.Kinds.{is_space_byte}
use Rattle.code_colors.specs.Bytes.{first}
use Rattle.code_colors.specs.Tokens.{is_marked, lowered, is_same}

-- a mark that begins with another byte isn't in front
pub other_mark : (m : ℕ) (ms rest : List ℕ) → (m == first rest) ≡ false → is_marked (m ∷ ms) rest ≡ false
other_mark m ms [] e = refl
other_mark m ms (b ∷ bs) e = ap (λ t. (t && pointwise eqb ms (take (length ms) bs)) && not ((length (m ∷ ms) == 0) && is_space_byte b)) e

-- a word that begins with another byte is another
pub other_word : (folds : Bool) (w word : List ℕ) → (first w == lowered folds (first word)) ≡ false → is_same folds w word ≡ false
other_word true [] [] e = e
other_word false [] [] e = e
other_word folds [] (b ∷ bs) e = refl
other_word folds (p ∷ ps) [] e = refl
other_word folds (p ∷ ps) (b ∷ bs) e = ap (λ t. t && pointwise eqb ps (map (lowered folds) bs)) e

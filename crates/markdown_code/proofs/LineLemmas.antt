-- The lines of a text, one after the other.
use Rattle.std.proofs.Common.{◌≡◌, ℕ, Bool, true, ◌==◌, List, [], ◌∷◌, ◌++◌, map, length, sym, ◌∙◌, append-nil}
use Rattle.std.proofs.lemmas.Bool.{eqb-true}
use Rattle.markdown_blocks.specs.Lines.{text_lines}
use Rattle.markdown_marks.specs.Remaining.{Remaining, whole}

none_left : (lines all : List Remaining) (rest : List ℕ) → lines ++ map whole (text_lines rest) ≡ all → length rest ≡ 0 → lines ≡ all
unfolding text_lines
none_left lines all [] are none = sym (append-nil lines) ∙ are
none_left lines all (b ∷ bs) are none = let no : length (b ∷ bs) ≡ 0 = none in absurd (cc)

-- where nothing is left, all lines are there
pub all_lines : (lines all : List Remaining) (rest : List ℕ) (empty : Bool) → lines ++ map whole (text_lines rest) ≡ all → empty ≡ (length rest == 0) → empty ≡ true → lines ≡ all
all_lines lines all rest empty are is test = none_left lines all rest are (eqb-true (length rest) 0 (sym is ∙ test))

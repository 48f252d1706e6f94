-- The tokens that begin the lines of a break, by their numbers.
use Rattle.std.specs.Prelude.{ℕ, zero, suc, ◌+◌, ◌==◌, if◌then◌else◌, List, [], ◌∷◌, ◌++◌, length}
use Rattle.mad_measure.specs.declared.tokens.Token.{Token}
use Rattle.mad_wrap.specs.Breaks.{LineAndGap}

-- the numbers of the tokens that begin the lines of a break, the first of which begins at the n-th token
abbrev pub starts_from : ℕ → List (LineAndGap Token) → List ℕ
starts_from n [] = []
starts_from n (p ∷ ps) = n ∷ starts_from (n + (length p.line + length p.gap)) ps

-- the number of the first token that is dropped after a last line which begins at the n-th token, if one is
abbrev pub dropped_after : ℕ → LineAndGap Token → List ℕ
dropped_after n p = if length p.gap == 0 then [] else (n + length p.line) ∷ []

-- the same after the last line of a break, the first of which begins at the n-th token
abbrev pub dropped_from : ℕ → List (LineAndGap Token) → List ℕ
dropped_from n [] = []
dropped_from n (p ∷ []) = dropped_after n p
dropped_from n (p ∷ q ∷ ps) = dropped_from (n + (length p.line + length p.gap)) (q ∷ ps)

-- a second start that is 0, that of a line or of dropped blanks after a first line without a token, isn't said again
abbrev pub from_first : List ℕ → List ℕ
from_first [] = []
from_first (n ∷ []) = n ∷ []
from_first (n ∷ zero ∷ ns) = n ∷ ns
from_first (n ∷ suc m ∷ ns) = n ∷ suc m ∷ ns

-- The tokens that begin the lines, and where blanks are dropped after the last, the first of these.
abbrev pub starts_of : List (LineAndGap Token) → List ℕ
starts_of ps = from_first (starts_from 0 ps ++ dropped_from 0 ps)

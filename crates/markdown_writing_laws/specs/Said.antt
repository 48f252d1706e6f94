-- Words that were written, piece by piece.
use Rattle.std.specs.Prelude.{◌≡◌, ℕ, suc, ◌<◌, true, List, [], ◌∷◌, ◌++◌, take, drop, None}
use Rattle.markdown_pieces.specs.declared.pieces.Kind.{Kind}
use Rattle.markdown_pieces.specs.declared.pieces.Kind.TheVariants.{Plain, Shown}
use Rattle.markdown_pieces.specs.declared.pieces.Piece.{Piece}
use Rattle.markdown_pieces.specs.Cut.{cut_text}
use Rattle.markdown_writing.specs.Words.{escaped}
use Rattle.markdown_writing.specs.Writable.{is_line}

-- What a piece says that begins what is left of a text: plain bytes say themselves, and an ASCII sign behind a backslash says the sign. Another piece is none of words.
abbrev pub Says : Kind → (more : ℕ) (rest own : List ℕ) → Type 0
Says Plain more rest own = own ≡ take (suc more) rest
Says (Shown c None) more rest own = (own ≡ c ∷ []) × (c < 128)
Says _ more rest own = ⊥

-- all pieces together say these words
abbrev pub AreWords : (rest : List ℕ) → List Piece → (words : List ℕ) → Type 0
AreWords rest [] words = (rest ≡ []) × (words ≡ [])
AreWords rest (p ∷ ps) words = (own : List ℕ) × (later : List ℕ) × (words ≡ own ++ later) × Says p.kind p.more rest own × AreWords (drop (suc p.more) rest) ps later

-- Escaped words are read as these words: each byte stands for itself, and nothing is a mark, a link, code or html.
abbrev pub WordsAreSaid : Type 0
WordsAreSaid = (labels : List (List ℕ)) (words : List ℕ) → is_line words ≡ true → AreWords (escaped words) (cut_text labels (escaped words)).pieces words

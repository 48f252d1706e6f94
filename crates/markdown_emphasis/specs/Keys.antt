-- What a search for an opener needs not do again.
use Rattle.std.specs.Prelude.{◌≡◌, ℕ, ◌+◌, ◌%◌, ◌<◌, ◌≤◌, min, Bool, if◌then◌else◌, List, [], ◌∷◌, slice_index, length}
use Rattle.markdown_emphasis.specs.declared.runs.Sign.{Sign}
use Rattle.markdown_emphasis.specs.declared.runs.Sign.TheVariants.{Star, Underscore, Tilde}
use Rattle.markdown_emphasis.specs.declared.runs.Run.{Run}
use Rattle.markdown_emphasis.specs.declared.runs.Mark.{Mark}
use Rattle.markdown_emphasis.specs.Matching.{nearest}

-- of a star or an underscore: whether it opens too, and its length modulo three
abbrev pub key_by : Bool → ℕ → ℕ
key_by opens count = (if opens then 3 else 0) + count % 3

-- all that an opener looks at in a closer, as a number: closers of one key fit the same openers
abbrev pub key_of : Sign → Run → ℕ
key_of Star run = key_by run.opens run.count
key_of Underscore run = 6 + key_by run.opens run.count
key_of Tilde run = 12 + min run.count 3

-- from an opener below the bottom on, none fits
abbrev pub IsBottom : ℕ → Run → List Mark → Type 0
IsBottom bottom closer [] = Unit {0}
IsBottom bottom closer (opener ∷ openers) =
    (opener.place < bottom → nearest closer (opener ∷ openers) ≡ []) × IsBottom bottom closer openers

-- bottoms by key: of the closers of a key no opener below its bottom fits any, and no bottom is above this place
pub record AreBottoms (place : ℕ) (bottoms : List ℕ) (openers : List Mark) : Type 0 where
  pub count : length bottoms ≡ 16
  pub below : (key : ℕ) → slice_index bottoms key ≤ place
  pub none : (closer : Run) → IsBottom (slice_index bottoms (key_of closer.sign closer)) closer openers

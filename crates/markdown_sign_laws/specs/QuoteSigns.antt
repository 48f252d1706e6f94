-- Which lines have the sign of a quote.
use Rattle.std.specs.Prelude.{◌≡◌, ◌↔◌, ℕ, ◌<◌, Bool, true, List, ◌∷◌, ◌++◌, replicate, is_some}
use Rattle.markdown_marks.specs.Remaining.{whole}
use Rattle.markdown_blocks.specs.Containers.{goes_on}
use Rattle.markdown_blocks.specs.declared.containers.Container.TheVariants.{Quote}

-- a line is at most three spaces, the sign > and whatever follows it
pub record HasQuoteSign (line : List ℕ) : Type 0 where
  pub indent : ℕ
  pub few : indent < 4
  pub behind : List ℕ
  pub whole : line ≡ replicate indent 32 ++ 62 ∷ behind

-- A quote goes on in a line exactly where it has the sign.
abbrev pub QuoteSignsAreSaid : Type 0
QuoteSignsAreSaid = (bare : Bool) (line : List ℕ) → (is_some (goes_on Quote bare (whole line)) ≡ true) ↔ HasQuoteSign line

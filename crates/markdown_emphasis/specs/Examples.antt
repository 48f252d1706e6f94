-- What the definition says of the examples beside CommonMark's rules.
use Rattle.std.specs.Prelude.{◌≡◌, ℕ, true, false, [], ◌∷◌}
use Rattle.markdown_emphasis.specs.declared.runs.Sign.{Sign}
use Rattle.markdown_emphasis.specs.declared.runs.Sign.TheVariants.{Star, Underscore, Tilde}
use Rattle.markdown_emphasis.specs.declared.runs.Run.{Run}
use Rattle.markdown_emphasis.specs.declared.runs.Pair.{Pair}
use Rattle.markdown_emphasis.specs.Matching.{matches}

-- a run that opens and doesn't close
abbrev pub opening : Sign → ℕ → Run
opening sign count = record { sign = sign; count = count; opens = true; closes = false }

-- a run that closes and doesn't open
abbrev pub closing : Sign → ℕ → Run
closing sign count = record { sign = sign; count = count; opens = false; closes = true }

-- inside a word
abbrev pub inner : Sign → ℕ → Run
inner sign count = record { sign = sign; count = count; opens = true; closes = true }

-- a pair of these two runs, which takes so many marks of each
abbrev pub pair : Sign → (opener closer count : ℕ) → Pair
pair sign opener closer count = record { opener = opener; closer = closer; sign = sign; count = count }

-- The definition gives what the rules of CommonMark and GFM say of their examples.
pub record FollowsTheRules : Type 0 where
  -- rule 9: `*foo**bar*`
  pub threes : matches (opening Star 1 ∷ inner Star 2 ∷ closing Star 1 ∷ []) ≡ pair Star 0 2 1 ∷ []
  -- rule 10: `foo***bar***baz`, both multiples of three
  pub both_threes : matches (inner Star 3 ∷ inner Star 3 ∷ []) ≡ pair Star 0 1 2 ∷ pair Star 0 1 1 ∷ []
  -- rule 13: `****foo****`, strong and not emphasis in emphasis
  pub fewest : matches (opening Star 4 ∷ closing Star 4 ∷ []) ≡ pair Star 0 1 2 ∷ pair Star 0 1 2 ∷ []
  -- rule 14: `***foo***`, strong inside
  pub strong_inside : matches (opening Star 3 ∷ closing Star 3 ∷ []) ≡ pair Star 0 1 2 ∷ pair Star 0 1 1 ∷ []
  -- rule 15: `*foo _bar* baz_`, the first of two that overlap
  pub first_wins : matches (opening Star 1 ∷ opening Underscore 1 ∷ closing Star 1 ∷ closing Underscore 1 ∷ []) ≡ pair Star 0 2 1 ∷ []
  -- rule 16: `**foo **bar baz**`, the shorter of two that close together
  pub shorter_wins : matches (opening Star 2 ∷ opening Star 2 ∷ closing Star 2 ∷ []) ≡ pair Star 1 2 2 ∷ []
  -- GFM: `~~a~ b~~` and `~~~a~~~`
  pub same_tildes : matches (opening Tilde 2 ∷ closing Tilde 1 ∷ closing Tilde 2 ∷ []) ≡ pair Tilde 0 2 2 ∷ []
  pub few_tildes : matches (opening Tilde 3 ∷ closing Tilde 3 ∷ []) ≡ []

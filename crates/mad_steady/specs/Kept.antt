-- What holds of each character of a text holds of each of its steady text.
use Rattle.std.specs.Prelude.{◌≡◌, ℕ, Bool, true}
use Rattle.std.specs.Int.{is_in_range}
use Rattle.mad_steady.specs.Kinds.{is_syllable}

-- the test passes at each character that a steady text may have and its text hasn't
pub record PassesWhatIsMade (p : ℕ → Bool) : Type 0 where
  pub replacement : p 0xFFFD ≡ true
  pub khan : p 0x17D4 ≡ true
  pub lo : p 0x179B ≡ true
  pub letters : (c : ℕ) → is_in_range 65 90 c ≡ true → p c ≡ true
  pub syllables : (c : ℕ) → is_syllable c ≡ true → p c ≡ true

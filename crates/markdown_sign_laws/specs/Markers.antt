-- What markers of items are.
use Rattle.std.specs.Prelude.{◌≡◌, ◌↔◌, ◌⊎◌, ℕ, ◌+◌, ◌≤◌, true, List, ◌∷◌, ◌++◌, length, Some}
use Rattle.std.specs.List.{list_all}
use Rattle.std.specs.Char.{is_ascii_digit}
use Rattle.std.specs.Str.Parse.{digits_value}
use Rattle.markdown_marks.specs.Items.{marker_start}
use Rattle.markdown_marks.specs.declared.items.Marker.{Marker}
use Rattle.markdown_sign_laws.specs.Words.{is_apart}

-- Bytes are one of the signs *, + and -, and then nothing, or a blank and whatever follows it.
pub record IsBullet (marker : Marker) (bytes : List ℕ) : Type 0 where
  pub of_sign : (marker.sign ≡ 42) ⊎ ((marker.sign ≡ 43) ⊎ (marker.sign ≡ 45))
  pub number : marker.number ≡ 0
  pub long : marker.length ≡ 1
  pub behind : List ℕ
  pub apart : is_apart behind ≡ true
  pub whole : bytes ≡ marker.sign ∷ behind

-- Bytes are one to nine digits, which are the number, a full stop or a closing parenthesis, and then nothing, or a blank and whatever follows it.
pub record IsNumber (marker : Marker) (bytes : List ℕ) : Type 0 where
  pub digits : List ℕ
  pub decimal : list_all is_ascii_digit digits ≡ true
  pub some : 1 ≤ length digits
  pub most : length digits ≤ 9
  pub of_sign : (marker.sign ≡ 46) ⊎ (marker.sign ≡ 41)
  pub number : marker.number ≡ digits_value 10 digits
  pub long : marker.length ≡ length digits + 1
  pub behind : List ℕ
  pub apart : is_apart behind ≡ true
  pub whole : bytes ≡ digits ++ marker.sign ∷ behind

-- A line, behind at most three spaces, begins with this marker exactly where it is so.
abbrev pub MarkersAreSaid : Type 0
MarkersAreSaid = (marker : Marker) (bytes : List ℕ) → (marker_start bytes ≡ Some marker) ↔ (IsBullet marker bytes ⊎ IsNumber marker bytes)

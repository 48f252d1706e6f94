-- The address of a link as it is written.
use Rattle.std.specs.Prelude.{◌≡◌, ℕ, ◌≤◌, nat_le, ◌&&◌, ◌||◌, Bool, true, false, List, [], ◌∷◌, length, Option, Some, None, codes, if◌then◌else◌}
use Rattle.std.specs.List.{AllByRecursion, flat_map}
use Rattle.std.specs.Str.{str_eq_ignore_ascii_case}
use Rattle.percent_encoding.specs.Percent.{percent_encode_byte}
use Rattle.mad_links.specs.SkippingTerminal.{cut_at}

-- a byte that is written as it is: one of ASCII that is no control character and no space
abbrev pub is_kept_byte : ℕ → Bool
is_kept_byte b = nat_le 33 b && nat_le b 126

-- each other byte is written as `%` and two hexadecimal digits
abbrev pub written_byte : ℕ → List ℕ
written_byte b = if is_kept_byte b then b ∷ [] else percent_encode_byte b

-- an address byte by byte, whatever its scheme and its length
abbrev pub written_address : List ℕ → List ℕ
written_address address = flat_map written_byte address

-- the schemes that a link may have, in capitals or small letters
abbrev pub is_link_scheme : List ℕ → Bool
is_link_scheme scheme =
    str_eq_ignore_ascii_case scheme (codes "http")
    || str_eq_ignore_ascii_case scheme (codes "https")
    || str_eq_ignore_ascii_case scheme (codes "mailto")
    || str_eq_ignore_ascii_case scheme (codes "file")

-- a scheme is what is before the first colon (58)
abbrev pub has_scheme_in : Option (List ℕ × List ℕ) → Bool
has_scheme_in None = false
has_scheme_in (Some p) = is_link_scheme p.0

-- whether an address has one of the schemes
abbrev pub has_link_scheme : List ℕ → Bool
has_link_scheme address = has_scheme_in (cut_at 58 address)

-- the longest address that is written, in bytes
abbrev pub longest_address : ℕ
longest_address = 700

-- the address as it is written, if it has one of the schemes and isn't too long
abbrev pub link_address : List ℕ → Option (List ℕ)
link_address address =
    if has_link_scheme address && nat_le (length (written_address address)) longest_address then Some (written_address address) else None

-- an address that can be written: bytes from 33 to 126, one at least and no more than the longest has, and one of the schemes
pub record IsWritten (address : List ℕ) : Type 0 where
  pub kept : AllByRecursion (λ b. is_kept_byte b ≡ true) address
  pub short : length address ≤ longest_address
  pub scheme : has_link_scheme address ≡ true

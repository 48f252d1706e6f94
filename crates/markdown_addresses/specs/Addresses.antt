-- Addresses in angle brackets.
use Rattle.std.specs.Prelude.{ℕ, ◌+◌, ◌-◌, ◌≤◌, ◌==◌, ◌||◌, ◌&&◌, not, nat_le, nat_lt, Bool, true, false, if◌then◌else◌, List, [], ◌∷◌, length, drop, Option, Some, None, option_map}
use Rattle.std.specs.List.{prefix_len}
use Rattle.std.specs.Char.{is_ascii_alphabetic, is_ascii_alphanumeric, is_ascii_punctuation}
use Rattle.markdown_marks.specs.Bytes.{first}
use Rattle.markdown_addresses.specs.declared.addresses.Domain.{Domain}
use Rattle.markdown_addresses.specs.declared.addresses.Domain.TheVariants.{On, Ends, No}
use Rattle.markdown_addresses.specs.declared.addresses.Scheme.{Scheme}
use Rattle.markdown_addresses.specs.declared.addresses.Scheme.TheVariants.{Itself, Mail}

-- the byte is a letter, a digit, or one of the signs + . -
abbrev pub is_scheme_byte : ℕ → Bool
is_scheme_byte b = is_ascii_alphanumeric b || b == 43 || b == 46 || b == 45

-- no blank, no control character and no angle bracket
abbrev pub is_address_byte : ℕ → Bool
is_address_byte b = nat_lt 32 b && not (b == 127) && not (b == 60) && not (b == 62)

-- punctuation that can't stand before the at sign
abbrev pub is_other_mark : ℕ → Bool
is_other_mark b = b == 34 || b == 40 || b == 41 || b == 44 || b == 58 || b == 59 || b == 60 || b == 62 || b == 64 || b == 91 || b == 92 || b == 93

-- letters, digits and some punctuation
abbrev pub is_local_byte : ℕ → Bool
is_local_byte b = is_ascii_alphanumeric b || (is_ascii_punctuation b && not (is_other_mark b))

-- a letter, 1 to 31 letters, digits, signs +, . and -, and a colon
abbrev pub has_scheme : List ℕ → ℕ → Bool
has_scheme bytes len = is_ascii_alphabetic (first bytes) && nat_le 2 len && nat_le len 32 && first (drop len bytes) == 58

-- so many bytes, where the closing angle bracket follows them
abbrev pub ended_at : ℕ → List ℕ → Option ℕ
ended_at len bytes = if first (drop len bytes) == 62 then Some len else None

-- an address with a scheme
abbrev pub uri_len : List ℕ → Option ℕ
uri_len bytes =
    let scheme = prefix_len is_scheme_byte bytes in
    if has_scheme bytes scheme then ended_at (scheme + 1 + prefix_len is_address_byte (drop (scheme + 1) bytes)) bytes else None

-- ---- a domain: labels of at most 63 letters, digits and hyphens, with no hyphen at their ends

-- a label may end here: it has bytes, and its last is no hyphen
abbrev pub may_end : ℕ → Bool → Bool
may_end count hyphen = nat_lt 0 count && not hyphen

-- one more byte, after so many of a label, the last of which is a hyphen or isn't
abbrev pub domain_step : ℕ → ℕ → Bool → Domain
domain_step b count hyphen =
    if is_ascii_alphanumeric b then (if nat_lt count 63 then On (count + 1) false else No)
    else if b == 45 then (if nat_lt 0 count && nat_lt count 63 then On (count + 1) true else No)
    else if b == 46 then (if may_end count hyphen then On 0 false else No)
    else if b == 62 && may_end count hyphen then Ends else No

-- its labels stay so short
abbrev pub IsFew : Domain → Type 0
IsFew (On count hyphen) = count ≤ 63
IsFew _ = Unit {0}

-- the domain goes on, or it ends and this follows, or it is none
abbrev pub domain_next : Domain → Option (List ℕ) → (ℕ → Bool → Option (List ℕ)) → Option (List ℕ)
domain_next (On count hyphen) ends on = on count hyphen
domain_next Ends ends on = ends
domain_next No ends on = None

-- what follows a domain, and the closing angle bracket behind it
unfoldable pub after_domain : ℕ → Bool → List ℕ → Option (List ℕ)
after_domain count hyphen [] = None
after_domain count hyphen (b ∷ bs) = domain_next (domain_step b count hyphen) (Some bs) (λ c h. after_domain c h bs)

-- an address with an at sign
abbrev pub email_len : List ℕ → Option ℕ
email_len bytes =
    let local = prefix_len is_local_byte bytes in
    if local == 0 || not (first (drop local bytes) == 64) then None
    else option_map (λ after. (length bytes - length after) - 1) (after_domain 0 false (drop (local + 1) bytes))

-- the first length, if there is one, or else the second
abbrev pub or_len : Option ℕ → Option ℕ → Option ℕ
or_len None otherwise = otherwise
or_len (Some len) otherwise = Some len

-- the length of the address that a rest begins with, after its opening angle bracket and before its closing one
abbrev pub address_len : List ℕ → Option ℕ
address_len bytes = or_len (uri_len bytes) (email_len bytes)

-- an address that has a scheme keeps it; any other is of mail
abbrev pub scheme_by : Option ℕ → Scheme
scheme_by None = Mail
scheme_by (Some len) = Itself

-- what its destination begins with
abbrev pub scheme_of : List ℕ → Scheme
scheme_of bytes = scheme_by (uri_len bytes)

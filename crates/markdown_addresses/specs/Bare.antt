-- Addresses without brackets, as GitHub has them: http://, https://, ftp://, www. and mail.
use Rattle.std.specs.Prelude.{◌≡◌, ℕ, zero, suc, ◌+◌, ◌-◌, ◌==◌, ◌||◌, ◌&&◌, not, nat_lt, Bool, true, false, if◌then◌else◌, List, [], ◌∷◌, length, drop, take, slice_index, Option, Some, None, codes}
use Rattle.std.specs.List.{prefix_len, list_any}
use Rattle.std.specs.Char.{is_ascii_alphabetic, is_ascii_alphanumeric}
use Rattle.markdown_marks.specs.Bytes.{first}
use Rattle.markdown_html.specs.Names.{same_letters}
use Rattle.markdown_addresses.specs.declared.addresses.Scheme.{Scheme}
use Rattle.markdown_addresses.specs.declared.addresses.Scheme.TheVariants.{Itself, Mail, Web}
use Rattle.markdown_addresses.specs.declared.bare.Bare.{Bare}
use Rattle.markdown_addresses.specs.declared.bare.Trim.{Trim}
use Rattle.markdown_addresses.specs.declared.bare.Trim.TheVariants.{Stays, Goes}

-- ---- domains

-- the byte is a letter, a digit, an underscore or a hyphen
abbrev pub is_domain_byte : ℕ → Bool
is_domain_byte b = is_ascii_alphanumeric b || (b == 95) || (b == 45)

-- a byte of a domain, or a period before one
abbrev pub goes_on : ℕ → List ℕ → Bool
goes_on b bs = is_domain_byte b || ((b == 46) && is_domain_byte (first bs))

-- how many bytes of parts with periods between them are in front
unfoldable pub domain_len : List ℕ → ℕ
domain_len [] = 0
domain_len (b ∷ bs) = if goes_on b bs then suc (domain_len bs) else 0

-- the byte is a period
abbrev pub is_period : ℕ → Bool
is_period b = b == 46

-- An underscore is in one of the last two parts: there is one in the part before this one, and in this one so far.
unfoldable pub is_low : (before now : Bool) → List ℕ → Bool
is_low before now [] = before || now
is_low before now (b ∷ bs) = if b == 46 then is_low now false bs else is_low before (now || (b == 95)) bs

-- A domain of at most 255 bytes, which has no underscore in its last two parts. It needs a period or doesn't.
abbrev pub web_domain : Bool → List ℕ → Option ℕ
web_domain dotted bytes =
    let len = domain_len (take 256 bytes) in
    if not (is_domain_byte (first bytes)) || nat_lt 255 len || (dotted && not (list_any is_period (take len bytes))) || is_low false false (take len bytes) then None
    else Some len

-- ---- the end of an address

-- the byte is no blank, no newline and no sign <
abbrev pub is_path_byte : ℕ → Bool
is_path_byte b = not ((b == 32) || (b == 9) || (b == 10) || (b == 60))

-- how many of these bytes are this one
unfoldable pub count_of : ℕ → List ℕ → ℕ
count_of b [] = 0
count_of b (c ∷ cs) = if c == b then suc (count_of b cs) else count_of b cs

-- punctuation at the end isn't of it
abbrev pub is_trailing : ℕ → Bool
is_trailing b = (b == 63) || (b == 33) || (b == 46) || (b == 44) || (b == 58) || (b == 42) || (b == 95) || (b == 126) || (b == 39) || (b == 34)

-- the last of so many bytes are &, and then letters or digits: `some` have been seen behind them
unfoldable pub ends_name : (some : Bool) → ℕ → List ℕ → Bool
ends_name some zero bytes = false
ends_name some (suc n) bytes = if slice_index bytes n == 38 then some else is_ascii_alphanumeric (slice_index bytes n) && ends_name true n bytes

-- A byte at the end, behind so many. In an entity all is gone up to its &. Of parentheses that close those are gone that open nowhere: there are so many to spare.
abbrev pub trim_step : (spare : ℕ) (entity : Bool) → ℕ → List ℕ → Trim
trim_step spare entity n bytes =
    let b = slice_index bytes n in
    if entity then (if b == 38 then Goes spare false else if is_ascii_alphanumeric b then Goes spare true else Stays)
    else if is_trailing b then Goes spare false
    else if b == 41 then (if spare == 0 then Stays else Goes (spare - 1) false)
    else if b == 59 then Goes spare (ends_name false n bytes)
    else Stays

-- the last byte stays and all before it, or it goes and the one before it is looked at
abbrev pub trim_next : Trim → ℕ → (ℕ → Bool → ℕ) → ℕ
trim_next Stays stays goes = stays
trim_next (Goes spare entity) stays goes = goes spare entity

-- how many of so many bytes are left without those at the end that aren't of the address
unfoldable pub trimmed : (spare : ℕ) (entity : Bool) → ℕ → List ℕ → ℕ
trimmed spare entity zero bytes = 0
trimmed spare entity (suc n) bytes = trim_next (trim_step spare entity n bytes) (suc n) (λ s e. trimmed s e n bytes)

-- From the domain on: all up to a blank or a sign <, but what isn't of it at the end. The domain's first byte is always of it.
abbrev pub address_end : List ℕ → ℕ
address_end bytes =
    let all = prefix_len is_path_byte (drop 1 bytes) in
    1 + trimmed (count_of 41 (take all (drop 1 bytes)) - count_of 40 (take all (drop 1 bytes))) false all (drop 1 bytes)

-- ---- addresses of the web

-- an address of so many bytes, and what its destination begins with
abbrev pub bare : ℕ → Scheme → Bare
bare len scheme = record { len = len; scheme = scheme }

-- the address of the web, where a domain follows its scheme
abbrev pub web_by : (start : ℕ) → Scheme → Option ℕ → List ℕ → Option Bare
web_by start scheme None bytes = None
web_by start scheme (Some domain) bytes = Some (bare (start + address_end bytes) scheme)

-- behind a scheme of so many bytes
abbrev pub web_from : (start : ℕ) → Bool → Scheme → List ℕ → Option Bare
web_from start dotted scheme bytes = web_by start scheme (web_domain dotted (drop start bytes)) (drop start bytes)

-- the bytes begin with this name, in any case
abbrev pub is_in_front : List ℕ → List ℕ → Bool
is_in_front name bytes = same_letters name (take (length name) bytes)

-- only www. needs a period
abbrev pub web_of : List ℕ → Option Bare
web_of bytes =
    if is_in_front (codes "www.") bytes then web_from 0 true Web bytes
    else if is_in_front (codes "https://") bytes then web_from 8 false Itself bytes
    else if is_in_front (codes "http://") bytes then web_from 7 false Itself bytes
    else if is_in_front (codes "ftp://") bytes then web_from 6 false Itself bytes
    else None

-- ---- addresses of mail

-- the byte is a letter, a digit, or one of . + _ -
abbrev pub is_mail_byte : ℕ → Bool
is_mail_byte b = is_ascii_alphanumeric b || (b == 46) || (b == 43) || (b == 95) || (b == 45)

-- a domain with a period, which ends in a letter
abbrev pub mail_domain : List ℕ → Option ℕ
mail_domain bytes =
    let len = domain_len bytes in
    if is_domain_byte (first bytes) && list_any is_period (take len bytes) && is_ascii_alphabetic (first (drop (len - 1) bytes)) then Some len else None

-- the address of mail, where a domain follows its at sign
abbrev pub mail_by : ℕ → Option ℕ → Option Bare
mail_by local None = None
mail_by local (Some domain) = Some (bare (local + 1 + domain) Mail)

-- the address of mail that a rest begins with: a name, an at sign and a domain
abbrev pub mail_of : List ℕ → Option Bare
mail_of bytes =
    let local = prefix_len is_mail_byte bytes in
    if (local == 0) || not (first (drop local bytes) == 64) then None else mail_by local (mail_domain (drop (local + 1) bytes))

-- ---- where one may begin

-- before www.: nothing, a blank, the end of a line, or one of * _ ~ (
abbrev pub may_precede_www : Option ℕ → Bool
may_precede_www None = true
may_precede_www (Some b) = (b == 32) || (b == 9) || (b == 10) || (b == 42) || (b == 95) || (b == 126) || (b == 40)

-- before a scheme: no letter
abbrev pub may_precede_scheme : Option ℕ → Bool
may_precede_scheme None = true
may_precede_scheme (Some b) = not (is_ascii_alphabetic b)

-- before one of the web, which begins with www. or with a scheme
abbrev pub may_precede_web : Option ℕ → List ℕ → Bool
may_precede_web before bytes = if is_in_front (codes "www.") bytes then may_precede_www before else may_precede_scheme before

-- before one of mail: nothing that could be of it
abbrev pub may_precede_mail : Option ℕ → Bool
may_precede_mail None = true
may_precede_mail (Some b) = not (is_mail_byte b)

-- the first address, if there is one, or else the second
abbrev pub or_bare : Option Bare → Option Bare → Option Bare
or_bare None otherwise = otherwise
or_bare (Some bare) otherwise = Some bare

-- the bare address that a rest begins with, behind this byte
abbrev pub bare_after : Option ℕ → List ℕ → Option Bare
bare_after before bytes = or_bare (if may_precede_web before bytes then web_of bytes else None) (if may_precede_mail before then mail_of bytes else None)

-- ---- where none begins

-- one of the web begins with w, h or f
abbrev pub may_begin_web : ℕ → Bool
may_begin_web b = (b == 119) || (b == 87) || (b == 104) || (b == 72) || (b == 102) || (b == 70)

-- no byte is an at sign
abbrev pub HasNoAt : List ℕ → Type 0
HasNoAt bytes = (k : ℕ) → (slice_index bytes k == 64) ≡ false

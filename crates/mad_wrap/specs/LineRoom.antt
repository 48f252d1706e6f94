-- What is left of a line's columns as tokens are placed on it.
use Rattle.std.specs.Prelude.{ℕ, ◌-◌, Bool, false, not, ◌||◌, Option, Some, None, if◌then◌else◌, nat_le}

-- the columns left of a width after `used` of them, if these fit
abbrev pub left_of : ℕ → ℕ → Option ℕ
left_of width used = if nat_le used width then Some (width - used) else None

-- `n` columns fit in what is left; in a line that overflows none do
abbrev pub fits_in : Option ℕ → ℕ → Bool
fits_in None n = false
fits_in (Some left) n = nat_le n left

-- what is left after them
abbrev pub taken : Option ℕ → ℕ → Option ℕ
taken None n = None
taken (Some left) n = Some (left - n)

-- what is left after them, if they fit
abbrev pub left_after : Option ℕ → ℕ → Option ℕ
left_after None n = None
left_after (Some left) n = left_of left n

-- a start is right if nothing is left of the line with its token, and it is the last or its token isn't blank
abbrev pub is_right : Option ℕ → Bool → Bool → Bool
is_right None last blank = last || not blank
is_right (Some left) last blank = false

-- a token's number, where nothing is left of the line with it
abbrev pub past_here : Option ℕ → ℕ → Option ℕ
past_here None number = Some number
past_here (Some left) number = None

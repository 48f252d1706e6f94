-- Scrolling.
use Rattle.std.specs.Prelude.{ℕ, suc, ◌+◌, ◌-◌, ◌*◌, ◌^◌, min, max, ℤ, pos, negsuc, neg_ℤ}
use Rattle.std.specs.Int.{div_ceil}

-- How far a text of `lines` lines is scrolled in an area of `rows` rows, where `asked` was asked for. It is no further than to
-- its last line in the last row, and not at all where it fits.
abbrev pub scroll_within : ℕ → ℕ → ℕ → ℕ
scroll_within lines rows asked = min asked (lines - rows)

-- the scroll after `count` lines down; a text that is scrolled further than to its end stays
abbrev pub scrolled_down : ℕ → ℕ → ℕ → ℕ → ℕ
scrolled_down lines rows scroll count = max scroll (scroll_within lines rows (scroll + count))

-- the scroll after a count of lines, which are down, or up where it is below zero
abbrev pub scrolled_by : ℕ → ℕ → ℕ → ℤ → ℕ
scrolled_by lines rows scroll (pos count) = scroll_within lines rows (scroll + count)
scrolled_by lines rows scroll (negsuc n) = scroll - suc n

-- `num / den` pages of `rows` lines, in lines, rounded away from zero, and no more than an i32 holds
abbrev pub pages_in_lines : ℕ → ℤ → ℕ → ℤ
pages_in_lines rows (pos num) den = pos (min (div_ceil (num * rows) den) (2 ^ 31 - 1))
pages_in_lines rows (negsuc n) den = neg_ℤ (pos (min (div_ceil (suc n * rows) den) (2 ^ 31)))

-- Characters that are known to be wide.
use Rattle.std.specs.Prelude.{ℕ, Bool, ◌&&◌, ◌||◌, nat_le}

-- ideographs, Hangul syllables, kana, marks among these, and wide forms of ASCII
abbrev pub is_known_wide : ℕ → Bool
is_known_wide c = (nat_le 0x4E00 c && nat_le c 0x9FFF) || ((nat_le 0xAC00 c && nat_le c 0xD7A3) || ((nat_le 0x3041 c && nat_le c 0x3096) || ((nat_le 0x30A0 c && nat_le c 0x30FF) || ((nat_le 0x3001 c && nat_le c 0x3029) || (nat_le 0xFF01 c && nat_le c 0xFF60)))))
